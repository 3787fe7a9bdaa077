use Rattle.std.proofs.Common.{◌≡◌, length, ap, arith}
use Rattle.gl_segments.specs.bodies.Packing.{lists_between}
use Rattle.gl_segments.proofs.Unpacking.{length_lists}
use Rattle.gl_segments.proofs.packed.Packed.len.Goals as goal

pub returns : goal.returns
returns c =
    let bs = c.self.inside.bounds.items in
    let xs = c.self.inside.segments.items in
    let view : length (lists_between bs xs) ≡ length c.args.self.now = ap length c.self.view_is in
    let all = length_lists bs xs in
    let l = c.len.ensures in
    omega arith
