use Rattle.std.proofs.Common.{length, ap}
use Rattle.gl_segments.proofs.Unpacking.{no_lists}
use Rattle.gl_segments.proofs.packed.Packed.new.Goals as goal

pub returns : goal.returns
returns c = no_lists c.in_ok-vec.field-0.items c.new.result.items (ap length c.in_ok-vec.ensures.items)
