use Rattle.std.proofs.Common.{take, drop}
use Rattle.std.proofs.lemmas.Simd.{length-chunk}
use Rattle.gl_bytes.proofs.Sameness.{no_lane_differs}
use Rattle.gl_bytes.proofs.same.has_same.Goals as goal

pub returns : goal.returns
returns g c =
    let n = g.row.COUNT in
    let at = c.args.at in
    let one = c.args.one.now in
    let other = c.args.other.now in
    no_lane_differs (take n (drop at one)) (take n (drop at other)) n (length-chunk at n one c.requires.one) (length-chunk at n other c.requires.other) c.requires.few
