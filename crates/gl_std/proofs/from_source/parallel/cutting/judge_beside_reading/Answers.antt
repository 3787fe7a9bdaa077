use Rattle.std.proofs.Common.{rules}
use Rattle.gl_std.proofs.HeardAhead.{right_beside}
use Rattle.gl_std.proofs.from_source.parallel.cutting.judge_beside_reading.Goals as goal

pub returns-clause-right : goal.returns-clause-right
returns-clause-right g c =
    let judging = c.join_mut.ensures.0.met.1 in
    let cutting = c.join_mut.ensures.1.met.1 in
    let right = right_beside _ _ _ _ _ _ _ _ _ c.join_mut.result.0 c.join_mut.result.1 c.requires.can_read.none c.requires.spare_right judging.0 cutting.1.0 in
    search (rules, right)
