use Rattle.std.proofs.Common.{◌∷◌, sym, subst}
use Rattle.gl_std.specs.bodies.Ahead.{HasCut}
use Rattle.gl_std.proofs.PiecesAhead.{cut_both}
use Rattle.gl_std.proofs.from_source.parallel.cutting.judge_beside_cutting.Goals as goal

pub returns-in-Some-clause-cut : goal.returns-in-Some-clause-cut
returns-in-Some-clause-cut g c =
    subst (λ old. HasCut old (c.judge_beside_first.new.first ∷ c.judge_beside_first.new.others)) (sym c.in-Some.ensures.cases.0)
    (cut_both c.in-Some.first.now c.judge_beside_first.new.first c.in-Some.others.now c.judge_beside_first.new.others c.judge_beside_first.ensures.cut c.judge_beside_first.ensures.others_cut)
