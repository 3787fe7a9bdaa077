use Rattle.std.proofs.Common.{◌∷◌, suc, sym, subst, rules, arith}
use Rattle.gl_std.specs.bodies.Ahead.{AreShort, HasCut}
use Rattle.gl_std.proofs.PiecesAhead.{cut_both}
use Rattle.gl_std.proofs.from_source.parallel.cutting.+rounds.Goals as goal

pub cut_beside-going_on-read_beside_cutting-requires : goal.cut_beside-going_on-read_beside_cutting-requires
cut_beside-going_on-read_beside_cutting-requires g t c κs within =
    (search rules, (within.0, (within.1, (c.requires.sync, (c.requires.can_read, c.requires.short)))))

pub read_beside_cutting-cut_beside-requires : goal.read_beside_cutting-cut_beside-requires
read_beside_cutting-cut_beside-requires g t c κs within =
    let parts = c.in-Some.ensures.cases.0 in
    let size = c.in-Some.ensures.cases.1 in
    let all = subst AreShort parts c.requires.short in
    (search rules, (within.0, (within.1, (search rules, (c.requires.can_read, (all 0 c.in-Some.first.now (omega arith), λ k d low. all (suc k) d (omega (arith, low))))))))

pub read_beside_cutting-returns-in-Some-clause-cut : goal.read_beside_cutting-returns-in-Some-clause-cut
read_beside_cutting-returns-in-Some-clause-cut g t c =
    subst (λ old. HasCut old (c.cut_beside.new.first ∷ c.cut_beside.new.others)) (sym c.in-Some.ensures.cases.0)
    (cut_both c.in-Some.first.now c.cut_beside.new.first c.in-Some.others.now c.cut_beside.new.others c.cut_beside.ensures.cut c.cut_beside.ensures.others_cut)
