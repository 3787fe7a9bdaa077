use Rattle.std.proofs.Common.{[], ◌∷◌, sym, subst}
use Rattle.gl_engine.specs.Gathering.{AreOurs}
use Rattle.gl_scripts.proofs.settling.is_reported.Goals as goal

-- what was settled in vain came back
pub settle_own-requires-clause-ours : goal.settle_own-requires-clause-ours
settle_own-requires-clause-ours g c =
    subst (λ gathered. AreOurs gathered (c.in_ok-gathered.own ∷ [])) (sym c.in_ok-gathered-2.ensures.back) c.in_ok-gathered.ensures.ours
