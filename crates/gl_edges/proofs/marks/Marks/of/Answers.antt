use Rattle.std.proofs.Common.{◌≡◌, ◌+◌, ◌++◌, [], ◌∷◌, take, sym, ap, ◌∙◌, subst}
use Rattle.std.proofs.lemmas.List.{take_more}
use Rattle.gl_edges.specs.bodies.Marking.{AreMarksOf}
use Rattle.gl_edges.proofs.marks.Marks.of.Goals as goal

pub loop-guard-preserved : goal.loop-guard-preserved
loop-guard-preserved c =
    let one_more : take (c.loop-guard.guard-index + 1) c.args.guards.now ≡ take c.loop-guard.guard-index c.args.guards.now ++ c.guard-item.result ∷ []
    = take_more c.args.guards.now c.loop-guard.guard-index c.guard-item.result c.loop-guard-test.true ∙ ap (λ g. take c.loop-guard.guard-index c.args.guards.now ++ g ∷ []) (sym c.guard-item.is) in
    subst (AreMarksOf c.add.new.self) (sym one_more) (c.add.ensures (take c.loop-guard.guard-index c.args.guards.now) c.loop-guard.invariant)
