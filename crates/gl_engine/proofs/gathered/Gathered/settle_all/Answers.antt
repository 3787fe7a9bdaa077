use Rattle.std.proofs.Common.{length, sym, ap, ◌∙◌, subst}
use Rattle.std.specs.Prelude.{IfSome}
use Rattle.gl_event.specs.Bounds.{Bounds}
use Rattle.gl_intake.specs.Stream.{logs_of}
use Rattle.gl_engine.specs.bodies.Breaking.{IsBlamed}
use Rattle.gl_engine.specs.Gathering.{Gathering, AreOurs}
use Rattle.gl_engine.specs.Receipts.{AreOwnBelow, AreThereBelow}
use Rattle.gl_engine.proofs.Confirming.{inputs_known, inputs_ours, inputs_settled, memory_or_gone}
use Rattle.gl_engine.proofs.gathered.Gathered.settle_all.Goals as goal

pub confirm_all-requires-clause-known : goal.confirm_all-requires-clause-known
confirm_all-requires-clause-known c =
    inputs_known c.self.inside.session c.self.inside.limits c.self.inside.inputs.items c.args.receipts.now c.self.invariant.count
    (subst (λ (g : Gathering). AreOurs g c.args.receipts.now) (sym c.self.view_is) c.requires.ours)
    (subst (λ (g : Gathering). AreOwnBelow g.session g.limits.threads c.args.receipts.now (length c.args.receipts.now)) (sym c.self.view_is) c.requires.complete.own)

pub confirm_all-requires-clause-one_lane : goal.confirm_all-requires-clause-one_lane
confirm_all-requires-clause-one_lane c =
    inputs_ours c.self.inside.session c.self.inside.limits c.self.inside.inputs.items c.args.receipts.now c.self.invariant.count
    (subst (λ (g : Gathering). AreOurs g c.args.receipts.now) (sym c.self.view_is) c.requires.ours)
    (subst (λ (g : Gathering). AreOwnBelow g.session g.limits.threads c.args.receipts.now (length c.args.receipts.now)) (sym c.self.view_is) c.requires.complete.own)

pub returns-in-None-clause-settled : goal.returns-in-None-clause-settled
returns-in-None-clause-settled c = record {
  lists = ap (λ (b : Bounds). logs_of b.threads c.self.inside.intake.stream) c.self.invariant.same_limits ∙ ap (λ (g : Gathering). logs_of g.limits.threads g.stream) c.self.view_is;
  sent = ap (λ (g : Gathering). g.sent) c.self.view_is;
  settled = inputs_settled c.self.inside.session c.self.inside.limits c.self.inside.inputs.items c.args.receipts.now c.self.invariant.count
      (subst (λ (g : Gathering). AreOurs g c.args.receipts.now) (sym c.self.view_is) c.requires.ours)
      (subst (λ (g : Gathering). AreOwnBelow g.session g.limits.threads c.args.receipts.now (length c.args.receipts.now)) (sym c.self.view_is) c.requires.complete.own)
      c.self.inside.intake.stream
      (subst (λ (g : Gathering). AreThereBelow c.args.receipts.now g.limits.threads) (sym c.self.view_is) c.requires.complete.all)
      c.confirm_all.ensures.confirmed c.self.inside.sent.items (c.self.invariant.whole c.in-None.is) c.self.inside.intake.limits c.self.invariant.same_limits;
  whole = sym (ap (λ (g : Gathering). g.fault) c.self.view_is) ∙ c.in-None.is;
}

pub returns-in-Some-clause-complete : goal.returns-in-Some-clause-complete
returns-in-Some-clause-complete c =
    memory_or_gone c.self.inside.session c.self.inside.limits c.self.inside.inputs.items c.args.receipts.now c.self.invariant.count
    (subst (λ (g : Gathering). AreOurs g c.args.receipts.now) (sym c.self.view_is) c.requires.ours)
    (subst (λ (g : Gathering). AreOwnBelow g.session g.limits.threads c.args.receipts.now (length c.args.receipts.now)) (sym c.self.view_is) c.requires.complete.own)
    c.self.inside.intake.stream
    (subst (λ (g : Gathering). AreThereBelow c.args.receipts.now g.limits.threads) (sym c.self.view_is) c.requires.complete.all)
    c.confirm_all.ensures.confirmed c.in-Some.fault
    (subst (λ f. IfSome f (IsBlamed c.self.inside.limits c.self.inside.inputs.items c.self.inside.intake.stream)) c.in-Some.is c.self.invariant.blamed)
