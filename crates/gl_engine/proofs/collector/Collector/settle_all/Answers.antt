use Rattle.std.proofs.Common.{length, sym, ap, ◌∙◌, subst}
use Rattle.gl_event.specs.Bounds.{Bounds}
use Rattle.gl_intake.specs.Stream.{logs_of}
use Rattle.gl_engine.specs.Collecting.{Collecting, lanes_of}
use Rattle.gl_engine.specs.Receipts.{AreOfRecorders, AreOwnBelow, AreThereBelow}
use Rattle.gl_engine.specs.Settling.{HaveEndedBelow}
use Rattle.gl_engine.proofs.Confirming.{inputs_known, inputs_ours, inputs_listed}
use Rattle.gl_engine.proofs.Running.{lanes_shown}
use Rattle.gl_engine.proofs.collector.Collector.settle_all.Goals as goal

pub confirm_all-requires-clause-known : goal.confirm_all-requires-clause-known
confirm_all-requires-clause-known c =
    inputs_known c.self.inside.session c.self.inside.limits c.self.inside.inputs.items c.args.receipts.now c.self.invariant.inputs_are.count
    (subst (λ lanes. AreOfRecorders c.self.inside.session c.self.inside.limits lanes c.args.receipts.now) (lanes_shown c.self.inside.inputs.items)
    (subst (λ (s : Collecting). AreOfRecorders s.session s.limits (lanes_of s) c.args.receipts.now) (sym c.self.view_is) c.requires.ours))
    (subst (λ (s : Collecting). AreOwnBelow s.session s.limits.threads c.args.receipts.now (length c.args.receipts.now)) (sym c.self.view_is) c.requires.complete.own)

pub confirm_all-requires-clause-one_lane : goal.confirm_all-requires-clause-one_lane
confirm_all-requires-clause-one_lane c =
    inputs_ours c.self.inside.session c.self.inside.limits c.self.inside.inputs.items c.args.receipts.now c.self.invariant.inputs_are.count
    (subst (λ lanes. AreOfRecorders c.self.inside.session c.self.inside.limits lanes c.args.receipts.now) (lanes_shown c.self.inside.inputs.items)
    (subst (λ (s : Collecting). AreOfRecorders s.session s.limits (lanes_of s) c.args.receipts.now) (sym c.self.view_is) c.requires.ours))
    (subst (λ (s : Collecting). AreOwnBelow s.session s.limits.threads c.args.receipts.now (length c.args.receipts.now)) (sym c.self.view_is) c.requires.complete.own)

pub returns-clause-settled : goal.returns-clause-settled
returns-clause-settled c = record {
  lists = ap (λ (b : Bounds). logs_of b.threads c.self.inside.intake.stream) c.self.invariant.same_limits ∙ ap (λ (s : Collecting). logs_of s.limits.threads s.stream) c.self.view_is;
  settled = inputs_listed c.self.inside.session c.self.inside.limits c.self.inside.inputs.items c.args.receipts.now c.self.invariant.inputs_are.count
      (subst (λ lanes. AreOfRecorders c.self.inside.session c.self.inside.limits lanes c.args.receipts.now) (lanes_shown c.self.inside.inputs.items)
      (subst (λ (s : Collecting). AreOfRecorders s.session s.limits (lanes_of s) c.args.receipts.now) (sym c.self.view_is) c.requires.ours))
      (subst (λ (s : Collecting). AreOwnBelow s.session s.limits.threads c.args.receipts.now (length c.args.receipts.now)) (sym c.self.view_is) c.requires.complete.own)
      c.self.inside.intake.stream
      (subst (λ (s : Collecting). AreThereBelow c.args.receipts.now s.limits.threads) (sym c.self.view_is) c.requires.complete.all)
      c.confirm_all.ensures.confirmed
      (record {
        told = c.self.invariant.inputs_are.told;
        in_order = c.self.invariant.in_order;
        ended = subst (λ (s : Collecting). HaveEndedBelow s.stream s.limits.threads) (sym c.self.view_is) c.requires.ended;
      })
      c.self.inside.intake.limits c.self.invariant.same_limits;
}
