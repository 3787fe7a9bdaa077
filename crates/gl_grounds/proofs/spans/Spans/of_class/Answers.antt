use Rattle.std.proofs.Common.{length, sym, subst, ap, ◌∙◌, arith}
use Rattle.std.specs.Prelude.{Contains}
use Rattle.std.specs.List.{between}
use Rattle.gl_grounds.proofs.SpanLists.{AreBelow, AreThrough, in_part, in_turn}
use Rattle.gl_grounds.proofs.spans.Spans.of_class.Goals as goal

pub copied-requires-clause-order : goal.copied-requires-clause-order
copied-requires-clause-order c =
    let begin = c.count_below-begin in
    let end = c.count_through-end in
    in_turn c.args.self.now.list.items c.args.class begin.result end.result (subst (λ l. AreBelow l c.args.class begin.result) c.deref.ensures.value begin.ensures.parted) (subst (λ l. AreThrough l c.args.class end.result) c.deref-2.ensures.value end.ensures.parted)
    (omega (arith, begin.ensures.bound, ap length c.deref.ensures.value))

pub returns-clause-has : goal.returns-clause-has
returns-clause-has c = λ span has of_class.
    let list = c.args.self.now.list.items in
    let begin = c.count_below-begin in
    let end = c.count_through-end in
    subst (λ l. Contains l span) (ap (between begin.result end.result) (sym c.deref-3.ensures.value) ∙ sym c.in_ok-list.ensures)
    (in_part list c.args.class begin.result end.result (subst (λ l. AreBelow l c.args.class begin.result) c.deref.ensures.value begin.ensures.parted) (subst (λ l. AreThrough l c.args.class end.result) c.deref-2.ensures.value end.ensures.parted)
    (omega (arith, end.ensures.bound, ap length c.deref-2.ensures.value)) span has of_class)
