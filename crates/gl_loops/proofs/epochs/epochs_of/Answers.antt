use Rattle.std.proofs.Common.{refl, sym, subst, ◌∙◌}
use Rattle.std.proofs.lemmas.List.{length-map}
use Rattle.gl_filters.specs.Picked.{edges_of_table}
use Rattle.gl_loops.specs.bodies.Epochs.{AreInOrder}
use Rattle.gl_loops.proofs.Cut.{are_cut}
use Rattle.gl_loops.proofs.epochs.epochs_of.Goals as goal

pub returns-then-are_in_order : goal.returns-then-are_in_order
returns-then-are_in_order c =
    let s = c.args.sought.now in
    are_cut s.order.now s.mode c.in_ok-epochs.epochs (subst (AreInOrder s.mode s.order.now) c.deref.ensures.value (c.if-are_in_order.ensures refl))
    (edges_of_table s.table.now) c.args.kept.now (c.requires ∙ sym (length-map s.table.now (λ pair. pair.0))) (c.if-are_grouped.ensures refl)
