use Rattle.std.proofs.Common.{◌++◌, take, refl, sym, subst, ◌∙◌}
use Rattle.std.proofs.lemmas.List.{take_all}
use Rattle.std.proofs.lemmas.Result.{IfOk-weaker}
use Rattle.gl_event.specs.Lawful.{lists_of}
use Rattle.gl_edges.specs.Edges.{edges_made_from}
use Rattle.gl_edges.specs.bodies.Tables.{IsTableOf}
use Rattle.gl_edges.proofs.Gathering.{list_at, table_lists}
use Rattle.gl_edges.proofs.Filling.{once_of_none}
use Rattle.gl_edges.proofs.Parts.{between_all}
use Rattle.gl_edges.proofs.gather.edges_from.Goals as goal

pub loop-index-init : goal.loop-index-init
loop-index-init c = record { is = c.new-gatherer.ensures ∙ sym once_of_none }

pub take_part-requires-clause-lawful : goal.take_part-requires-clause-lawful
take_part-requires-clause-lawful c =
    rw (c.new-thread.ensures, c.as_slice-list.ensures.value)
    (c.requires.lawful c.loop-index.index c.index-lists-index.result.items
    (list_at (λ v. v.items) c.args.lists.now c.loop-index.index c.index-lists-index.result c.loop-index-test.true c.index-lists-index.is))

pub loop-index-preserved : goal.loop-index-preserved
loop-index-preserved c =
    table_lists (λ v. v.items) c.args.lists.now c.loop-index.index c.index-lists-index.result c.loop-index-test.true c.index-lists-index.is
    c.args.first c.take_part.new.self.batch c.new-thread.result c.as_slice-list.result.now c.new-thread.ensures c.as_slice-list.ensures.value
    (subst (λ xs. IsTableOf c.take_part.new.self.batch (edges_made_from c.args.first (lists_of (take c.loop-index.index c.args.lists.now)) ++ xs)) (between_all c.new-thread.result c.as_slice-list.result.now _ refl)
    (c.in_ok-take_part.ensures _ c.loop-index.invariant))

pub returns : goal.returns
returns c =
    let all = take_all c.loop-index.index c.args.lists.now c.loop-index-test.false in
    let known = rw all at c.loop-index.invariant in
    IfOk-weaker c.into_list.result _ _ (λ l is. is ∙ known.is) c.into_list.ensures
