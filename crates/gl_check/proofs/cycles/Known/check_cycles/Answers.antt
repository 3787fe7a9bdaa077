use Rattle.std.proofs.Common.{◌≡◌, true, sym, subst, inr, length, map, List, ℕ}
use Rattle.std.specs.List.{list_all}
use Rattle.std.proofs.lemmas.Bool.{and_parts}
use Rattle.std.proofs.lemmas.Result.{err_from_is_err_and}
use Rattle.serde_json.specs.View.{view}
use Rattle.gl_segments.specs.Clocks.{is_before}
use Rattle.gl_check.specs.Cycles.{IsGreaterThanLast, IsCycleOf, IsFaultOf}
use Rattle.gl_check.specs.Shape.{is_listing, is_member, items_in, listing_in}
use Rattle.gl_check.specs.Signatures.{compared_by}
use Rattle.gl_check.proofs.Finding.{next_fault, none_yet, one_more}
use Rattle.gl_check.proofs.Shapes.{all_at}
use Rattle.gl_check.proofs.cycles.Known.check_cycles.Goals as goal

pub loop-i-init : goal.loop-i-init
loop-i-init c =
    let known = c.args.self.now in
    none_yet known.format known.names.now known.edges.now (is_before known.order.now) known.query (λ v. v.items) c.new-lists.result.items c.new-lists.ensures.items

pub check_next-requires-clause-members : goal.check_next-requires-clause-members
check_next-requires-clause-members c =
    let is = all_at (is_listing c.args.self.now.format (length c.args.self.now.edges.now)) view c.args.cycles.now c.loop-i.i c.index-cycles-i.result c.requires.listings c.loop-i-test.true c.index-cycles-i.is in
    subst (λ ds. list_all (is_member c.args.self.now.format (length c.args.self.now.edges.now)) ds ≡ true) (sym c.items_in-edges.ensures) (and_parts _ _ is).1

pub returns-in_err-numbers-clause-fault : goal.returns-in_err-numbers-clause-fault
returns-in_err-numbers-clause-fault c =
    let p = err_from_is_err_and c.from_residual.result c.from_residual.ensures.1 in
    let known = c.args.self.now in
    let fault : (found : List (List ℕ)) → map (compared_by (listing_in known.format) known.edges.now) found ≡ map (λ v. v.items) c.loop-i.lists.items
    → IsFaultOf known.format known.names.now known.edges.now (is_before known.order.now) known.query (length c.loop-i.lists.items) found (items_in (view c.index-cycles-i.result)) c.in_err-numbers.field-0.0 =
    rw (← c.items_in-edges.ensures) (rw (← c.as_slice.ensures.value) c.in_err-numbers.ensures.fault) in
    rw (p.1, p.2) (inr (next_fault known.format known.names.now known.edges.now (is_before known.order.now) known.query (λ cycle. items_in (view cycle)) (λ v. v.items) c.args.cycles.now c.loop-i.i c.index-cycles-i.result c.loop-i-test.true c.index-cycles-i.is
    c.loop-i.lists.items c.loop-i.invariant c.in_err-numbers.field-0.0 fault))

pub loop-i-preserved : goal.loop-i-preserved
loop-i-preserved c =
    let known = c.args.self.now in
    let next = c.in_ok-numbers.ensures.cycle in
    let cycle : IsCycleOf known.format known.names.now known.edges.now (is_before known.order.now) known.query (items_in (view c.index-cycles-i.result)) next.0 =
    subst (λ ds. IsCycleOf known.format known.names.now known.edges.now (is_before known.order.now) known.query ds next.0) c.items_in-edges.ensures next.1 in
    let above : IsGreaterThanLast (map (λ v. v.items) c.loop-i.lists.items) c.in_ok-numbers.numbers.items = rw (← c.as_slice.ensures.value) c.in_ok-numbers.ensures.above in
    one_more known.format known.names.now known.edges.now (is_before known.order.now) known.query (λ cycle. items_in (view cycle)) (λ v. v.items) c.args.cycles.now c.loop-i.i c.index-cycles-i.result c.loop-i-test.true c.index-cycles-i.is
    c.loop-i.lists.items c.loop-i.invariant c.in_ok-numbers.numbers c.push.new.self.items next.0 cycle next.2 above c.in_ok-push.ensures.items
