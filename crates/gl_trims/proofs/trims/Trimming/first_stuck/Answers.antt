use Rattle.std.proofs.Common.{length, sym, ◌∙◌, arith}
use Rattle.std.proofs.lemmas.List.{length-map}
use Rattle.gl_segments.specs.Clocks.{is_before}
use Rattle.gl_filters.specs.Picked.{edges_of_table}
use Rattle.gl_trims.proofs.Beside.{settled_below, first_from}
use Rattle.gl_trims.proofs.trims.Trimming.first_stuck.Goals as goal

-- nothing below it waits
pub returns-then-branch-clause-found : goal.returns-then-branch-clause-found
returns-then-branch-clause-found c =
    let s = c.args.self.now in
    let edges = edges_of_table s.table.now in
    let first = c.in-Some.ensures in
    first_from (is_before s.order.now) s.mode edges c.args.gone.now c.in-Some.i (c.requires.flags ∙ sym (length-map s.table.now (λ pair. pair.0))) (c.in_ok-is_stuck.ensures.tells.yes c.if-branch.true)
    (settled_below (is_before s.order.now) s.mode edges c.args.gone.now (length s.table.now) c.in-Some.i c.loop-i.sides c.loop-i.waiting c.loop-i.invariant.hints c.loop-i.invariant.awake (omega (arith, first.within)) first.none_before)

-- nothing waits
pub returns-clause-found : goal.returns-clause-found
returns-clause-found c =
    let s = c.args.self.now in
    settled_below (is_before s.order.now) s.mode (edges_of_table s.table.now) c.args.gone.now (length s.table.now) (length s.table.now) c.loop-i.sides c.loop-i.waiting c.loop-i.invariant.hints c.loop-i.invariant.awake (omega arith) (λ j below. c.in_default.ensures j below)
