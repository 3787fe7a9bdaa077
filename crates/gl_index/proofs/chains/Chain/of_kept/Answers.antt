use Rattle.std.proofs.Common.{◌≡◌, ◌+◌, ◌-◌, ◌<◌, length, get_or, sym, subst, arith}
use Rattle.std.proofs.lemmas.List.{length-map}
use Rattle.gl_filters.specs.Picked.{edges_of_table}
use Rattle.gl_index.specs.Indexes.{AreChainedKept}
use Rattle.gl_index.specs.Sides.{lock_towards}
use Rattle.gl_index.proofs.Listed.{none_listed}
use Rattle.gl_index.proofs.Tables.{edge_at}
use Rattle.gl_index.proofs.chains.Chain.of_kept.Goals as goal

pub loop-i-init : goal.loop-i-init
loop-i-init c =
    none_listed (lock_towards c.args.side) (edges_of_table c.args.table.now) c.args.kept.now (length c.args.table.now) _ c.in_ok-vec.field-0.items (sym (length-map c.args.table.now (λ pair. pair.0)))
    (omega (arith, c.in_ok-vec.field-0.ok.0, c.in_ok-vec.ensures.len, length-map c.args.table.now (λ pair. pair.0))) c.for_edges.ensures

pub loop-i-preserved : goal.loop-i-preserved
loop-i-preserved c =
    let n = c.loop-i.i - 1 in
    let next_is : c.loop-i.i ≡ n + 1 = omega arith in
    let within : n < length c.args.table.now = omega arith in
    let pair = get_or c.args.table.now n c.index-table-i.result in
    let at = edge_at c.args.table.now n c.index-table-i.result within in
    c.in_ok-put.ensures (edges_of_table c.args.table.now) c.args.kept.now c.args.side pair.0 (subst (λ k. AreChainedKept c.args.side (edges_of_table c.args.table.now) c.args.kept.now k c.loop-i.chain) next_is c.loop-i.invariant) at (sym c.lock_of.ensures) c.is_kept.ensures

pub returns : goal.returns
returns c =
    let at_end : c.loop-i.i ≡ 0 = omega arith in
    subst (λ k. AreChainedKept c.args.side (edges_of_table c.args.table.now) c.args.kept.now k c.loop-i.chain) at_end c.loop-i.invariant
