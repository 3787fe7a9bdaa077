use Rattle.std.proofs.Common.{◌≡◌, true, map, sym, subst}
use Rattle.std.specs.Prelude.{All, Decides}
use Rattle.gl_filters.specs.Picked.{edges_of_table, picked}
use Rattle.gl_report.specs.Exclusive.{is_exclusive}
use Rattle.gl_report.proofs.Exclusivity.{decides_cycles}
use Rattle.gl_report.proofs.exclusive.lists_exclusive.Goals as goal

pub returns : goal.returns
returns c =
    let table = c.entries.result.now in
    let cycles = c.as_slice.result.now in
    let answer = c.are_cycles_exclusive.result in
    subst (λ pairs. Decides answer (All (λ cycle. All (λ edge. is_exclusive edge ≡ true) (picked (edges_of_table pairs) cycle)) c.args.report.now.found.cycles)) c.entries.ensures.pairs
    (subst (λ cs. Decides answer (All (λ cycle. All (λ edge. is_exclusive edge ≡ true) (picked (edges_of_table table) cycle)) cs)) c.as_slice.ensures
    (subst (λ b. Decides b (All (λ cycle. All (λ edge. is_exclusive edge ≡ true) (picked (edges_of_table table) cycle)) (map (λ v. v.items) cycles))) (sym c.are_cycles_exclusive.ensures)
    (decides_cycles (edges_of_table table) (λ v. v.items) cycles)))
