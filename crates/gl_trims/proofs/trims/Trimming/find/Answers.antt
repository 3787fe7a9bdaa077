use Rattle.std.proofs.Common.{Some, sym, ap, ◌∙◌, arith}
use Rattle.std.proofs.lemmas.List.{length-map}
use Rattle.std.proofs.lemmas.Option.{slice_get-get_or}
use Rattle.gl_segments.specs.Clocks.{is_before}
use Rattle.gl_filters.specs.Picked.{edges_of_table}
use Rattle.gl_trims.proofs.Beside.{start_again}
use Rattle.gl_trims.proofs.trims.Trimming.find.Goals as goal

-- it goes on at the hint
pub next_beside-requires-2-clause-start : goal.next_beside-requires-2-clause-start
next_beside-requires-2-clause-start c =
    let s = c.args.self.now in
    let found = c.args.hints.now.found.items in
    let at = slice_get-get_or found c.args.i c.index.result.now (omega (arith, c.requires.here, c.requires.hints.long, length-map s.table.now (λ pair. pair.0))) ∙ ap Some (sym c.index.ensures) in
    start_again (is_before s.order.now) s.mode (edges_of_table s.table.now) c.args.gone.now c.args.side c.args.i c.in-Some.hint (c.requires.hints.each c.args.i c.in-Some.hint (at ∙ ap Some c.in-Some.is))

-- it begins with the first that has the lock
pub next_beside-requires-clause-start : goal.next_beside-requires-clause-start
next_beside-requires-clause-start c = c.first_candidate-first.ensures.start c.args.gone.now
