use Rattle.std.proofs.Common.{get_or, sym, subst, ◌∙◌}
use Rattle.std.specs.Bool.{Decides}
use Rattle.std.proofs.lemmas.List.{length-map}
use Rattle.gl_segments.specs.Clocks.{is_before}
use Rattle.gl_filters.specs.Picked.{edges_of_table}
use Rattle.gl_trims.specs.Trims.{HasBeside}
use Rattle.gl_index.specs.Listed.{IsNextWith}
use Rattle.gl_trims.specs.bodies.Trimming.{IsFlagged}
use Rattle.gl_index.specs.Sides.{opposite, lock_towards}
use Rattle.gl_trims.proofs.Accepting.{flip, lacks_told}
use Rattle.gl_index.proofs.Tables.{edge_at}
use Rattle.gl_trims.proofs.Beside.{start_first}
use Rattle.gl_trims.proofs.trims.Trimming.lacks.Goals as goal

pub next_beside-requires-clause-start : goal.next_beside-requires-clause-start
next_beside-requires-clause-start c =
    let s = c.args.self.now in
    let edges = edges_of_table s.table.now in
    let pair = get_or s.table.now c.args.i c.index-self-i.result in
    let at = edge_at s.table.now c.args.i c.index-self-i.result c.requires.here in
    start_first (is_before s.order.now) s.mode edges c.args.gone.now c.args.side c.args.i pair.0 c.begin-first.result at
    (subst (λ k. IsNextWith (lock_towards (opposite c.args.side)) edges _ k 0 c.begin-first.result) c.lock_of.ensures (c.begin-first.ensures edges _ (opposite c.args.side) c.requires.chain))

pub returns : goal.returns
returns c = λ e at.
    let s = c.args.self.now in
    let edges = edges_of_table s.table.now in
    subst (λ b. Decides b (¬ HasBeside (is_before s.order.now) s.mode edges (IsFlagged c.args.gone.now) c.args.side e)) (flip _ c.is_none.result c.is_none.ensures)
    (lacks_told (is_before s.order.now) s.mode edges c.args.gone.now c.args.side c.args.i e c.next_beside.result c.next_beside.ensures.hint c.next_beside.ensures.left (c.requires.flags ∙ sym (length-map s.table.now (λ pair. pair.0))) at)
