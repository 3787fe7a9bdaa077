use Rattle.std.proofs.Common.{[], length, sym, subst}
use Rattle.std.proofs.lemmas.List.{length-map}
use Rattle.gl_segments.specs.Clocks.{is_before}
use Rattle.gl_filters.specs.Picked.{edges_of_table}
use Rattle.gl_index.specs.Indexes.{AreChained}
use Rattle.gl_index.specs.Users.{AreUsers}
use Rattle.gl_trims.proofs.Beside.{hints_none, none_alone}
use Rattle.gl_trims.proofs.trims.Trimming.hints.Goals as goal

pub returns : goal.returns
returns c = λ gone.
    let s = c.args.self.now in
    let edges = edges_of_table s.table.now in
    hints_none (is_before s.order.now) s.mode edges gone c.args.side _ (length s.table.now) (sym (length-map s.table.now (λ pair. pair.0))) (c.in_ok-vec.ensures.items_if_clones_equal (none_alone _ (λ p is. is))) c.in_ok-none.ensures
    (subst (λ side. AreUsers side edges [] (length s.table.now) c.in_ok-of_kept.field-0) c.opposite-towards.ensures c.in_ok-of_kept.ensures.users)
    (subst (λ side. AreChained side edges 0 c.in_ok-of.field-0) c.opposite-towards.ensures c.in_ok-of.ensures)
