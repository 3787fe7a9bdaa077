use Rattle.std.proofs.Common.{◌≡◌, get_or, sym, ap, ◌∙◌}
use Rattle.std.proofs.lemmas.Bool.{eq-eqb, false≢true}
use Rattle.std.proofs.lemmas.Option.{same_Some}
use Rattle.gl_segments.specs.Clocks.{is_before}
use Rattle.gl_filters.specs.Picked.{edges_of_table, picked}
use Rattle.gl_index.proofs.Tables.{edge_at}
use Rattle.gl_cycles.proofs.BelowFronts.{none_after_astray}
use Rattle.gl_cycles.proofs.EdgesOfPaths.{held_by_table, some_picked, unclosed-push}
use Rattle.gl_cycles.proofs.paths.Searcher.leads_astray.Goals as goal

pub returns : goal.returns
returns c =
    let s = c.args.self.now in
    let table = s.table.now in
    let path = c.args.path.now in
    let some = some_picked table path c.requires.within c.requires.some in
    record {
      none = λ told f g at.
          let is : f ≡ (get_or table c.args.next c.index-self-next.result).0 = same_Some _ _ (sym at ∙ edge_at table c.args.next c.index-self-next.result c.requires.there) in
          none_after_astray (is_before s.order.now) s.mode (edges_of_table table) (picked (edges_of_table table) path) f g some
          (λ leads. c.is_held.ensures told g (sym leads ∙ ap (λ e. e.wanted) is));
      unclosed = λ told f at.
          let is : f ≡ (get_or table c.args.next c.index-self-next.result).0 = same_Some _ _ (sym at ∙ edge_at table c.args.next c.index-self-next.result c.requires.there) in
          unclosed-push (picked (edges_of_table table) path) f some
          (λ same. absurd (false≢true (sym (sym c.eq.ensures ∙ c.if-eq.false) ∙ eq-eqb _ _ (sym (ap (λ e. e.wanted) is) ∙ same ∙ sym (held_by_table table path c.requires.within c.index-self-first.result c.requires.some)))));
    }
