use Rattle.std.proofs.Common.{false, sym, ap, ◌∙◌, Some, arith}
use Rattle.std.proofs.lemmas.Bool.{eqb-true}
use Rattle.std.proofs.lemmas.Option.{slice_get-get_or}
use Rattle.gl_edges.proofs.Orders.{modes_same}
use Rattle.gl_sought.proofs.Places.{edge_is, from_not}
use Rattle.gl_grounds.proofs.PassageSteps.{leads_same_way}
use Rattle.gl_grounds.proofs.passages.leads_likewise.Goals as goal

pub returns : goal.returns
returns c = λ same.
    let table = c.args.table.now in
    let early = c.if-first-i.false in
    record {
      before = early;
      flagged = slice_get-get_or c.args.flags.now c.args.first false (omega (arith, early, c.requires.there, c.requires.flags)) ∙ ap Some c.if-not-flags-first.false;
      same_class = slice_get-get_or c.args.classes.now c.args.first 0 (omega (arith, early, c.requires.there, c.requires.classes)) ∙ ap Some c.if-classes-first.false ∙ sym (slice_get-get_or c.args.classes.now c.args.i 0 (omega (arith, c.requires.there, c.requires.classes)));
      likewise = λ d e f at_d at_e.
          let is_d = edge_is table c.index-table-first.result c.args.first d (omega (arith, early, c.requires.there)) at_d in
          let is_e = edge_is table c.index-table-i.result c.args.i e c.requires.there at_e in
          leads_same_way d e f (ap (λ e. e.wanted) is_d ∙ eqb-true _ _ (from_not _ (sym c.ne.ensures ∙ c.if-ne.false)) ∙ sym (ap (λ e. e.wanted) is_e))
          (ap (λ e. e.wanted_mode) is_d ∙ modes_same _ _ (sym c.eq.ensures ∙ same) ∙ sym (ap (λ e. e.wanted_mode) is_e));
    }
