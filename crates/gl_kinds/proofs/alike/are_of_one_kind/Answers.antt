use Rattle.std.proofs.Common.{sym, ◌∙◌}
use Rattle.std.proofs.lemmas.Bool.{eqb-true}
use Rattle.gl_edges.proofs.Orders.{modes_same, guards_same}
use Rattle.gl_sought.proofs.Places.{from_not}
use Rattle.gl_kinds.proofs.OfOneKind.{guards_equal}
use Rattle.gl_kinds.proofs.alike.are_of_one_kind.Goals as goal

pub returns : goal.returns
returns c = (
  λ same. record {
    held = eqb-true _ _ (from_not _ (sym c.ne.ensures ∙ c.if-ne.false));
    held_mode = modes_same _ _ (from_not _ (sym c.ne-2.ensures ∙ c.if-ne-2.false));
    wanted = eqb-true _ _ (from_not _ (sym c.ne-3.ensures ∙ c.if-ne-3.false));
    wanted_mode = modes_same _ _ (from_not _ (sym c.ne-4.ensures ∙ c.if-ne-4.false));
    guards = guards_same _ _ (sym c.eq.ensures ∙ same);
  },
  λ alike. c.eq.ensures ∙ guards_equal _ _ alike.guards,
)
