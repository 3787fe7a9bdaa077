use Rattle.std.proofs.Common.{◌≡◌, get_or, sym, ap, ◌∙◌, subst}
use Rattle.std.specs.Option.{option_map}
use Rattle.std.proofs.lemmas.Option.{slice_get-map, slice_get-get_or, same_Some}
use Rattle.std.proofs.lemmas.Bool.{not-false}
use Rattle.gl_exclusions.specs.Turns.{IsInTurn}
use Rattle.gl_exclusions.proofs.turns.is_out_of_turn.Goals as goal

pub returns-then-is_kept-clause-turn : goal.returns-then-is_kept-clause-turn
returns-then-is_kept-clause-turn c = λ out e at kept.
    let table = c.args.sought.now.table.now in
    let here = slice_get-get_or table c.args.position c.index-sought-position.result c.requires.there in
    let same : (get_or table c.args.position c.index-sought-position.result).0 ≡ e = same_Some _ _ (sym (slice_get-map (λ pair. pair.0) table c.args.position ∙ ap (option_map (λ pair. pair.0)) here) ∙ at) in
    subst (IsInTurn c.args.sought.now.mode c.args.sought.now.order.now c.args.turns.now) same (c.is_in_turn.ensures.turn (not-false _ out))
