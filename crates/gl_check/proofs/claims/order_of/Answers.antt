use Rattle.std.proofs.Common.{Some, ap, sym, ◌∙◌, map, option_map}
use Rattle.serde_json.specs.View.{view}
use Rattle.gl_check.specs.Shape.{items_listed, number_told}
use Rattle.gl_check.proofs.Shapes.{listed_items_of}
use Rattle.gl_check.proofs.claims.order_of.Goals as goal

pub returns-in_ok-numbers_of-in-Some : goal.returns-in_ok-numbers_of-in-Some
returns-in_ok-numbers_of-in-Some c =
    ap Some (c.in_ok-numbers_of-in-Some.ensures ∙ ap (λ l. map number_told (map view l)) c.as_slice.ensures.value ∙ ap (map number_told) (sym (listed_items_of _)))
    ∙ ap (option_map (λ ds. map number_told (items_listed ds))) c.in-Some.ensures
