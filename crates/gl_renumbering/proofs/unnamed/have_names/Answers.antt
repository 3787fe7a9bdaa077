use Rattle.std.proofs.Common.{Vec, Global, map, sym, ap, ◌∙◌}
use Rattle.std.specs.List.{list_all}
use Rattle.gl_event.specs.declared.events.Event.{Event}
use Rattle.gl_renumbering.specs.Tales.{has_names}
use Rattle.gl_renumbering.proofs.Telling.{all_fails, list_at}
use Rattle.gl_renumbering.proofs.unnamed.have_names.Goals as goal

pub returns-then-not-list_has_names : goal.returns-then-not-list_has_names
returns-then-not-list_has_names c =
    let items = λ (list : Vec Event Global). list.items in
    let rows = c.args.lists.now in
    let row = c.list-item.result in
    let i = c.loop-list.list-index in
    let p = list_all (has_names c.args.names.now) in
    sym (all_fails p (map items rows) i row.items (list_at items rows i row c.loop-list-test.true c.list-item.is) (ap p (sym c.deref.ensures.value) ∙ sym c.list_has_names.ensures ∙ c.if-not-list_has_names.true))
