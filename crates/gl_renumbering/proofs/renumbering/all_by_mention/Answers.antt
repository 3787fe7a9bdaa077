use Rattle.std.proofs.Common.{◌≡◌, ◌+◌, [], ◌∷◌, ◌++◌, List, Vec, Global, take, map, sym, ap, subst, ◌∙◌, arith, inr}
use Rattle.std.specs.List.{flat_map, list_all}
use Rattle.std.proofs.lemmas.List.{take_all}
use Rattle.std.proofs.lemmas.Result.{err_from_is_err_and}
use Rattle.gl_event.specs.declared.events.Event.{Event}
use Rattle.gl_std.specs.Names.{NameLists}
use Rattle.gl_renumbering.specs.Tales.{StayLawful, has_names, lists_by_mention, mentioned, names_by_mention, tales, told}
use Rattle.gl_renumbering.specs.bodies.Tables.{AllStayToldBy}
use Rattle.gl_renumbering.proofs.Alike.{stay_lawful}
use Rattle.gl_renumbering.proofs.Growing.{map_append}
use Rattle.gl_renumbering.proofs.Telling.{all_stay_push, all_told, list_at, lists_push, one_passes, some_lists, tales_more}
use Rattle.gl_renumbering.proofs.renumbering.all_by_mention.Goals as goal

abbrev items_of : Vec Event Global → List Event
items_of list = list.items

pub list_by_mention-requires-clause-named : goal.list_by_mention-requires-clause-named
list_by_mention-requires-clause-named c =
    let p = list_all (has_names c.args.old.now) in
    let rows = c.args.lists.now in
    let row = c.list-item.result in
    let i = c.loop-list.list-index in
    ap p c.deref.ensures.value ∙ one_passes p (map items_of rows) i row.items (list_at items_of rows i row c.loop-list-test.true c.list-item.is) c.requires.named

pub loop-list-preserved : goal.loop-list-preserved
loop-list-preserved c =
    let old = c.args.old.now in
    let rows = c.args.lists.now in
    let row = c.list-item.result in
    let i = c.loop-list.list-index in
    let start : NameLists = record old { locks = []; locs = [] } in
    let before = c.loop-list.numbers.names in
    let after = c.list_by_mention.new.numbers.names in
    let so_far = tales old (map items_of (take i rows)) in
    let list = map (told old) c.deref.result.now in
    let front : tales old (map items_of (take (i + 1) rows)) ≡ so_far ++ list ∷ [] =
    tales_more old items_of rows i row c.loop-list-test.true c.list-item.is ∙ ap (λ es. so_far ++ map (told old) es ∷ []) (sym c.deref.ensures.value) in
    let pushed : map items_of c.push.new.self.items ≡ map items_of c.loop-list.by_mention.items ++ c.in_ok-list.list.items ∷ [] =
    ap (map items_of) c.in_ok-push.ensures.items ∙ map_append items_of c.loop-list.by_mention.items (c.in_ok-list.list ∷ []) in (
      c.in_ok-list.ensures.stands,
      lists_push start before after so_far list c.loop-list.invariant.1 c.in_ok-list.ensures.names ∙ ap (λ ls. mentioned start (flat_map (λ list. list) ls)) (sym front),
      subst (λ ls. AllStayToldBy after ls (map items_of c.push.new.self.items)) (sym front)
          (all_stay_push before after so_far list (map items_of c.loop-list.by_mention.items) (map items_of c.push.new.self.items) c.in_ok-list.list.items c.in_ok-list.ensures.names pushed c.loop-list.invariant.2 c.in_ok-list.ensures.events),
    )

pub returns-clause-names : goal.returns-clause-names
returns-clause-names c =
    let rows = c.args.lists.now in
    let whole : take c.loop-list.list-index rows ≡ rows = take_all c.loop-list.list-index rows (omega (arith, c.loop-list-test.false)) in
    c.loop-list.invariant.1 ∙ ap (λ all. names_by_mention c.args.old.now (map items_of all)) whole

pub returns-clause-lists : goal.returns-clause-lists
returns-clause-lists c =
    let old = c.args.old.now in
    let rows = c.args.lists.now in
    let names = c.loop-list.numbers.names in
    let all = map items_of c.loop-list.by_mention.items in
    let whole : take c.loop-list.list-index rows ≡ rows = take_all c.loop-list.list-index rows (omega (arith, c.loop-list-test.false)) in
    let is : names ≡ names_by_mention old (map items_of rows) = c.loop-list.invariant.1 ∙ ap (λ all. names_by_mention old (map items_of all)) whole in
    all_told old names (map items_of rows) all is (subst (λ rs. AllStayToldBy names (tales old (map items_of rs)) all) whole c.loop-list.invariant.2)

pub returns-clause-lawful : goal.returns-clause-lawful
returns-clause-lawful c =
    let old = c.args.old.now in
    let rows = c.args.lists.now in
    let names = c.loop-list.numbers.names in
    let all = map items_of c.loop-list.by_mention.items in
    let whole : take c.loop-list.list-index rows ≡ rows = take_all c.loop-list.list-index rows (omega (arith, c.loop-list-test.false)) in
    let is : names ≡ names_by_mention old (map items_of rows) = c.loop-list.invariant.1 ∙ ap (λ all. names_by_mention old (map items_of all)) whole in
    let lists : all ≡ lists_by_mention old (map items_of rows) = all_told old names (map items_of rows) all is (subst (λ rs. AllStayToldBy names (tales old (map items_of rs)) all) whole c.loop-list.invariant.2) in
    subst (StayLawful (map items_of rows)) (sym lists) (stay_lawful old (map items_of rows) c.in_ok-numbers.ensures.differ c.requires.named)

pub returns-in_err-list-clause-memory : goal.returns-in_err-list-clause-memory
returns-in_err-list-clause-memory c =
    let p = err_from_is_err_and c.from_residual-in_err-list.result c.from_residual-in_err-list.ensures.1 in
    rw p.1 (inr (some_lists items_of c.args.lists.now c.loop-list.list-index c.loop-list-test.true))

pub returns-in_err-push-clause-memory : goal.returns-in_err-push-clause-memory
returns-in_err-push-clause-memory c =
    let p = err_from_is_err_and c.from_residual-in_err-push.result c.from_residual-in_err-push.ensures.1 in
    rw p.1 (inr (some_lists items_of c.args.lists.now c.loop-list.list-index c.loop-list-test.true))
