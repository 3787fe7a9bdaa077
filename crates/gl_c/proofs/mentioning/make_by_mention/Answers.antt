use Rattle.std.proofs.Common.{◌≡◌, length, arith, ap, sym, subst, ◌∙◌}
use Rattle.std.proofs.lemmas.List.{length-map}
use Rattle.gl_event.specs.Bounds.{greatest}
use Rattle.gl_event.specs.Lawful.{EachIsLawful, lists_of}
use Rattle.gl_renumbering.specs.Tales.{lists_by_mention, tales}
use Rattle.gl_c.proofs.mentioning.make_by_mention.Goals as goal

-- lists by mention are as many as the lists, and each is as lawful
pub report_of_lists-report-requires : goal.report_of_lists-report-requires
report_of_lists-report-requires c =
    let names = c.args.names.now in
    let lists = lists_of c.args.lists.now in
    let items = ap lists_of c.deref.ensures.value in
    let by_mention : lists_of c.deref.result.now ≡ lists_by_mention names lists = items ∙ c.in-Ok.ensures.lists in
    let as_many : length (lists_by_mention names lists) ≡ length lists = length-map (tales names lists) _ ∙ length-map lists _ in
    record {
      lawful = record {
        few = omega (arith, c.requires.few, ap length by_mention, as_many);
        each = subst (EachIsLawful greatest) (sym items) (c.in-Ok.ensures.lawful greatest c.requires.each);
      };
    }
