use Rattle.std.proofs.Common.{◌≡◌, ◌+◌, ◌<◌, eqb, length, sym, subst, ◌∙◌, arith}
use Rattle.std.proofs.lemmas.Bool.{eqb-true}
use Rattle.std.proofs.lemmas.List.{get_or_default}
use Rattle.gl_filters.specs.Picked.{edges_of_table}
use Rattle.gl_grounds.specs.Classes.{classes_of}
use Rattle.gl_grounds.proofs.SpanSteps.{AreFollowed, followed_more}
use Rattle.gl_findings.proofs.Spanned.{all_reached}
use Rattle.gl_findings.proofs.finder.Finder.reached.Goals as goal

pub loop-i-init : goal.loop-i-init
loop-i-init c = record { known = λ all. all; each = λ k span below at. absurd (omega (arith, below)) }

pub loop-i-preserved : goal.loop-i-preserved
loop-i-preserved c =
    let s = c.args.self.now in
    let spans = c.args.spans.now in
    let list = spans.list.items in
    let span = c.index.result.now in
    let within : c.loop-i.i < length list = omega (arith, c.loop-i-test.true, c.len-i-end.ensures, spans.list.ok.0) in
    followed_more s.mode (edges_of_table s.table.now) (classes_of s.table.now) s.among_models.ground.flags.now (eqb (length c.args.front.now + 1) s.len) spans c.loop-i.i span c.loop-i.reached c.add_after.new.reached within
    (λ d. get_or_default list c.loop-i.i d span within ∙ sym c.index.ensures) c.in_ok-add_after.ensures.keep c.in_ok-add_after.ensures.added c.loop-i.invariant

pub returns-clause-reached : goal.returns-clause-reached
returns-clause-reached c =
    let s = c.args.self.now in
    let edges = edges_of_table s.table.now in
    let classes = classes_of s.table.now in
    let flags = s.among_models.ground.flags.now in
    let front = c.args.front.now in
    let spans = c.args.spans.now in
    let is_last = eqb (length front + 1) s.len in
    let whole : c.loop-i.i ≡ length spans.list.items = omega (arith, c.loop-i-test.false, c.loop-i.auto.i-end, c.len-i-end.ensures, spans.list.ok.0) in
    all_reached s.mode edges classes flags s.len front is_last spans c.loop-i.reached c.sort.new.self c.requires.some c.requires.short (λ ends. eqb-true _ _ ends) c.requires.spans
    (subst (λ n. AreFollowed s.mode edges classes flags is_last spans n c.loop-i.reached) whole c.loop-i.invariant) c.sort.ensures.keep c.sort.ensures.ordered
