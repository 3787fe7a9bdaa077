use Rattle.std.proofs.Common.{sym, subst, ap, get_or, arith}
use Rattle.std.specs.Prelude.{Contains}
use Rattle.std.specs.List.Sorted.{IsNonDecreasingBy}
use Rattle.gl_grounds.specs.declared.spans.Span.{Span}
use Rattle.gl_grounds.proofs.SpanLists.{at_or_behind}
use Rattle.gl_grounds.proofs.spans.Spans.next_class.Goals as goal

pub returns-clause-skipped : goal.returns-clause-skipped
returns-clause-skipped c = λ span has low below.
    let value = c.deref.ensures.value in
    let place = c.count_below-place.result in
    let d = c.index.result.now in
    let there = at_or_behind c.deref.result.now c.args.from place (subst (IsNonDecreasingBy (λ (span : Span). span.class)) (sym value) c.requires.ordered) c.count_below-place.ensures.parted span (subst (λ l. Contains l span) (sym value) has) low in
    omega (arith, there.1 d, ap (λ (s : Span). s.class) c.index.ensures, ap (λ l. (get_or l place d).class) value, c.min.ensures, below)
