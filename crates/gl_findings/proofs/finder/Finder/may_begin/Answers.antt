use Rattle.std.proofs.Common.{refl, sym, ◌∙◌, arith}
use Rattle.gl_findings.proofs.Prepared.{none_below, none_run_twice, where_none}
use Rattle.gl_findings.proofs.Spanned.{none_begun}
use Rattle.gl_findings.proofs.finder.Finder.may_begin.Goals as goal

-- one thread alone would run two classes
pub returns-then-is_run_twice-clause-none : goal.returns-then-is_run_twice-clause-none
returns-then-is_run_twice-clause-none c = λ not n. none_run_twice c.args.self.now c.requires.ready n c.args.front.now (c.if-is_run_twice.ensures refl)

-- models show no walk
pub returns-then-not-spans-clause-none : goal.returns-then-not-spans-clause-none
returns-then-not-spans-clause-none c = λ not n.
    none_below c.args.self.now c.requires.ready n c.args.front.now (where_none c.in_ok-walk.walk _ _ c.in_ok-walk.ensures.found (sym c.is_some.ensures ∙ not))

-- nor one that begins where a chain of them does
pub returns-clause-none : goal.returns-clause-none
returns-clause-none c = λ not n.
    none_begun c.args.self.now c.requires.ready n c.args.front.now c.args.spans.now c.requires.some (λ is. omega (arith, is)) c.requires.spans c.if-not-spans.false (c.in_ok-begins.ensures.none not)
