use Rattle.std.proofs.Common.{sym, ◌∙◌}
use Rattle.gl_findings.proofs.Prepared.{none_around, where_none}
use Rattle.gl_findings.proofs.Spanned.{none_rung}
use Rattle.gl_findings.proofs.finder.Finder.goes_round.Goals as goal

-- models show no round
pub returns-then-not-spans-clause-none : goal.returns-then-not-spans-clause-none
returns-then-not-spans-clause-none c = λ not.
    none_around c.args.self.now c.requires.ready c.args.signature.now (where_none c.in_ok-round.round _ _ c.in_ok-round.ensures.found (sym c.is_some.ensures ∙ not))

-- edges that are kept show none
pub returns-clause-none : goal.returns-clause-none
returns-clause-none c = λ not.
    none_rung c.args.self.now c.requires.ready c.args.signature.now c.args.spans.now c.requires.some c.requires.spans c.if-not-spans.false (c.in_ok-goes.ensures.none not)
