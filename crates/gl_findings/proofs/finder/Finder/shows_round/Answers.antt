use Rattle.gl_findings.proofs.Spanned.{none_rounded}
use Rattle.gl_findings.proofs.finder.Finder.shows_round.Goals as goal

pub returns-clause-none : goal.returns-clause-none
returns-clause-none c = λ not. none_rounded c.args.self.now c.requires.ready c.args.signature.now c.args.spans.now c.requires.some c.requires.spans c.requires.all (c.in_ok-shows.ensures.none not)
