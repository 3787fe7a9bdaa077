use Rattle.std.proofs.Common.{sym, ◌∙◌}
use Rattle.gl_findings.proofs.Prepared.{none_round}
use Rattle.gl_findings.proofs.finder.Finder.may_close.Goals as goal

pub returns : goal.returns
returns c = λ not. none_round c.args.self.now c.requires.ready c.args.signature.now c.if-signature-lt2.false (sym c.may_pass.ensures ∙ not)
