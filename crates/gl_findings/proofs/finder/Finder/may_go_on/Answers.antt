use Rattle.std.proofs.Common.{sym, ◌∙◌, arith}
use Rattle.std.proofs.lemmas.Bool.Decides.{nat_tests}
use Rattle.gl_findings.proofs.Prepared.{none_passed}
use Rattle.gl_findings.proofs.finder.Finder.may_go_on.Goals as goal

pub returns : goal.returns
returns c = λ not n. none_passed c.args.self.now c.requires.ready n c.args.front.now c.args.class (grind (arith, nat_tests, c.is_empty.ensures, c.if-is_empty.false)) (sym c.may_pass.ensures ∙ not)
