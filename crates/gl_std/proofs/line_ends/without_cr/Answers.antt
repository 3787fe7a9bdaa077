use Rattle.std.proofs.Common.{◌≡◌, ◌<◌, ◌-◌, length, sym, arith}
use Rattle.std.proofs.lemmas.Bool.Decides.{nat_tests}
use Rattle.gl_std.proofs.LinesOfTexts.{without_cr-last, without_cr-other, without_cr-nil}
use Rattle.gl_std.proofs.line_ends.without_cr.Goals as goal

pub returns-then-is_empty : goal.returns-then-is_empty
returns-then-is_empty c =
    let none : length c.args.line.now ≡ 0 = grind (arith, nat_tests, c.is_empty.ensures, c.if-is_empty.true) in
    without_cr-nil c.args.line.now none

pub returns-then-line-ne-CR : goal.returns-then-line-ne-CR
returns-then-line-ne-CR c =
    let some : 0 < length c.args.line.now = grind (arith, nat_tests, c.is_empty.ensures, c.if-is_empty.false) in
    sym (without_cr-other c.args.line.now (length c.args.line.now - 1) (omega arith) c.if-line-ne-CR.true)

pub returns : goal.returns
returns c =
    let some : 0 < length c.args.line.now = grind (arith, nat_tests, c.is_empty.ensures, c.if-is_empty.false) in
    sym (without_cr-last c.args.line.now (length c.args.line.now - 1) (omega arith) c.if-line-ne-CR.false)
