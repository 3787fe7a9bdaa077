use Rattle.std.proofs.Common.{◌<◌, ◌∷◌, length, sym, ap, ◌∙◌, arith}
use Rattle.std.proofs.lemmas.Bool.Decides.{nat_tests}
use Rattle.gl_std.specs.Lines.{lines}
use Rattle.gl_std.proofs.LinesOfTexts.{lines-cut, lines-uncut, rest_at_end}
use Rattle.gl_std.proofs.line_ends.next_line.Goals as goal

pub returns-in-Some : goal.returns-in-Some
returns-in-Some c =
    let first = lines-cut c.args.text.now (c.in-Some.line.now, c.in-Some.rest.now) (sym c.in-Some.ensures) in
    (first.0 ∙ ap (λ l. l ∷ lines c.in-Some.rest.now) (sym c.without_cr.ensures), first.1)

pub returns-in-None : goal.returns-in-None
returns-in-None c =
    let text = c.args.text.now in
    let some : 0 < length text = grind (arith, nat_tests, c.is_empty.ensures, c.if-is_empty.false) in
    let none = rest_at_end text in
    (lines-uncut text some (sym c.in-None.ensures) ∙ ap (λ r. text ∷ lines r) (sym none), omega (arith, ap length none))
