use Rattle.std.proofs.Common.{◌+◌, ◌++◌, Contains, length, drop, sym, ap, subst, ◌∙◌, arith}
use Rattle.std.proofs.lemmas.List.{length-take-le}
use Rattle.gl_std.specs.Lines.{LF, ended_lines}
use Rattle.gl_std.proofs.LineByLine.{slice_rest}
use Rattle.gl_std.proofs.PieceByPiece.{ended-last, ended-nowhere}
use Rattle.gl_std.proofs.PiecesAhead.{ended_rest, rest_without}
use Rattle.gl_std.proofs.line_ends.unended.Goals as goal

-- behind the last LF
pub returns-in-Some-clause-parts : goal.returns-in-Some-clause-parts
returns-in-Some-clause-parts c =
    let text = c.args.text.now in
    let ended = ended-last text c.in-Some.last c.in-Some.ensures.0.high c.in-Some.ensures.0.after c.in-Some.ensures.1 in
    let size = sym (ap length ended) ∙ length-take-le (c.in-Some.last + 1) text (omega (arith, c.in-Some.ensures.0.high)) in
    ended_rest text ∙ ap (λ n. ended_lines text ++ drop n text) size ∙ ap (λ t. ended_lines text ++ t) (sym (slice_rest text (c.in-Some.last + 1)))

pub returns-in-Some-clause-unended : goal.returns-in-Some-clause-unended
returns-in-Some-clause-unended c =
    let text = c.args.text.now in
    let ended = ended-last text c.in-Some.last c.in-Some.ensures.0.high c.in-Some.ensures.0.after c.in-Some.ensures.1 in
    let size = sym (ap length ended) ∙ length-take-le (c.in-Some.last + 1) text (omega (arith, c.in-Some.ensures.0.high)) in
    subst (λ t. ¬ Contains t LF) (ap (λ n. drop n text) size ∙ sym (slice_rest text (c.in-Some.last + 1))) (rest_without text)

-- all of it
pub returns-in-None-clause-parts : goal.returns-in-None-clause-parts
returns-in-None-clause-parts c = let none = ended-nowhere c.args.text.now c.in-None.ensures in sym (ap (λ t. t ++ c.args.text.now) none)

pub returns-in-None-clause-unended : goal.returns-in-None-clause-unended
returns-in-None-clause-unended c =
    let text = c.args.text.now in
    let none = ended-nowhere text c.in-None.ensures in
    subst (λ t. ¬ Contains t LF) (ap (λ t. drop (length t) text) none) (rest_without text)
