use Rattle.std.proofs.Common.{◌==◌, sym, length, arith, get_or}
use Rattle.std.proofs.lemmas.Bool.{eq-eqb}
use Rattle.std.proofs.lemmas.List.Sums.{position_or_len_is}
use Rattle.gl_check.proofs.input.first_line_end.Goals as goal

pub returns-then-input-i-eq10-clause-place : goal.returns-then-input-i-eq10-clause-place
returns-then-input-i-eq10-clause-place c =
    sym (position_or_len_is (λ byte. byte == 10) c.args.input.now c.loop-i.i 0 c.loop-i.auto.i-end (λ k below. c.loop-i.invariant k below) (λ within. eq-eqb (get_or c.args.input.now c.loop-i.i 0) 10 c.if-input-i-eq10.true))

pub returns-clause-place : goal.returns-clause-place
returns-clause-place c =
    sym (position_or_len_is (λ byte. byte == 10) c.args.input.now (length c.args.input.now) 0 (omega arith) (λ k below. c.loop-i.invariant k (let end = c.loop-i-test.false in omega arith)) (λ within. absurd (omega arith)))
