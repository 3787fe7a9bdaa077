use Rattle.std.proofs.Common.{subst, arith}
use Rattle.std.proofs.lemmas.Bool.Decides.{nat_tests}
use Rattle.gl_io.specs.bodies.Turns.{TurnDid}
use Rattle.gl_io.proofs.Counting.{met_end, met_failure}
use Rattle.gl_io.proofs.whole.read_whole.Goals as goal

pub returns-in-End-clause-read : goal.returns-in-End-clause-read
returns-in-End-clause-read g c =
    let so_far = c.loop-turn.invariant in
    let new = c.take_turn.new in
    met_end c.args.turns c.loop-turn.turn _ (g.R.Source.position c.loop-turn.input) (g.R.Source.position new.input) (g.R.Source.failed new.input) c.loop-turn.text.items new.text.items
    (grind (arith, nat_tests, c.loop-turn.auto.turn-end, c.loop-turn-test.true)) so_far.counted c.take_turn.ensures.counted so_far.some so_far.few
    (c.in_ok-take_turn.ensures.bytes (g.R.Source.position c.args.input.now).left so_far.bytes)
    (subst (λ turn. TurnDid turn (g.R.Source.position new.input).left (g.R.Source.failed new.input) c.loop-turn.text.items new.text.items) c.in-End.is c.in_ok-take_turn.ensures.did)

pub returns-in-Broke-clause-read : goal.returns-in-Broke-clause-read
returns-in-Broke-clause-read g c =
    let so_far = c.loop-turn.invariant in
    let new = c.take_turn.new in
    met_failure c.args.turns c.loop-turn.turn _ (g.R.Source.position c.loop-turn.input) (g.R.Source.position new.input) (g.R.Source.failed new.input) c.loop-turn.text.items new.text.items
    (grind (arith, nat_tests, c.loop-turn.auto.turn-end, c.loop-turn-test.true)) so_far.counted c.take_turn.ensures.counted so_far.some so_far.few
    (c.in_ok-take_turn.ensures.bytes (g.R.Source.position c.args.input.now).left so_far.bytes)
    (subst (λ turn. TurnDid turn (g.R.Source.position new.input).left (g.R.Source.failed new.input) c.loop-turn.text.items new.text.items) c.in-Broke.is c.in_ok-take_turn.ensures.did)
