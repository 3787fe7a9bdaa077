use Rattle.std.proofs.Common.{[], map, Vec, Global, refl, ap, ◌∙◌, arith}
use Rattle.gl_event.specs.declared.events.Event.{Event}
use Rattle.gl_std.proofs.HeardAhead.{ahead_nothing, heard_after}
use Rattle.gl_std.proofs.HeardSources.{heard_over}
use Rattle.gl_std.proofs.from_source.parallel.read_source_parallel.Goals as goal

pub read_ahead-requires-clause-can : goal.read_ahead-requires-clause-can
read_ahead-requires-clause-can g c κs within =
    let fit = c.in_ok-reader.ensures.fit in
    let same = c.in_ok-judge.ensures.fit in
    let ours = c.in_ok-reader.ensures.begun (g.R.Source.position c.args.input.now) in
    let theirs = c.in_ok-judge.ensures.begun (g.R.Source.position c.args.input.now) in
    record { sound = same.sound; few = same.few; room = fit.room; countable = omega (arith, same.countable, same.order, ours.given.spent, ours.given.some, theirs.given.spent, theirs.given.some) }

pub returns-clause-heard : goal.returns-clause-heard
returns-clause-heard g c =
    let start = g.R.Source.position c.args.input.now in
    heard_after c.args.limits.now c.args.turns start start (g.R.Source.position c.read_ahead.new.input) (g.R.Source.failed c.read_ahead.new.input) c.in_ok-reader.reader c.in_ok-judge.judge c.new-lists.result [] c.read_ahead.result c.read_ahead.ensures
    (ahead_nothing c.args.limits.now c.args.turns start c.in_ok-reader.reader c.in_ok-judge.judge c.new-lists.result [] (c.in_ok-reader.ensures.begun start) (c.in_ok-judge.ensures.begun start)
    (c.new-lists.ensures ∙ ap (map (λ (v : Vec Event Global). v.items)) c.new-3.ensures.items) refl)

pub returns-clause-over : goal.returns-clause-over
returns-clause-over g c = heard_over c.args.limits.now c.args.turns _ _ _ c.read_ahead.result (returns-clause-heard g c)
