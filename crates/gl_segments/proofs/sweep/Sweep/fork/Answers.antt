use Rattle.std.proofs.Common.{◌≡◌, sym, subst, ◌∙◌, arith, rules}
use Rattle.std.specs.Prelude.{Contains}
use Rattle.gl_segments.specs.declared.rows.Row.TheVariants.{Waiting}
use Rattle.gl_event.specs.declared.events.Segment.{Segment}
use Rattle.gl_segments.specs.bodies.Fronts.{first_of}
use Rattle.gl_segments.specs.bodies.Tables.{LeadsTo}
use Rattle.gl_segments.proofs.sweep.Sweep.fork.Goals as goal

pub raise_front-requires-clause-fit : goal.raise_front-requires-clause-fit
raise_front-requires-clause-fit c = λ thread front here. let few = (c.requires.sweeps.swept.rows thread (Waiting front) here).few in let width = c.requires.width in omega arith

pub returns-in_ok-raise_front-in-Some : goal.returns-in_ok-raise_front-in-Some
returns-in_ok-raise_front-in-Some c =
    let swept = c.requires.sweeps.swept in
    let from : Segment = record { thread = c.args.thread; index = c.args.index } in
    let fork = c.in-Some.fork.now in
    let looked = c.in-Some.ensures.lookup in
    let same : fork.from ≡ from = search rules in
    let among : Contains c.args.self.now.forks.items fork = subst (λ xs. Contains xs fork) c.deref-2.ensures.value (c.partition_point-place.result, looked.3.0, sym looked.1) in
    let step : LeadsTo c.args.steps.now from (first_of fork.thread) = subst (λ a. LeadsTo c.args.steps.now a (first_of fork.thread)) same (swept.forks fork among) in
    record {
      forks = swept.forks;
      size = c.raise_front.ensures.size ∙ swept.size;
      rows = c.in_ok-raise_front-in-Some.ensures.rows c.args.steps.now c.requires.sweeps.sound c.requires.width c.requires.clock c.requires.apart step swept.rows;
    }
