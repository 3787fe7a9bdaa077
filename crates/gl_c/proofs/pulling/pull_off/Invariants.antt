-- Each turn pulled one of the thread's notes.
use Rattle.std.proofs.Common.{◌≡◌, ◌+◌, ◌<◌, None}
use Rattle.gl_c.specs.Pulling.{broken_at, ArePulled, AreOfThread, AreOthersSame, StayBroken}
use Rattle.gl_c.proofs.pulling.pull_off.Given as goal

abbrev pub invariant-loop : goal.invariant-loop
invariant-loop l = record {
  limits : l.running.limits ≡ l.initial.running.limits;
  pulled : ArePulled (AreOfThread l.thread) l.initial.running.collector l.running.collector l.pulled;
  one_a_turn : l.pulled.events + l.pulled.ended ≡ l.counter;
  whole : 0 < l.counter → broken_at l.running.collector l.thread ≡ None;
  others : AreOthersSame l.thread l.initial.running.collector l.running.collector;
  stay : StayBroken l.initial.running.collector l.running.collector;
}
