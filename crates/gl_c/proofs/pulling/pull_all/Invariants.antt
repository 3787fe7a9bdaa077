-- So far the notes are of the threads in turn.
use Rattle.std.proofs.Common.{◌≡◌, ℕ, ◌+◌, ◌<◌, ◌≤◌, None}
use Rattle.gl_c.specs.Pulling.{broken_at, ArePulled, AreInTurnsBelow, StayBroken}
use Rattle.gl_c.proofs.pulling.pull_all.Given as goal

abbrev pub invariant-loop-number : goal.invariant-loop-number
invariant-loop-number l = record {
  limits : l.running.limits ≡ l.initial.running.limits;
  threads : l.threads ≡ l.initial.running.limits.threads;
  pulled : ArePulled (AreInTurnsBelow l.ring l.number) l.initial.running.collector l.running.collector l.pulled;
  most_are : l.pulled.events + l.pulled.ended ≤ l.most;
  whole : l.pulled.events + l.pulled.ended < l.most → (thread : ℕ) → thread < l.number → broken_at l.running.collector thread ≡ None;
  stay : StayBroken l.initial.running.collector l.running.collector;
  behind : (thread : ℕ) → l.number ≤ thread → broken_at l.running.collector thread ≡ broken_at l.initial.running.collector thread;
}
