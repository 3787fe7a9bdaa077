use Rattle.std.proofs.Common.{◌≡◌, ◌||◌, ℕ, take, eqb}
use Rattle.std.specs.List.{list_any}
use Rattle.gl_trims.specs.bodies.Waiting.{waits, AreEarlier}
use Rattle.gl_trims.proofs.trims.all_of.Given as goal

-- those so far wait
abbrev pub invariant-loop-i : goal.invariant-loop-i
invariant-loop-i l = record {
  waiting : (i : ℕ) → waits l.waiting i ≡ (waits l.fn.waiting i || list_any (λ w. eqb w i) (take l.i l.watchers));
  earlier : AreEarlier l.waiting;
  next : l.waiting.next ≡ l.fn.waiting.next;
}
