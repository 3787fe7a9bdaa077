use Rattle.std.proofs.Common.{◌≡◌, ◌≤◌, length, map, take}
use Rattle.gl_edges.specs.Guards.{guard_of}
use Rattle.gl_edges.proofs.guards.fill.Given as goal

abbrev pub invariant-loop-entry : goal.invariant-loop-entry
invariant-loop-entry l = record {
  known : l.locks.items ≡ map guard_of (take l.entry-index l.entries);
  fits : length l.entries ≤ l.locks.capacity;
}
