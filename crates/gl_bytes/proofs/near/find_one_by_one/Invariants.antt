use Rattle.std.proofs.Common.{◌-◌, ◌≤◌, length}
use Rattle.bstr.specs.Find.{Nowhere, Passes, is_byte}
use Rattle.gl_bytes.proofs.near.find_one_by_one.Given as goal

abbrev pub invariant-loop-at : goal.invariant-loop-at
invariant-loop-at l = (l.from ≤ l.at) × (l.at ≤ length l.text) × Nowhere (Passes (is_byte l.byte) l.text) l.from l.at

abbrev pub decreases-loop-at : goal.decreases-loop-at
decreases-loop-at l = length l.text - l.at
