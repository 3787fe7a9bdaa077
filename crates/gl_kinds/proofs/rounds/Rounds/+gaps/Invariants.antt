use Rattle.std.proofs.Common.{◌≡◌, ℕ, ◌+◌, ◌*◌, ◌<◌, ◌≤◌, Some}
use Rattle.std.specs.Prelude.{slice_get}
use Rattle.gl_segments.specs.Clocks.{is_before}
use Rattle.gl_filters.specs.Picked.{edges_of_table}
use Rattle.gl_kinds.specs.bodies.Gaps.{NoneBy, AreHopeless}
use Rattle.gl_kinds.proofs.rounds.Rounds.+gaps.Given as goal

-- how many edges may come; a call for one of them comes between two numbers
abbrev pub decreases-may_close_gap : goal.decreases-may_close_gap
decreases-may_close_gap l = 2 * l.gap.now.left + 1

abbrev pub decreases-may_close_gap_by : goal.decreases-may_close_gap_by
decreases-may_close_gap_by l = 2 * l.gap.now.left

-- by the models so far no cycle closes the gap
abbrev pub invariant-may_close_gap-loop-place : goal.invariant-may_close_gap-loop-place
invariant-may_close_gap-loop-place l =
    AreHopeless (is_before l.self.sought.order.now) l.self.sought.mode l.self.grain l.self.sought.len (edges_of_table l.self.sought.table.now) l.self.flags.items l.ends.known.items
    × ((p i : ℕ) → p < l.place → slice_get l.rest p ≡ Some i → NoneBy (is_before l.self.sought.order.now) l.self.sought.mode l.self.grain l.self.sought.len (edges_of_table l.self.sought.table.now) l.self.flags.items l.gap l.rest i) × (l.tests ≤ l.fn.tests)
