use Rattle.std.proofs.Common.{◌≡◌, ℕ, length}
use Rattle.gl_event.specs.Bounds.{Bounds}
use Rattle.gl_io.specs.Positions.{Position}
use Rattle.gl_io.specs.Uses.{used}
use Rattle.gl_std.specs.Streaming.{CanBeAsked}
use Rattle.gl_live.specs.bodies.Rosters.{Roster}
use Rattle.gl_live.specs.bodies.Streams.{HaveKeptUp}
use Rattle.gl_live.proofs.streaming.record_items.Given as goal

-- what the items told so far is recorded
abbrev pub invariant-loop : goal.invariant-loop
invariant-loop g l = record {
  next : (goal.iterator-loop g).can_next l.iterator';
  finite : (goal.iterator-loop g).is_finite l.iterator';
  usable : CanBeAsked l.items (g.S.Source.failed l.input);
  count : length l.recorders.items ≡ length l.initial.recorders.items;
  follows : (s : Roster) (limits : Bounds) (turns : ℕ) (start : Position) → HaveKeptUp s limits turns (used start (g.S.Source.position l.initial.input) (g.S.Source.failed l.initial.input)) l.initial.items l.initial.recorders.items
      → HaveKeptUp s limits turns (used start (g.S.Source.position l.input) (g.S.Source.failed l.input)) l.items l.recorders.items;
}
