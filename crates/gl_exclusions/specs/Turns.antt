-- Threads that take turns: the edges of one are over before those of the next begin.
use Rattle.std.specs.Prelude.{◌≡◌, ℕ, ◌<◌, ◌≤◌, Bool, true, List, slice_get, Option, Some}
use Rattle.std.specs.Option.{option_and_then}
use Rattle.gl_event.specs.declared.events.Segment.{Segment}
use Rattle.gl_edges.specs.declared.edge.Edge.{Edge}
use Rattle.gl_segments.specs.Clocks.{Clocks, ahead}
use Rattle.gl_filters.specs.Cycle.{first_segment}
use Rattle.gl_filters.specs.declared.query.Mode.{Mode}
use Rattle.gl_filters.specs.declared.query.Mode.TheVariants.{Full}
use Rattle.gl_exclusions.specs.declared.turns.Turn.{Turn}

-- the chain of a thread, if it is of one that counts
abbrev pub chain_of : List Turn → ℕ → Option ℕ
chain_of turns thread = option_and_then (λ turn. turn.chain) (slice_get turns thread)

module _ (mode : Mode) (clocks : Clocks) (turns : List Turn) where
  -- the order counts, and if the thread is of this chain its edges are over before the segment
  abbrev pub IsOver : ℕ → Segment → ℕ → Type 0
  IsOver chain s thread =
      (turn : Turn) → slice_get turns thread ≡ Some turn → turn.chain ≡ Some chain
      → (mode ≡ Full) × (turn.last < ahead clocks s thread)

  -- so are those of all threads with lower numbers that are of the chain of the segment's thread
  pub record IsBehind (s : Segment) : Type 0 where
    pub each : (thread chain : ℕ) → thread < s.thread → chain_of turns s.thread ≡ Some chain
        → IsOver chain s thread

  -- the edge is in the turn of its thread
  pub record IsInTurn (e : Edge) : Type 0 where
    pub behind : IsBehind (first_segment e)
    pub over : (turn : Turn) → slice_get turns e.thread ≡ Some turn → e.second ≤ turn.last

  -- so are all edges that are kept
  abbrev pub TakeTurns : List Edge → List Bool → Type 0
  TakeTurns edges kept =
      (i : ℕ) (e : Edge) → slice_get edges i ≡ Some e → slice_get kept i ≡ Some true → IsInTurn e
