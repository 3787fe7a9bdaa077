-- Edges that may lie on a loop, by ranks of those who hold their locks.
use Rattle.std.specs.Prelude.{◌≡◌, ℕ, ◌≤◌, Bool, false, ◌==◌, List, All, Some, slice_get, min}
use Rattle.gl_event.specs.declared.events.LockMode.{LockMode}
use Rattle.gl_event.specs.declared.events.LockMode.TheVariants.{Exclusive, Shared}
use Rattle.gl_edges.specs.declared.edge.Edge.{Edge}

-- the least rank of those who hold the lock and keep out who wants it in this mode
abbrev pub least : (ℕ → LockMode → ℕ) → ℕ → LockMode → ℕ
least rank lock Exclusive = min (rank lock Exclusive) (rank lock Shared)
least rank lock Shared = rank lock Exclusive

-- the rank of the edge's thread, and the least of those for whom it waits
abbrev pub held_rank : (ℕ → LockMode → ℕ) → Edge → ℕ
held_rank rank e = rank e.held e.held_mode

abbrev pub wanted_rank : (ℕ → LockMode → ℕ) → Edge → ℕ
wanted_rank rank e = least rank e.wanted e.wanted_mode

-- no edge waits for one of a lower rank
abbrev pub NoneFalls : (ℕ → LockMode → ℕ) → List Edge → Type 0
NoneFalls rank edges = All (λ e. held_rank rank e ≤ wanted_rank rank e) edges

-- no edge that isn't left out does, by the ranks of its epoch
abbrev pub NoneFallsAmong : (ℕ → ℕ → LockMode → ℕ) → (ℕ → ℕ) → List Edge → List Bool → Type 0
NoneFallsAmong rank epoch edges kept =
    (i : ℕ) (e : Edge) → slice_get edges i ≡ Some e → ¬ (slice_get kept i ≡ Some false)
    → held_rank (rank (epoch i)) e ≤ wanted_rank (rank (epoch i)) e

-- the edge waits for one of its own rank
abbrev pub is_level : (ℕ → LockMode → ℕ) → Edge → Bool
is_level rank e = held_rank rank e == wanted_rank rank e
