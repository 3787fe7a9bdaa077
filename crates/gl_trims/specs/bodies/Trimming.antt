-- What trimming knows as it goes: flags of the edges that are gone, and for each edge that was looked at where one stands that may come beside it.
use Rattle.std.specs.Prelude.{◌≡◌, ℕ, ◌<◌, ◌≤◌, Bool, true, false, List, [], ◌∷◌, ◌++◌, length, set, get_or, slice_get, unwrap_or, Option, Some, None, IfSome, Contains, ◌==◌}
use Rattle.std.specs.List.{list_any}
use Rattle.gl_event.specs.declared.events.Segment.{Segment}
use Rattle.gl_edges.specs.declared.edge.Edge.{Edge}
use Rattle.gl_filters.specs.declared.query.Mode.{Mode}
use Rattle.gl_index.specs.Indexes.{AreChained}
use Rattle.gl_index.specs.Sides.{is_beside, opposite, lock_towards}
use Rattle.gl_index.specs.Users.{AreUsers}
use Rattle.gl_trims.specs.Trims.{HasBeside, IsStuck, IsTrimOrder}
use Rattle.gl_trims.specs.bodies.Waiting.{waits, AreEarlier}
use Rattle.gl_trims.specs.declared.trims.Hints.{Hints}
use Rattle.gl_index.specs.declared.sides.Side.{Side}
use Rattle.gl_index.specs.declared.sides.Side.TheVariants.{Follower, Leader}
use Rattle.gl_trims.specs.declared.trims.Sides.{Sides}
use Rattle.gl_trims.specs.declared.waiting.Waiting.{Waiting}

-- the flag at this position is set
abbrev pub IsFlagged : List Bool → ℕ → Type 0
IsFlagged gone i = slice_get gone i ≡ Some true

-- the flags are set at these positions
pub record AreFlagsOf (size : ℕ) (gone : List Bool) (removed : List ℕ) : Type 0 where
  pub long : length gone ≡ size
  pub flags : (i : ℕ) → i < size → slice_get gone i ≡ Some (list_any (λ k. k == i) removed)

-- one more watches a hint, if there is one
abbrev pub watched_at : Option ℕ → ℕ → List (List ℕ) → List (List ℕ)
watched_at None watcher watchers = watchers
watched_at (Some hint) watcher watchers =
    set watchers hint (get_or watchers hint [] ++ watcher ∷ [])

-- nobody watches this position any more
pub record IsWoken (position : ℕ) (old new : Hints) : Type 0 where
  pub users : new.users ≡ old.users
  pub chain : new.chain ≡ old.chain
  pub found : new.found.items ≡ old.found.items
  pub watchers : new.watchers ≡ set old.watchers position []

-- the hints on this side
abbrev pub hints_of : Side → Sides → List (Option ℕ)
hints_of Follower sides = sides.followers.found.items
hints_of Leader sides = sides.leaders.found.items

module _ (gone : List Bool) where
  -- the edge at i has a hint, and the edge there is left
  pub record HasHint (found : List (Option ℕ)) (i : ℕ) : Type 0 where
    pub hint : ℕ
    pub is : slice_get found i ≡ Some (Some hint)
    pub is_left : slice_get gone hint ≡ Some false

  -- each edge that has one still does
  abbrev pub KeepHints : List (Option ℕ) → List (Option ℕ) → Type 0
  KeepHints old new = (i : ℕ) → HasHint old i → HasHint new i

  -- each edge that is left has one on both sides, or waits to be looked at
  pub record AreAwake (size : ℕ) (sides : Sides) (waiting : Waiting) : Type 0 where
    pub earlier : AreEarlier waiting
    pub within : waiting.next ≤ size
    pub hinted : (i : ℕ) (side : Side) → i < size → slice_get gone i ≡ Some false
        → waits waiting i ≡ false → HasHint (hints_of side sides) i

module _ (before : Segment → Segment → Bool) (mode : Mode) (edges : List Edge)
    (gone : List Bool) where
  module _ (side : Side) where
    -- no edge below a position is left that may come beside the edge at i
    abbrev pub NoneBeside : ℕ → ℕ → Type 0
    NoneBeside i to =
        (q : ℕ) (e f : Edge) → q < to → slice_get edges i ≡ Some e → slice_get edges q ≡ Some f
        → slice_get gone q ≡ Some false → is_beside before mode side e f ≡ false

    -- no edge before this position is left that may come beside the edge at i; the one there shares a lock with it
    pub record IsStart (i : ℕ) (from : Option ℕ) : Type 0 where
      pub passed : NoneBeside i (unwrap_or from (length edges))
      pub shares : IfSome from
          (λ p. (p < length edges)
          × ((e f : Edge) → slice_get edges i ≡ Some e → slice_get edges p ≡ Some f
          → lock_towards (opposite side) f ≡ lock_towards side e))

    -- and the one there may come beside it, or might have before it was gone
    pub record IsHint (i : ℕ) (hint : Option ℕ) : Type 0 where
      pub passed : NoneBeside i (unwrap_or hint (length edges))
      pub fits : IfSome hint
          (λ p. (p < length edges)
          × ((e f : Edge) → slice_get edges i ≡ Some e → slice_get edges p ≡ Some f
          → is_beside before mode side e f ≡ true))

    -- what was found of an edge is a hint, and the edge watches it as long as it is left
    pub record AreHints (hints : Hints) : Type 0 where
      pub long : length hints.found.items ≡ length edges
      pub as_long : length hints.watchers ≡ length edges
      pub users : AreUsers (opposite side) edges [] (length edges) hints.users
      pub chain : AreChained (opposite side) edges 0 hints.chain
      pub each : (i p : ℕ) → slice_get hints.found.items i ≡ Some (Some p) → IsHint i (Some p)
      pub watched : (i p : ℕ) → slice_get hints.found.items i ≡ Some (Some p)
          → slice_get gone p ≡ Some false → Contains (get_or hints.watchers p []) i

    -- whether an edge is left that may come beside the edge at i
    pub record HasBesideAt (i : ℕ) (found : List (Option ℕ)) (has : Bool) : Type 0 where
      pub some : has ≡ true → HasHint gone found i
      pub none : has ≡ false → (e : Edge) → slice_get edges i ≡ Some e
          → ¬ HasBeside before mode edges (IsFlagged gone) side e

  -- on both sides
  pub record AreBothHints (sides : Sides) : Type 0 where
    pub followers : AreHints Follower sides.followers
    pub leaders : AreHints Leader sides.leaders

  -- whether the edge at i is stuck
  pub record TellsStuck (sides : Sides) (i : ℕ) (stuck : Bool) : Type 0 where
    pub yes : stuck ≡ true → IsStuck before mode edges (IsFlagged gone) i
    pub no : stuck ≡ false → slice_get gone i ≡ Some false → (side : Side)
        → HasHint gone (hints_of side sides) i

  -- each edge below a position that isn't gone has a follower and a leader left
  abbrev pub AreSettled : ℕ → Type 0
  AreSettled n =
      (j : ℕ) (e : Edge) (side : Side) → j < n → slice_get edges j ≡ Some e
      → slice_get gone j ≡ Some false → HasBeside before mode edges (IsFlagged gone) side e

-- what is known where these of the edges were taken away
pub record AreTaken (before : Segment → Segment → Bool) (mode : Mode) (edges : List Edge) (size : ℕ)
    (gone : List Bool) (sides : Sides) (waiting : Waiting) (removed : List ℕ) : Type 0 where
  pub flags : AreFlagsOf (length edges) gone removed
  pub hints : AreBothHints before mode edges gone sides
  pub awake : AreAwake gone size sides waiting
  pub in_order : IsTrimOrder before mode edges removed
