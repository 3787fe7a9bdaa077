-- Which thread runs the code of a class, where one alone does.
use Rattle.std.specs.Prelude.{◌≡◌, ℕ, ◌<◌, Bool, true, List, slice_get, Option, Some, None}
use Rattle.gl_edges.specs.declared.edge.Edge.{Edge}
use Rattle.gl_grounds.specs.declared.runners.Runner.{Runner}
use Rattle.gl_grounds.specs.declared.runners.Runner.TheVariants.{Nobody, One, Several}

-- an edge of this thread may be of a class that is run so
abbrev pub IsRunBy : ℕ → Option Runner → Type 0
IsRunBy thread None = Unit {0}
IsRunBy thread (Some Nobody) = ⊥
IsRunBy thread (Some (One alone)) = thread ≡ alone
IsRunBy thread (Some Several) = Unit {0}

-- each edge that is kept, before a position, is of a thread that runs its class
abbrev pub AreRunnersBefore : ℕ → List Edge → List ℕ → List Bool → List Runner → Type 0
AreRunnersBefore n edges classes kept runners =
    (i class : ℕ) (e : Edge) → i < n → slice_get kept i ≡ Some true
    → slice_get classes i ≡ Some class → slice_get edges i ≡ Some e
    → IsRunBy e.thread (slice_get runners class)

-- each edge that is kept is of a thread that runs its class
pub record AreRunners (edges : List Edge) (classes : List ℕ) (kept : List Bool)
    (runners : List Runner) : Type 0 where
  pub each : (i class : ℕ) (e : Edge) → slice_get kept i ≡ Some true
      → slice_get classes i ≡ Some class → slice_get edges i ≡ Some e
      → IsRunBy e.thread (slice_get runners class)

-- one and the same thread alone runs both classes
pub record AreRunByOne (runners : List Runner) (one other : ℕ) : Type 0 where
  pub thread : ℕ
  pub of_one : slice_get runners one ≡ Some (One thread)
  pub of_other : slice_get runners other ≡ Some (One thread)

-- so it is with two classes of a front
pub record IsRunTwice (runners : List Runner) (front : List ℕ) : Type 0 where
  pub early : ℕ
  pub late : ℕ
  pub lower : early < late
  pub one : ℕ
  pub other : ℕ
  pub one_at : slice_get front early ≡ Some one
  pub other_at : slice_get front late ≡ Some other
  pub both : AreRunByOne runners one other
