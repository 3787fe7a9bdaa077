-- Edges that a run makes, but for those of acquires that their thread made before.
use Rattle.std.specs.Prelude.{◌≡◌, ◌≢◌, ◌⊎◌, ℕ, true, List, [], ◌++◌, length, Some, slice_get, Contains}
use Rattle.gl_event.specs.declared.notes.Note.{Note}
use Rattle.gl_edges.specs.declared.edge.Edge.{Edge}
use Rattle.gl_edges.specs.declared.edge.Sample.{Sample}
use Rattle.gl_edges.specs.Known.{AreBefore, AreKnown}
use Rattle.gl_intake.specs.Stream.{events_of}
use Rattle.gl_engine.specs.Dealing.{made_by, AreDue}
use Rattle.gl_engine.specs.declared.making.Making.{Making}

-- the edges of the thread's acquires are known
abbrev pub Knows : Making → ℕ → List Edge → Type 0
Knows making thread known = slice_get making.acquires.items thread ≡ Some known

-- of no thread an edge is known
abbrev pub NothingIsKnown : Making → Type 0
NothingIsKnown making = (thread : ℕ) (known : List Edge) → Knows making thread known → known ≡ []

-- these edges are all known of the thread, and repeats are spared
pub record AreSpared (making : Making) (thread : ℕ) (pairs : List (Edge × Sample)) : Type 0 where
  pub spares : making.spares ≡ true
  pub known : List Edge
  pub its : Knows making thread known
  pub all : AreKnown known pairs

-- what is known of a thread now was known before, or is the edge of one of these pairs, if they are its own
pub record IsLearned (making : Making) (thread : ℕ) (pairs : List (Edge × Sample)) (other : ℕ)
    (later : List Edge) : Type 0 where
  pub known : List Edge
  pub before : Knows making other known
  pub each : (edge : Edge) → Contains later edge → Contains known edge
      ⊎ ((thread ≡ other) × (sample : Sample) × Contains pairs (edge, sample))

-- what is known of any thread now was known before, and is of another thread than this one
abbrev pub HasForgotten : ℕ → Making → Making → Type 0
HasForgotten thread making more =
    (other : ℕ) (later : List Edge) → Knows more other later
    → (known : List Edge) × Knows making other known
    × ((edge : Edge) → Contains later edge → (thread ≢ other) × Contains known edge)

-- the pairs, which the thread made, were put behind those made, or are spared
pub record HasAdded (thread : ℕ) (pairs : List (Edge × Sample)) (making more : Making)
    : Type 0 where
  pub spares : more.spares ≡ making.spares
  pub added : (more.made.items ≡ making.made.items ++ pairs)
      ⊎ ((more.made.items ≡ making.made.items) × AreSpared making thread pairs)
  pub learned : (other : ℕ) (later : List Edge) → Knows more other later
      → IsLearned making thread pairs other later

-- each edge that is known of a thread was made by its notes in the stream
abbrev pub NotesMade : List Note → Making → Type 0
NotesMade stream making =
    (thread : ℕ) (known : List Edge) → Knows making thread known
    → AreBefore known (made_by stream) (length (events_of thread stream))

-- the edges of the stream were made, and none was shipped yet
pub record IsMadeOf (stream : List Note) (making : Making) : Type 0 where
  pub due : AreDue making.spares (made_by stream) making.made.items
  pub notes : NotesMade stream making

-- the edges of the notes that came were added to those made: beside any that were shipped, these
-- are due of all that the notes make, if they were before
pub record AddsEdges (before : List Note) (making : Making) (after : List Note) (more : Making)
    : Type 0 where
  pub due : (shipped : List (Edge × Sample))
      → AreDue making.spares (made_by before) (shipped ++ making.made.items)
      → AreDue making.spares (made_by after) (shipped ++ more.made.items)
  pub notes : NotesMade after more
  pub spares : more.spares ≡ making.spares
