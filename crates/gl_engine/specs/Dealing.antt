-- The edges that a stream makes, and how they are dealt to shards.
use Rattle.std.specs.Prelude.{◌≡◌, ℕ, Bool, false, List, [], ◌∷◌, ◌++◌, map}
use Rattle.std.specs.List.{range_with_len}
use Rattle.gl_event.specs.declared.notes.Note.{Note}
use Rattle.gl_edges.specs.Edges.{once}
use Rattle.gl_edges.specs.Laws.{AreAmong}
use Rattle.gl_edges.specs.declared.edge.Edge.{Edge}
use Rattle.gl_edges.specs.declared.edge.Sample.{Sample}
use Rattle.gl_intake.specs.Stream.{events_of}
use Rattle.gl_shards.specs.Tables.{of_shard}
use Rattle.gl_world.specs.Machine.{edges_due}

-- the edges that a note makes which joins these
abbrev pub edges_of_next : List Note → Note → List (Edge × Sample)
edges_of_next before note =
    edges_due note.thread (events_of note.thread (before ++ note ∷ [])) note.place note.body

-- the edges that these notes make, one note after the other, after those before
abbrev pub made_after : List Note → List Note → List (Edge × Sample)
made_after before [] = []
made_after before (note ∷ notes) =
    edges_of_next before note ++ made_after (before ++ note ∷ []) notes

-- the edges that the notes of a stream make, in its order
unfoldable pub made_by : List Note → List (Edge × Sample)
made_by stream = made_after [] stream

-- of the edges made these are due to be shipped: all of them; or, where repeats are spared, some of them, among which is each edge with its
-- least sample
pub record AreDue (spares : Bool) (made due : List (Edge × Sample)) : Type 0 where
  pub all : spares ≡ false → due ≡ made
  pub made_are : AreAmong due made
  pub table : once due ≡ once made

-- the pairs, dealt to so many shards: to each those of its edges, in their order
unfoldable pub dealt : ℕ → List (Edge × Sample) → List (List (Edge × Sample))
dealt shards pairs = map (of_shard shards pairs) (range_with_len 0 shards)
