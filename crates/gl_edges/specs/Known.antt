-- Edges that a thread made before, and of which it is known that they are there already.
use Rattle.std.specs.Prelude.{◌≡◌, ◌⊎◌, ℕ, ◌<◌, List, ◌++◌, Contains}
use Rattle.gl_edges.specs.declared.edge.Edge.{Edge}
use Rattle.gl_edges.specs.declared.edge.Sample.{Sample}

-- each of these edges stands among the pairs, with a sample before this place
abbrev pub AreBefore : List Edge → List (Edge × Sample) → ℕ → Type 0
AreBefore edges pairs place =
    (edge : Edge) → Contains edges edge → (sample : Sample) × Contains pairs (edge, sample)
    × (sample.place < place)

-- the edge of each of these pairs is known
abbrev pub AreKnown : List Edge → List (Edge × Sample) → Type 0
AreKnown known pairs =
    (edge : Edge) (sample : Sample) → Contains pairs (edge, sample) → Contains known edge

-- the pairs were put behind those made; or none was, and all their edges are known
abbrev pub AreAddedUnlessKnown : List Edge → List (Edge × Sample) → List (Edge × Sample)
    → List (Edge × Sample) → Type 0
AreAddedUnlessKnown known pairs made more =
    (more ≡ made ++ pairs) ⊎ ((more ≡ made) × AreKnown known pairs)

-- what is known later was known before, or is the edge of one of these pairs
abbrev pub AreLearned : List Edge → List (Edge × Sample) → List Edge → Type 0
AreLearned known pairs later =
    (edge : Edge) → Contains later edge
    → Contains known edge ⊎ ((sample : Sample) × Contains pairs (edge, sample))
