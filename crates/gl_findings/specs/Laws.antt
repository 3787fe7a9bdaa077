-- What holds of findings: none is missed, each is shown by a cycle, and none is told twice.
use Rattle.std.specs.Prelude.{◌≡◌, ℕ, Bool, true, List, Contains, AllPairs}
use Rattle.gl_event.specs.declared.events.Segment.{Segment}
use Rattle.gl_edges.specs.declared.edge.Edge.{Edge}
use Rattle.gl_edges.specs.declared.edge.Sample.{Sample}
use Rattle.gl_filters.specs.declared.query.Mode.{Mode}
use Rattle.gl_filters.specs.Picked.{edges_of_table}
use Rattle.gl_cycles.specs.AllCycles.{all_cycles}
use Rattle.gl_findings.specs.Findings.{begins_least, is_turn, signature_of, findings}

-- the signature is that of the edges at these positions, told from where it begins least
pub record IsToldBy (table : List (Edge × Sample)) (positions signature : List ℕ) : Type 0 where
  pub begins : begins_least signature ≡ true
  pub turn : is_turn signature (signature_of table positions) ≡ true

-- the edges at these positions and at those are told by one signature
pub record AreOneFinding (table : List (Edge × Sample)) (positions others : List ℕ) : Type 0 where
  pub signature : List ℕ
  pub one : IsToldBy table positions signature
  pub other : IsToldBy table others signature

-- each cycle is one finding with a cycle that is shown
abbrev pub NoneIsMissed : (Segment → Segment → Bool) → Mode → ℕ → List (Edge × Sample) → Type 0
NoneIsMissed before mode len table =
    (positions : List ℕ) → Contains (all_cycles before mode len (edges_of_table table)) positions
    → (shown : List ℕ) × Contains (findings before mode len table) shown
    × AreOneFinding table shown positions

-- what is shown is a cycle
abbrev pub EachIsCycle : (Segment → Segment → Bool) → Mode → ℕ → List (Edge × Sample) → Type 0
EachIsCycle before mode len table =
    (shown : List ℕ) → Contains (findings before mode len table) shown
    → Contains (all_cycles before mode len (edges_of_table table)) shown

-- no two that are shown are one finding
abbrev pub NoneIsTwice : (Segment → Segment → Bool) → Mode → ℕ → List (Edge × Sample) → Type 0
NoneIsTwice before mode len table =
    AllPairs (λ one other. ¬ AreOneFinding table one other) (findings before mode len table)
