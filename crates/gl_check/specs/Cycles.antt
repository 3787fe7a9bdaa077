-- Listed cycles beside the edges of a trace: which cycles they are, and the first fault.
use Rattle.std.specs.Prelude.{◌≡◌, ◌≢◌, ℕ, ◌-◌, Bool, List, length, map, take, slice_get, Some, IfSome}
use Rattle.std.specs.Cmp.Lexicographic.{slice_cmp}
use Rattle.std.specs.List.{AllZip}
use Rattle.std.specs.Ordering.{nat_cmp}
use Rattle.std.specs.declared.cmp.Ordering.TheVariants.{Less}
use Rattle.serde_json.specs.Data.{Data}
use Rattle.gl_event.specs.declared.events.Segment.{Segment}
use Rattle.gl_std.specs.Names.{NameLists}
use Rattle.gl_edges.specs.declared.edge.Edge.{Edge}
use Rattle.gl_edges.specs.declared.edge.Sample.{Sample}
use Rattle.gl_filters.specs.Asked.{Asked}
use Rattle.gl_filters.specs.Picked.{edges_of_table, picked}
use Rattle.gl_filters.specs.Verdicts.{IsVerdict}
use Rattle.gl_filters.specs.declared.verdict.Verdict.TheVariants.{Valid}
use Rattle.gl_findings.specs.declared.listing.Listing.{Listing}
use Rattle.gl_check.specs.Edges.{NameEdges, IsNoEdge}
use Rattle.gl_check.specs.Shape.{listing_in}
use Rattle.gl_check.specs.Signatures.{Ascend, compared_by}
use Rattle.gl_check.specs.declared.fields.Format.{Format}
use Rattle.gl_check.specs.declared.fields.Format.TheVariants.{One}
use Rattle.gl_check.specs.declared.faults.CheckFault.{CheckFault}
use Rattle.gl_check.specs.declared.faults.CheckFault.TheVariants.{Json, Shape, Inconsistent, Table, Edge as AnEdge, Verdict, Order, Trim, Memory}

-- the numbers are above the last of these, by the first in which they differ
abbrev pub IsGreaterThanLast : List (List ℕ) → List ℕ → Type 0
IsGreaterThanLast lists numbers =
    IfSome (slice_get lists (length lists - 1)) (λ last. slice_cmp nat_cmp last numbers ≡ Less)

-- the cycle at these positions is above the last of those found: by its positions, and where findings are listed by their signatures
abbrev pub IsAbove : Listing → List (Edge × Sample) → List (List ℕ) → List ℕ → Type 0
IsAbove listing table found positions =
    IsGreaterThanLast (map (compared_by listing table) found) (compared_by listing table positions)

module _ (format : Format) (names : NameLists) (table : List (Edge × Sample)) where
  -- the first of these that is the JSON of no edge is the one at this place
  pub record IsFirstStrange (ds : List Data) (place : ℕ) : Type 0 where
    pub d : Data
    pub there : slice_get ds place ≡ Some d
    pub strange : IsNoEdge names table d
    -- those before it are edges
    pub positions : List ℕ
    pub before : NameEdges format names table (take place ds) positions

module _ (format : Format) (names : NameLists) (table : List (Edge × Sample))
    (before : Segment → Segment → Bool) (asked : Asked) where
  -- these name the edges at these positions, and the edges are a cycle that was asked for
  pub record IsCycleOf (ds : List Data) (positions : List ℕ) : Type 0 where
    pub edges : NameEdges format names table ds positions
    pub valid : IsVerdict before asked (picked (edges_of_table table) positions) Valid

  -- so it is with each of these, and they ascend
  pub record AreCyclesOf (cycles : List (List Data)) (found : List (List ℕ)) : Type 0 where
    pub each : AllZip IsCycleOf cycles found
    pub ascend : Ascend (listing_in format) table found

  -- the fault is that of the listed cycle with this number, which comes after those found
  abbrev pub IsFaultOf : ℕ → List (List ℕ) → List Data → CheckFault → Type 0
  IsFaultOf number found ds (AnEdge i k) =
      (format ≡ One) × (i ≡ number) × IsFirstStrange format names table ds k
  IsFaultOf number found ds (Verdict i verdict) =
      (i ≡ number) × ((positions : List ℕ) × NameEdges format names table ds positions
      × IsVerdict before asked (picked (edges_of_table table) positions) verdict
      × (verdict ≢ Valid))
  IsFaultOf number found ds (Order i) =
      (i ≡ number) × ((positions : List ℕ) × IsCycleOf ds positions
      × (¬ IsAbove (listing_in format) table found positions))
  IsFaultOf number found ds Memory = Unit {0}
  IsFaultOf number found ds Json = ⊥
  IsFaultOf number found ds Shape = ⊥
  IsFaultOf number found ds (Inconsistent at ring) = ⊥
  IsFaultOf number found ds (Table k) = ⊥
  IsFaultOf number found ds (Trim k) = ⊥

  -- the fault is that of the first listed cycle that has one
  pub record IsFirstFault (cycles : List (List Data)) (fault : CheckFault) : Type 0 where
    pub number : ℕ
    pub ds : List Data
    pub there : slice_get cycles number ≡ Some ds
    -- those before it are cycles
    pub found : List (List ℕ)
    pub before_it : AreCyclesOf (take number cycles) found
    pub is : IsFaultOf number found ds fault
