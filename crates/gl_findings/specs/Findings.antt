-- Findings: of all cycles what a reader has to look at. Cycles of one signature, which is where their edges were made, are one finding.
-- The word is that of deadlock signatures: Jula, Tralamazza, Zamfir and Candea, Deadlock Immunity, OSDI 2008.
use Rattle.std.specs.Prelude.{ℕ, Bool, nat_eq, List, ◌++◌, length, filter, take, drop, slice_get}
use Rattle.std.specs.List.{filter_map, flat_map, list_all, list_any, range_with_len}
use Rattle.std.specs.Cmp.Lexicographic.{pointwise, slice_cmp}
use Rattle.std.specs.Ordering.{nat_cmp, is_le}
use Rattle.gl_event.specs.declared.events.Segment.{Segment}
use Rattle.gl_edges.specs.declared.edge.Edge.{Edge}
use Rattle.gl_edges.specs.declared.edge.Sample.{Sample}
use Rattle.gl_filters.specs.declared.query.Mode.{Mode}
use Rattle.gl_filters.specs.Picked.{edges_of_table}
use Rattle.gl_cycles.specs.AllCycles.{all_cycles, lists_below}
use Rattle.gl_grounds.specs.Classes.{classes_of}

-- the signature of a cycle: the classes of its edges
abbrev pub signature_of : List (Edge × Sample) → List ℕ → List ℕ
signature_of table positions = filter_map (slice_get (classes_of table)) positions

-- a signature that is told from its place k on, round
abbrev pub turned : ℕ → List ℕ → List ℕ
turned k signature = drop k signature ++ take k signature

-- the two are one signature, wherever each begins
abbrev pub is_turn : List ℕ → List ℕ → Bool
is_turn signature other =
    list_any (λ k. pointwise nat_eq (turned k signature) other)
    (range_with_len 0 (length signature))

-- the signature begins where it is to be told from: told from any other place it is no less
abbrev pub begins_least : List ℕ → Bool
begins_least signature =
    list_all (λ k. is_le (slice_cmp nat_cmp signature (turned k signature)))
    (range_with_len 0 (length signature))

module _ (before : Segment → Segment → Bool) (mode : Mode) (len : ℕ)
    (table : List (Edge × Sample)) where
  -- the first cycle of a signature, where there is one
  abbrev pub first_with : List ℕ → List (List ℕ)
  first_with signature =
      take 1 (filter (λ positions. is_turn signature (signature_of table positions))
      (all_cycles before mode len (edges_of_table table)))

  -- the findings: for each signature, in lexicographic order, the first of its cycles
  unfoldable pub findings : List (List ℕ)
  findings = flat_map first_with (filter begins_least (lists_below (length table) len))
