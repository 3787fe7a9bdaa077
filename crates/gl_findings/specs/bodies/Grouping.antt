-- What is known of the first cycle of each signature, as cycles are put to those of theirs.
use Rattle.std.specs.Prelude.{◌≡◌, ℕ, Bool, ◌&&◌, List, filter, slice_get}
use Rattle.std.specs.BTreeMap as tree
use Rattle.std.specs.BTreeMap.{BTreeMap}
use Rattle.std.specs.Cmp.Lexicographic.{slice_cmp}
use Rattle.std.specs.Global.{Vec}
use Rattle.std.specs.List.{filter_map}
use Rattle.std.specs.Option.{option_map}
use Rattle.std.specs.Ordering.{nat_cmp}
use Rattle.gl_findings.specs.Findings.{begins_least, is_turn}

-- the signature is that of the edges at these positions, told from where it begins least
abbrev pub is_told : List ℕ → List ℕ → List ℕ → Bool
is_told classes signature positions =
    begins_least signature && is_turn signature (filter_map (slice_get classes) positions)

-- the map has for each signature the first of these cycles, where there is one
pub record AreFirsts (classes : List ℕ) (cycles : List (List ℕ))
    (firsts : BTreeMap (List ℕ) (Vec ℕ)) : Type 0 where
  pub ordered : tree.IsOrdered (slice_cmp nat_cmp) firsts
  pub first : (signature : List ℕ)
      → option_map (λ cycle. cycle.items) (tree.get (slice_cmp nat_cmp) firsts signature)
      ≡ slice_get (filter (is_told classes signature) cycles) 0
