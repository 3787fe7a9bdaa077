-- Signatures of findings, each told from where it begins least, and what listed cycles are compared by.
use Rattle.std.specs.Prelude.{◌≡◌, ℕ, List, length, map, if◌then◌else◌}
use Rattle.std.specs.Cmp.Lexicographic.{slice_cmp}
use Rattle.std.specs.List.{fold, range_with_len}
use Rattle.std.specs.List.Sorted.{IsStrictlySortedBy}
use Rattle.std.specs.Ordering.{nat_cmp, is_le}
use Rattle.gl_edges.specs.declared.edge.Edge.{Edge}
use Rattle.gl_edges.specs.declared.edge.Sample.{Sample}
use Rattle.gl_grounds.specs.Classes.{classes_of}
use Rattle.gl_findings.specs.Findings.{signature_of, turned}
use Rattle.gl_findings.specs.declared.listing.Listing.{Listing}
use Rattle.gl_findings.specs.declared.listing.Listing.TheVariants.{Cycles, Findings}

-- of two lists the one that is no greater, by the first number in which they differ
abbrev pub lesser_list : List ℕ → List ℕ → List ℕ
lesser_list one other = if is_le (slice_cmp nat_cmp one other) then one else other

-- the least of the turns of a signature
abbrev pub least_turn : List ℕ → List ℕ
least_turn signature =
    fold (λ least k. lesser_list least (turned k signature)) signature
    (range_with_len 0 (length signature))

-- the signature of a finding, by the positions of a cycle that shows it, told from where it begins least
abbrev pub told_signature : List (Edge × Sample) → List ℕ → List ℕ
told_signature table positions = least_turn (signature_of table positions)

-- what a listed cycle is compared by: its positions, and where it shows a finding the signature of that
abbrev pub compared_by : Listing → List (Edge × Sample) → List ℕ → List ℕ
compared_by Cycles table positions = positions
compared_by Findings table positions = told_signature table positions

-- what is listed ascends, so that none stands twice: cycles by their positions, and those that show findings by the signatures
abbrev pub Ascend : Listing → List (Edge × Sample) → List (List ℕ) → Type 0
Ascend Cycles table shown = IsStrictlySortedBy (slice_cmp nat_cmp) shown
Ascend Findings table shown =
    IsStrictlySortedBy (slice_cmp nat_cmp) (map (told_signature table) shown)

-- the classes by which signatures are told, where findings are listed
abbrev pub AreClassesFor : Listing → List (Edge × Sample) → List ℕ → Type 0
AreClassesFor Cycles table classes = Unit {0}
AreClassesFor Findings table classes = classes ≡ classes_of table
