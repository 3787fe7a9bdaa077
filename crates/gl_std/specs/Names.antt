-- The names that a text mentions, by number.
use Rattle.std.specs.Prelude.{◌≡◌, ◌↔◌, ℕ, ◌+◌, ◌^◌, List, [], ◌∷◌, ◌++◌, None, Result, Err, IfOk, OnOk, OnErr, length, position, unwrap_or}
use Rattle.std.specs.Option.{option_map_or}
use Rattle.std.specs.Str.{bytes_eq}
use Rattle.gl_std.specs.declared.names.numbering.NamesFault.{NamesFault}
use Rattle.gl_std.specs.declared.names.numbering.NamesFault.TheVariants.{Full}

-- the names of threads, of locks and of locations: each list in order of first mention
pub record NameLists : Type 0 where
  pub threads : List (List ℕ)
  pub locks : List (List ℕ)
  pub locs : List (List ℕ)

-- the name's number: its place, or the next number where it is new
abbrev pub number_of : List (List ℕ) → List ℕ → ℕ
number_of names name = unwrap_or (position (bytes_eq name) names) (length names)

-- the names, with this one at the end where it is new
abbrev pub with_new : List (List ℕ) → List ℕ → List (List ℕ)
with_new names name =
    option_map_or (λ _. names) (position (bytes_eq name) names) (names ++ name ∷ [])

-- the name is new, and there are as many names as there may be: no number is left
abbrev pub HaveNoNumber : List (List ℕ) → List ℕ → Type 0
HaveNoNumber names name = (position (bytes_eq name) names ≡ None) × (length names + 1 ≡ 2 ^ 32)

-- the name got its number among these names, which it joined where it is new. Else they are as they were, and `Full` says
-- that no number is left: it is answered wherever that is so
pub record HasNumbered (old : List (List ℕ)) (name : List ℕ) (new : List (List ℕ))
    (result : Result ℕ NamesFault) : Type 0 where
  pub number : IfOk result (λ number. number ≡ number_of old name)
  pub names : OnOk result (new ≡ with_new old name)
  pub same : OnErr result (new ≡ old)
  pub full : (result ≡ Err Full) ↔ HaveNoNumber old name
