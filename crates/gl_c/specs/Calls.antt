-- What a call does with a handle, and with a buffer, and what it answers.
use Rattle.std.specs.Prelude.{◌≡◌, ℕ, ◌==◌, ◌≤◌, ◌<◌, List, [], ◌∷◌, ◌++◌, Option, Some, None, true, length, drop}
use Rattle.std.specs.List.{list_any}
use Rattle.gl_c.specs.declared.codes.TheConstants.{OK, MEMORY, MISUSE}

-- the answer is one of these codes
abbrev pub IsOneOf : ℕ → List ℕ → Type 0
IsOneOf answer codes = list_any (λ code. code == answer) codes ≡ true

-- what stands against a call is answered, if something does; and else that it was done, or that memory was refused
abbrev pub IsCodeFor : Option ℕ → ℕ → Type 0
IsCodeFor (Some code) answer = answer ≡ code
IsCodeFor None answer = IsOneOf answer (OK ∷ MEMORY ∷ [])

-- a handle that is of something stays one, and what it is of changes so; and one of nothing stays one, and is answered so
abbrev pub IsCall : {X : Type 0} → (X → X → Type 0) → Type 0 → Option X → Option X → Type 0
IsCall Changes refused None None = refused
IsCall Changes refused None (Some new) = ⊥
IsCall Changes refused (Some old) None = ⊥
IsCall Changes refused (Some old) (Some new) = Changes old new

-- the text begins the buffer, if all of it fits, and the rest of the buffer is as it was. Its length is told
pub record IsGiven (text old new : List ℕ) (told : ℕ) : Type 0 where
  pub told_is : told ≡ length text
  pub fits : length text ≤ length old → new ≡ text ++ drop (length text) old
  pub else_same : length old < length text → new ≡ old

-- the text is given; or nothing is written, for want of memory
pub record IsGiving (text old : List ℕ) (was answer : ℕ) (new : List ℕ) (told : ℕ) : Type 0 where
  pub answers : IsOneOf answer (OK ∷ MEMORY ∷ [])
  pub given : answer ≡ OK → IsGiven text old new told
  pub same : (answer ≡ OK → ⊥) → (new ≡ old) × (told ≡ was)

-- the text of what the two handles are of is given; and where one is of nothing, nothing is written
abbrev pub IsGivingOf : {X Y : Type 0} → (X → Y → List ℕ) → Option X → Option Y → List ℕ → ℕ → ℕ
    → List ℕ → ℕ → Type 0
IsGivingOf text_of (Some x) (Some y) old was answer new told =
    IsGiving (text_of x y) old was answer new told
IsGivingOf text_of None y old was answer new told = (answer ≡ MISUSE) × (new ≡ old) × (told ≡ was)
IsGivingOf text_of (Some x) None old was answer new told =
    (answer ≡ MISUSE) × (new ≡ old) × (told ≡ was)
