-- The lines of a text.
use Rattle.std.specs.Prelude.{◌≡◌, ◌≢◌, ℕ, Bool, true, false, ◌&&◌, List, [], ◌∷◌, ◌++◌, Contains, ◌==◌, if◌then◌else◌}
use Rattle.std.specs.List.{list_any, onto_first}

-- the byte that ends a line
abbrev pub LF : ℕ
LF = 10

-- the byte that is dropped just before the end of a line
abbrev pub CR : ℕ
CR = 13

-- the text begins with this byte
abbrev pub begins_with : ℕ → List ℕ → Bool
begins_with byte [] = false
begins_with byte (b ∷ rest) = b == byte

-- the text has no byte
abbrev pub is_empty : List ℕ → Bool
is_empty [] = true
is_empty (b ∷ rest) = false

-- the lines of a text, without what ends them: LF ends a line, and a CR just before LF is dropped
abbrev pub lines : List ℕ → List (List ℕ)
lines [] = []
lines (b ∷ rest) =
    if b == LF then [] ∷ lines rest
    else (if b == CR && begins_with LF rest then lines rest
    else onto_first b (lines rest))

-- the line without the CR at its end, if it has one
abbrev pub without_cr : List ℕ → List ℕ
without_cr [] = []
without_cr (b ∷ rest) = if b == CR && is_empty rest then [] else b ∷ without_cr rest

-- the text up to and with its last LF: the lines that LF has ended
abbrev pub ended_lines : List ℕ → List ℕ
ended_lines [] = []
ended_lines (b ∷ rest) = if list_any (λ x. x == LF) (b ∷ rest) then b ∷ ended_lines rest else []

-- the line ends with CR
abbrev pub EndsWithCR : List ℕ → Type 0
EndsWithCR line = (front : List ℕ) × (line ≡ front ++ CR ∷ [])

-- the text is these lines, each ended by LF or by CR LF, and the last one by nothing instead where it isn't empty;
-- no line holds LF, and none that LF alone ends has CR at its end
pub data HasLines : List ℕ → List (List ℕ) → Type 0 where
  no_line : HasLines [] []
  last_line : (line : List ℕ) → line ≢ [] → ¬ Contains line LF → HasLines line (line ∷ [])
  ended_by_lf : (line rest : List ℕ) (ls : List (List ℕ)) → ¬ Contains line LF → ¬ EndsWithCR line
      → HasLines rest ls → HasLines (line ++ LF ∷ rest) (line ∷ ls)
  ended_by_cr_lf : (line rest : List ℕ) (ls : List (List ℕ)) → ¬ Contains line LF → HasLines rest ls
      → HasLines (line ++ CR ∷ LF ∷ rest) (line ∷ ls)

-- a text has one list of lines
abbrev pub LinesAreUnique : Type 0
LinesAreUnique =
    ((text : List ℕ) → HasLines text (lines text))
    × ((text : List ℕ) (ls : List (List ℕ)) → HasLines text ls → ls ≡ lines text)

-- what follows an LF has lines of its own, whatever stands before it
abbrev pub LinesFollowLines : Type 0
LinesFollowLines =
    (front rest : List ℕ) → lines (front ++ LF ∷ rest) ≡ lines (front ++ LF ∷ []) ++ lines rest
