-- Counts with zeros after them.
use Rattle.std.proofs.Common.{◌≡◌, ℕ, ◌-◌, List, ◌++◌, length, replicate, refl, sym, ◌∙◌, inl, inr}
use Rattle.std.specs.Prelude.{slice_index}
use Rattle.std.proofs.lemmas.Bool.{cases_lt}
use Rattle.std.proofs.lemmas.List.{get_or-append_right, get_or_append_left, get_or_past}
use Rattle.gl_segments.proofs.Clocking.{none_counted}

-- zeros after counts add none
pub padded_counts : (front : List ℕ) (n thread : ℕ) → slice_index (front ++ replicate n 0) thread ≡ slice_index front thread
padded_counts front n thread =
    elim (cases_lt thread (length front)) [
      | inl below ↦ get_or_append_left front (replicate n 0) 0 thread below
      | inr past ↦ get_or-append_right front (replicate n 0) (length front) thread 0 refl past ∙ none_counted n (thread - length front) ∙ sym (get_or_past front thread 0 past)
    ]
