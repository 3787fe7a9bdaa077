-- What is known of each thread, one by one.
use Rattle.std.proofs.Common.{◌≡◌, ℕ, ◌<◌, List, ◌∷◌, [], ◌++◌, length, get_or, set, Some, sym, ap, subst, ◌∙◌, inl, inr, arith}
use Rattle.std.specs.Prelude.{slice_get}
use Rattle.std.proofs.lemmas.Bool.{cases_eq, cases_lt}
use Rattle.std.proofs.lemmas.List.{length-set, length_push, get_or-set_same, get_or-set_other}
use Rattle.std.proofs.lemmas.Option.{same_Some, slice_get_within, slice_get-get_or, get_or_from_slice_get}
use Rattle.gl_event.proofs.Depths.{slice_get_before, slice_get_last}
use Rattle.gl_segments.specs.declared.rows.Row.{Row}
use Rattle.gl_segments.specs.bodies.Tables.{Sources}
use Rattle.gl_segments.specs.bodies.Sweeps.{HaveRows, IsRow}

-- what is known of one thread is another
pub rows_set : (steps : Sources) (rows : List Row) (thread : ℕ) (r : Row) → thread < length rows → IsRow steps thread r → HaveRows steps rows → HaveRows steps (set rows thread r)
rows_set steps rows thread r within is so_far t u here =
    let now : get_or (set rows thread r) t u ≡ u = get_or_from_slice_get (set rows thread r) t u u here in
    elim (cases_eq t thread) [
      | inl same ↦
          let that : r ≡ u = sym (get_or-set_same rows thread r u within) ∙ ap (λ i. get_or (set rows thread r) i u) (sym same) ∙ now in
          subst (λ i. IsRow steps i u) (sym same) (subst (IsRow steps thread) that is)
      | inr apart ↦
          let old : get_or rows t u ≡ u = sym (get_or-set_other rows thread t r u apart) ∙ now in
          let inside : t < length rows = let w = slice_get_within (set rows thread r) t u here in let l = length-set rows thread r in omega arith in
          so_far t u (slice_get-get_or rows t u inside ∙ ap Some old)
    ]

-- one more thread
pub rows_push : (steps : Sources) (rows : List Row) (r : Row) → IsRow steps (length rows) r → HaveRows steps rows → HaveRows steps (rows ++ r ∷ [])
rows_push steps rows r is so_far t u here =
    let w = slice_get_within (rows ++ r ∷ []) t u here in
    let l = length_push rows r in
    elim (cases_lt t (length rows)) [
      | inl below ↦ so_far t u (sym (slice_get_before rows (r ∷ []) t below) ∙ here)
      | inr past ↦
          let last : t ≡ length rows = omega arith in
          let that : r ≡ u = same_Some r u (sym (slice_get_last rows r) ∙ ap (slice_get (rows ++ r ∷ [])) (sym last) ∙ here) in
          subst (λ i. IsRow steps i u) (sym last) (subst (IsRow steps (length rows)) that is)
    ]

-- the row that comes next is the one after those that came
pub row_here : (yielded rest : List Row) (r : Row) (all : List Row) → (yielded ++ r ∷ []) ++ rest ≡ all → slice_get all (length yielded) ≡ Some r
row_here yielded rest r all is =
    let one = length_push yielded r in
    ap (λ rs. slice_get rs (length yielded)) (sym is) ∙ slice_get_before (yielded ++ r ∷ []) rest (length yielded) (omega arith) ∙ slice_get_last yielded r
