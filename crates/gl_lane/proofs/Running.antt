-- Notes of a run that are popped one by one.
use Rattle.std.proofs.Common.{◌≡◌, ◌+◌, ◌<◌, ◌≤◌, ◌++◌, ◌∷◌, [], ℕ, List, length, take, get_or, refl, sym, ap, subst, append_assoc, ◌∙◌, arith}
use Rattle.std.specs.Prelude.{All}
use Rattle.std.proofs.Math.Seq.{take-append_seam}
use Rattle.std.proofs.lemmas.List.{length-append, length-take-le, get_or-take, drop_more}
use Rattle.std.proofs.lemmas.List.Elements.{All-head, All-tail, All-nil, All-cons}
use mathlib.Core.List.{IsPrefix, cons≢nil}
use Rattle.gl_event.specs.declared.notes.Note.{Note}
use Rattle.rtrb.specs.Fifo.{Allowed}
use Rattle.gl_lane.specs.Rule.{IsPlaced}
use Rattle.gl_lane.specs.bodies.Runs.{rest, without, AreTaken}

-- what is without its end is what stood before it
pub without_end : (xs ys : List Note) → without ys (xs ++ ys) ≡ xs
without_end xs ys = ap (λ n. take n (xs ++ ys)) (omega (arith, length-append xs ys)) ∙ take-append_seam xs ys

-- what each item obeys whatever came before it
pub all_allowed : (P : Note → Type 0) (before xs : List Note) → Allowed (λ _ note. P note) before xs → All P xs
all_allowed P before [] h = All-nil P
all_allowed P before (x ∷ xs) h = All-cons P x xs h.0 (all_allowed P (before ++ x ∷ []) xs h.1)

-- the next note of a run, and those behind it
pub rest_from : (popped taken : ℕ) (run : List Note) (d : Note) → popped < taken → taken ≤ length run
    → rest popped taken run ≡ get_or run popped d ∷ rest (popped + 1) taken run
rest_from popped taken run d more fit =
    drop_more (take taken run) popped d (omega (arith, length-take-le taken run fit, more))
    ∙ ap (λ x. x ∷ rest (popped + 1) taken run) (get_or-take taken run popped d more)

module _ (popped taken : ℕ) (run received : List Note) (are : AreTaken popped taken run received) where
  module _ (d : Note) (more : popped < taken) where
    received_so : (without (rest popped taken run) received ++ get_or run popped d ∷ []) ++ rest (popped + 1) taken run ≡ received
    received_so =
        append_assoc (without (rest popped taken run) received) (get_or run popped d ∷ []) (rest (popped + 1) taken run)
        ∙ ap (λ ys. without (rest popped taken run) received ++ ys) (sym (rest_from popped taken run d more are.fit))
        ∙ are.last

    -- the next note is popped
    pub one_more : without (rest (popped + 1) taken run) received ≡ without (rest popped taken run) received ++ get_or run popped d ∷ []
    one_more =
        subst (λ all. without (rest (popped + 1) taken run) all ≡ without (rest popped taken run) received ++ get_or run popped d ∷ [])
        received_so
        (without_end (without (rest popped taken run) received ++ get_or run popped d ∷ []) (rest (popped + 1) taken run))

    all_placed : All IsPlaced (get_or run popped d ∷ rest (popped + 1) taken run)
    all_placed = subst (All IsPlaced) (rest_from popped taken run d more are.fit) are.placed

    pub is_placed : IsPlaced (get_or run popped d)
    is_placed = All-head IsPlaced (get_or run popped d) (rest (popped + 1) taken run) all_placed

    pub still_taken : AreTaken (popped + 1) taken run received
    still_taken = record {
      within = omega (arith, more);
      fit = are.fit;
      last = ap (λ xs. xs ++ rest (popped + 1) taken run) one_more ∙ received_so;
      placed = All-tail IsPlaced (get_or run popped d) (rest (popped + 1) taken run) all_placed;
    }

-- a new run
pub taken_anew : (taken : ℕ) (run received : List Note) → taken ≤ length run → Allowed (λ _ note. IsPlaced note) received (take taken run)
    → AreTaken 0 taken run (received ++ take taken run)
taken_anew taken run received fit allowed = record {
  within = omega arith;
  fit = fit;
  last = ap (λ xs. xs ++ take taken run) (without_end received (take taken run));
  placed = all_allowed IsPlaced received (take taken run) allowed;
}

-- what nothing begins with is nothing
pub begins_nothing : (xs ys : List Note) → IsPrefix xs ys → ys ≡ [] → xs ≡ []
begins_nothing [] ys h none = refl
begins_nothing (x ∷ xs) ys h none = absurd (cons≢nil (h.1 ∙ none))
