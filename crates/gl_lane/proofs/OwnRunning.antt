-- Bodies of a run that are popped one by one.
use Rattle.std.proofs.Common.{◌≡◌, ◌+◌, ◌<◌, ◌≤◌, ◌^◌, ◌++◌, ◌∷◌, [], ℕ, List, length, take, get_or, refl, sym, ap, subst, append_assoc, ◌∙◌, arith}
use Rattle.std.proofs.Math.ListN.{drop_of_length-le}
use Rattle.std.proofs.Math.Seq.{take-append_seam}
use Rattle.std.proofs.lemmas.List.{append-nil, length-append, length-take-le, get_or-take, drop_more}
use mathlib.Core.List.{IsPrefix, cons≢nil}
use Rattle.gl_event.specs.declared.notes.Body.{Body}
use Rattle.gl_event.specs.declared.notes.Note.{Note}
use Rattle.rtrb.specs.Fifo.{Allowed}
use Rattle.gl_lane.specs.bodies.OwnRuns.{notes_after, rest, without, AreTaken, MayCome}

-- what is without its end is what stood before it
pub without_end : (xs ys : List Body) → without ys (xs ++ ys) ≡ xs
without_end xs ys = ap (λ n. take n (xs ++ ys)) (omega (arith, length-append xs ys)) ∙ take-append_seam xs ys

-- nothing is taken away
pub without_none : (xs : List Body) → without [] xs ≡ xs
without_none xs = ap (without []) (sym (append-nil xs)) ∙ without_end xs []

-- the next body of a run, and those behind it
pub rest_from : (popped taken : ℕ) (run : List Body) (d : Body) → popped < taken → taken ≤ length run
    → rest popped taken run ≡ get_or run popped d ∷ rest (popped + 1) taken run
rest_from popped taken run d more fit =
    drop_more (take taken run) popped d (omega (arith, length-take-le taken run fit, more))
    ∙ ap (λ x. x ∷ rest (popped + 1) taken run) (get_or-take taken run popped d more)

-- a run all of which is popped
pub rest_none : (taken : ℕ) (run : List Body) → taken ≤ length run → rest taken taken run ≡ []
rest_none taken run fit = drop_of_length-le (take taken run) (omega (arith, length-take-le taken run fit))

module _ (place popped taken : ℕ) (run received : List Body) (are : AreTaken place popped taken run received) where
  module _ (all : popped ≡ taken) where
    pub none_left : rest popped taken run ≡ []
    none_left = ap (λ n. rest n taken run) all ∙ rest_none taken run are.fit

    -- all that was received is popped, where the whole run is
    pub all_popped : without (rest popped taken run) received ≡ received
    all_popped = ap (λ last. without last received) none_left ∙ without_none received

    pub all_counted : place ≡ length received
    all_counted = are.counted ∙ ap length all_popped

    pub nothing_taken : (more : ℕ) (others : List Body) → more ≡ length others → AreTaken more popped taken run others
    nothing_taken more others many = record {
      within = are.within;
      fit = are.fit;
      last = ap (λ last. without last others ++ last) none_left ∙ append-nil (without [] others) ∙ without_none others;
      counted = many ∙ ap length (sym (ap (λ last. without last others) none_left ∙ without_none others));
      allowed = subst (Allowed MayCome (without (rest popped taken run) others)) (sym none_left) tt;
    }

  module _ (d : Body) (more : popped < taken) where
    received_so : (without (rest popped taken run) received ++ get_or run popped d ∷ []) ++ rest (popped + 1) taken run ≡ received
    received_so =
        append_assoc (without (rest popped taken run) received) (get_or run popped d ∷ []) (rest (popped + 1) taken run)
        ∙ ap (λ ys. without (rest popped taken run) received ++ ys) (sym (rest_from popped taken run d more are.fit))
        ∙ are.last

    -- the next body is popped
    pub one_more : without (rest (popped + 1) taken run) received ≡ without (rest popped taken run) received ++ get_or run popped d ∷ []
    one_more =
        subst (λ all. without (rest (popped + 1) taken run) all ≡ without (rest popped taken run) received ++ get_or run popped d ∷ [])
        received_so
        (without_end (without (rest popped taken run) received ++ get_or run popped d ∷ []) (rest (popped + 1) taken run))

    allowed_so : Allowed MayCome (without (rest popped taken run) received) (get_or run popped d ∷ rest (popped + 1) taken run)
    allowed_so = subst (Allowed MayCome (without (rest popped taken run) received)) (rest_from popped taken run d more are.fit) are.allowed

    pub may_come_next : MayCome (without (rest popped taken run) received) (get_or run popped d)
    may_come_next = allowed_so.0

    pub fits_next : place < 2 ^ 32
    fits_next = omega (arith, are.counted, may_come_next.fits)

    -- the note of the next body, and those behind it
    pub notes_from : (thread : ℕ) (behind : List Body) → notes_after thread place (rest popped taken run ++ behind)
        ≡ record { thread = thread; place = place; body = get_or run popped d } ∷ notes_after thread (place + 1) (rest (popped + 1) taken run ++ behind)
    unfolding notes_after
    notes_from thread behind = ap (λ bodies. notes_after thread place (bodies ++ behind)) (rest_from popped taken run d more are.fit)

    pub still_taken : AreTaken (place + 1) (popped + 1) taken run received
    still_taken = record {
      within = omega (arith, more);
      fit = are.fit;
      last = ap (λ xs. xs ++ rest (popped + 1) taken run) one_more ∙ received_so;
      counted = omega (arith, are.counted, ap length one_more, length-append (without (rest popped taken run) received) (get_or run popped d ∷ []));
      allowed = subst (λ before. Allowed MayCome before (rest (popped + 1) taken run)) (sym one_more) allowed_so.1;
    }

-- a new run
pub taken_anew : (place taken : ℕ) (run received : List Body) → place ≡ length received → taken ≤ length run → Allowed MayCome received (take taken run)
    → AreTaken place 0 taken run (received ++ take taken run)
taken_anew place taken run received many fit allowed = record {
  within = omega arith;
  fit = fit;
  last = ap (λ xs. xs ++ take taken run) (without_end received (take taken run));
  counted = many ∙ ap length (sym (without_end received (take taken run)));
  allowed = subst (λ before. Allowed MayCome before (take taken run)) (sym (without_end received (take taken run))) allowed;
}

-- what nothing begins with is nothing
pub begins_nothing : (xs ys : List Note) → IsPrefix xs ys → ys ≡ [] → xs ≡ []
begins_nothing [] ys h none = refl
begins_nothing (x ∷ xs) ys h none = absurd (cons≢nil (h.1 ∙ none))
