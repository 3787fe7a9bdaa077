-- The notes of each thread in turn.
use Rattle.std.proofs.Common.{◌≡◌, ℕ, ◌+◌, ◌-◌, ◌<◌, ◌≤◌, List, [], ◌++◌, length, cond, eqb, Bool, false, refl, sym, ap, subst, arith, inl, inr, get_or, None, ◌∙◌}
use Rattle.std.specs.Prelude.{All, AllPairs, count_by, option_and_then}
use Rattle.std.proofs.lemmas.Bool.{cases_lt, ne_eqb}
use Rattle.std.proofs.lemmas.List.{get_or_append_left, get_or-append_right, length-append}
use Rattle.std.proofs.lemmas.List.Elements.{All-append, All-nil}
use Rattle.std.proofs.lemmas.List.Sums.{count_by-le-length, sum_by-append, sum_by-le}
use Rattle.gl_event.specs.declared.notes.Note.{Note}
use Rattle.std.proofs.lemmas.Option.{slice_get_past}
use Rattle.gl_engine.specs.Collecting.{Collecting, Pulling}
use Rattle.gl_c.specs.Pulling.{both, ArePulled, AreInTurns, AreInTurnsBelow, AreOfThread, broken_at, AreOthersSame, IsLaneEnd}
use Rattle.gl_c.specs.declared.pulling.PulledCount.{PulledCount}
use Rattle.gl_c.proofs.Counts.{total_counted}
use Rattle.gl_c.proofs.Pulls.{pulled_more}

-- pairs within either list, and from one to the other
AllPairs-append : {X : Type 0} (R : X → X → Type 0) (xs ys : List X) → AllPairs R xs → AllPairs R ys
    → ((i j : ℕ) (d : X) → i < length xs → j < length ys → R (get_or xs i d) (get_or ys j d)) → AllPairs R (xs ++ ys)
AllPairs-append R xs ys left right across i j d before within =
    elim (cases_lt j (length xs)) [
      | inl in_left ↦
          let first : i < length xs = omega arith in
          subst (λ a. R a (get_or (xs ++ ys) j d)) (sym (get_or_append_left xs ys d i first)) (subst (λ b. R (get_or xs i d) b) (sym (get_or_append_left xs ys d j in_left)) (left i j d before in_left))
      | inr in_right ↦
          let short : j < length xs + length ys = omega (arith, within, length-append xs ys) in
          let its : get_or (xs ++ ys) j d ≡ get_or ys (j - length xs) d = get_or-append_right xs ys (length xs) j d refl in_right in
          elim (cases_lt i (length xs)) [
            | inl first ↦
                subst (λ b. R (get_or (xs ++ ys) i d) b) (sym its)
                (subst (λ a. R a (get_or ys (j - length xs) d)) (sym (get_or_append_left xs ys d i first)) (across i (j - length xs) d first (omega arith)))
            | inr second ↦
                subst (λ b. R (get_or (xs ++ ys) i d) b) (sym its)
                (subst (λ a. R a (get_or ys (j - length xs) d)) (sym (get_or-append_right xs ys (length xs) i d refl second)) (right (i - length xs) (j - length xs) d (omega arith) (omega arith)))
          ]
    ]

abbrev of_thread : ℕ → Note → Bool
of_thread thread note = eqb note.thread thread

-- none of the notes is of another thread
count_none : (thread : ℕ) (notes : List Note) → ((k : ℕ) (d : Note) → k < length notes → (get_or notes k d).thread ≡ thread → ⊥) → count_by (of_thread thread) notes ≡ 0
count_none thread notes others =
    let none_each : All (λ (note : Note). cond (of_thread thread note) 1 0 ≤ 0) notes = λ k d within.
    (let no : of_thread thread (get_or notes k d) ≡ false = ne_eqb _ _ (others k d within) in
    subst (λ (b : Bool). cond b 1 0 ≤ 0) (sym no) (omega arith)) in
    omega (arith, sum_by-le (λ (note : Note). cond (of_thread thread note) 1 0) 0 notes none_each)

-- the next thread's notes, of which there are no more than a ring holds
module _ (ring number : ℕ) (xs ys : List Note) (turns : AreInTurnsBelow ring number xs) (own : AreOfThread number ys) (few : length ys ≤ ring) where
  joined_count : (thread : ℕ) → count_by (of_thread thread) (xs ++ ys) ≡ count_by (of_thread thread) xs + count_by (of_thread thread) ys
  joined_count thread = sum_by-append (λ (note : Note). cond (of_thread thread note) 1 0) xs ys

  count_fits : (thread : ℕ) → count_by (of_thread thread) (xs ++ ys) ≤ ring
  count_fits thread =
      elim (cases_lt thread number) [
        | inl earlier ↦
            let none = count_none thread ys (λ k d within same. (let its = own k d within in omega arith)) in
            omega (arith, joined_count thread, none, turns.in_turns.none_more thread)
        | inr later ↦
            let none = count_none thread xs (λ k d within same. (let its = turns.below k d within in omega arith)) in
            omega (arith, joined_count thread, none, count_by-le-length (of_thread thread) ys)
      ]

  pub next_turn : AreInTurnsBelow ring (number + 1) (xs ++ ys)
  next_turn = record {
    in_turns = record {
      in_turn = AllPairs-append (λ (a b : Note). a.thread ≤ b.thread) xs ys turns.in_turns.in_turn
          (λ i j d before within. (let i_its = own i d (omega arith) in let j_its = own j d within in omega arith))
          (λ i j d first second. (let earlier = turns.below i d first in let its = own j d second in omega arith));
      none_more = count_fits;
    };
    below = All-append (λ (note : Note). note.thread < number + 1) xs ys
        (λ k d within. (let earlier = turns.below k d within in omega arith))
        (λ k d within. (let its = own k d within in omega arith));
  }

pub no_turns : (ring : ℕ) → AreInTurnsBelow ring 0 []
no_turns ring = record {
  in_turns = record { in_turn = λ i j d before within. absurd (omega arith); none_more = λ thread. omega arith };
  below = All-nil (λ (note : Note). note.thread < 0);
}

-- the pulls of one thread after those of the threads before it
pub next_pulls : (ring number : ℕ) (a b c : Collecting) (some more all : PulledCount) → ArePulled (AreInTurnsBelow ring number) a b some → ArePulled (AreOfThread number) b c more → more.events + more.ended ≤ ring
    → all ≡ both some more → ArePulled (AreInTurnsBelow ring (number + 1)) a c all
next_pulls ring number a b c some more all first then few sums =
    let short : length then.notes ≤ ring = omega (arith, total_counted then.notes, ap (λ (p : PulledCount). p.events) then.count_is, ap (λ (p : PulledCount). p.ended) then.count_is) in
    let own : ArePulled (λ (notes : List Note). AreOfThread number notes × (length notes ≤ ring)) b c more = record { still = then.still; notes = then.notes; theirs = (then.theirs, short); joined = then.joined; count_is = then.count_is } in
    pulled_more (AreInTurnsBelow ring number) (λ (notes : List Note). AreOfThread number notes × (length notes ≤ ring)) (AreInTurnsBelow ring (number + 1))
    (λ xs ys turns theirs. next_turn ring number xs ys turns theirs.0 theirs.1) a b c some more all first own sums

-- the notes are of the threads in turn, however far they have come
pub turns_of : (ring number : ℕ) (a b : Collecting) (count : PulledCount) → ArePulled (AreInTurnsBelow ring number) a b count → ArePulled (AreInTurns ring) a b count
turns_of ring number a b count pulled = record { still = pulled.still; notes = pulled.notes; theirs = pulled.theirs.in_turns; joined = pulled.joined; count_is = pulled.count_is }

-- the lanes of the threads so far aren't broken after the next thread's pulls
pub whole_next : (number : ℕ) (old new : Collecting) → ((t : ℕ) → t < number → broken_at old t ≡ None) → AreOthersSame number old new → broken_at new number ≡ None
    → (t : ℕ) → t < number + 1 → broken_at new t ≡ None
whole_next number old new before others here t below =
    elim (cases_lt t number) [
      | inl earlier ↦ others t (λ same. omega arith) ∙ before t earlier
      | inr last ↦ let is : t ≡ number = omega arith in subst (λ (k : ℕ). broken_at new k ≡ None) (sym is) here
    ]

-- where no thread's lane is broken, none is
pub whole_all : (threads : ℕ) (c : Collecting) → length c.inputs ≤ threads → ((t : ℕ) → t < threads → broken_at c t ≡ None) → (t : ℕ) → broken_at c t ≡ None
whole_all threads c count each t =
    elim (cases_lt t threads) [
      | inl known ↦ each t known
      | inr past ↦ ap (option_and_then (λ (r : Pulling). r.broken)) (slice_get_past c.inputs t (omega arith))
    ]

-- the notes of the threads up to this one are of none behind it
pub none_behind : (ring number : ℕ) (a b : Collecting) (count : PulledCount) → ArePulled (AreInTurnsBelow ring (number + 1)) a b count → ArePulled (All (λ (note : Note). note.thread ≤ number)) a b count
none_behind ring number a b count pulled = record {
  still = pulled.still;
  notes = pulled.notes;
  theirs = λ k d within. (let up_to = pulled.theirs.below k d within in omega arith);
  joined = pulled.joined;
  count_is = pulled.count_is;
}

-- pulls off a lane of which some were asked for end as one pull does
pub ends_as_one : (thread most : ℕ) (now : Collecting) (answer : ℕ) → IsLaneEnd thread most now answer → 0 < most → IsLaneEnd thread 1 now answer
ends_as_one thread most now answer ends some = record {
  answers = ends.answers;
  broken = ends.broken;
  whole = λ unless _. ends.whole unless some;
}
