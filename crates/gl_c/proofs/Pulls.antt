-- What pulls one after the other come to.
use Rattle.std.proofs.Common.{◌≡◌, ℕ, zero, suc, ◌<◌, List, [], ◌∷◌, ◌++◌, length, Some, None, Result, Ok, Err, refl, sym, ap, subst, ◌∙◌, append_assoc, arith, inl, inr}
use Rattle.std.specs.Prelude.{slice_get, slice_set, option_and_then, All, IsSome}
use Rattle.std.proofs.lemmas.Bool.{cases_lt}
use Rattle.std.proofs.lemmas.List.{append-nil}
use Rattle.std.proofs.lemmas.List.Elements.{All-nil}
use Rattle.gl_event.specs.declared.notes.Note.{Note}
use Rattle.gl_intake.specs.declared.notes.Refused.{Refused}
use Rattle.gl_engine.specs.Collecting.{Collecting, Pulling, Side, as_of, with_side, IsPull}
use Rattle.gl_engine.specs.declared.pulled.Pulled.{Pulled}
use Rattle.gl_engine.specs.declared.pulled.Pulled.TheVariants.{Empty, Event, Ended}
use Rattle.gl_engine.specs.declared.pulled.PullFault.{PullFault}
use Rattle.gl_engine.specs.declared.pulled.PullFault.TheVariants.{Broken, Memory}
use Rattle.gl_c.specs.Pulling.{both, broken_at, counted, none_pulled, AreOthersSame, ArePulled, AreOfThread, IsNoPull, IsOnePull, IsStillThat, StayBroken}
use Rattle.gl_c.specs.declared.codes.TheConstants.{OK, MEMORY, BROKEN}
use Rattle.gl_c.specs.declared.pulling.PulledCount.{PulledCount}
use Rattle.gl_c.proofs.Counts.{counted-append, end_counted, event_counted}

-- what stands at a place within a list
pub at : {X : Type 0} (xs : List X) (i : ℕ) → i < length xs → (x : X) × (slice_get xs i ≡ Some x)
at [] i within = absurd (omega arith)
at (x ∷ xs) zero within = (x, refl)
at (x ∷ xs) (suc i) within = at xs i (omega arith)

-- what was written to a place within a list stands there
pub written : {X : Type 0} (xs : List X) (i : ℕ) (old new : X) → slice_get xs i ≡ Some old → slice_get (slice_set xs i new) i ≡ Some new
written [] i old new here = (let clash : None ≡ Some old = here in cc)
written (x ∷ xs) zero old new here = refl
written (x ∷ xs) (suc i) old new here = written xs i old new here

-- and nothing else changed
pub unwritten : {X : Type 0} (xs : List X) (i j : ℕ) (x : X) → (j ≡ i → ⊥) → slice_get (slice_set xs i x) j ≡ slice_get xs j
unwritten [] i j x differ = refl
unwritten (y ∷ xs) zero zero x differ = absurd (differ refl)
unwritten (y ∷ xs) zero (suc j) x differ = refl
unwritten (y ∷ xs) (suc i) zero x differ = refl
unwritten (y ∷ xs) (suc i) (suc j) x differ = unwritten xs i j x (λ same. differ (ap suc same))

all_one : {X : Type 0} (P : X → Type 0) (x : X) → P x → All P (x ∷ [])
all_one P x holds zero d within = holds
all_one P x holds (suc k) d within = absurd (omega arith)

-- ---- one pull, off a lane that has this input

module _ (thread : ℕ) (old new : Collecting) (still : IsStillThat old new) (input : Pulling) (here : slice_get old.inputs thread ≡ Some input) where
  broken_here : (side : Side) → new ≡ with_side old thread side → broken_at new thread ≡ side.input.broken
  broken_here side moved = ap (λ (c : Collecting). broken_at c thread) moved ∙ ap (option_and_then (λ (r : Pulling). r.broken)) (written old.inputs thread input side.input here)

  others_same : (side : Side) → new ≡ with_side old thread side → AreOthersSame thread old new
  others_same side moved other differ = ap (λ (c : Collecting). broken_at c other) moved ∙ ap (option_and_then (λ (r : Pulling). r.broken)) (unwritten old.inputs thread other side.input differ)

  stay_by : (side : Side) → new ≡ with_side old thread side → ((why : Refused) → input.broken ≡ Some why → side.input.broken ≡ Some why) → StayBroken old new
  stay_by side moved own other why was =
      elim (cases_lt other thread) [
        | inl before ↦ others_same side moved other (λ same. omega arith) ∙ was
        | inr not_before ↦
            elim (cases_lt thread other) [
              | inl behind ↦ others_same side moved other (λ same. omega arith) ∙ was
              | inr not_behind ↦
                  let is : other ≡ thread = omega arith in
                  let here_was : broken_at old thread ≡ Some why = subst (λ (k : ℕ). broken_at old k ≡ Some why) is was in
                  subst (λ (k : ℕ). broken_at new k ≡ Some why) (sym is) (broken_here side moved ∙ own why (sym (ap (option_and_then (λ (r : Pulling). r.broken)) here) ∙ here_was))
            ]
      ]

  moved_one : (side : Side) (note : Note) (one : PulledCount) → new ≡ with_side old thread side → side.stream ≡ old.stream ++ as_of thread note ∷ [] → counted (as_of thread note ∷ []) ≡ one
      → ArePulled (AreOfThread thread) old new one
  moved_one side note one moved joins counts = record {
    still = still;
    notes = as_of thread note ∷ [];
    theirs = all_one (λ (n : Note). n.thread ≡ thread) (as_of thread note) refl;
    joined = ap (λ (c : Collecting). c.stream) moved ∙ joins;
    count_is = sym counts;
  }

  event_pulled : (place : ℕ) → IsPull old thread input (Ok (Event place)) new → IsOnePull thread old (record { events = 1; ended = 0 }) new
  event_pulled place is =
      let note = is.tells.note in
      record {
        pulled = moved_one is.side note _ is.moved (ap (λ (s : Side). s.stream) is.tells.moved) (event_counted thread note.place place note.body is.tells.answer_is);
        is_one = refl;
        whole = broken_here is.side is.moved ∙ ap (λ (s : Side). s.input.broken) is.tells.moved ∙ is.tells.running;
        others = others_same is.side is.moved;
        stay = stay_by is.side is.moved (λ why was. ap (λ (s : Side). s.input.broken) is.tells.moved ∙ was);
      }

  end_pulled : (count : ℕ) → IsPull old thread input (Ok (Ended count)) new → IsOnePull thread old (record { events = 0; ended = 1 }) new
  end_pulled count is =
      let note = is.tells.note in
      record {
        pulled = moved_one is.side note _ is.moved (ap (λ (s : Side). s.stream) is.tells.moved) (end_counted thread note.place count note.body is.tells.answer_is);
        is_one = refl;
        whole = broken_here is.side is.moved ∙ ap (λ (s : Side). s.input.broken) is.tells.moved ∙ is.tells.running;
        others = others_same is.side is.moved;
        stay = stay_by is.side is.moved (λ why was. ap (λ (s : Side). s.input.broken) is.tells.moved ∙ was);
      }

  moved_none : (side : Side) → new ≡ with_side old thread side → side.stream ≡ old.stream → ArePulled (AreOfThread thread) old new none_pulled
  moved_none side moved same = record {
    still = still;
    notes = [];
    theirs = All-nil (λ (n : Note). n.thread ≡ thread);
    joined = ap (λ (c : Collecting). c.stream) moved ∙ same ∙ sym (append-nil old.stream);
    count_is = refl;
  }

  empty_pulled : IsPull old thread input (Ok Empty) new → IsNoPull thread old OK new
  empty_pulled is = record {
    none = moved_none is.side is.moved (ap (λ (s : Side). s.stream) is.tells.1);
    ends = record {
      answers = refl;
      broken = λ answer. (let clash : OK ≡ BROKEN = answer in cc);
      whole = λ _ _. broken_here is.side is.moved ∙ ap (λ (s : Side). s.input.broken) is.tells.1 ∙ is.tells.0;
    };
    others = others_same is.side is.moved;
    stay = stay_by is.side is.moved (λ why was. ap (λ (s : Side). s.input.broken) is.tells.1 ∙ was);
  }

  memory_pulled : IsPull old thread input (Err Memory) new → IsNoPull thread old MEMORY new
  memory_pulled is = record {
    none = moved_none is.side is.moved (ap (λ (s : Side). s.stream) is.tells.1);
    ends = record {
      answers = refl;
      broken = λ answer. (let clash : MEMORY ≡ BROKEN = answer in cc);
      whole = λ _ _. broken_here is.side is.moved ∙ ap (λ (s : Side). s.input.broken) is.tells.1 ∙ is.tells.0;
    };
    others = others_same is.side is.moved;
    stay = stay_by is.side is.moved (λ why was. ap (λ (s : Side). s.input.broken) is.tells.1 ∙ was);
  }

  broken_side : (side : Side) (why : Refused) → new ≡ with_side old thread side → side.stream ≡ old.stream → side.input.broken ≡ Some why
      → ((other : Refused) → input.broken ≡ Some other → side.input.broken ≡ Some other) → IsNoPull thread old BROKEN new
  broken_side side why moved same broken own = record {
    none = moved_none side moved same;
    ends = record {
      answers = refl;
      broken = λ _. subst IsSome (sym (broken_here side moved ∙ broken)) refl;
      whole = λ unless _. absurd (unless refl);
    };
    others = others_same side moved;
    stay = stay_by side moved own;
  }

  broken_pulled : (why : Refused) → IsPull old thread input (Err (Broken why)) new → IsNoPull thread old BROKEN new
  broken_pulled why is =
      elim is.tells [
        | inl same ↦ broken_side is.side why is.moved (ap (λ (s : Side). s.stream) same.1) (ap (λ (s : Side). s.input.broken) same.1 ∙ same.0) (λ other was. ap (λ (s : Side). s.input.broken) same.1 ∙ was)
        | inr has ↦ broken_side is.side why is.moved (ap (λ (s : Side). s.stream) has.moved) (ap (λ (s : Side). s.input.broken) has.moved)
            (λ other was. (let clash : None ≡ Some other = sym has.running ∙ was in cc))
      ]

-- ---- the same by what is answered

module _ (thread : ℕ) (old new : Collecting) (still : IsStillThat old new) (known : thread < length old.inputs) (answer : Result Pulled PullFault)
    (tells : (input : Pulling) → slice_get old.inputs thread ≡ Some input → IsPull old thread input answer new) where
  as_answered : (X : Type 0) (said : Result Pulled PullFault) → answer ≡ said → ((input : Pulling) → slice_get old.inputs thread ≡ Some input → IsPull old thread input said new → X) → X
  as_answered X said is use_it =
      let (input, here) = at old.inputs thread known in
      use_it input here (subst (λ (a : Result Pulled PullFault). IsPull old thread input a new) is (tells input here))

  pub event_pull : (place : ℕ) → answer ≡ Ok (Event place) → IsOnePull thread old (record { events = 1; ended = 0 }) new
  event_pull place is = as_answered _ _ is (λ input here. event_pulled thread old new still input here place)

  pub end_pull : (count : ℕ) → answer ≡ Ok (Ended count) → IsOnePull thread old (record { events = 0; ended = 1 }) new
  end_pull count is = as_answered _ _ is (λ input here. end_pulled thread old new still input here count)

  pub empty_pull : answer ≡ Ok Empty → IsNoPull thread old OK new
  empty_pull is = as_answered _ _ is (λ input here. empty_pulled thread old new still input here)

  pub memory_pull : answer ≡ Err Memory → IsNoPull thread old MEMORY new
  memory_pull is = as_answered _ _ is (λ input here. memory_pulled thread old new still input here)

  pub broken_pull : (why : Refused) → answer ≡ Err (Broken why) → IsNoPull thread old BROKEN new
  broken_pull why is = as_answered _ _ is (λ input here. broken_pulled thread old new still input here why)

-- ---- one after the other

pub pulled_none : (AreTheirs : List Note → Type 0) (c : Collecting) → AreTheirs [] → ArePulled AreTheirs c c none_pulled
pulled_none AreTheirs c theirs = record {
  still = record { limits = refl; session = refl; lanes = refl };
  notes = [];
  theirs = theirs;
  joined = sym (append-nil c.stream);
  count_is = refl;
}

pub pulled_more : (A B C : List Note → Type 0) → ((xs ys : List Note) → A xs → B ys → C (xs ++ ys)) → (a b c : Collecting) (some more all : PulledCount) → ArePulled A a b some → ArePulled B b c more
    → all ≡ both some more → ArePulled C a c all
pulled_more A B C join a b c some more all first then sums = record {
  still = record {
    limits = then.still.limits ∙ first.still.limits;
    session = then.still.session ∙ first.still.session;
    lanes = then.still.lanes ∙ first.still.lanes;
  };
  notes = first.notes ++ then.notes;
  theirs = join first.notes then.notes first.theirs then.theirs;
  joined = then.joined ∙ ap (λ (s : List Note). s ++ then.notes) first.joined ∙ append_assoc a.stream first.notes then.notes;
  count_is =
      let one : some ≡ counted first.notes = first.count_is in
      let other : more ≡ counted then.notes = then.count_is in
      let joins = counted-append first.notes then.notes in
      sums ∙ ap (λ (s : PulledCount). both s more) one ∙ ap (both (counted first.notes)) other ∙ sym joins;
}
