-- A list of edges has one verdict.
use Rattle.std.proofs.Common.{◌≡◌, ℕ, zero, suc, ◌<◌, ◌≤◌, inl, inr, Bool, List, length, refl, sym, ◌∙◌, subst, arith}
use Rattle.std.specs.Prelude.{slice_get, Some}
use Rattle.std.proofs.lemmas.Bool.{cases_lt, false≢true}
use Rattle.std.proofs.lemmas.Option.{slice_get_within}
use Rattle.gl_event.specs.declared.events.Segment.{Segment}
use Rattle.gl_edges.specs.declared.edge.Edge.{Edge}
use Rattle.gl_filters.specs.Cycle.{is_ordered}
use Rattle.gl_filters.specs.Asked.{Asked}
use Rattle.gl_filters.specs.Verdicts.{hold_one_lock, are_of_one_thread, have_gate_lock, IsFree, IsFirstAfter, IsFirstPair, IsFirstOpen, IsFirstLesser, IsLeastShared, IsVerdict, HasLength, IsClosed, HasLocks, HasThreads, IsLeast, IsApart, IsUnordered}
use Rattle.gl_filters.specs.declared.verdict.Verdict.{Verdict}
use Rattle.gl_filters.specs.declared.verdict.Verdict.TheVariants.{TooShort, TooLong, NotClosed, SameLock, SameThread, NotLeast, SharedGuard, Ordered, Valid}

-- ---- a verdict by its numbers

-- how many tests come before the one that the verdict names
abbrev stage : Verdict → ℕ
stage TooShort = 0
stage TooLong = 1
stage (NotClosed i) = 2
stage (SameLock i j) = 3
stage (SameThread i j) = 4
stage (NotLeast i) = 5
stage (SharedGuard i j lock) = 6
stage (Ordered i j) = 7
stage Valid = 8

-- the first place, the second one and the lock that it names
abbrev first : Verdict → ℕ
first TooShort = 0
first TooLong = 0
first (NotClosed i) = i
first (SameLock i j) = i
first (SameThread i j) = i
first (NotLeast i) = i
first (SharedGuard i j lock) = i
first (Ordered i j) = i
first Valid = 0

abbrev second : Verdict → ℕ
second TooShort = 0
second TooLong = 0
second (NotClosed i) = 0
second (SameLock i j) = j
second (SameThread i j) = j
second (NotLeast i) = 0
second (SharedGuard i j lock) = j
second (Ordered i j) = j
second Valid = 0

abbrev third : Verdict → ℕ
third TooShort = 0
third TooLong = 0
third (NotClosed i) = 0
third (SameLock i j) = 0
third (SameThread i j) = 0
third (NotLeast i) = 0
third (SharedGuard i j lock) = lock
third (Ordered i j) = 0
third Valid = 0

-- the verdict of these numbers
abbrev verdict_of : ℕ → ℕ → ℕ → ℕ → Verdict
verdict_of zero i j lock = TooShort
verdict_of (suc zero) i j lock = TooLong
verdict_of (suc (suc zero)) i j lock = NotClosed i
verdict_of (suc (suc (suc zero))) i j lock = SameLock i j
verdict_of (suc (suc (suc (suc zero)))) i j lock = SameThread i j
verdict_of (suc (suc (suc (suc (suc zero))))) i j lock = NotLeast i
verdict_of (suc (suc (suc (suc (suc (suc zero)))))) i j lock = SharedGuard i j lock
verdict_of (suc (suc (suc (suc (suc (suc (suc zero))))))) i j lock = Ordered i j
verdict_of (suc (suc (suc (suc (suc (suc (suc (suc n)))))))) i j lock = Valid

by_numbers : (v : Verdict) → v ≡ verdict_of (stage v) (first v) (second v) (third v)
by_numbers TooShort = refl
by_numbers TooLong = refl
by_numbers (NotClosed i) = refl
by_numbers (SameLock i j) = refl
by_numbers (SameThread i j) = refl
by_numbers (NotLeast i) = refl
by_numbers (SharedGuard i j lock) = refl
by_numbers (Ordered i j) = refl
by_numbers Valid = refl

last_stage : (v : Verdict) → stage v ≤ 8
last_stage TooShort = omega arith
last_stage TooLong = omega arith
last_stage (NotClosed i) = omega arith
last_stage (SameLock i j) = omega arith
last_stage (SameThread i j) = omega arith
last_stage (NotLeast i) = omega arith
last_stage (SharedGuard i j lock) = omega arith
last_stage (Ordered i j) = omega arith
last_stage Valid = omega arith

-- ---- least places

-- two places are the same if neither is below the other
same_place : (i j : ℕ) → ¬ (i < j) → ¬ (j < i) → i ≡ j
same_place i j not_below not_above = omega arith

module _ (clash : Edge → Edge → Bool) (es : List Edge) where
  -- what is free has no clash
  clash_or_free : (i j n : ℕ) → j < n → IsFirstAfter clash es i j → ¬ IsFree clash es i n
  clash_or_free i j n below found free = false≢true (sym (free j found.one found.other found.later below found.at_one found.at_other) ∙ found.clashing)

  first_pair_is_one : (i j k l : ℕ) → IsFirstPair clash es i j → IsFirstPair clash es k l → (i ≡ k) × (j ≡ l)
  first_pair_is_one i j k l a b =
      let same : i ≡ k =
      same_place i k
      (λ below. clash_or_free i j (length es) (slice_get_within es j a.0.other a.0.at_other) a.0 (b.1 i below))
      (λ above. clash_or_free k l (length es) (slice_get_within es l b.0.other b.0.at_other) b.0 (a.1 k above)) in
      let moved : IsFirstAfter clash es i l = subst (λ n. IsFirstAfter clash es n l) (sym same) b.0 in
      (same, same_place j l (λ below. clash_or_free i j l below a.0 moved.free_between) (λ above. clash_or_free i l j above moved a.0.free_between))

first_open_is_one : (es : List Edge) (i j : ℕ) → IsFirstOpen es i → IsFirstOpen es j → i ≡ j
first_open_is_one es i j a b =
    same_place i j (λ below. a.open_here (b.closed_before i below a.one a.next a.at_one a.at_next)) (λ above. b.open_here (a.closed_before j above b.one b.next b.at_one b.at_next))

first_lesser_is_one : (es : List Edge) (i j : ℕ) → IsFirstLesser es i → IsFirstLesser es j → i ≡ j
first_lesser_is_one es i j a b =
    same_place i j
    (λ below. (let reaches = b.none_before i below a.first a.lesser a.at_first a.at_lesser in let falls = a.below in omega arith))
    (λ above. (let reaches = a.none_before j above b.first b.lesser b.at_first b.at_lesser in let falls = b.below in omega arith))

least_shared_is_one : (es : List Edge) (i j lock other : ℕ) (e f : Edge) → slice_get es i ≡ Some e → slice_get es j ≡ Some f → IsLeastShared es i j lock → IsLeastShared es i j other → lock ≡ other
least_shared_is_one es i j lock other e f at_e at_f a b =
    let (gate, least) = a e f at_e at_f in
    let (other_gate, other_least) = b e f at_e at_f in
    let up = least other other_gate in
    let down = other_least lock gate in
    omega arith

-- ---- the tests in their order

module _ (before : Segment → Segment → Bool) (asked : Asked) (es : List Edge) where
  -- the first n tests pass
  abbrev Passed : ℕ → Type 0
  Passed zero = Unit {0}
  Passed (suc zero) = 2 ≤ length es
  Passed (suc (suc zero)) = HasLength before asked es
  Passed (suc (suc (suc zero))) = IsClosed before asked es
  Passed (suc (suc (suc (suc zero)))) = HasLocks before asked es
  Passed (suc (suc (suc (suc (suc zero))))) = HasThreads before asked es
  Passed (suc (suc (suc (suc (suc (suc zero)))))) = IsLeast before asked es
  Passed (suc (suc (suc (suc (suc (suc (suc zero))))))) = IsApart before asked es
  Passed (suc (suc (suc (suc (suc (suc (suc (suc n)))))))) = IsUnordered before asked es

  passed_before : (n : ℕ) → Passed (suc n) → Passed n
  passed_before zero p = tt
  passed_before (suc zero) p = p.0
  passed_before (suc (suc zero)) p = p.0
  passed_before (suc (suc (suc zero))) p = p.0
  passed_before (suc (suc (suc (suc zero)))) p = p.0
  passed_before (suc (suc (suc (suc (suc zero))))) p = p.0
  passed_before (suc (suc (suc (suc (suc (suc zero)))))) p = p.0
  passed_before (suc (suc (suc (suc (suc (suc (suc zero))))))) p = p.0
  passed_before (suc (suc (suc (suc (suc (suc (suc (suc n)))))))) p = p

  passed_up_to : (m n : ℕ) → n ≤ m → Passed m → Passed n
  passed_up_to m n within p =
      elim (cases_lt n m) [
        | inl below ↦ further m below p
        | inr all ↦ (let same : m ≡ n = omega arith in subst Passed same p)
      ]
    where
      further : (m : ℕ) → n < m → Passed m → Passed n
      further zero below p = absurd (omega arith)
      further (suc m) below p =
          elim (cases_lt n m) [
            | inl lower ↦ further m lower (passed_before m p)
            | inr here ↦ (let same : m ≡ n = omega arith in subst Passed same (passed_before m p))
          ]

  -- the tests before the named one pass
  passes : (v : Verdict) → IsVerdict before asked es v → Passed (stage v)
  passes TooShort h = tt
  passes TooLong h = h.0
  passes (NotClosed i) h = h.0
  passes (SameLock i j) h = h.0
  passes (SameThread i j) h = h.0
  passes (NotLeast i) h = h.0
  passes (SharedGuard i j lock) h = h.0
  passes (Ordered i j) h = h.0
  passes Valid h = h

  pair_within : (clash : Edge → Edge → Bool) (i j : ℕ) → IsFirstPair clash es i j → ¬ ((k : ℕ) → k < length es → IsFree clash es k (length es))
  pair_within clash i j found none =
      clash_or_free clash es i j (length es) (slice_get_within es j found.0.other found.0.at_other) found.0 (none i (slice_get_within es i found.0.one found.0.at_one))

  -- and the named one fails
  fails : (v : Verdict) → stage v < 8 → IsVerdict before asked es v → ¬ Passed (suc (stage v))
  fails TooShort named h p = omega arith
  fails TooLong named h p = (let short = p.1 in let long = h.1 in omega arith)
  fails (NotClosed i) named h p = h.1.open_here (p.1 i (slice_get_within es i h.1.one h.1.at_one) h.1.one h.1.next h.1.at_one h.1.at_next)
  fails (SameLock i j) named h p = pair_within hold_one_lock i j h.1 p.1
  fails (SameThread i j) named h p = pair_within are_of_one_thread i j h.1 p.1
  fails (NotLeast i) named h p =
      (let reaches = p.1 i (slice_get_within es i h.1.lesser h.1.at_lesser) h.1.first h.1.lesser h.1.at_first h.1.at_lesser in let falls = h.1.below in omega arith)
  fails (SharedGuard i j lock) named h p = pair_within have_gate_lock i j h.2 (p.1 h.1)
  fails (Ordered i j) named h p = pair_within (is_ordered before) i j h.2 (p.1 h.1)
  fails Valid named h p = omega arith

  not_earlier : (a b : Verdict) → IsVerdict before asked es a → IsVerdict before asked es b → ¬ (stage a < stage b)
  not_earlier a b of_a of_b earlier =
      let last = last_stage b in
      fails a (omega arith) of_a (passed_up_to (stage b) (suc (stage a)) (omega arith) (passes b of_b))

  -- what the test of this number names
  abbrev Named : ℕ → ℕ → ℕ → ℕ → Type 0
  Named zero i j lock = (i ≡ 0) × (j ≡ 0) × (lock ≡ 0)
  Named (suc zero) i j lock = (i ≡ 0) × (j ≡ 0) × (lock ≡ 0)
  Named (suc (suc zero)) i j lock = IsFirstOpen es i × (j ≡ 0) × (lock ≡ 0)
  Named (suc (suc (suc zero))) i j lock = IsFirstPair hold_one_lock es i j × (lock ≡ 0)
  Named (suc (suc (suc (suc zero)))) i j lock = IsFirstPair are_of_one_thread es i j × (lock ≡ 0)
  Named (suc (suc (suc (suc (suc zero))))) i j lock = IsFirstLesser es i × (j ≡ 0) × (lock ≡ 0)
  Named (suc (suc (suc (suc (suc (suc zero)))))) i j lock = (IsFirstPair have_gate_lock es i j) × IsLeastShared es i j lock
  Named (suc (suc (suc (suc (suc (suc (suc zero))))))) i j lock = IsFirstPair (is_ordered before) es i j × (lock ≡ 0)
  Named (suc (suc (suc (suc (suc (suc (suc (suc n)))))))) i j lock = (i ≡ 0) × (j ≡ 0) × (lock ≡ 0)

  named : (v : Verdict) → IsVerdict before asked es v → Named (stage v) (first v) (second v) (third v)
  named TooShort h = (refl, refl, refl)
  named TooLong h = (refl, refl, refl)
  named (NotClosed i) h = (h.1, refl, refl)
  named (SameLock i j) h = (h.1, refl)
  named (SameThread i j) h = (h.1, refl)
  named (NotLeast i) h = (h.1, refl, refl)
  named (SharedGuard i j lock) h = (h.2, h.3)
  named (Ordered i j) h = (h.2, refl)
  named Valid h = (refl, refl, refl)

  pair_named : (clash : Edge → Edge → Bool) (i j lock k l other : ℕ) → IsFirstPair clash es i j → lock ≡ 0 → IsFirstPair clash es k l → other ≡ 0 → (i ≡ k) × (j ≡ l) × (lock ≡ other)
  pair_named clash i j lock k l other a none b none_too = (let (same, too) = first_pair_is_one clash es i j k l a b in (same, too, none ∙ sym none_too))

  named_once : (n i j lock k l other : ℕ) → Named n i j lock → Named n k l other → (i ≡ k) × (j ≡ l) × (lock ≡ other)
  named_once zero i j lock k l other a b = (a.0 ∙ sym b.0, a.1 ∙ sym b.1, a.2 ∙ sym b.2)
  named_once (suc zero) i j lock k l other a b = (a.0 ∙ sym b.0, a.1 ∙ sym b.1, a.2 ∙ sym b.2)
  named_once (suc (suc zero)) i j lock k l other a b = (first_open_is_one es i k a.0 b.0, a.1 ∙ sym b.1, a.2 ∙ sym b.2)
  named_once (suc (suc (suc zero))) i j lock k l other a b = pair_named hold_one_lock i j lock k l other a.0 a.1 b.0 b.1
  named_once (suc (suc (suc (suc zero)))) i j lock k l other a b = pair_named are_of_one_thread i j lock k l other a.0 a.1 b.0 b.1
  named_once (suc (suc (suc (suc (suc zero))))) i j lock k l other a b = (first_lesser_is_one es i k a.0 b.0, a.1 ∙ sym b.1, a.2 ∙ sym b.2)
  named_once (suc (suc (suc (suc (suc (suc zero)))))) i j lock k l other a b =
      let (same, too) = first_pair_is_one have_gate_lock es i j k l a.0 b.0 in
      let moved : IsLeastShared es i j other = subst (λ n. IsLeastShared es i n other) (sym too) (subst (λ n. IsLeastShared es n l other) (sym same) b.1) in
      (same, too, least_shared_is_one es i j lock other a.0.0.one a.0.0.other a.0.0.at_one a.0.0.at_other a.1 moved)
  named_once (suc (suc (suc (suc (suc (suc (suc zero))))))) i j lock k l other a b = pair_named (is_ordered before) i j lock k l other a.0 a.1 b.0 b.1
  named_once (suc (suc (suc (suc (suc (suc (suc (suc n)))))))) i j lock k l other a b = (a.0 ∙ sym b.0, a.1 ∙ sym b.1, a.2 ∙ sym b.2)

  pub one_verdict : (a b : Verdict) → IsVerdict before asked es a → IsVerdict before asked es b → a ≡ b
  one_verdict a b of_a of_b =
      let staged : stage a ≡ stage b = same_place (stage a) (stage b) (not_earlier a b of_a of_b) (not_earlier b a of_b of_a) in
      let (firsts, seconds, thirds) = named_once (stage b) (first a) (second a) (third a) (first b) (second b) (third b) (subst (λ n. Named n (first a) (second a) (third a)) staged (named a of_a)) (named b of_b) in
      by_numbers a ∙ (λ i. verdict_of (staged i) (firsts i) (seconds i) (thirds i)) ∙ sym (by_numbers b)
