-- A cycle that is told from another of its edges on: its edges still lead on to each other, and go together.
use Rattle.std.proofs.Common.{◌≡◌, ◌≢◌, ℕ, suc, ◌+◌, ◌-◌, ◌<◌, ◌≤◌, ◌⊎◌, Bool, true, false, eqb, cond, List, [], ◌∷◌, ◌++◌, length, Some, refl, sym, ap, ◌∙◌, arith, inl, inr}
use Rattle.std.specs.Prelude.{slice_get}
use Rattle.std.specs.List.{list_all}
use Rattle.std.proofs.lemmas.Bool.{and_parts, and_from, eqb-true, eq-eqb, cases_lt, false≢true}
use Rattle.std.proofs.lemmas.Option.{slice_get_within}
use Rattle.std.proofs.lemmas.List.{length-append}
use Rattle.std.proofs.lemmas.List.Folds.{list_all-append}
use Rattle.gl_event.proofs.Depths.{slice_get_before}
use Rattle.gl_event.specs.declared.events.Segment.{Segment}
use Rattle.gl_edges.specs.declared.edge.Edge.{Edge}
use Rattle.gl_filters.specs.declared.query.Mode.{Mode}
use Rattle.gl_filters.specs.Cycle.{IsCycle}
use Rattle.gl_filters.specs.Test.{leads_to, lead_on, goes_with, kinds_go_together, last_of, leads_back}
use Rattle.gl_filters.specs.Verdicts.{following}
use Rattle.gl_filters.proofs.Cycling.{leads_from}
use Rattle.gl_filters.proofs.Round.{pair_goes, pair_goes_by_kind, leads_round}
use Rattle.gl_walks.proofs.Passing.{together, edges_together, all_kinds_together}
use Rattle.gl_walks.specs.Walks.{kinds_together, is_front, is_chain}

-- what stands in the second of two lists stands that many places later in both
pub get_behind : {X : Type 0} (xs ys : List X) (k : ℕ) → slice_get (xs ++ ys) (length xs + k) ≡ slice_get ys k
get_behind [] ys k = let e : 0 + k ≡ k = omega arith in ap (slice_get ys) e
get_behind (x ∷ xs) ys k = let e : length (x ∷ xs) + k ≡ suc (length xs + k) = omega arith in ap (slice_get (x ∷ xs ++ ys)) e ∙ get_behind xs ys k

-- a test passes for all where it does for each
pub all_from_each : {X : Type 0} (p : X → Bool) (xs : List X) → ((k : ℕ) (x : X) → slice_get xs k ≡ Some x → p x ≡ true) → list_all p xs ≡ true
all_from_each p [] each = refl
all_from_each p (x ∷ xs) each = and_from (p x) _ (each 0 x refl) (all_from_each p xs (λ k y at. each (suc k) y at))

together_from : (goes : Edge → Edge → Bool) (es : List Edge) → ((i j : ℕ) (e f : Edge) → i < j → slice_get es i ≡ Some e → slice_get es j ≡ Some f → goes e f ≡ true) → together goes es ≡ true
together_from goes [] pairs = refl
together_from goes (e ∷ es) pairs =
    and_from (list_all (goes e) es) _
    (all_from_each (goes e) es (λ k f at. pairs 0 (suc k) e f (omega arith) refl at))
    (together_from goes es (λ i j c f lower at_c at_f. pairs (suc i) (suc j) c f (omega arith) at_c at_f))

led_from : (es : List Edge) → ((i : ℕ) (e f : Edge) → slice_get es i ≡ Some e → slice_get es (suc i) ≡ Some f → leads_to e f ≡ true) → lead_on es ≡ true
led_from [] next = refl
led_from (c ∷ []) next = refl
led_from (c ∷ d ∷ es) next = and_from (leads_to c d) _ (next 0 c d refl refl) (led_from (d ∷ es) (λ i e f here there. next (suc i) e f here there))

-- where an element of the turned list stands in the list
pub record IsHome {X : Type 0} (xs ys : List X) (i : ℕ) (e : X) : Type 0 where
  pub place : ℕ
  pub stands : slice_get (xs ++ ys) place ≡ Some e
  pub counts : ((i < length ys) × (place ≡ length xs + i)) ⊎ ((length ys + place ≡ i) × (place < length xs))

pub home : {X : Type 0} (xs ys : List X) (i : ℕ) (e : X) → slice_get (ys ++ xs) i ≡ Some e → IsHome xs ys i e
home xs ys i e at =
    elim (cases_lt i (length ys)) [
      | inl front ↦ record {
        place = length xs + i;
        stands = get_behind xs ys i ∙ sym (slice_get_before ys xs i front) ∙ at;
        counts = inl (front, refl);
      }
      | inr back ↦ behind back
    ]
  where
    behind : length ys ≤ i → IsHome xs ys i e
    behind back =
        let k = i - length ys in
        let is : length ys + k ≡ i = omega arith in
        let there : slice_get xs k ≡ Some e = sym (get_behind ys xs k) ∙ ap (slice_get (ys ++ xs)) is ∙ at in
        record {
          place = k;
          stands = slice_get_before xs ys k (slice_get_within xs k e there) ∙ there;
          counts = inr (is, slice_get_within xs k e there);
        }

pub homes_differ : {X : Type 0} (xs ys : List X) (i j : ℕ) (e f : X) → i < j → (a : IsHome xs ys i e) → (b : IsHome xs ys j f) → a.place ≢ b.place
homes_differ xs ys i j e f lower a b same =
    elim a.counts [
      | inl p ↦ elim b.counts [ inl q ↦ absurd (omega (arith, p.1, q.1, lower, same)) | inr q ↦ absurd (omega (arith, p.1, q.1, same)) ]
      | inr p ↦ elim b.counts [ inl q ↦ absurd (omega (arith, p.0, q.0, lower)) | inr q ↦ absurd (omega (arith, p.0, q.0, lower, same)) ]
    ]

-- the place behind k, round, by the halves in which both stand
next_place : (m n i k l : ℕ) → ((i < n) × (k ≡ m + i)) ⊎ ((n + k ≡ i) × (k < m)) → ((suc i < n) × (l ≡ m + suc i)) ⊎ ((n + l ≡ suc i) × (l < m)) → l ≡ cond (eqb (k + 1) (m + n)) 0 (k + 1)
next_place m n i k l p q =
    elim p [
      | inl a ↦ elim q [
        | inl b ↦ pick _ (λ last. absurd (omega (arith, eqb-true (k + 1) (m + n) last, a.1, b.0))) (λ more. omega (arith, a.1, b.1))
        | inr b ↦ pick _ (λ last. omega (arith, a.0, b.0)) (λ more. absurd (false≢true (sym more ∙ eq-eqb (k + 1) (m + n) (omega (arith, a.0, a.1, b.0)))))
      ]
      | inr a ↦ elim q [
        | inl b ↦ absurd (omega (arith, a.0, b.0))
        | inr b ↦ pick _ (λ last. absurd (omega (arith, eqb-true (k + 1) (m + n) last, a.0, b.0, b.1))) (λ more. omega (arith, a.0, b.0))
      ]
    ]
  where
    pick : (t : Bool) → (t ≡ true → l ≡ 0) → (t ≡ false → l ≡ k + 1) → l ≡ cond t 0 (k + 1)
    pick true last more = last refl
    pick false last more = more refl

next_home : {X : Type 0} (xs ys : List X) (i : ℕ) (e f : X) → (a : IsHome xs ys i e) → (b : IsHome xs ys (suc i) f) → b.place ≡ following (length (xs ++ ys)) a.place
next_home xs ys i e f a b = next_place (length xs) (length ys) i a.place b.place a.counts b.counts ∙ ap (λ n. cond (eqb (a.place + 1) n) 0 (a.place + 1)) (sym (length-append xs ys))

-- each edge of a cycle leads on to the next one, told from another edge on
turned_led : (before : Segment → Segment → Bool) (mode : Mode) (len : ℕ) (xs ys : List Edge) → IsCycle before mode len (xs ++ ys) → lead_on (ys ++ xs) ≡ true
turned_led before mode len xs ys cycle =
    led_from (ys ++ xs) (λ i e f here there.
    let a = home xs ys i e here in
    let b = home xs ys (suc i) f there in
    leads_from e f (leads_round before mode len (xs ++ ys) cycle a.place e f a.stands (ap (slice_get (xs ++ ys)) (sym (next_home xs ys i e f a b)) ∙ b.stands)))

-- so it is a front of a round, by its kinds
pub turned_front : (before : Segment → Segment → Bool) (mode : Mode) (len : ℕ) (xs ys : List Edge) → IsCycle before mode len (xs ++ ys) → is_front mode (ys ++ xs) ≡ true
unfolding is_front
turned_front before mode len xs ys cycle =
    and_from (lead_on (ys ++ xs)) _ (turned_led before mode len xs ys cycle)
    (sym (all_kinds_together mode (ys ++ xs)) ∙ together_from (kinds_go_together mode) (ys ++ xs) (λ i j e f lower at_e at_f.
    let a = home xs ys i e at_e in
    let b = home xs ys j f at_f in
    pair_goes_by_kind before mode len (xs ++ ys) cycle a.place b.place e f (homes_differ xs ys i j e f lower a b) a.stands b.stands))

-- and by the edges themselves
pub turned_chain : (before : Segment → Segment → Bool) (mode : Mode) (len : ℕ) (xs ys : List Edge) → IsCycle before mode len (xs ++ ys) → is_chain before mode (ys ++ xs) ≡ true
unfolding is_chain
turned_chain before mode len xs ys cycle =
    and_from (lead_on (ys ++ xs)) _ (turned_led before mode len xs ys cycle)
    (sym (edges_together before mode (ys ++ xs)) ∙ together_from (goes_with before mode) (ys ++ xs) (λ i j e f lower at_e at_f.
    let a = home xs ys i e at_e in
    let b = home xs ys j f at_f in
    pair_goes before mode len (xs ++ ys) cycle a.place b.place e f (homes_differ xs ys i j e f lower a b) a.stands b.stands))

-- and the first place is behind the last one
first_place : (m n k l : ℕ) → 0 < m + n → ((m + n - 1 < n) × (k ≡ m + (m + n - 1))) ⊎ ((n + k ≡ m + n - 1) × (k < m)) → ((0 < n) × (l ≡ m + 0)) ⊎ ((n + l ≡ 0) × (l < m)) → l ≡ cond (eqb (k + 1) (m + n)) 0 (k + 1)
first_place m n k l some p q =
    elim p [
      | inl a ↦ elim q [
        | inl b ↦ pick _ (λ last. omega (arith, a.0, b.1)) (λ more. absurd (false≢true (sym more ∙ eq-eqb (k + 1) (m + n) (omega (arith, a.0, a.1, some)))))
        | inr b ↦ absurd (omega (arith, a.0, b.0))
      ]
      | inr a ↦ elim q [
        | inl b ↦ pick _ (λ last. absurd (omega (arith, eqb-true (k + 1) (m + n) last, a.0, a.1, b.0))) (λ more. omega (arith, a.0, a.1, b.1, some))
        | inr b ↦ pick _ (λ last. omega (arith, b.0)) (λ more. absurd (false≢true (sym more ∙ eq-eqb (k + 1) (m + n) (omega (arith, a.0, a.1, b.0, some)))))
      ]
    ]
  where
    pick : (t : Bool) → (t ≡ true → l ≡ 0) → (t ≡ false → l ≡ k + 1) → l ≡ cond t 0 (k + 1)
    pick true last more = last refl
    pick false last more = more refl

last_at : (e : Edge) (es : List Edge) → slice_get (e ∷ es) (length es) ≡ Some (last_of e es)
last_at e [] = refl
last_at e (f ∷ es) = last_at f es

back_from : (es : List Edge) (n : ℕ) → n + 1 ≡ length es → ((e f : Edge) → slice_get es n ≡ Some e → slice_get es 0 ≡ Some f → leads_to e f ≡ true) → leads_back es ≡ true
back_from [] n long leads = absurd (omega (arith, long))
back_from (d ∷ ds) n long leads =
    let last : n ≡ length ds = omega (arith, long) in
    leads (last_of d ds) d (ap (slice_get (d ∷ ds)) last ∙ last_at d ds) refl

-- its last edge leads back to its first
pub turned_round : (before : Segment → Segment → Bool) (mode : Mode) (len : ℕ) (xs ys : List Edge) → IsCycle before mode len (xs ++ ys) → leads_back (ys ++ xs) ≡ true
turned_round before mode len xs ys cycle =
    let some : 0 < length xs + length ys = omega (arith, cycle.two_or_more, length-append xs ys) in
    back_from (ys ++ xs) (length xs + length ys - 1) (omega (arith, some, length-append ys xs))
    (λ e f here there.
    let a = home xs ys (length xs + length ys - 1) e here in
    let b = home xs ys 0 f there in
    let next : b.place ≡ following (length (xs ++ ys)) a.place =
    first_place (length xs) (length ys) a.place b.place some a.counts b.counts ∙ ap (λ n. cond (eqb (a.place + 1) n) 0 (a.place + 1)) (sym (length-append xs ys)) in
    leads_from e f (leads_round before mode len (xs ++ ys) cycle a.place e f a.stands (ap (slice_get (xs ++ ys)) (sym next) ∙ b.stands)))

led_front : (es fs : List Edge) → lead_on (es ++ fs) ≡ true → lead_on es ≡ true
led_front [] fs led = refl
led_front (c ∷ []) fs led = refl
led_front (c ∷ d ∷ es) fs led = let parts = and_parts (leads_to c d) _ led in and_from (leads_to c d) _ parts.0 (led_front (d ∷ es) fs parts.1)

together_front : (mode : Mode) (es fs : List Edge) → kinds_together mode (es ++ fs) ≡ true → kinds_together mode es ≡ true
together_front mode [] fs goes = refl
together_front mode (e ∷ es) fs goes =
    let parts = and_parts (list_all (kinds_go_together mode e) (es ++ fs)) _ goes in
    let both = and_parts (list_all (kinds_go_together mode e) es) _ (sym (list_all-append (kinds_go_together mode e) es fs) ∙ parts.0) in
    and_from (list_all (kinds_go_together mode e) es) _ both.0 (together_front mode es fs parts.1)

-- what a front begins with is a front
pub front_of_front : (mode : Mode) (es fs : List Edge) → is_front mode (es ++ fs) ≡ true → is_front mode es ≡ true
unfolding is_front
front_of_front mode es fs front =
    let parts = and_parts (lead_on (es ++ fs)) _ front in
    and_from (lead_on es) _ (led_front es fs parts.0) (together_front mode es fs parts.1)
