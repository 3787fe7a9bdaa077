-- A list of edges passes the test of a cycle exactly if it is a cycle.
use Rattle.std.proofs.Common.{◌≡◌, ◌≢◌, ℕ, zero, suc, ◌-◌, ◌≤◌, Bool, true, false, not, ◌&&◌, eqb, leb, List, [], ◌∷◌, length, Some, refl, sym, ap, subst, ◌∙◌, arith}
use Rattle.std.specs.Prelude.{slice_get, Contains, All, AllPairs}
use Rattle.std.specs.List.{list_all, list_any}
use Rattle.std.proofs.Math.Numerals.{add-one}
use Rattle.std.proofs.lemmas.Bool.{false≢true, and_parts, and_from, and_left, false_from_ne_true, eq-eqb, eqb-true, leb-true, le-leb, not-true, not_from_false}
use Rattle.std.proofs.lemmas.Option.{same_Some}
use Rattle.std.proofs.lemmas.List.Folds.{Any-from_list_any, list_any-from_Any}
use Rattle.std.proofs.lemmas.List.Kept.{AllPairs-cons}
use Rattle.gl_event.specs.declared.events.Segment.{Segment}
use Rattle.gl_edges.specs.declared.edge.Edge.{Edge}
use Rattle.gl_filters.specs.declared.query.Mode.{Mode}
use Rattle.gl_filters.specs.Cycle.{asks_guards, asks_order, is_ordered, LeadsOn, HasGate, AreApart, IsCycle}
use Rattle.gl_event.specs.Modes.{conflict}
use Rattle.gl_edges.specs.declared.guards.Guard.{Guard}
use Rattle.gl_edges.specs.Clashes.{clash_on, guards_clash}
use Rattle.gl_filters.specs.Test.{leads_to, is_clear, goes_with, go_together, lead_on, begins_least, is_path, last_of, is_cycle}

-- guards of one lock, not both shared, clash
clash_from : (g h : Guard) → g.lock ≡ h.lock → conflict g.mode h.mode ≡ true → clash_on g h ≡ true
clash_from g h same conflicting = and_from (eqb g.lock h.lock) _ (eq-eqb g.lock h.lock same) conflicting

-- a gate of both sets is found
pub gate_found : (gs hs : List Guard) (lock : ℕ) → (gate : HasGate gs hs lock) → list_any (clash_on (record { lock = lock; mode = gate.one })) hs ≡ true
gate_found gs hs lock gate =
    let (j, j_in, j_is) = gate.in_other in
    list_any-from_Any (clash_on (record { lock = lock; mode = gate.one })) hs (j, record { lock = lock; mode = gate.other }, j_in, j_is, clash_from (record { lock = lock; mode = gate.one }) (record { lock = lock; mode = gate.other }) refl gate.in_conflict)

-- what clashes with a guard of the other set makes a gate
pub gate_from : (gs hs : List Guard) (g : Guard) → Contains gs g → list_any (clash_on g) hs ≡ true → HasGate gs hs g.lock
gate_from gs hs g at found =
    let (j, h, j_in, j_is, clash) = Any-from_list_any (clash_on g) hs found in
    let parts = and_parts (eqb g.lock h.lock) _ clash in
    let same : g.lock ≡ h.lock = eqb-true g.lock h.lock parts.0 in
    record {
      one = g.mode;
      other = h.mode;
      in_one = at;
      in_other = subst (λ l. Contains hs (record { lock = l; mode = h.mode })) (sym same) (j, j_in, j_is);
      in_conflict = parts.1;
    }

-- there is no gate where none was found
pub apart_tells : (gs hs : List Guard) → guards_clash gs hs ≡ false → (lock : ℕ) → HasGate gs hs lock → ⊥
apart_tells gs hs none lock gate =
    let (k, k_in, k_is) = gate.in_one in
    false≢true (sym none ∙ list_any-from_Any (λ g. list_any (clash_on g) hs) gs (k, record { lock = lock; mode = gate.one }, k_in, k_is, gate_found gs hs lock gate))

-- none is found where there is no gate
pub apart_from : (gs hs : List Guard) → ((lock : ℕ) → HasGate gs hs lock → ⊥) → guards_clash gs hs ≡ false
apart_from gs hs apart = false_from_ne_true _ (λ found.
    let (k, g, k_in, k_is, any) = Any-from_list_any (λ g. list_any (clash_on g) hs) gs found in
    apart g.lock (gate_from gs hs g (k, k_in, k_is) any))

-- the test of one edge leading on to another
pub leads_tells : (e f : Edge) → leads_to e f ≡ true → LeadsOn e f
leads_tells e f passes =
    let parts = and_parts (eqb e.wanted f.held) _ passes in
    record { same_lock = eqb-true e.wanted f.held parts.0; in_conflict = parts.1 }

-- an edge doesn't lead on to one that holds another lock
pub leads_not : (e f : Edge) → e.wanted ≢ f.held → leads_to e f ≡ false
leads_not e f other = and_left _ _ (false_from_ne_true _ (λ same. other (eqb-true e.wanted f.held same)))

-- and where it does, the locks are the same
pub leads_same : (e f : Edge) → leads_to e f ≡ true → e.wanted ≡ f.held
leads_same e f passes = (leads_tells e f passes).same_lock

pub leads_from : (e f : Edge) → LeadsOn e f → leads_to e f ≡ true
leads_from e f leads = and_from (eqb e.wanted f.held) _ (eq-eqb e.wanted f.held leads.same_lock) leads.in_conflict

-- what holds of two edges that may stand in one cycle
pub record AreFit (before : Segment → Segment → Bool) (mode : Mode) (e f : Edge) : Type 0 where
  pub locks : e.held ≢ f.held
  pub threads : e.thread ≢ f.thread
  pub apart : asks_guards mode ≡ true → AreApart e f
  pub unordered : asks_order mode ≡ true → is_ordered before e f ≡ false

-- a test that is not asked for passes, and one that is asked for tells its answer
asked_tells : (asks b : Bool) → not (asks && b) ≡ true → asks ≡ true → b ≡ false
asked_tells asks b passes asked = not-true b (subst (λ a. not (a && b) ≡ true) asked passes)

asked_from : (asks b : Bool) → (asks ≡ true → b ≡ false) → not (asks && b) ≡ true
asked_from true b tells = not_from_false b (tells refl)
asked_from false b tells = refl

unlike : (m n : ℕ) → not (eqb m n) ≡ true → m ≢ n
unlike m n passes = λ same. false≢true (sym (not-true _ passes) ∙ eq-eqb m n same)

unlike_from : (m n : ℕ) → m ≢ n → not (eqb m n) ≡ true
unlike_from m n differ = not_from_false _ (false_from_ne_true _ (λ same. differ (eqb-true m n same)))

fit_tells : (before : Segment → Segment → Bool) (mode : Mode) (e f : Edge) → goes_with before mode e f ≡ true → AreFit before mode e f
unfolding goes_with is_clear
fit_tells before mode e f goes =
    let parts = and_parts (not (eqb e.held f.held) && not (eqb e.thread f.thread)) _ goes in
    let differ = and_parts (not (eqb e.held f.held)) _ parts.0 in
    let clear = and_parts (not (asks_guards mode && guards_clash e.guards f.guards)) _ parts.1 in
    record {
      locks = unlike e.held f.held differ.0;
      threads = unlike e.thread f.thread differ.1;
      apart = λ asked. apart_tells e.guards f.guards (asked_tells _ _ clear.0 asked);
      unordered = asked_tells _ _ clear.1;
    }

pub fit_from : (before : Segment → Segment → Bool) (mode : Mode) (e f : Edge) → AreFit before mode e f → goes_with before mode e f ≡ true
unfolding goes_with is_clear
fit_from before mode e f fit =
    and_from _ _
    (and_from _ _ (unlike_from e.held f.held fit.locks) (unlike_from e.thread f.thread fit.threads))
    (and_from _ _
    (asked_from (asks_guards mode) _ (λ asked. apart_from e.guards f.guards (fit.apart asked)))
    (asked_from (asks_order mode) _ fit.unordered))

-- a test of all elements
all_tells : {X : Type 0} (p : X → Bool) (xs : List X) → list_all p xs ≡ true → All (λ x. p x ≡ true) xs
all_tells p [] passes k d below = absurd (omega arith)
all_tells p (x ∷ xs) passes zero d below = (and_parts (p x) _ passes).0
all_tells p (x ∷ xs) passes (suc k) d below = all_tells p xs ((and_parts (p x) _ passes).1) k d (omega arith)

all_from : {X : Type 0} (p : X → Bool) (xs : List X) → All (λ x. p x ≡ true) xs → list_all p xs ≡ true
all_from p [] all = refl
all_from p (x ∷ xs) all = and_from (p x) _ (all 0 x (omega arith)) (all_from p xs (λ k d below. all (suc k) d (omega arith)))

pairs_head : {X : Type 0} (R : X → X → Type 0) (x : X) (xs : List X) → AllPairs R (x ∷ xs) → All (R x) xs
pairs_head R x xs pairs = λ k d below. pairs 0 (suc k) d (omega arith) (omega arith)

pairs_tail : {X : Type 0} (R : X → X → Type 0) (x : X) (xs : List X) → AllPairs R (x ∷ xs) → AllPairs R xs
pairs_tail R x xs pairs = λ i j d lower below. pairs (suc i) (suc j) d (omega arith) (omega arith)

module _ (before : Segment → Segment → Bool) (mode : Mode) where
  together_tells : (es : List Edge) → go_together before mode es ≡ true → AllPairs (AreFit before mode) es
  together_tells [] goes = λ i j d lower below. absurd (omega arith)
  together_tells (e ∷ es) goes =
      let parts = and_parts (list_all (goes_with before mode e) es) _ goes in
      AllPairs-cons (AreFit before mode) e es
      (λ k d below. fit_tells before mode e _ (all_tells (goes_with before mode e) es parts.0 k d below))
      (together_tells es parts.1)

  together_from : (es : List Edge) → AllPairs (AreFit before mode) es → go_together before mode es ≡ true
  together_from [] pairs = refl
  together_from (e ∷ es) pairs =
      and_from (list_all (goes_with before mode e) es) _
      (all_from (goes_with before mode e) es (λ k d below. fit_from before mode e _ (pairs_head (AreFit before mode) e es pairs k d below)))
      (together_from es (pairs_tail (AreFit before mode) e es pairs))

lead_on_tells : (es : List Edge) → lead_on es ≡ true → (i : ℕ) (e f : Edge) → slice_get es i ≡ Some e → slice_get es (suc i) ≡ Some f → LeadsOn e f
lead_on_tells [] passes i e f here next = absurd (cc)
lead_on_tells (c ∷ []) passes i e f here next = absurd (cc)
lead_on_tells (c ∷ d ∷ es) passes zero e f here next =
    let c_is : c ≡ e = cc in
    let d_is : d ≡ f = cc in
    subst (λ x. LeadsOn x f) c_is (subst (LeadsOn c) d_is (leads_tells c d ((and_parts (leads_to c d) _ passes).0)))
lead_on_tells (c ∷ d ∷ es) passes (suc i) e f here next = lead_on_tells (d ∷ es) ((and_parts (leads_to c d) _ passes).1) i e f here next

lead_on_from : (es : List Edge) → ((i : ℕ) (e f : Edge) → slice_get es i ≡ Some e → slice_get es (suc i) ≡ Some f → LeadsOn e f) → lead_on es ≡ true
lead_on_from [] leads = refl
lead_on_from (c ∷ []) leads = refl
lead_on_from (c ∷ d ∷ es) leads =
    and_from (leads_to c d) _ (leads_from c d (leads 0 c d refl refl)) (lead_on_from (d ∷ es) (λ i e f here next. leads (suc i) e f here next))

-- the last edge stands at the last place
last_at : (e : Edge) (es : List Edge) → slice_get (e ∷ es) (length es) ≡ Some (last_of e es)
last_at e [] = refl
last_at e (f ∷ es) = last_at f es

end_at : (e : Edge) (es : List Edge) → slice_get (e ∷ es) (length (e ∷ es) - 1) ≡ Some (last_of e es)
end_at e es =
    let same : length (e ∷ es) - 1 ≡ length es = omega arith in
    ap (slice_get (e ∷ es)) same ∙ last_at e es

least_tells : (e : Edge) (es : List Edge) → begins_least (e ∷ es) ≡ true → All (λ (f : Edge). e.thread ≤ f.thread) (e ∷ es)
least_tells e es passes zero d below = omega arith
least_tells e es passes (suc k) d below = leb-true _ _ (all_tells (λ f. leb e.thread f.thread) es passes k d (omega arith))

least_from : (e : Edge) (es : List Edge) → All (λ (f : Edge). e.thread ≤ f.thread) (e ∷ es) → begins_least (e ∷ es) ≡ true
least_from e es least = all_from (λ f. leb e.thread f.thread) es (λ k d below. le-leb _ _ (least (suc k) d (omega arith)))

module _ (before : Segment → Segment → Bool) (mode : Mode) (len : ℕ) where
  -- a list that passes the test is a cycle
  pub cycle_from_test : (es : List Edge) → length es ≤ len → is_cycle before mode es ≡ true → IsCycle before mode len es
  unfolding is_cycle is_path
  cycle_from_test [] short passes = absurd (false≢true passes)
  cycle_from_test (c ∷ es) short passes =
      let outer = and_parts (leb 2 (length (c ∷ es))) _ passes in
      let inner = and_parts (is_path before mode (c ∷ es)) _ outer.1 in
      let path = and_parts (lead_on (c ∷ es)) _ inner.0 in
      let rest = and_parts (go_together before mode (c ∷ es)) _ path.1 in
      let fit = together_tells before mode (c ∷ es) rest.0 in
      record {
        two_or_more = leb-true _ _ outer.0;
        not_too_long = short;
        leads_on = λ i e f here next. lead_on_tells (c ∷ es) path.0 i e f here (rw add-one at next);
        leads_back = λ e f last first.
            let e_is : last_of c es ≡ e = same_Some _ e (sym (end_at c es) ∙ last) in
            let f_is : c ≡ f = same_Some c f first in
            subst (λ x. LeadsOn x f) e_is (subst (LeadsOn (last_of c es)) f_is (leads_tells (last_of c es) c inner.1));
        locks_differ = λ i j d lower below. (fit i j d lower below).locks;
        threads_differ = λ i j d lower below. (fit i j d lower below).threads;
        least_first = λ e first. subst (λ (x : Edge). All (λ (f : Edge). x.thread ≤ f.thread) (c ∷ es)) (same_Some c e first) (least_tells c es rest.1);
        apart = λ asked i j d lower below. (fit i j d lower below).apart asked;
        unordered = λ asked i j d lower below. (fit i j d lower below).unordered asked;
      }

  -- a cycle passes the test
  pub test_from_cycle : (es : List Edge) → IsCycle before mode len es → is_cycle before mode es ≡ true
  unfolding is_cycle is_path
  test_from_cycle [] cycle = absurd (omega (arith, cycle.two_or_more))
  test_from_cycle (c ∷ es) cycle =
      let fit : AllPairs (AreFit before mode) (c ∷ es) = λ i j d lower below. record {
        locks = cycle.locks_differ i j d lower below;
        threads = cycle.threads_differ i j d lower below;
        apart = λ asked. cycle.apart asked i j d lower below;
        unordered = λ asked. cycle.unordered asked i j d lower below;
      } in
      let closed : LeadsOn (last_of c es) c = cycle.leads_back (last_of c es) c (end_at c es) refl in
      and_from _ _ (le-leb _ _ cycle.two_or_more)
      (and_from _ _
      (and_from _ _
      (lead_on_from (c ∷ es) (λ i e f here next. cycle.leads_on i e f here (rw add-one next)))
      (and_from _ _ (together_from before mode (c ∷ es) fit) (least_from c es (cycle.least_first c refl))))
      (leads_from (last_of c es) c closed))
