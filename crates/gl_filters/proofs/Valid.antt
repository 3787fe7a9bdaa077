-- A list of edges that is found valid is a cycle.
use Rattle.std.proofs.Common.{◌≡◌, ◌≢◌, ℕ, ◌+◌, ◌-◌, ◌<◌, ◌≤◌, Bool, true, false, eqb, cond, List, length, get_or, sym, ap, subst, ◌∙◌, arith, inl, inr}
use Rattle.std.specs.Prelude.{slice_get, AllPairs}
use Rattle.std.proofs.lemmas.Bool.{false≢true, eq-eqb, eqb-true, false_from_ne_true, cases_Bool}
use Rattle.std.proofs.lemmas.Option.{slice_get-get_or, slice_get_within, get_or_from_slice_get}
use Rattle.gl_event.specs.declared.events.Segment.{Segment}
use Rattle.gl_edges.specs.declared.edge.Edge.{Edge}
use Rattle.gl_filters.specs.Asked.{Asked}
use Rattle.gl_filters.specs.Cycle.{is_ordered, IsCycle}
use Rattle.gl_filters.specs.Verdicts.{hold_one_lock, are_of_one_thread, have_gate_lock, following, NoPair, IsClosedAt, IsNotLesserAt, IsUnordered}
use Rattle.gl_filters.proofs.Cycling.{apart_tells, apart_from}

pairs_from : (test : Edge → Edge → Bool) (es : List Edge) → NoPair test es → AllPairs (λ e f. test e f ≡ false) es
pairs_from test es none = λ i j d lower below.
    none i (omega arith) j (get_or es i d) (get_or es j d) lower below (slice_get-get_or es i d (omega arith)) (slice_get-get_or es j d below)

apart_by : (m n : ℕ) → eqb m n ≡ false → m ≢ n
apart_by m n differ = λ same. false≢true (sym differ ∙ eq-eqb m n same)

next_of : (n i : ℕ) → i + 1 < n → following n i ≡ i + 1
next_of n i within = ap (λ b. cond b 0 (i + 1)) (false_from_ne_true _ (λ (same : eqb (i + 1) n ≡ true). absurd (omega (arith, eqb-true (i + 1) n same))))

last_of_all : (n : ℕ) → 0 < n → following n (n - 1) ≡ 0
last_of_all n some = ap (λ b. cond b 0 (n - 1 + 1)) (eq-eqb (n - 1 + 1) n (omega arith))

pub cycle_if_valid : (before : Segment → Segment → Bool) (asked : Asked) (es : List Edge) → IsUnordered before asked es → IsCycle before asked.mode asked.len es
cycle_if_valid before asked es valid =
    let apart = valid.0 in
    let least = apart.0 in
    let threads = least.0 in
    let locks = threads.0 in
    let closed = locks.0 in
    let two = closed.0.0 in
    record {
      two_or_more = two;
      not_too_long = closed.0.1;
      leads_on = λ i e f here next.
          let within = slice_get_within es (i + 1) f next in
          closed.1 i (omega arith) e f here (ap (slice_get es) (next_of (length es) i within) ∙ next);
      leads_back = λ e f last first. closed.1 (length es - 1) (omega arith) e f last (ap (slice_get es) (last_of_all (length es) (omega arith)) ∙ first);
      locks_differ = λ i j d lower below. apart_by _ _ (pairs_from hold_one_lock es locks.1 i j d lower below);
      threads_differ = λ i j d lower below. apart_by _ _ (pairs_from are_of_one_thread es threads.1 i j d lower below);
      least_first = λ e first k d below. least.1 k below e (get_or es k d) first (slice_get-get_or es k d below);
      apart = λ is i j d lower below. apart_tells _ _ (pairs_from have_gate_lock es (apart.1 is) i j d lower below);
      unordered = λ is. pairs_from (is_ordered before) es (valid.1 is);
    }

pairs_to : (test : Edge → Edge → Bool) (es : List Edge) → AllPairs (λ e f. test e f ≡ false) es → NoPair test es
pairs_to test es pairs = λ i within j e f later below at_e at_f.
    subst (λ (x : Edge). test x f ≡ false) (get_or_from_slice_get es i e e at_e)
    (subst (λ (x : Edge). test (get_or es i e) x ≡ false) (get_or_from_slice_get es j f e at_f) (pairs i j e later below))

unequal : (m n : ℕ) → m ≢ n → eqb m n ≡ false
unequal m n differ = false_from_ne_true _ (λ same. differ (eqb-true m n same))

pub valid_if_cycle : (before : Segment → Segment → Bool) (asked : Asked) (es : List Edge) → IsCycle before asked.mode asked.len es → IsUnordered before asked es
valid_if_cycle before asked es cycle =
    let closed : (i : ℕ) → i < length es → IsClosedAt es i = λ i within e f here next.
    elim (cases_Bool (eqb (i + 1) (length es))) [
      | inl last ↦
          let end : length es - 1 ≡ i = omega (arith, eqb-true (i + 1) (length es) last) in
          cycle.leads_back e f (ap (slice_get es) end ∙ here) (ap (slice_get es) (sym (ap (λ b. cond b 0 (i + 1)) last)) ∙ next)
      | inr more ↦ cycle.leads_on i e f here (ap (slice_get es) (sym (ap (λ b. cond b 0 (i + 1)) more)) ∙ next)
    ] in
    let locks : NoPair hold_one_lock es = pairs_to hold_one_lock es (λ i j d lower below. unequal _ _ (cycle.locks_differ i j d lower below)) in
    let threads : NoPair are_of_one_thread es = pairs_to are_of_one_thread es (λ i j d lower below. unequal _ _ (cycle.threads_differ i j d lower below)) in
    let least : (i : ℕ) → i < length es → IsNotLesserAt es i = λ i within e f first here.
    subst (λ (x : Edge). e.thread ≤ x.thread) (get_or_from_slice_get es i f f here) (cycle.least_first e first i f within) in (
      (
        (((((cycle.two_or_more, cycle.not_too_long), closed), locks), threads), least),
        λ is. pairs_to have_gate_lock es (λ i j d lower below. apart_from _ _ (cycle.apart is i j d lower below)),
      ),
      λ is. pairs_to (is_ordered before) es (cycle.unordered is),
    )
