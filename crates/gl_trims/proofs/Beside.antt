-- Steps of trimming.
use Rattle.std.proofs.Common.{◌≡◌, ◌≢◌, ℕ, zero, suc, ◌+◌, ◌-◌, ◌<◌, ◌≤◌, Bool, true, false, not, List, [], length, set, get_or, replicate, Option, Some, None, is_some, refl, sym, ap, subst, ◌∙◌, arith, inl, inr}
use Rattle.std.specs.Bool.{Decides}
use Rattle.std.specs.Prelude.{slice_get, unwrap_or, IfSome, Contains}
use Rattle.std.proofs.lemmas.Bool.{cases_eq, eq-eqb, false≢true, cases_lt, and_parts, false_from_ne_true, not-true}
use Rattle.std.proofs.lemmas.List.{length-set, length-replicate}
use Rattle.std.proofs.lemmas.Option.{slice_get_within, same_Some}
use Rattle.gl_event.specs.declared.events.Segment.{Segment}
use Rattle.gl_edges.specs.declared.edge.Edge.{Edge}
use Rattle.gl_filters.specs.declared.query.Mode.{Mode}
use Rattle.gl_index.specs.declared.sides.Side.{Side}
use Rattle.gl_index.specs.declared.sides.Side.TheVariants.{Follower, Leader}
use Rattle.gl_trims.specs.Trims.{HasBeside, IsStuck, IsFirstStuck}
use Rattle.gl_trims.specs.bodies.Trimming.{IsFlagged, NoneBeside, IsStart, IsHint, HasHint, KeepHints, AreHints, AreBothHints, AreAwake, HasBesideAt, TellsStuck, AreSettled, hints_of, watched_at}
use Rattle.gl_trims.specs.bodies.Waiting.{waits}
use Rattle.gl_trims.specs.declared.waiting.Waiting.{Waiting}
use Rattle.gl_index.specs.Indexes.{AreChained}
use Rattle.gl_index.specs.Sides.{is_beside, opposite, lock_towards}
use Rattle.gl_index.specs.Listed.{IsNextWith}
use Rattle.gl_index.specs.Users.{MayUse, AreUsers}
use Rattle.gl_index.specs.declared.users.Users.{Users}
use Rattle.gl_trims.specs.declared.trims.Hints.{Hints}
use Rattle.gl_trims.specs.declared.trims.Sides.{Sides}
use Rattle.gl_filters.specs.Test.{is_compatible, leads_to, is_clear}
use Rattle.gl_filters.proofs.Cycling.{leads_same}
use Rattle.gl_trims.proofs.Watching.{length_watched, watched_has, watched_keeps}
use Rattle.gl_index.proofs.Lists.{element_at, set_here, set_elsewhere}

-- an edge may come beside another one only where they share a lock
shares_lock : (before : Segment → Segment → Bool) (mode : Mode) (side : Side) (e f : Edge) → is_beside before mode side e f ≡ true → lock_towards (opposite side) f ≡ lock_towards side e
unfolding is_compatible
shares_lock before mode Follower e f fits = sym (leads_same e f ((and_parts (leads_to e f) _ ((and_parts _ (is_clear before mode e f) fits).0)).0))
shares_lock before mode Leader e f fits = leads_same f e ((and_parts (leads_to f e) _ ((and_parts _ (is_clear before mode f e) fits).0)).0)

-- and only where they have different threads
other_thread : (before : Segment → Segment → Bool) (mode : Mode) (side : Side) (e f : Edge) → is_beside before mode side e f ≡ true → f.thread ≢ e.thread
unfolding is_compatible
other_thread before mode Follower e f fits same =
    let parts = and_parts (leads_to e f) _ (and_parts _ (is_clear before mode e f) fits).0 in
    false≢true (sym (not-true _ parts.1) ∙ eq-eqb e.thread f.thread (sym same))
other_thread before mode Leader e f fits same =
    let parts = and_parts (leads_to f e) _ (and_parts _ (is_clear before mode f e) fits).0 in
    false≢true (sym (not-true _ parts.1) ∙ eq-eqb f.thread e.thread same)

module _ (before : Segment → Segment → Bool) (mode : Mode) (edges : List Edge) (gone : List Bool) where
  module _ (side : Side) where
    -- those that share no lock don't come beside it
    none_on : (i m : ℕ) (e : Edge) (next : Option ℕ) → slice_get edges i ≡ Some e → NoneBeside before mode edges gone side i m → IsNextWith (lock_towards (opposite side)) edges [] (lock_towards side e) m next
        → NoneBeside before mode edges gone side i (unwrap_or next (length edges))
    none_on i m e next at passed is = λ q e2 f below at_e at_f left.
        let same : e ≡ e2 = same_Some e e2 (sym at ∙ at_e) in
        elim (cases_lt q m) [
          | inl early ↦ passed q e2 f early at_e at_f left
          | inr late ↦
              elim (is.skipped q f (omega arith) below at_f) [
                | inl other ↦ false_from_ne_true _ (λ fits. other (shares_lock before mode side e2 f fits ∙ ap (lock_towards side) (sym same)))
                | inr off ↦ absurd (let o = off in cc)
              ]
        ]

    shares_on : (i m : ℕ) (e : Edge) (next : Option ℕ) → slice_get edges i ≡ Some e → IsNextWith (lock_towards (opposite side)) edges [] (lock_towards side e) m next
        → IfSome next (λ p. (p < length edges) × ((e f : Edge) → slice_get edges i ≡ Some e → slice_get edges p ≡ Some f → lock_towards (opposite side) f ≡ lock_towards side e))
    shares_on i m e None at is = tt
    shares_on i m e (Some p) at is =
        (is.holds.0, λ e2 f at_e at_f. let same : e ≡ e2 = same_Some e e2 (sym at ∙ at_e) in is.holds.1 f at_f ∙ ap (lock_towards side) same)

    -- the first edge that shares the lock is where to begin
    pub start_first : (i : ℕ) (e : Edge) (first : Option ℕ) → slice_get edges i ≡ Some e → IsNextWith (lock_towards (opposite side)) edges [] (lock_towards side e) 0 first → IsStart before mode edges gone side i first
    start_first i e first at is = record { passed = none_on i 0 e first at (λ q e f below at_e at_f left. absurd (omega arith)) is; shares = shares_on i 0 e first at is }

    -- past one that may not come beside it, or is gone, the next one is
    pub start_after : (i p : ℕ) (e f : Edge) (next : Option ℕ) → slice_get edges i ≡ Some e → slice_get edges p ≡ Some f → NoneBeside before mode edges gone side i p → lock_towards (opposite side) f ≡ lock_towards side e
        → (slice_get gone p ≡ Some false → is_beside before mode side e f ≡ false) → IsNextWith (lock_towards (opposite side)) edges [] (lock_towards (opposite side) f) (p + 1) next → IsStart before mode edges gone side i next
    start_after i p e f next at there passed shared not_it is =
        let on = subst (λ k. IsNextWith (lock_towards (opposite side)) edges [] k (p + 1) next) shared is in
        record {
          passed = none_on i (p + 1) e next at (λ q e2 f2 below at_e at_f left.
              elim (cases_eq q p) [
                | inl same ↦
                    let is_e : e ≡ e2 = same_Some e e2 (sym at ∙ at_e) in
                    let is_f : f ≡ f2 = same_Some f f2 (sym there ∙ ap (slice_get edges) (sym same) ∙ at_f) in
                    (λ k. is_beside before mode side (sym is_e k) (sym is_f k)) ∙ not_it (ap (slice_get gone) (sym same) ∙ left)
                | inr other ↦ passed q e2 f2 (omega arith) at_e at_f left
              ]) on;
          shares = shares_on i (p + 1) e next at on;
        }

    -- a hint is where to begin again
    pub start_again : (i p : ℕ) → IsHint before mode edges gone side i (Some p) → IsStart before mode edges gone side i (Some p)
    start_again i p had = record {
      passed = had.passed;
      shares = (had.fits.0, λ e f at_e at_f. shares_lock before mode side e f (had.fits.1 e f at_e at_f));
    }

    -- one that may come beside it is a hint
    pub hint_found : (i p : ℕ) → IsStart before mode edges gone side i (Some p) → ((e f : Edge) → slice_get edges i ≡ Some e → slice_get edges p ≡ Some f → is_beside before mode side e f ≡ true) → IsHint before mode edges gone side i (Some p)
    hint_found i p start fits = record { passed = start.passed; fits = (start.shares.0, fits) }

    pub hint_none : (i : ℕ) → IsStart before mode edges gone side i None → IsHint before mode edges gone side i None
    hint_none i start = record { passed = start.passed; fits = tt }

    -- one hint put
    hint_within : (i : ℕ) (hint : Option ℕ) (size : ℕ) → size ≡ length edges → IsHint before mode edges gone side i hint → IfSome hint (λ p. p < size)
    hint_within i None size same is = tt
    hint_within i (Some p) size same is = omega (arith, is.fits.0)

    pub hints_put : (i : ℕ) (hint : Option ℕ) (old new : Hints) → AreHints before mode edges gone side old → i < length edges → IsHint before mode edges gone side i hint
        → new.users ≡ old.users → new.chain ≡ old.chain → new.found.items ≡ set old.found.items i hint → new.watchers ≡ watched_at hint i old.watchers → AreHints before mode edges gone side new
    hints_put i hint old new had within is users chain found watchers =
        let in_found : i < length old.found.items = omega (arith, had.long) in
        let in_watchers = hint_within i hint (length old.watchers) had.as_long is in
        record {
          long = ap length found ∙ length-set old.found.items i hint ∙ had.long;
          as_long = ap length watchers ∙ length_watched hint i old.watchers ∙ had.as_long;
          users = subst (AreUsers (opposite side) edges [] (length edges)) (sym users) had.users;
          chain = subst (AreChained (opposite side) edges 0) (sym chain) had.chain;
          each = λ j p at.
              let there : slice_get (set old.found.items i hint) j ≡ Some (Some p) = sym (ap (λ l. slice_get l j) found) ∙ at in
              elim (cases_eq j i) [
                | inl same ↦
                    let is_hint : hint ≡ Some p = same_Some hint (Some p) (sym (set_here old.found.items i hint in_found) ∙ ap (slice_get (set old.found.items i hint)) (sym same) ∙ there) in
                    subst (λ m. IsHint before mode edges gone side m (Some p)) (sym same) (subst (IsHint before mode edges gone side i) is_hint is)
                | inr other ↦
                    let inside = slice_get_within (set old.found.items i hint) j (Some p) there in
                    had.each j p (sym (set_elsewhere old.found.items i j hint other (omega (arith, length-set old.found.items i hint))) ∙ there)
              ];
          watched = λ j p at left.
              let there : slice_get (set old.found.items i hint) j ≡ Some (Some p) = sym (ap (λ l. slice_get l j) found) ∙ at in
              subst (λ w. Contains (get_or w p []) j) (sym watchers) (elim (cases_eq j i) [
                | inl same ↦
                    let is_hint : hint ≡ Some p = same_Some hint (Some p) (sym (set_here old.found.items i hint in_found) ∙ ap (slice_get (set old.found.items i hint)) (sym same) ∙ there) in
                    let p_within : p < length old.watchers = subst (λ o. IfSome o (λ k. k < length old.watchers)) is_hint in_watchers in
                    subst (λ m. Contains (get_or (watched_at hint i old.watchers) p []) m) (sym same) (subst (λ o. Contains (get_or (watched_at o i old.watchers) p []) i) (sym is_hint) (watched_has p i old.watchers p_within))
                | inr other ↦
                    let inside = slice_get_within (set old.found.items i hint) j (Some p) there in
                    watched_keeps hint i old.watchers p j in_watchers (had.watched j p (sym (set_elsewhere old.found.items i j hint other (omega (arith, length-set old.found.items i hint))) ∙ there) left)
              ]);
        }

    -- an edge has none beside it where all that share its lock have its thread
    pub none_of_other : (users : Users) (i : ℕ) (e : Edge) → AreUsers (opposite side) edges [] (length edges) users → slice_get edges i ≡ Some e
        → ((t : ℕ) → MayUse users (lock_towards side e) t → t ≡ e.thread) → IsStart before mode edges gone side i None
    none_of_other users i e are at only = record {
      passed = λ q e2 f below at_e at_f left. false_from_ne_true _ (λ fits.
          let same : e ≡ e2 = same_Some e e2 (sym at ∙ at_e) in
          let shared : lock_towards (opposite side) f ≡ lock_towards side e = shares_lock before mode side e2 f fits ∙ ap (lock_towards side) (sym same) in
          let is_own : f.thread ≡ e.thread = only f.thread (subst (λ l. MayUse users l f.thread) shared (are q f below at_f (λ out. absurd (let o = out in cc)))) in
          other_thread before mode side e2 f fits (is_own ∙ ap (λ x. x.thread) same));
      shares = tt;
    }

    -- where no hint is left nothing is
    pub none_without : (i : ℕ) (e : Edge) → IsHint before mode edges gone side i None → length gone ≡ length edges → slice_get edges i ≡ Some e → ¬ HasBeside before mode edges (IsFlagged gone) side e
    none_without i e had long at_e beside =
        let below = slice_get_within edges beside.place beside.other beside.stands in
        let flag = element_at gone beside.place (omega arith) in
        false≢true (sym (had.passed beside.place e beside.other below at_e beside.stands (flag.1 ∙ ap Some (unset beside.place flag.0 flag.1 beside.is_left))) ∙ beside.fits)
      where
        unset : (q : ℕ) (b : Bool) → slice_get gone q ≡ Some b → (IsFlagged gone q → ⊥) → b ≡ false
        unset q true at left = absurd (left at)
        unset q false at left = refl

    -- what stands at a hint that is left may come beside it
    pub beside_hinted : (hints : Hints) (i : ℕ) (e : Edge) → AreHints before mode edges gone side hints → slice_get edges i ≡ Some e → HasHint gone hints.found.items i
        → HasBeside before mode edges (IsFlagged gone) side e
    beside_hinted hints i e are at_e hinted =
        let is = are.each i hinted.hint hinted.is in
        let other = element_at edges hinted.hint is.fits.0 in
        record { place = hinted.hint; other = other.0; stands = other.1; is_left = λ flagged. false≢true (same_Some false true (sym hinted.is_left ∙ flagged)); fits = is.fits.1 e other.0 at_e other.1 }

    -- what the next hint tells
    pub told_by_next : (i : ℕ) (found : List (Option ℕ)) (next : Option ℕ) → IsHint before mode edges gone side i next → IfSome next (λ p. slice_get gone p ≡ Some false) → i < length found → length gone ≡ length edges
        → HasBesideAt before mode edges gone side i (set found i next) (is_some next)
    told_by_next i found (Some p) is left within long = record {
      some = λ has. record { hint = p; is = set_here found i (Some p) within; is_left = left };
      none = λ has. absurd (false≢true (sym has));
    }
    told_by_next i found None is left within long = record {
      some = λ has. absurd (false≢true has);
      none = λ has e at_e. none_without i e is long at_e;
    }

  -- the hints on both sides
  pub hinted_on : (sides : Sides) (side : Side) (i : ℕ) (e : Edge) → AreBothHints before mode edges gone sides → slice_get edges i ≡ Some e → HasHint gone (hints_of side sides) i
      → HasBeside before mode edges (IsFlagged gone) side e
  hinted_on sides Follower i e are at_e hinted = beside_hinted Follower sides.followers i e are.followers at_e hinted
  hinted_on sides Leader i e are at_e hinted = beside_hinted Leader sides.leaders i e are.leaders at_e hinted

  -- a position where one side is missing is stuck
  pub stuck_from : (i : ℕ) (side : Side) (e : Edge) → slice_get edges i ≡ Some e → slice_get gone i ≡ Some false → ¬ HasBeside before mode edges (IsFlagged gone) side e
      → IsStuck before mode edges (IsFlagged gone) i
  stuck_from i side e at_e left alone = record {
    edge = e;
    stands = at_e;
    is_left = λ flagged. false≢true (same_Some false true (sym left ∙ flagged));
    side = side;
    alone = alone;
  }

  -- where a follower is left the leader decides
  pub told_by_both : (i : ℕ) (e : Edge) (sides : Sides) → slice_get edges i ≡ Some e → slice_get gone i ≡ Some false → HasHint gone sides.followers.found.items i
      → (has : Bool) → HasBesideAt before mode edges gone Leader i sides.leaders.found.items has → TellsStuck before mode edges gone sides i (not has)
  told_by_both i e sides at_e left follower true tells = record {
    yes = λ is. absurd (false≢true is);
    no = λ is there side. both side;
  }
    where
      both : (side : Side) → HasHint gone (hints_of side sides) i
      both Follower = follower
      both Leader = tells.some refl
  told_by_both i e sides at_e left follower false tells = record {
    yes = λ is. stuck_from i Leader e at_e left (tells.none refl e at_e);
    no = λ is. absurd (false≢true (sym is));
  }

  -- what doesn't wait is settled
  pub settled_below : (size n : ℕ) (sides : Sides) (waiting : Waiting) → AreBothHints before mode edges gone sides → AreAwake gone size sides waiting → n ≤ size → ((j : ℕ) → j < n → waits waiting j ≡ false)
      → AreSettled before mode edges gone n
  settled_below size n sides waiting are awake le none = λ j e side below at_e left. hinted_on sides side j e are at_e (awake.hinted j side (omega arith) left (none j below))

  -- what is settled isn't stuck
  pub not_stuck : (n j : ℕ) → length gone ≡ length edges → AreSettled before mode edges gone n → j < n → ¬ IsStuck before mode edges (IsFlagged gone) j
  not_stuck n j long settled below stuck =
      let within = slice_get_within edges j stuck.edge stuck.stands in
      let flag = element_at gone j (omega arith) in
      by flag.0 flag.1
    where
      by : (b : Bool) → slice_get gone j ≡ Some b → ⊥
      by true at = stuck.is_left at
      by false at = stuck.alone (settled j stuck.edge stuck.side below stuck.stands at)

  pub first_from : (i : ℕ) → length gone ≡ length edges → IsStuck before mode edges (IsFlagged gone) i → AreSettled before mode edges gone i → IsFirstStuck before mode edges (IsFlagged gone) i
  first_from i long stuck settled = (stuck, λ j below. not_stuck i j long settled below)

-- who has no hint that is left gives none up
pub kept_put : (gone : List Bool) (found : List (Option ℕ)) (i : ℕ) (next : Option ℕ) → ¬ HasHint gone found i → KeepHints gone found (set found i next)
kept_put gone found i next none = λ j hinted.
    elim (cases_eq j i) [
      | inl same ↦ absurd (none (subst (HasHint gone found) same hinted))
      | inr other ↦ record { hint = hinted.hint; is = set_elsewhere found i j next other (slice_get_within found j (Some hinted.hint) hinted.is) ∙ hinted.is; is_left = hinted.is_left }
    ]

-- an edge that has a hint has one that is left if that isn't gone
pub hinted_if_left : (gone : List Bool) (found : List (Option ℕ)) (i p : ℕ) (is_gone : Bool) → slice_get found i ≡ Some (Some p) → slice_get gone p ≡ Some is_gone → Decides (not is_gone) (HasHint gone found i)
hinted_if_left gone found i p true at flag = (
  λ is. absurd (false≢true is),
  λ hinted.
      let same : hinted.hint ≡ p = same_Some hinted.hint p (same_Some (Some hinted.hint) (Some p) (sym hinted.is ∙ at)) in
      absurd (false≢true (same_Some false true (sym hinted.is_left ∙ ap (slice_get gone) same ∙ flag))),
)
hinted_if_left gone found i p false at flag = (λ is. record { hint = p; is = at; is_left = flag }, λ hinted. refl)

pub unhinted_if_none : (gone : List Bool) (found : List (Option ℕ)) (i : ℕ) → slice_get found i ≡ Some None → Decides false (HasHint gone found i)
unhinted_if_none gone found i at = (λ is. absurd (false≢true is), λ hinted. absurd (let clash = same_Some None (Some hinted.hint) (sym at ∙ hinted.is) in cc))

-- what is no hint is none
pub none_alone : (Is : Option ℕ → Type 0) → ((p : ℕ) → ¬ Is (Some p)) → (hint : Option ℕ) → Is hint → hint ≡ None
none_alone Is never None is = refl
none_alone Is never (Some p) is = absurd (never p is)

-- nothing stands where no edge has a hint
unhinted : (size i p : ℕ) → ¬ (slice_get (replicate size None) i ≡ Some (Some p))
unhinted zero i p at = absurd (cc)
unhinted (suc n) zero p at = absurd (cc)
unhinted (suc n) (suc i) p at = unhinted n i p at

-- before any edge has a hint
pub hints_none : (before : Segment → Segment → Bool) (mode : Mode) (edges : List Edge) (gone : List Bool) (side : Side) (hints : Hints) (size : ℕ) → size ≡ length edges → hints.found.items ≡ replicate size None
    → hints.watchers ≡ replicate size [] → AreUsers (opposite side) edges [] size hints.users → AreChained (opposite side) edges 0 hints.chain → AreHints before mode edges gone side hints
hints_none before mode edges gone side hints size same none empty users chain = record {
  long = ap length none ∙ length-replicate size None ∙ same;
  as_long = ap length empty ∙ length-replicate size [] ∙ same;
  users = subst (λ n. AreUsers (opposite side) edges [] n hints.users) same users;
  chain = chain;
  each = λ i p at. absurd (unhinted size i p (sym (ap (λ l. slice_get l i) none) ∙ at));
  watched = λ i p at left. absurd (unhinted size i p (sym (ap (λ l. slice_get l i) none) ∙ at));
}
