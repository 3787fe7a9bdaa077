-- An edge beside which none may stand is in no cycle.
use Rattle.std.proofs.Common.{◌≡◌, ℕ, ◌+◌, ◌<◌, ◌≤◌, Bool, true, false, List, length, Option, Some, None, sym, ap, subst, ◌∙◌, arith, inl, inr}
use Rattle.std.specs.Prelude.{slice_get, unwrap_or, IfSome}
use Rattle.std.proofs.lemmas.Bool.{cases_eq, false≢true, cases_lt, false_from_ne_true}
use Rattle.std.proofs.lemmas.Option.{slice_get-get_or, slice_get_within, same_Some}
use Rattle.gl_event.specs.declared.events.Segment.{Segment}
use Rattle.gl_edges.specs.declared.edge.Edge.{Edge}
use Rattle.gl_filters.specs.declared.query.Mode.{Mode}
use Rattle.gl_index.specs.declared.sides.Side.{Side}
use Rattle.gl_index.specs.declared.sides.Side.TheVariants.{Follower, Leader}
use Rattle.gl_index.specs.Listed.{IsNextWith}
use Rattle.gl_index.specs.Sides.{is_beside, opposite, lock_towards}
use Rattle.gl_sought.specs.OffCycles.{IsOffCycles, KeepsCycles}
use Rattle.gl_sought.specs.Sought.{StayLeftOut}
use Rattle.gl_exclusions.specs.bodies.Partners.{NoneBeside, IsNextBeside}
use Rattle.gl_sought.proofs.Apart.{beside, next_edge, edge_before}
use Rattle.gl_sought.proofs.Back.{kept_at}

-- an edge may stand beside another one only where they share a lock
pub shares_lock : (before : Segment → Segment → Bool) (mode : Mode) (side : Side) (e f : Edge) → is_beside before mode side e f ≡ true → lock_towards (opposite side) f ≡ lock_towards side e
shares_lock before mode Follower e f fits = sym (beside before mode e f fits).0
shares_lock before mode Leader e f fits = (beside before mode f e fits).0

module _ (before : Segment → Segment → Bool) (mode : Mode) (edges : List Edge) (kept : List Bool) (side : Side) where
  module _ (then : List Bool) (stay : StayLeftOut then kept) where
    -- those that share no lock don't stand beside it
    none_on : (x m : ℕ) (e : Edge) (next : Option ℕ) → slice_get edges x ≡ Some e → NoneBeside before mode edges kept side x m → IsNextWith (lock_towards (opposite side)) edges then (lock_towards side e) m next
        → NoneBeside before mode edges kept side x (unwrap_or next (length edges))
    none_on x m e next at passed is = λ i e2 f below at_e at_f left.
        let same : e ≡ e2 = same_Some e e2 (sym at ∙ at_e) in
        elim (cases_lt i m) [
          | inl early ↦ passed i e2 f early at_e at_f left
          | inr late ↦
              elim (is.skipped i f (omega arith) below at_f) [
                | inl other ↦ false_from_ne_true _ (λ fits. other (shares_lock before mode side e2 f fits ∙ ap (lock_towards side) (sym same)))
                | inr off ↦ absurd (false≢true (same_Some false true (sym (stay i off) ∙ left)))
              ]
        ]

    shares_on : (x m : ℕ) (e : Edge) (next : Option ℕ) → slice_get edges x ≡ Some e → IsNextWith (lock_towards (opposite side)) edges then (lock_towards side e) m next
        → IfSome next (λ p. (p < length edges) × ((e f : Edge) → slice_get edges x ≡ Some e → slice_get edges p ≡ Some f → lock_towards (opposite side) f ≡ lock_towards side e))
    shares_on x m e None at is = tt
    shares_on x m e (Some p) at is =
        (is.holds.0, λ e2 f at_e at_f. let same : e ≡ e2 = same_Some e e2 (sym at ∙ at_e) in is.holds.1 f at_f ∙ ap (lock_towards side) same)

    -- the first edge that shares the lock is where to begin
    pub begins : (x : ℕ) (e : Edge) (first : Option ℕ) → slice_get edges x ≡ Some e → IsNextWith (lock_towards (opposite side)) edges then (lock_towards side e) 0 first → IsNextBeside before mode edges kept side x first
    begins x e first at is = record { passed = none_on x 0 e first at (λ i e f below at_e at_f left. absurd (omega arith)) is; shares = shares_on x 0 e first at is }

    -- past one that may not stand beside it, or isn't kept, the next one is
    pub goes_past : (x p : ℕ) (e f : Edge) (next : Option ℕ) → slice_get edges x ≡ Some e → slice_get edges p ≡ Some f → IsNextBeside before mode edges kept side x (Some p)
        → (slice_get kept p ≡ Some true → is_beside before mode side e f ≡ false) → IsNextWith (lock_towards (opposite side)) edges then (lock_towards (opposite side) f) (p + 1) next → IsNextBeside before mode edges kept side x next
    goes_past x p e f next at there was not_it is =
        let on = subst (λ k. IsNextWith (lock_towards (opposite side)) edges then k (p + 1) next) (was.shares.1 e f at there) is in
        record {
          passed = none_on x (p + 1) e next at (λ i e2 f2 below at_e at_f left.
              elim (cases_eq i p) [
                | inl same ↦
                    let is_e : e ≡ e2 = same_Some e e2 (sym at ∙ at_e) in
                    let is_f : f ≡ f2 = same_Some f f2 (sym there ∙ ap (slice_get edges) (sym same) ∙ at_f) in
                    (λ k. is_beside before mode side (sym is_e k) (sym is_f k)) ∙ not_it (ap (slice_get kept) (sym same) ∙ left)
                | inr other ↦ was.passed i e2 f2 (omega arith) at_e at_f left
              ]) on;
          shares = shares_on x (p + 1) e next at on;
        }

-- an edge that none may follow is in no cycle, nor is one that none may lead
pub off_stuck : (before : Segment → Segment → Bool) (mode : Mode) (len : ℕ) (edges : List Edge) (kept : List Bool) → KeepsCycles before mode len edges kept
    → (side : Side) (x m : ℕ) (e : Edge) → length edges ≤ m → slice_get edges x ≡ Some e → NoneBeside before mode edges kept side x m → IsOffCycles before mode len edges e
off_stuck before mode len edges kept keeps Follower x m e all at none = λ cycle among is in_it.
    let (k, below, same) = in_it in
    let (j, f, there, compatible) = next_edge before mode len cycle is k e (slice_get-get_or cycle k e below ∙ ap Some same) in
    let (i, at_i, flag) = kept_at before mode len edges kept keeps cycle among is j f there in
    false≢true (sym (none i e f (omega (arith, all, slice_get_within edges i f at_i)) at at_i flag) ∙ compatible)
off_stuck before mode len edges kept keeps Leader x m e all at none = λ cycle among is in_it.
    let (k, below, same) = in_it in
    let (j, f, there, compatible) = edge_before before mode len cycle is k e (slice_get-get_or cycle k e below ∙ ap Some same) in
    let (i, at_i, flag) = kept_at before mode len edges kept keeps cycle among is j f there in
    false≢true (sym (none i e f (omega (arith, all, slice_get_within edges i f at_i)) at at_i flag) ∙ compatible)
