-- The edges of a cycle, two at a time.
use Rattle.std.proofs.Common.{◌≡◌, ◌≢◌, ℕ, ◌+◌, ◌-◌, ◌<◌, ◌⊎◌, Bool, true, not, ◌&&◌, eqb, leb, cond, List, length, get_or, Some, refl, sym, ap, subst, ◌∙◌, arith, inl, inr}
use Rattle.std.specs.Prelude.{slice_get}
use Rattle.std.proofs.Math.Bool.{or_comm}
use Rattle.std.proofs.lemmas.Bool.{cases_Bool, eqb-true, and_parts, and_from, leb-true, leb-false}
use Rattle.std.proofs.lemmas.Option.{slice_get_within, get_or_from_slice_get}
use Rattle.gl_event.specs.Modes.{conflict}
use Rattle.gl_event.specs.declared.events.LockMode.{LockMode}
use Rattle.gl_event.specs.declared.events.LockMode.TheVariants.{Exclusive, Shared}
use Rattle.gl_event.specs.declared.events.Segment.{Segment}
use Rattle.gl_edges.specs.declared.edge.Edge.{Edge}
use Rattle.gl_filters.specs.declared.query.Mode.{Mode}
use Rattle.gl_filters.specs.Cycle.{asks_guards, first_segment, second_segment, LeadsOn, IsCycle}
use Rattle.gl_filters.specs.Verdicts.{following}
use Rattle.gl_edges.specs.Clashes.{guards_clash}
use Rattle.gl_filters.specs.Test.{is_clear, goes_with, kinds_go_together, is_compatible}
use Rattle.gl_filters.proofs.Cycling.{AreFit, fit_from, leads_from}

conflict-sym : (a b : LockMode) → conflict a b ≡ conflict b a
conflict-sym Exclusive Exclusive = refl
conflict-sym Exclusive Shared = refl
conflict-sym Shared Exclusive = refl
conflict-sym Shared Shared = refl

module _ (before : Segment → Segment → Bool) (mode : Mode) where
  -- two edges go with each other either way
  fit_back : (e f : Edge) → AreFit before mode e f → AreFit before mode f e
  fit_back e f fit = record {
    locks = λ same. fit.locks (sym same);
    threads = λ same. fit.threads (sym same);
    apart = λ asked lock gate. fit.apart asked lock (record {
      one = gate.other;
      other = gate.one;
      in_one = gate.in_other;
      in_other = gate.in_one;
      in_conflict = conflict-sym gate.other gate.one ∙ gate.in_conflict;
    });
    unordered = λ asked. or_comm (before (second_segment f) (first_segment e)) (before (second_segment e) (first_segment f)) ∙ fit.unordered asked;
  }

  -- where an edge leads on to one that it goes with, that one may follow
  pub follows_from : (e f : Edge) → LeadsOn e f → goes_with before mode e f ≡ true → is_compatible before mode e f ≡ true
  unfolding goes_with is_compatible
  follows_from e f leads goes =
      let parts = and_parts (not (eqb e.held f.held) && not (eqb e.thread f.thread)) _ goes in
      and_from _ _ (and_from _ _ (leads_from e f leads) (and_parts (not (eqb e.held f.held)) _ parts.0).1) parts.1

  -- where edges go with each other, their kinds do
  kinds_go : (e f : Edge) → goes_with before mode e f ≡ true → kinds_go_together mode e f ≡ true
  unfolding goes_with is_clear kinds_go_together
  kinds_go e f goes =
      let parts = and_parts (not (eqb e.held f.held) && not (eqb e.thread f.thread)) _ goes in
      and_from _ _ (and_parts (not (eqb e.held f.held)) _ parts.0).0 (and_parts (not (asks_guards mode && guards_clash e.guards f.guards)) _ parts.1).0

  module _ (len : ℕ) (es : List Edge) (cycle : IsCycle before mode len es) where
    fit_pair : (i j : ℕ) (e f : Edge) → i < j → slice_get es i ≡ Some e → slice_get es j ≡ Some f → AreFit before mode e f
    fit_pair i j e f lower at_e at_f =
        let below = slice_get_within es j f at_f in
        subst (λ (x : Edge). AreFit before mode x f) (get_or_from_slice_get es i e e at_e)
        (subst (λ (x : Edge). AreFit before mode (get_or es i e) x) (get_or_from_slice_get es j f e at_f)
        (record {
          locks = cycle.locks_differ i j e lower below;
          threads = cycle.threads_differ i j e lower below;
          apart = λ asked. cycle.apart asked i j e lower below;
          unordered = λ asked. cycle.unordered asked i j e lower below;
        }))

    -- each two edges go together
    pub pair_goes : (i j : ℕ) (e f : Edge) → i ≢ j → slice_get es i ≡ Some e → slice_get es j ≡ Some f → goes_with before mode e f ≡ true
    pair_goes i j e f differ at_e at_f =
        elim (cases_lt i j differ) [
          | inl lower ↦ fit_from before mode e f (fit_pair i j e f lower at_e at_f)
          | inr higher ↦ fit_from before mode e f (fit_back f e (fit_pair j i f e higher at_f at_e))
        ]
      where
        cases_lt : (a b : ℕ) → a ≢ b → (a < b) ⊎ (b < a)
        cases_lt a b differ = elim (cases_Bool (leb a b)) [
          | inl le ↦ inl (omega (arith, leb-true a b le))
          | inr not ↦ inr (omega (arith, leb-false a b not))
        ]

    -- and so do their kinds
    pub pair_goes_by_kind : (i j : ℕ) (e f : Edge) → i ≢ j → slice_get es i ≡ Some e → slice_get es j ≡ Some f → kinds_go_together mode e f ≡ true
    pair_goes_by_kind i j e f differ at_e at_f = kinds_go e f (pair_goes i j e f differ at_e at_f)

    -- each edge leads on to the next one, round
    pub leads_round : (i : ℕ) (e f : Edge) → slice_get es i ≡ Some e → slice_get es (following (length es) i) ≡ Some f → LeadsOn e f
    leads_round i e f here next =
        elim (cases_Bool (eqb (i + 1) (length es))) [
          | inl last ↦
              let end : length es - 1 ≡ i = omega (arith, eqb-true (i + 1) (length es) last) in
              cycle.leads_back e f (ap (slice_get es) end ∙ here) (ap (slice_get es) (sym (ap (λ b. cond b 0 (i + 1)) last)) ∙ next)
          | inr more ↦ cycle.leads_on i e f here (ap (slice_get es) (sym (ap (λ b. cond b 0 (i + 1)) more)) ∙ next)
        ]

    -- the next place is another one
    not_itself : (i : ℕ) → i ≢ following (length es) i
    not_itself i same =
        elim (cases_Bool (eqb (i + 1) (length es))) [
          | inl last ↦
              let is : i ≡ 0 = same ∙ ap (λ b. cond b 0 (i + 1)) last in
              absurd (omega (arith, cycle.two_or_more, eqb-true (i + 1) (length es) last, is))
          | inr more ↦ let is : i ≡ i + 1 = same ∙ ap (λ b. cond b 0 (i + 1)) more in absurd (omega arith)
        ]

    -- and may be followed by it
    pub compatible_round : (i : ℕ) (e f : Edge) → slice_get es i ≡ Some e → slice_get es (following (length es) i) ≡ Some f → is_compatible before mode e f ≡ true
    compatible_round i e f here next = follows_from e f (leads_round i e f here next) (pair_goes i (following (length es) i) e f (not_itself i) here next)
