-- Orders of removal, one more edge at a time.
use Rattle.std.proofs.Common.{◌≡◌, ℕ, zero, suc, ◌+◌, ◌<◌, ◌≤◌, Bool, true, false, not, List, [], ◌∷◌, ◌++◌, length, take, set, Option, Some, None, is_some, refl, sym, ap, subst, ◌∙◌, arith, inl, inr}
use Rattle.std.specs.Bool.{Decides}
use Rattle.std.specs.List.{list_any}
use Rattle.std.specs.Prelude.{slice_get, Contains, IfSome}
use Rattle.std.proofs.lemmas.Bool.{cases_eq, false≢true}
use Rattle.std.proofs.lemmas.List.{length_push, take_more, take_all, take-append-le}
use Rattle.std.proofs.lemmas.Option.{get_or_from_slice_get, slice_get_within, same_Some}
use Rattle.gl_event.specs.declared.events.Segment.{Segment}
use Rattle.gl_edges.specs.declared.edge.Edge.{Edge}
use Rattle.gl_filters.specs.declared.query.Mode.{Mode}
use Rattle.gl_index.specs.declared.sides.Side.{Side}
use Rattle.gl_index.specs.declared.sides.Side.TheVariants.{Follower, Leader}
use Rattle.gl_trims.specs.Trims.{HasBeside, IsStuck, IsRemovalOrder, IsRemovalFault, IsWholeRemoval}
use Rattle.gl_trims.specs.bodies.Trimming.{IsFlagged, IsHint, AreFlagsOf}
use Rattle.gl_trims.proofs.Beside.{none_without}
use Rattle.gl_index.proofs.Lists.{push_before, push_at_end, element_at}
use Rattle.gl_trims.proofs.Removing.{Agree, agree, flags_more, stuck_to, turned}

pub flip : (a b : Bool) → a ≡ not b → not a ≡ b
flip true true is = absurd (false≢true (sym is))
flip true false is = refl
flip false true is = refl
flip false false is = absurd (false≢true is)

-- a flag that isn't set
some_unset : (gone : List Bool) → list_any not gone ≡ true → (i : ℕ) × (slice_get gone i ≡ Some false)
some_unset [] any = absurd (false≢true any)
some_unset (false ∷ gone) any = (0, refl)
some_unset (true ∷ gone) any = let rest = some_unset gone any in (suc rest.0, rest.1)

none_unset : (gone : List Bool) → list_any not gone ≡ false → (i : ℕ) → slice_get gone i ≡ Some false → ⊥
none_unset [] none i at = absurd (let within = slice_get_within [] i false at in omega arith)
none_unset (false ∷ gone) none i at = absurd (false≢true (sym none))
none_unset (true ∷ gone) none zero at = absurd (false≢true (sym (same_Some true false at)))
none_unset (true ∷ gone) none (suc i) at = none_unset gone none i at

module _ (before : Segment → Segment → Bool) (mode : Mode) (edges : List Edge) where
  -- what a look for an edge beside this one tells
  pub lacks_told : (gone : List Bool) (side : Side) (i : ℕ) (e : Edge) (next : Option ℕ) → IsHint before mode edges gone side i next → IfSome next (λ p. slice_get gone p ≡ Some false) → length gone ≡ length edges
      → slice_get edges i ≡ Some e → Decides (not (is_some next)) (¬ HasBeside before mode edges (IsFlagged gone) side e)
  lacks_told gone side i e None hint left long at = (λ yes. none_without before mode edges gone side i e hint long at, λ none. refl)
  lacks_told gone side i e (Some p) hint left long at =
      let other = element_at edges p hint.fits.0 in (
        λ yes. absurd (false≢true yes),
        λ none. absurd (none (record { place = p; other = other.0; stands = other.1; is_left = λ flagged. false≢true (same_Some false true (sym left ∙ flagged)); fits = hint.fits.1 e other.0 at other.1 })),
      )

  -- one that has a follower is stuck only where it has no leader
  pub leader_if_stuck : (gone : List Bool) (i : ℕ) (e : Edge) (a b : Bool) → slice_get edges i ≡ Some e → Decides a (¬ HasBeside before mode edges (IsFlagged gone) Follower e)
      → Decides b (¬ HasBeside before mode edges (IsFlagged gone) Leader e) → a ≡ false → IsStuck before mode edges (IsFlagged gone) i → b ≡ true
  leader_if_stuck gone i e a b at follower leader has stuck =
      by stuck.side (subst (λ f. ¬ HasBeside before mode edges (IsFlagged gone) stuck.side f) (same_Some stuck.edge e (sym stuck.stands ∙ at)) stuck.alone)
    where
      by : (side : Side) → ¬ HasBeside before mode edges (IsFlagged gone) side e → b ≡ true
      by Follower alone = absurd (false≢true (sym has ∙ follower.1 alone))
      by Leader alone = leader.1 alone

  -- one edge more goes
  removal_push : (removed : List ℕ) (i : ℕ) → IsRemovalOrder before mode edges removed → IsStuck before mode edges (Contains removed) i → IsRemovalOrder before mode edges (removed ++ i ∷ [])
  removal_push removed i had stuck = λ n j at.
      let within = slice_get_within (removed ++ i ∷ []) n j at in
      let short : n ≤ length removed = omega (arith, length_push removed i) in
      elim (cases_eq n (length removed)) [
        | inl same ↦
            let is : i ≡ j = same_Some i j (sym (push_at_end removed i) ∙ ap (slice_get (removed ++ i ∷ [])) (sym same) ∙ at) in
            let all : removed ≡ take n (removed ++ i ∷ []) = sym (take-append-le n removed (i ∷ []) short ∙ take_all n removed (omega arith)) in
            subst (λ r. IsStuck before mode edges (Contains r) j) all (subst (IsStuck before mode edges (Contains removed)) is stuck)
        | inr other ↦
            let lower : n < length removed = omega arith in
            subst (λ r. IsStuck before mode edges (Contains r) j) (sym (take-append-le n removed (i ∷ []) short)) (had n j (sym (push_before removed i n lower) ∙ at))
      ]

  -- no edge is gone at first
  pub removal_none : IsRemovalOrder before mode edges []
  removal_none = λ n i at. absurd (let within = slice_get_within [] n i at in omega arith)

  module _ (gone : List Bool) (removed : List ℕ) (n : ℕ) (flags : AreFlagsOf (length edges) gone (take n removed)) where
    flagged_agree : Agree before mode edges (IsFlagged gone) (Contains (take n removed))
    flagged_agree = agree before mode edges gone (take n removed) flags

    -- the next one goes
    pub removal_more : (i : ℕ) → n < length removed → slice_get removed n ≡ Some i → IsRemovalOrder before mode edges (take n removed) → IsStuck before mode edges (IsFlagged gone) i → IsRemovalOrder before mode edges (take (n + 1) removed)
    removal_more i within at had stuck =
        let next : take n removed ++ i ∷ [] ≡ take (n + 1) removed = ap (λ j. take n removed ++ j ∷ []) (sym (get_or_from_slice_get removed n i 0 at)) ∙ sym (take_more removed n 0 within) in
        subst (IsRemovalOrder before mode edges) next (removal_push (take n removed) i had (stuck_to before mode edges (IsFlagged gone) (Contains (take n removed)) flagged_agree i stuck))

    pub flags_next : (i : ℕ) → n < length removed → slice_get removed n ≡ Some i → i < length edges → AreFlagsOf (length edges) (set gone i true) (take (n + 1) removed)
    flags_next i within at inside =
        let next : take n removed ++ i ∷ [] ≡ take (n + 1) removed = ap (λ j. take n removed ++ j ∷ []) (sym (get_or_from_slice_get removed n i 0 at)) ∙ sym (take_more removed n 0 within) in
        subst (AreFlagsOf (length edges) (set gone i true)) next (flags_more (length edges) gone (take n removed) i inside flags)

    -- the next one can't go
    pub fault_here : (i : ℕ) → slice_get removed n ≡ Some i → IsRemovalOrder before mode edges (take n removed) → ¬ IsStuck before mode edges (IsFlagged gone) i → IsRemovalFault before mode edges removed n
    fault_here i at had not_stuck = record {
      before_it = had;
      wrong = λ j at_j stuck.
          let same : j ≡ i = same_Some j i (sym at_j ∙ at) in
          not_stuck (subst (IsStuck before mode edges (IsFlagged gone)) same (stuck_to before mode edges (Contains (take n removed)) (IsFlagged gone) (turned before mode edges (IsFlagged gone) (Contains (take n removed)) flagged_agree) j stuck));
      ended = λ none. absurd (let clash = sym at ∙ none in cc);
    }

    -- it ends, and an edge is left
    pub fault_at_end : n ≡ length removed → IsRemovalOrder before mode edges (take n removed) → list_any not gone ≡ true → IsRemovalFault before mode edges removed n
    fault_at_end end had some = let left = some_unset gone some in record {
      before_it = had;
      wrong = λ j at_j stuck. absurd (let within = slice_get_within removed n j at_j in omega arith);
      ended = λ none.
          let within : left.0 < length edges = (let inside = slice_get_within gone left.0 false left.1 in omega (arith, flags.long)) in
          (end, (left.0, within, λ among. false≢true (same_Some false true (sym left.1 ∙ (flagged_agree left.0 within).1 (subst (λ l. Contains l left.0) (sym (take_all n removed (omega arith))) among)))));
    }

    -- it ends, and none is left
    pub whole_at_end : n ≡ length removed → IsRemovalOrder before mode edges (take n removed) → list_any not gone ≡ false → IsWholeRemoval before mode edges removed
    whole_at_end end had none =
        let all : take n removed ≡ removed = take_all n removed (omega arith) in
        record {
          in_order = subst (IsRemovalOrder before mode edges) all had;
          whole = λ i within.
              let flag = element_at gone i (omega (arith, flags.long)) in
              subst (λ l. Contains l i) all ((flagged_agree i within).0 (flag.1 ∙ ap Some (set_flag flag.0 (λ unset. none_unset gone none i (flag.1 ∙ ap Some unset)))));
        }
      where
        set_flag : (b : Bool) → ¬ (b ≡ false) → b ≡ true
        set_flag true other = refl
        set_flag false other = absurd (other refl)
