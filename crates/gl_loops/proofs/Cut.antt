-- Edges of different epochs don't stand in a cycle together.
use Rattle.std.proofs.Common.{◌≡◌, ℕ, ◌<◌, ◌⊎◌, inl, inr, Bool, true, false, not, ◌&&◌, eqb, List, [], length, Some, refl, sym, ap, ◌∙◌, arith}
use Rattle.std.specs.Prelude.{slice_get, Option, None, IsSomeAnd}
use Rattle.std.specs.Option.{option_and_then}
use Rattle.std.proofs.lemmas.Bool.{and_parts, cases_eq, cases_order, false_from_ne_true, lt-ltb, or_left, or_right, false≢true}
use Rattle.std.proofs.lemmas.Option.{slice_get_within, none-some}
use Rattle.gl_event.specs.declared.events.Segment.{Segment}
use Rattle.gl_edges.specs.Clashes.{guards_clash}
use Rattle.gl_edges.specs.declared.edge.Edge.{Edge}
use Rattle.gl_segments.specs.Clocks.{Clocks, ahead, is_before}
use Rattle.gl_filters.specs.Cycle.{asks_guards, asks_order, first_segment, second_segment, is_ordered}
use Rattle.gl_filters.specs.Test.{goes_with, is_clear}
use Rattle.gl_filters.specs.declared.query.Mode.{Mode}
use Rattle.gl_index.proofs.Lists.{element_at}
use Rattle.gl_sought.specs.Sought.{StayLeftOut}
use Rattle.gl_sought.proofs.Apart.{apart_in_thread}
use Rattle.gl_loops.specs.bodies.Epochs.{begin_of, group_at, epoch_of, epoch_at, IsIn, AreGrouped, AreInOrder, AreCut}
use Rattle.gl_loops.specs.declared.epochs.Epochs.{Epochs}
use Rattle.gl_loops.specs.declared.epochs.Group.{Group}

module _ (before : Segment → Segment → Bool) (mode : Mode) (e f : Edge) where
  -- two edges of which one is over before the other begins don't go with each other, where the mode asks for that
  apart_in_order : asks_order mode ≡ true → is_ordered before e f ≡ true → goes_with before mode e f ≡ false
  unfolding goes_with is_clear
  apart_in_order asks ordered = false_from_ne_true _ (λ goes.
      let parts = and_parts (not (eqb e.held f.held) && not (eqb e.thread f.thread)) _ goes in
      let free = (and_parts (not (asks_guards mode && guards_clash e.guards f.guards)) _ parts.1).1 in
      false≢true (sym (λ k. not (asks k && ordered k)) ∙ free))

-- the group of an edge that has one
group_of : (o : Option Group) (e : Edge) → IsSomeAnd o (IsIn e) → (group : Group) × (o ≡ Some group) × IsIn e group
group_of (Some group) e is = (group, refl, is)
group_of None e is = absurd is

-- where a group stands
place_of : (groups : ℕ → Option Group) (o : Option ℕ) (group : Group) → option_and_then groups o ≡ Some group → (p : ℕ) × (groups p ≡ Some group)
place_of groups (Some p) group is = (p, is)
place_of groups None group is = absurd (none-some group is)

-- an edge that isn't left out is kept
stays_set : (kept : List Bool) (i : ℕ) → i < length kept → ¬ (slice_get kept i ≡ Some false) → slice_get kept i ≡ Some true
stays_set kept i within stays = let flag = element_at kept i within in by flag.0 flag.1
  where
    by : (b : Bool) → slice_get kept i ≡ Some b → slice_get kept i ≡ Some true
    by true at = at
    by false at = absurd (stays at)

module _ (clocks : Clocks) (mode : Mode) (epochs : Epochs) (in_order : AreInOrder mode clocks epochs.groups.items) where
  -- of edges of an earlier and a later epoch the one is over before the other begins, unless they are of one thread
  one_over : (e f : Edge) (one other : Group) (p q : ℕ) → slice_get epochs.groups.items p ≡ Some one → slice_get epochs.groups.items q ≡ Some other → IsIn e one → IsIn f other → one.epoch < other.epoch
      → (e.thread ≡ f.thread) ⊎ ((asks_order mode ≡ true) × (is_before clocks (second_segment e) (first_segment f) ≡ true))
  one_over e f one other p q at_p at_q of_one of_other lower =
      elim (cases_eq one.thread other.thread) [
        | inl same ↦ inl (sym of_one.of_thread ∙ same ∙ of_other.of_thread)
        | inr apart ↦
            let over = in_order one other p q at_p at_q lower apart in
            let same : ahead clocks (begin_of other) one.thread ≡ ahead clocks (first_segment f) e.thread = (λ k. ahead clocks (record { thread = of_other.of_thread k; index = of_other.begins k }) (of_one.of_thread k)) in
            inr (ap asks_order over.counts, lt-ltb _ _ (omega (arith, over.is_over, of_one.is_over, same)))
      ]

  -- so edges of different epochs don't go with each other
  pub are_cut : (edges : List Edge) (kept : List Bool) → length kept ≡ length edges → AreGrouped epochs edges kept → AreCut (is_before clocks) mode (epoch_at epochs) edges kept
  are_cut edges kept long grouped i j e f at_e at_f stays_e stays_f differ =
      let within_e = slice_get_within edges i e at_e in
      let within_f = slice_get_within edges j f at_f in
      let (one, at_one, of_one) = group_of (group_at epochs i) e (grouped i e at_e (stays_set kept i (omega (arith, within_e, long)) stays_e)) in
      let (other, at_other, of_other) = group_of (group_at epochs j) f (grouped j f at_f (stays_set kept j (omega (arith, within_f, long)) stays_f)) in
      let (p, at_p) = place_of (slice_get epochs.groups.items) (slice_get epochs.places.items i) one at_one in
      let (q, at_q) = place_of (slice_get epochs.groups.items) (slice_get epochs.places.items j) other at_other in
      elim (cases_order one.epoch other.epoch) [
        | inl same ↦ absurd (differ (ap epoch_of at_one ∙ same ∙ sym (ap epoch_of at_other)))
        | inr unlike ↦ elim unlike [
          | inl lower ↦ elim (one_over e f one other p q at_p at_q of_one of_other lower) [
            | inl thread ↦ apart_in_thread (is_before clocks) mode e f thread
            | inr over ↦ apart_in_order (is_before clocks) mode e f over.0 (or_left _ _ over.1)
          ]
          | inr higher ↦ elim (one_over f e other one q p at_q at_p of_other of_one higher) [
            | inl thread ↦ apart_in_thread (is_before clocks) mode e f (sym thread)
            | inr over ↦ apart_in_order (is_before clocks) mode e f over.0 (or_right _ _ over.1)
          ]
        ]
      ]

-- without groups there is one epoch
epoch_without : (epochs : Epochs) (i : ℕ) → epochs.groups.items ≡ [] → epoch_at epochs i ≡ 0
epoch_without epochs i none = ap (λ groups. epoch_of (option_and_then (slice_get groups) (slice_get epochs.places.items i))) none ∙ by (slice_get epochs.places.items i)
  where
    by : (o : Option ℕ) → epoch_of (option_and_then (slice_get []) o) ≡ 0
    by (Some p) = refl
    by None = refl

pub one_epoch : (before : Segment → Segment → Bool) (mode : Mode) (epochs : Epochs) (edges : List Edge) (kept : List Bool) → epochs.groups.items ≡ [] → AreCut before mode (epoch_at epochs) edges kept
one_epoch before mode epochs edges kept none i j e f at_e at_f stays_e stays_f differ = absurd (differ (epoch_without epochs i none ∙ sym (epoch_without epochs j none)))

-- among fewer edges none go with each other that didn't before
pub cut_later : (before : Segment → Segment → Bool) (mode : Mode) (epoch : ℕ → ℕ) (edges : List Edge) (kept now : List Bool) → StayLeftOut kept now → AreCut before mode epoch edges kept → AreCut before mode epoch edges now
cut_later before mode epoch edges kept now stay cut i j e f at_e at_f stays_e stays_f differ = cut i j e f at_e at_f (λ out. stays_e (stay i out)) (λ out. stays_f (stay j out)) differ
