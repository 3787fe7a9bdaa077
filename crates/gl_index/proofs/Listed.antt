-- The positions of edges by a key, from the last edge back to the first.
use Rattle.std.proofs.Common.{◌≡◌, ◌≢◌, ℕ, ◌+◌, ◌<◌, ◌≤◌, ◌⊎◌, Bool, true, false, cond, eqb, List, length, map, set, Option, Some, None, sym, ap, subst, ◌∙◌, arith, inl, inr}
use Rattle.std.proofs.lemmas.Bool.{cases_eq, eq-eqb, ne_eqb, and_from, and_left, and_right}
use Rattle.std.proofs.lemmas.List.{length-map, length-set, get_or-set_same, get_or-set_other}
use Rattle.std.proofs.lemmas.Option.{slice_get_within, slice_get-get_or, slice_get-map, same_Some}
use Rattle.std.specs.Option.{option_map}
use Rattle.std.specs.Prelude.{slice_get}
use Rattle.gl_edges.specs.declared.edge.Edge.{Edge}
use Rattle.gl_edges.specs.declared.edge.Sample.{Sample}
use Rattle.gl_filters.specs.Picked.{edges_of_table}
use Rattle.gl_index.specs.Listed.{IsNextWith, AreListed}
use Rattle.gl_index.specs.Indexes.{AreChainedKept, AreClosers, IsIndexOf, first_in_chain, held_lock, same_locks}
use Rattle.gl_index.specs.declared.followers.Followers.{Followers}
use Rattle.gl_index.specs.declared.chains.Chain.{Chain}
use Rattle.gl_index.specs.declared.sides.Side.TheVariants.{Leader}
use Rattle.gl_index.proofs.Lists.{element_at}

-- the test says whether two keys are the same
abbrev pub Tells : {K : Type 0} → (K → K → Bool) → Type 0
Tells {K} same = (a b : K) → ((same a b ≡ true) × (a ≡ b)) ⊎ ((same a b ≡ false) × (a ≢ b))

pub tells_lock : Tells eqb
tells_lock a b = elim (cases_eq a b) [ inl is ↦ inl (eq-eqb a b is, is) | inr other ↦ inr (ne_eqb a b other, other) ]

pub tells_locks : Tells same_locks
tells_locks a b =
    elim (tells_lock a.0 b.0) [
      | inl first ↦
          elim (tells_lock a.1 b.1) [
            | inl second ↦ inl (and_from _ _ first.0 second.0, λ i. (first.1 i, second.1 i))
            | inr other ↦ inr (and_right _ _ other.0, λ is. other.1 (ap (λ x. x.1) is))
          ]
      | inr other ↦ inr (and_left _ _ other.0, λ is. other.1 (ap (λ x. x.0) is))
    ]

-- past the end no edge has a key
none_past : {K : Type 0} (key : Edge → K) (edges : List Edge) (kept : List Bool) (k : K) (n : ℕ) → n ≡ length edges → IsNextWith key edges kept k n None
none_past key edges kept k n at_end = record {
  from = omega arith;
  within = omega arith;
  holds = tt;
  chosen = tt;
  skipped = λ i e from below at. absurd (omega arith);
}

-- before any edge is listed
pub none_listed : {K : Type 0} (key : Edge → K) (edges : List Edge) (kept : List Bool) (n : ℕ) (first : K → Option ℕ) (next : List (Option ℕ)) → n ≡ length edges → length next ≡ length edges → ((k : K) → first k ≡ None) → AreListed key edges kept n first next
none_listed key edges kept n first next at_end long none = record {
  long = long;
  begins = λ k. subst (IsNextWith key edges kept k n) (sym (none k)) (none_past key edges kept k n at_end);
  goes_on = λ i e after from at there. let within = slice_get_within edges i e at in absurd (omega arith);
}

module _ {K : Type 0} (key : Edge → K) (edges : List Edge) (kept : List Bool) (n : ℕ) (e : Edge) (at : slice_get edges n ≡ Some e) where
  -- an edge with the key is the first from its position on
  next_here : (k : K) → key e ≡ k → ¬ (slice_get kept n ≡ Some false) → IsNextWith key edges kept k n (Some n)
  next_here k same keep =
      let within = slice_get_within edges n e at in
      record {
        from = omega arith;
        within = omega arith;
        holds = (within, λ f there. ap key (same_Some f e (sym there ∙ at)) ∙ same);
        chosen = keep;
        skipped = λ i f from below there. absurd (omega arith);
      }

  -- an edge with another one, or that is left out, is passed over
  next_later : (k : K) (next : Option ℕ) → (key e ≢ k) ⊎ (slice_get kept n ≡ Some false) → IsNextWith key edges kept k (n + 1) next → IsNextWith key edges kept k n next
  next_later k next over later =
      let from = later.from in
      record {
        from = omega arith;
        within = later.within;
        holds = later.holds;
        chosen = later.chosen;
        skipped = λ i f from_n below there.
            elim (cases_eq i n) [
              | inl same ↦
                  subst (λ m. (key f ≢ k) ⊎ (slice_get kept m ≡ Some false)) (sym same)
                  (subst (λ x. (key x ≢ k) ⊎ (slice_get kept n ≡ Some false)) (same_Some e f (sym at ∙ ap (slice_get edges) (sym same) ∙ there)) over)
              | inr other ↦ later.skipped i f (omega arith) below there
            ];
      }

  module _ (first more : K → Option ℕ) (next after : List (Option ℕ)) (had : AreListed key edges kept (n + 1) first next) (is_set : after ≡ set next n (first (key e))) where
    has_long : length after ≡ length edges
    has_long = ap length is_set ∙ length-set next n (first (key e)) ∙ had.long

    -- where the key of each edge stands next, with one more edge
    leads_from : (i : ℕ) (f : Edge) (later : Option ℕ) → n ≤ i → slice_get edges i ≡ Some f → slice_get after i ≡ Some later → IsNextWith key edges kept (key f) (i + 1) later
    leads_from i f later from at_i there =
        let found = first (key e) in
        let long = had.long in
        let in_n : n < length next = omega (arith, slice_get_within edges n e at, long) in
        let in_i : i < length next = omega (arith, slice_get_within edges i f at_i, long) in
        let in_set : i < length (set next n found) = omega (arith, length-set next n found) in
        let here : slice_get (set next n found) i ≡ Some later = sym (ap (λ l. slice_get l i) is_set) ∙ there in
        elim (cases_eq i n) [
          | inl same ↦
              let is : found ≡ later =
              same_Some found later
              (sym (ap Some (get_or-set_same next n found found in_n)) ∙ sym (slice_get-get_or (set next n found) n found (omega (arith, length-set next n found)))
              ∙ ap (slice_get (set next n found)) (sym same) ∙ here) in
              let is_e : e ≡ f = same_Some e f (sym at ∙ ap (slice_get edges) (sym same) ∙ at_i) in
              let began : IsNextWith key edges kept (key e) (n + 1) found = had.begins (key e) in
              subst (λ m. IsNextWith key edges kept (key f) (m + 1) later) (sym same) (subst (λ x. IsNextWith key edges kept (key x) (n + 1) later) is_e (subst (IsNextWith key edges kept (key e) (n + 1)) is began))
          | inr other ↦
              had.goes_on i f later (omega arith) at_i
              (slice_get-get_or next i later in_i ∙ ap Some (sym (get_or-set_other next n i found later other)) ∙ sym (slice_get-get_or (set next n found) i later in_set) ∙ here)
        ]

    -- an edge that is left out
    pub listed_passed : ((k : K) → more k ≡ first k) → slice_get kept n ≡ Some false → AreListed key edges kept n more after
    listed_passed same off = record {
      long = has_long;
      begins = λ k. subst (IsNextWith key edges kept k n) (sym (same k)) (next_later k (first k) (inr off) (had.begins k));
      goes_on = leads_from;
    }

    -- an edge that is kept
    pub listed_more : (same : K → K → Bool) → Tells same → ((k : K) → more k ≡ cond (same (key e) k) (Some n) (first k)) → ¬ (slice_get kept n ≡ Some false) → AreListed key edges kept n more after
    listed_more same tells updated keep = record {
      long = has_long;
      begins = λ k.
          elim (tells (key e) k) [
            | inl is ↦ subst (IsNextWith key edges kept k n) (sym (updated k ∙ ap (λ b. cond b (Some n) (first k)) is.0)) (next_here k is.1 keep)
            | inr other ↦ subst (IsNextWith key edges kept k n) (sym (updated k ∙ ap (λ b. cond b (Some n) (first k)) other.0)) (next_later k (first k) (inl other.1) (had.begins k))
          ];
      goes_on = leads_from;
    }

-- the index, where the first followers are those that the holders give
pub index_of : (table : List (Edge × Sample)) (kept : List Bool) (holders : Chain) (index : Followers) → AreChainedKept Leader (edges_of_table table) kept 0 holders
    → index.first.items ≡ map (λ pair. first_in_chain holders pair.0.wanted) table → index.next.items ≡ holders.next.items → AreClosers (edges_of_table table) kept 0 index.closers → IsIndexOf (edges_of_table table) kept index
index_of table kept holders index are is_first is_next closers = record {
  long = ap length is_first ∙ length-map table (λ pair. first_in_chain holders pair.0.wanted) ∙ sym (length-map table (λ pair. pair.0));
  as_long = ap length is_next ∙ are.long;
  begins = λ i e first at there.
      let within : i < length table = omega (arith, slice_get_within (edges_of_table table) i e at, length-map table (λ pair. pair.0)) in
      let pair = element_at table i within in
      let is_e : pair.0.0 ≡ e = same_Some pair.0.0 e (sym (slice_get-map (λ p. p.0) table i ∙ ap (option_map (λ p. p.0)) pair.1) ∙ at) in
      let is : first_in_chain holders pair.0.0.wanted ≡ first =
      same_Some _ _
      (sym (slice_get-map (λ p. first_in_chain holders p.0.wanted) table i ∙ ap (option_map (λ p. first_in_chain holders p.0.wanted)) pair.1) ∙ sym (ap (λ l. slice_get l i) is_first) ∙ there) in
      subst (λ f. IsNextWith held_lock (edges_of_table table) kept f.wanted 0 first) is_e (subst (IsNextWith held_lock (edges_of_table table) kept pair.0.0.wanted 0) is (are.begins pair.0.0.wanted));
  goes_on = λ i e next at there. are.goes_on i e next (omega arith) at (sym (ap (λ l. slice_get l i) is_next) ∙ there);
  closers = closers;
}
