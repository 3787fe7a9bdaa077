-- The first cycles of signatures, in their order, are the findings.
use Rattle.std.proofs.Common.{◌≡◌, ℕ, ◌⊎◌, Bool, true, false, cond, List, [], ◌∷◌, ◌++◌, filter, length, take, Option, Some, None, refl, sym, ap, subst, ◌∙◌, inl, inr}
use Rattle.std.specs.Prelude.{◌&&◌, slice_get, Contains}
use Rattle.std.specs.BTreeMap as tree
use Rattle.std.specs.BTreeMap.{BTreeMap}
use Rattle.std.specs.Cmp.{IsTotalOrder}
use Rattle.std.specs.Cmp.Lexicographic.{nat_list_cmp_total, same_text, slice_cmp, texts_ties}
use Rattle.std.specs.Global.{Vec}
use Rattle.std.specs.List.{AllByRecursion, flat_map}
use Rattle.std.specs.List.Sorted.{IsStrictlySortedBy}
use Rattle.std.specs.Map.{keys_of, values_of}
use Rattle.std.specs.Option.{option_map}
use Rattle.std.specs.Ordering.{is_eq, nat_cmp, ordering_reverse}
use Rattle.std.specs.declared.cmp.Ordering.{Ordering}
use Rattle.std.specs.declared.cmp.Ordering.TheVariants.{Less, Equal}
use Rattle.std.proofs.lemmas.Bool.{and_parts, cases_Bool, ltb-false}
use Rattle.std.proofs.lemmas.Cmp.{tied_itself}
use Rattle.std.proofs.lemmas.List.{take_all}
use Rattle.std.proofs.lemmas.Option.{same_Some}
use Rattle.std.proofs.lemmas.Map.Views.{btree_map_get_iff}
use Rattle.gl_event.specs.declared.events.Segment.{Segment}
use Rattle.gl_edges.specs.declared.edge.Edge.{Edge}
use Rattle.gl_edges.specs.declared.edge.Sample.{Sample}
use Rattle.gl_edges.proofs.Membership.{contains_here, contains_later, contains_cases, contains_none, contains_map, contains_map_from}
use Rattle.gl_filters.specs.declared.query.Mode.{Mode}
use Rattle.gl_filters.specs.Picked.{edges_of_table}
use Rattle.gl_cycles.specs.AllCycles.{all_cycles, lists_below}
use Rattle.gl_cycles.specs.Cycles.{cycles_in}
use Rattle.gl_cycles.specs.Listed.{listed}
use Rattle.gl_cycles.specs.declared.found.Found.{Found}
use Rattle.gl_cycles.proofs.AmongAllCycles.{filter_from}
use Rattle.gl_grounds.specs.Classes.{classes_of}
use Rattle.gl_findings.specs.Findings.{signature_of, is_turn, begins_least, first_with, findings}
use Rattle.gl_findings.specs.bodies.Grouping.{AreFirsts, is_told}
use Rattle.gl_findings.proofs.LeastTurns.{turn_tells, turn_and_back}
use Rattle.gl_findings.proofs.ListsAscend.{sorted_lists}
use Rattle.gl_findings.proofs.Told.{signature_among}

each_above : {X : Type 0} (P : X → Type 0) (xs : List X) (y : X) → AllByRecursion P xs → Contains xs y → P y
each_above P [] y all at = absurd (contains_none y at)
each_above P (x ∷ xs) y all at = elim (contains_cases x y xs at) [ inl is ↦ subst P is all.0 | inr later ↦ each_above P xs y all.1 later ]

module _ {X Y : Type 0} (c : X → X → Ordering) (total : IsTotalOrder c) (f : X → List Y) where
  clash : (x y : X) → c x y ≡ Less → x ≡ y → ⊥
  clash x y less same = let equal = sym (tied_itself total x) ∙ ap (c x) same ∙ less in absurd (cc)

  both_less : (x y : X) → c x y ≡ Less → c y x ≡ Less → ⊥
  both_less x y less more = let back = sym (total.antisymm y x ∙ ap ordering_reverse less) ∙ more in absurd (cc)

  -- of two lists that ascend the one has of the other all that f gives something for
  same_flat : (all some : List X) → IsStrictlySortedBy c all → IsStrictlySortedBy c some → ((x : X) → Contains some x → Contains all x)
      → ((x : X) → Contains all x → (f x ≡ []) ⊎ Contains some x) → flat_map f all ≡ flat_map f some
  unfolding IsStrictlySortedBy
  same_flat [] [] sorted ascend among nothing = refl
  same_flat [] (y ∷ some) sorted ascend among nothing = absurd (contains_none y (among y (contains_here y some)))
  same_flat (x ∷ all) [] sorted ascend among nothing =
      elim (nothing x (contains_here x all)) [
        | inl empty ↦ ap (λ l. l ++ flat_map f all) empty ∙ same_flat all [] sorted.1 ascend (λ z at. absurd (contains_none z at)) (λ z at. nothing z (contains_later x z all at))
        | inr at ↦ absurd (contains_none x at)
      ]
  same_flat (x ∷ all) (y ∷ some) sorted ascend among nothing =
      elim (contains_cases x y all (among y (contains_here y some))) [
        | inl same ↦
            ap (λ z. f z ++ flat_map f all) same
            ∙ ap (λ l. f y ++ l)
            (same_flat all some sorted.1 ascend.1
            (λ z at. elim (contains_cases x z all (among z (contains_later y z some at))) [
              | inl is ↦ absurd (clash y z (each_above (λ w. c y w ≡ Less) some z ascend.0 at) (sym same ∙ is))
              | inr later ↦ later
            ])
            (λ z at. elim (nothing z (contains_later x z all at)) [
              | inl empty ↦ inl empty
              | inr there ↦ elim (contains_cases y z some there) [
                | inl is ↦ absurd (clash x z (each_above (λ w. c x w ≡ Less) all z sorted.0 at) (same ∙ is))
                | inr later ↦ inr later
              ]
            ]))
        | inr later ↦
            let above = each_above (λ w. c x w ≡ Less) all y sorted.0 later in
            let skipped : Contains (y ∷ some) x → ⊥ = λ at. elim (contains_cases y x some at) [
              | inl is ↦ clash x y above (sym is)
              | inr there ↦ both_less x y above (each_above (λ w. c y w ≡ Less) some x ascend.0 there)
            ] in
            let empty : f x ≡ [] = elim (nothing x (contains_here x all)) [ inl empty ↦ empty | inr at ↦ absurd (skipped at) ] in
            ap (λ l. l ++ flat_map f all) empty
            ∙ same_flat all (y ∷ some) sorted.1 ascend
            (λ z at. elim (contains_cases x z all (among z at)) [
              | inl is ↦ absurd (skipped (subst (Contains (y ∷ some)) (sym is) at))
              | inr further ↦ further
            ])
            (λ z at. nothing z (contains_later x z all at))
      ]

  -- where f gives nothing for those that fail a test, they may be left out
  flat_kept : (p : X → Bool) (g : X → List Y) (xs : List X) → ((x : X) → p x ≡ true → g x ≡ f x) → ((x : X) → p x ≡ false → f x ≡ []) → flat_map g (filter p xs) ≡ flat_map f xs
  flat_kept p g [] same nothing = refl
  flat_kept p g (x ∷ xs) same nothing =
      elim (cases_Bool (p x)) [
        | inl passes ↦ ap (λ b. flat_map g (cond b (x ∷ filter p xs) (filter p xs))) passes ∙ (λ i. same x passes i ++ flat_kept p g xs same nothing i)
        | inr fails ↦
            ap (λ b. flat_map g (cond b (x ∷ filter p xs) (filter p xs))) fails ∙ flat_kept p g xs same nothing ∙ ap (λ l. l ++ flat_map f xs) (sym (nothing x fails))
      ]

-- the first of some, where there is one
first_is : {X : Type 0} (xs : List X) (x : X) → slice_get xs 0 ≡ Some x → take 1 xs ≡ x ∷ []
first_is [] x is = absurd (cc)
first_is (y ∷ xs) x is = ap (λ z. z ∷ []) (same_Some y x is)

first_none : {X : Type 0} (xs : List X) → slice_get xs 0 ≡ None → take 1 xs ≡ []
first_none [] none = refl
first_none (y ∷ xs) none = absurd (cc)

first_among : {X : Type 0} (xs : List X) (x : X) → slice_get xs 0 ≡ Some x → Contains xs x
first_among [] x is = absurd (cc)
first_among (y ∷ xs) x is = subst (Contains (y ∷ xs)) (same_Some y x is) (contains_here y xs)

none_kept : {X : Type 0} (xs : List X) → filter (λ x. false) xs ≡ []
none_kept [] = refl
none_kept (x ∷ xs) = none_kept xs

-- what a function of keys gives, where it gives each its value
values_told : (f : List ℕ → List (List ℕ)) (es : List (List ℕ × Vec ℕ)) → ((key : List ℕ) (v : Vec ℕ) → Contains es (key, v) → f key ≡ v.items ∷ []) → flat_map f (keys_of es) ≡ cycles_in (values_of es)
values_told f [] each = refl
values_told f (e ∷ es) each = (λ i. each e.0 e.1 (contains_here e es) i ++ values_told f es (λ key v at. each key v (contains_later e (key, v) es at)) i)

exact : (xs ys : List ℕ) → slice_cmp nat_cmp xs ys ≡ Equal → xs ≡ ys
exact xs ys equal = same_text xs ys (sym (texts_ties xs ys ∙ ap is_eq equal))

module _ (before : Segment → Segment → Bool) (mode : Mode) (len : ℕ) (table : List (Edge × Sample)) (firsts : BTreeMap (List ℕ) (Vec ℕ)) (are : AreFirsts (classes_of table) (all_cycles before mode len (edges_of_table table)) firsts) where
  abbrev all : List (List ℕ)
  all = all_cycles before mode len (edges_of_table table)

  abbrev first_told : List ℕ → List (List ℕ)
  first_told signature = take 1 (filter (is_told (classes_of table) signature) all)

  entry_told : (key : List ℕ) (v : Vec ℕ) → Contains firsts.entries (key, v) → slice_get (filter (is_told (classes_of table) key) all) 0 ≡ Some v.items
  entry_told key v at = sym (are.first key) ∙ ap (option_map (λ c. c.items)) ((btree_map_get_iff nat_list_cmp_total exact firsts are.ordered key v).1 at)

  key_among : (key : List ℕ) → Contains (tree.keys firsts) key → Contains (lists_below (length table) len) key
  key_among key at =
      let (e, there, is) = contains_map_from (λ e. e.0) key firsts.entries at in
      let kept = first_among _ _ (entry_told e.0 e.1 there) in
      let (cycle, told) = filter_from (is_told (classes_of table) e.0) e.1.items all kept in
      let parts = and_parts (begins_least e.0) _ told in
      let turn = turn_and_back e.0 (signature_of table e.1.items) (turn_tells e.0 (signature_of table e.1.items) parts.1) in
      subst (Contains (lists_below (length table) len)) is (signature_among before mode len table e.1.items e.0 cycle turn)

  -- a signature that isn't known has no cycle
  unknown : (signature : List ℕ) → (first_told signature ≡ []) ⊎ Contains (tree.keys firsts) signature
  unknown signature = by (tree.get (slice_cmp nat_cmp) firsts signature) refl
    where
      by : (o : Option (Vec ℕ)) → tree.get (slice_cmp nat_cmp) firsts signature ≡ o → (first_told signature ≡ []) ⊎ Contains (tree.keys firsts) signature
      by (Some v) is = inr (contains_map (λ e. e.0) (signature, v) firsts.entries ((btree_map_get_iff nat_list_cmp_total exact firsts are.ordered signature v).0 is))
      by None is = inl (first_none _ (sym (are.first signature) ∙ ap (option_map (λ c. c.items)) is))

  -- the findings are the first cycles of the signatures that are known
  pub findings_are_firsts : findings before mode len table ≡ cycles_in (tree.values firsts)
  unfolding findings
  findings_are_firsts =
      flat_kept (slice_cmp nat_cmp) nat_list_cmp_total first_told begins_least (first_with before mode len table) (lists_below (length table) len)
      (λ signature begins. ap (λ b. take 1 (filter (λ positions. b && is_turn signature (signature_of table positions)) all)) (sym begins))
      (λ signature fails. ap (λ b. take 1 (filter (λ positions. b && is_turn signature (signature_of table positions)) all)) fails ∙ ap (take 1) (none_kept all))
      ∙ same_flat (slice_cmp nat_cmp) nat_list_cmp_total first_told (lists_below (length table) len) (tree.keys firsts) (sorted_lists (length table) len) are.ordered key_among (λ signature at. unknown signature)
      ∙ values_told first_told firsts.entries (λ key v at. first_is _ v.items (entry_told key v at))

-- a listing without more has all
pub all_listed : (max : ℕ) (every : List (List ℕ)) (found : Found) → found ≡ listed max every → found.more ≡ false → found.cycles ≡ every
all_listed max every found is none = ap (λ f. f.cycles) is ∙ take_all max every (ltb-false max (length every) (sym (ap (λ f. f.more) is) ∙ none))
