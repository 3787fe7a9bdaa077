-- The search for the least walk, step by step.
use Rattle.std.proofs.Common.{◌≡◌, ◌≢◌, ℕ, ◌+◌, ◌<◌, Bool, true, false, List, [], ◌∷◌, ◌++◌, length, map, take, get_or, Option, Some, None, refl, sym, ap, subst, ◌∙◌, arith, inl, inr}
use Rattle.std.specs.Prelude.{◌-◌, ◌≤◌, slice_get, unwrap_or, is_some, All, IsTrue, MatchOption}
use Rattle.std.specs.Option.{option_map}
use Rattle.std.specs.Ordering.{nat_cmp, is_le}
use Rattle.std.specs.Cmp.Lexicographic.{slice_cmp}
use Rattle.std.proofs.lemmas.Bool.{cases_order, and_parts, and_from, false≢true}
use Rattle.std.proofs.lemmas.List.{append-nil, map-append, length-map, length-append, length_push, take_more, take_all}
use Rattle.std.proofs.lemmas.List.Elements.{All-push}
use Rattle.std.proofs.lemmas.Option.{slice_get-map, slice_get_within, same_Some, get_or_from_slice_get}
use Rattle.gl_edges.specs.declared.edge.Edge.{Edge}
use Rattle.gl_filters.specs.Picked.{picked}
use Rattle.gl_filters.specs.Test.{leads_back}
use Rattle.gl_walks.specs.declared.keys.Keyed.{Keyed}
use Rattle.gl_walks.specs.declared.keys.Keyed.TheVariants.{ByClass, ByLock}
use Rattle.gl_walks.specs.bodies.Listing.{Key, IsNext, key_at, key_of, lock_in_key}
use Rattle.gl_walks.specs.bodies.Fronts.{Sought, IsSought, IsEven, IsFront, NoneFrom, IsLeastFrom, HasPassed, HasFrom, HasPassedFrom, start_key, key_by_lock, keyed_after, lock_after, key_after, key_behind, may_follow, passes, may_end}
use Rattle.gl_walks.proofs.Lesser.{le_behind, lesser_behind}
use Rattle.gl_walks.proofs.Passing.{passes_push, passes-front, passes_none, fits_parts, fits_from, led_on, none_behind_closed}
use Rattle.gl_walks.proofs.Places.{element_at, at_behind, picked-append, picked-push, picked-cons}

-- a list and one element more before a rest
one_more : (front : List ℕ) (i : ℕ) (rest : List ℕ) → (front ++ i ∷ []) ++ rest ≡ front ++ i ∷ rest
one_more [] i rest = refl
one_more (j ∷ front) i rest = ap (λ l. j ∷ l) (one_more front i rest)

-- what a key tells of the edge, the class and the flag that it is made of
record KeyParts (keyed : Keyed) (edge : Option Edge) (class : Option ℕ) (flag : Option Bool) (k : Key) : Type 0 where
  of_class : class ≡ Some k.0
  flagged : flag ≡ Some true

key_parts : (keyed : Keyed) (edge : Option Edge) (class : Option ℕ) (flag : Option Bool) (k : Key) → key_of keyed edge class flag ≡ Some k → KeyParts keyed edge class flag k
key_parts keyed (Some e) (Some c) (Some true) k is = record { of_class = ap (λ x. Some x.0) (same_Some _ k is); flagged = refl }
key_parts keyed (Some e) (Some c) (Some false) k is = absurd (cc)
key_parts keyed (Some e) (Some c) None k is = absurd (cc)
key_parts keyed (Some e) None flag k is = absurd (cc)
key_parts keyed None class flag k is = absurd (cc)

-- and the edge, where it has a lock
record LockParts (edge : Option Edge) (k : Key) : Type 0 where
  pub edge_there : Edge
  pub stands : edge ≡ Some edge_there
  pub holds : Some edge_there.held ≡ k.1

lock_parts : (edge : Option Edge) (class : Option ℕ) (flag : Option Bool) (k : Key) → key_of ByLock edge class flag ≡ Some k → LockParts edge k
lock_parts (Some e) (Some c) (Some true) k is = record { edge_there = e; stands = refl; holds = ap (λ x. x.1) (same_Some _ k is) }
lock_parts (Some e) (Some c) (Some false) k is = absurd (cc)
lock_parts (Some e) (Some c) None k is = absurd (cc)
lock_parts (Some e) None flag k is = absurd (cc)
lock_parts None class flag k is = absurd (cc)

-- the key of a flagged edge of a class
key_from : (keyed : Keyed) (edge : Option Edge) (class : Option ℕ) (flag : Option Bool) (e : Edge) (c : ℕ) → edge ≡ Some e → class ≡ Some c → flag ≡ Some true → key_of keyed edge class flag ≡ Some (c, lock_in_key keyed e)
key_from keyed edge class flag e c is_e is_c is_flagged = λ i. key_of keyed (is_e i) (is_c i) (is_flagged i)

module _ (s : Sought) where
  -- what is known of the position behind a front of a walk
  record GoesOn (front : List ℕ) (i : ℕ) : Type 0 where
    edge : Edge
    class : ℕ
    stands : slice_get s.edges i ≡ Some edge
    of_class : slice_get s.classes i ≡ Some class
    asked : slice_get s.pattern (length front) ≡ Some class
    flagged : slice_get s.flags i ≡ Some true
    follows : may_follow s.purpose s.before s.mode (picked s.edges front) edge ≡ true

  -- a walk is as long as the pattern
  as_long : (walk : List ℕ) → IsSought s walk → length walk ≡ length s.pattern
  as_long walk walks = sym (length-map walk (slice_get s.classes)) ∙ ap length walks.of_classes ∙ length-map s.pattern Some

  goes_on : IsEven s → (front : List ℕ) (i : ℕ) (rest : List ℕ) → IsSought s (front ++ i ∷ rest) → GoesOn front i
  goes_on even front i rest walks =
      let n = length front in
      let walk = front ++ i ∷ rest in
      let here : slice_get walk n ≡ Some i = at_behind front i rest in
      let inside : n < length walk = slice_get_within walk n i here in
      let long = as_long walk walks in
      let asked = element_at s.pattern n (omega arith) in
      let is_i : get_or walk n 0 ≡ i = get_or_from_slice_get walk n i 0 here in
      let flagged : slice_get s.flags i ≡ Some true = subst (λ j. slice_get s.flags j ≡ Some true) is_i (walks.flagged n 0 inside) in
      let in_flags = slice_get_within s.flags i true flagged in
      let edge = element_at s.edges i (omega (arith, even.flags)) in
      let of_class : slice_get s.classes i ≡ Some asked.0 =
      same_Some _ _
      (sym (slice_get-map (slice_get s.classes) walk n ∙ ap (option_map (slice_get s.classes)) here) ∙ ap (λ l. slice_get l n) walks.of_classes
      ∙ slice_get-map Some s.pattern n ∙ ap (option_map Some) asked.1) in
      let passing = (fits_parts s.before s.mode s.purpose (picked s.edges walk) walks.fitting).0 in
      let split : picked s.edges walk ≡ (picked s.edges front ++ edge.0 ∷ []) ++ picked s.edges rest =
      ap (picked s.edges) (sym (one_more front i rest)) ∙ picked-append s.edges (front ++ i ∷ []) rest ∙ ap (λ l. l ++ picked s.edges rest) (picked-push s.edges front i edge.0 edge.1) in
      let longer = passes-front s.before s.mode s.purpose (picked s.edges front ++ edge.0 ∷ []) (picked s.edges rest) (sym (ap (passes s.purpose s.before s.mode) split) ∙ passing) in
      record {
        edge = edge.0;
        class = asked.0;
        stands = edge.1;
        of_class = of_class;
        asked = asked.1;
        flagged = flagged;
        follows = (and_parts _ _ (sym (passes_push s.before s.mode s.purpose (picked s.edges front) edge.0) ∙ longer)).1;
      }

  -- the lock that it holds is the one which is wanted
  same_lock : (front : List ℕ) (f : Edge) → All (λ i. i < length s.edges) front → may_follow s.purpose s.before s.mode (picked s.edges front) f ≡ true
      → lock_in_key (keyed_after front) f ≡ lock_after (picked s.edges front)
  same_lock [] f within follows = refl
  same_lock (j ∷ front) f within follows =
      let first = element_at s.edges j (within 0 0 (omega arith)) in
      let are = picked-cons s.edges j front first.0 first.1 in
      let wanted = led_on s.before s.mode s.purpose first.0 (picked s.edges front) f (sym (ap (λ es. may_follow s.purpose s.before s.mode es f) are) ∙ follows) in
      ap Some (sym wanted) ∙ sym (ap lock_after are)

  -- it has the key that is looked up
  same_key_behind : (front : List ℕ) (i : ℕ) → All (λ i. i < length s.edges) front → GoesOn front i → key_behind s front i ≡ Some (key_after s front)
  unfolding key_at
  same_key_behind front i within on =
      key_from (keyed_after front) _ _ _ on.edge on.class on.stands on.of_class on.flagged
      ∙ ap Some (λ j. (sym (ap (λ o. unwrap_or o 0) on.asked) j, same_lock front on.edge within on.follows j))

  module _ (even : IsEven s) (front : List ℕ) where
    none_as : (i : ℕ) → ¬ GoesOn front i → NoneFrom s (front ++ i ∷ [])
    none_as i not_on = λ rest walks. not_on (goes_on even front i rest (subst (IsSought s) (one_more front i rest) walks))

    -- no walk goes on with a position that has another key
    none_with : (i : ℕ) → IsFront s front → key_behind s front i ≢ Some (key_after s front) → NoneFrom s (front ++ i ∷ [])
    none_with i is other = none_as i (λ on. other (same_key_behind front i is.within on))

    -- nor with an edge that may not follow
    pub none_stray : (i : ℕ) (f : Edge) → slice_get s.edges i ≡ Some f → may_follow s.purpose s.before s.mode (picked s.edges front) f ≡ false → NoneFrom s (front ++ i ∷ [])
    none_stray i f at stray = none_as i (λ on.
        false≢true (sym stray ∙ ap (may_follow s.purpose s.before s.mode (picked s.edges front)) (same_Some f on.edge (sym at ∙ on.stands)) ∙ on.follows))

    -- a longer walk goes on with some position
    split_walk : (rest : List ℕ) → length front < length s.pattern → IsSought s (front ++ rest) → (i : ℕ) × (others : List ℕ) × (rest ≡ i ∷ others)
    split_walk [] short walks = absurd (let long = as_long (front ++ []) walks in omega (arith, length-append front []))
    split_walk (i ∷ others) short walks = (i, others, refl)

    -- before the first position with the key
    pub passed_first : (next : Option ℕ) → IsFront s front → IsNext (key_behind s front) (length s.edges) (key_after s front) 0 next → HasPassed s front next
    passed_first next is begins = record {
      within = begins.within;
      has = begins.has;
      none = λ i below. none_with i is (begins.skipped i (omega arith) below);
    }

    -- one position more
    pub passed_more : (i : ℕ) (next : Option ℕ) → IsFront s front → HasPassed s front (Some i) → NoneFrom s (front ++ i ∷ []) → IsNext (key_behind s front) (length s.edges) (key_after s front) (i + 1) next
        → HasPassed s front next
    passed_more i next is had none later = record {
      within = later.within;
      has = later.has;
      none = λ j below.
          elim (cases_order j i) [
            | inl same ↦ subst (λ k. NoneFrom s (front ++ k ∷ [])) (sym same) none
            | inr (inl lesser) ↦ had.none j lesser
            | inr (inr greater) ↦ none_with j is (later.skipped j (omega arith) below)
          ];
    }

    -- all positions are passed
    pub passed_all : HasPassed s front None → length front < length s.pattern → NoneFrom s front
    passed_all had short = λ rest walks.
        let (i, others, is) = split_walk rest short walks in
        let walk : IsSought s (front ++ i ∷ others) = subst (λ r. IsSought s (front ++ r)) is walks in
        let on = goes_on even front i others walk in
        had.none i (slice_get_within s.edges i on.edge on.stands) others (subst (IsSought s) (sym (one_more front i others)) walk)

    -- nothing comes behind a last edge that leads back to the first
    pub none_closed : length front < length s.pattern → leads_back (picked s.edges front) ≡ true → NoneFrom s front
    none_closed short closed = λ rest walks.
        let (i, others, is) = split_walk rest short walks in
        let on = goes_on even front i others (subst (λ r. IsSought s (front ++ r)) is walks) in
        none_behind_closed s.before s.mode s.purpose (picked s.edges front) on.edge closed on.follows

    -- the least walk that goes on with the first position with which one does is the least one
    pub least_here : (i : ℕ) (walk : List ℕ) → length front < length s.pattern → HasPassed s front (Some i) → IsLeastFrom s (front ++ i ∷ []) walk → IsLeastFrom s front walk
    least_here i walk short had found =
        let begins : walk ≡ front ++ i ∷ found.rest = found.begins ∙ one_more front i found.rest in
        record {
          walks = found.walks;
          rest = i ∷ found.rest;
          begins = begins;
          least = λ rest walks.
              let (j, others, is) = split_walk rest short walks in
              let other : IsSought s (front ++ j ∷ others) = subst (λ r. IsSought s (front ++ r)) is walks in
              subst (λ r. IsTrue (is_le (slice_cmp nat_cmp walk (front ++ r)))) (sym is)
              (elim (cases_order i j) [
                | inl same ↦
                    let there : IsSought s (front ++ i ∷ others) = subst (λ k. IsSought s (front ++ k ∷ others)) (sym same) other in
                    subst (λ k. IsTrue (is_le (slice_cmp nat_cmp walk (front ++ k ∷ others)))) same
                    (subst (λ l. IsTrue (is_le (slice_cmp nat_cmp walk l))) (one_more front i others) (found.least others (subst (IsSought s) (sym (one_more front i others)) there)))
                | inr (inl lesser) ↦ subst (λ w. IsTrue (is_le (slice_cmp nat_cmp w (front ++ j ∷ others)))) (sym begins) (lesser_behind front i j found.rest others lesser)
                | inr (inr greater) ↦ absurd (had.none j greater others (subst (IsSought s) (sym (one_more front j others)) other))
              ]);
        }

    -- an edge that has the key and may follow makes a longer front
    pub longer_front : (i : ℕ) (f : Edge) → length front < length s.pattern → IsFront s front → i < length s.edges → key_behind s front i ≡ Some (key_after s front) → slice_get s.edges i ≡ Some f
        → may_follow s.purpose s.before s.mode (picked s.edges front) f ≡ true → IsFront s (front ++ i ∷ [])
    unfolding key_at
    longer_front i f short is within has at follows =
        let parts = key_parts (keyed_after front) (slice_get s.edges i) (slice_get s.classes i) (slice_get s.flags i) (key_after s front) has in
        let asked = element_at s.pattern (length front) short in
        let of_class : slice_get s.classes i ≡ Some (get_or s.pattern (length front) 0) =
        parts.of_class ∙ ap (λ o. Some (unwrap_or o 0)) asked.1 ∙ ap Some (sym (get_or_from_slice_get s.pattern (length front) asked.0 0 asked.1)) in
        let more : take (length (front ++ i ∷ [])) s.pattern ≡ take (length front) s.pattern ++ get_or s.pattern (length front) 0 ∷ [] =
        ap (λ n. take n s.pattern) (length_push front i) ∙ take_more s.pattern (length front) 0 short in
        record {
          short = omega (arith, length_push front i);
          within = All-push (λ j. j < length s.edges) front i is.within within;
          flagged = All-push (λ j. slice_get s.flags j ≡ Some true) front i is.flagged parts.flagged;
          of_classes =
              map-append (slice_get s.classes) front (i ∷ []) ∙ (λ j. is.of_classes j ++ of_class j ∷ []) ∙ sym (ap (map Some) more ∙ map-append Some (take (length front) s.pattern) (get_or s.pattern (length front) 0 ∷ []));
          passing =
              ap (passes s.purpose s.before s.mode) (picked-push s.edges front i f at) ∙ passes_push s.before s.mode s.purpose (picked s.edges front) f ∙ and_from _ _ is.passing follows;
        }

  module _ (front : List ℕ) where
    only_itself : (rest : List ℕ) → length front ≡ length s.pattern → IsSought s (front ++ rest) → rest ≡ []
    only_itself [] whole walks = refl
    only_itself (i ∷ rest) whole walks = absurd (let long = as_long (front ++ i ∷ rest) walks in omega (arith, length-append front (i ∷ rest)))

    -- a front as long as the pattern that may end is the walk
    pub whole_walk : length front ≡ length s.pattern → IsFront s front → may_end s.purpose (picked s.edges front) ≡ true → IsLeastFrom s front front
    whole_walk whole is ends = record {
      walks = record {
        flagged = is.flagged;
        of_classes = is.of_classes ∙ ap (map Some) (take_all (length front) s.pattern (omega arith));
        fitting = fits_from s.before s.mode s.purpose (picked s.edges front) is.passing ends;
      };
      rest = [];
      begins = sym (append-nil front);
      least = λ others walks.
          subst (λ r. IsTrue (is_le (slice_cmp nat_cmp front (front ++ r)))) (sym (only_itself others whole walks))
          (subst (λ l. IsTrue (is_le (slice_cmp nat_cmp l (front ++ [])))) (append-nil front) (le_behind front [] [] refl));
    }

    -- and one that may not is none
    pub whole_none : length front ≡ length s.pattern → may_end s.purpose (picked s.edges front) ≡ false → NoneFrom s front
    whole_none whole not_end = λ rest walks.
        let same : front ++ rest ≡ front = ap (λ r. front ++ r) (only_itself rest whole walks) ∙ append-nil front in
        let ends = (fits_parts s.before s.mode s.purpose (picked s.edges front) (subst (IsSought s) same walks).fitting).1 in
        false≢true (sym not_end ∙ ends)

  -- nothing is a front
  pub front_none : IsFront s []
  front_none = record {
    short = omega arith;
    within = λ k d lt. absurd (omega arith);
    flagged = λ k d lt. absurd (omega arith);
    of_classes = refl;
    passing = passes_none s.before s.mode s.purpose;
  }

module _ (s : Sought) (lock : ℕ) where
  -- an edge that is looked up by its lock has the key of a first one
  pub starts : (i : ℕ) → key_by_lock s i ≡ Some (start_key s lock) → key_behind s [] i ≡ Some (key_after s [])
  unfolding key_at
  starts i has =
      let parts = key_parts ByLock (slice_get s.edges i) (slice_get s.classes i) (slice_get s.flags i) (start_key s lock) has in
      let held = lock_parts (slice_get s.edges i) (slice_get s.classes i) (slice_get s.flags i) (start_key s lock) has in
      key_from ByClass _ _ _ held.edge_there (start_key s lock).0 held.stands parts.of_class parts.flagged

  -- before any position is passed
  pub passed_none : (next : Option ℕ) → IsNext (key_by_lock s) (length s.edges) (start_key s lock) 0 next → HasPassedFrom s lock next
  passed_none next is = record {
    within = is.within;
    has = is.has;
    none = λ i below has. absurd (is.skipped i (omega arith) below has);
  }

  -- one position more
  pub passed_one : (i : ℕ) (next : Option ℕ) → HasPassedFrom s lock (Some i) → NoneFrom s (i ∷ []) → IsNext (key_by_lock s) (length s.edges) (start_key s lock) (i + 1) next → HasPassedFrom s lock next
  passed_one i next had none later = record {
    within = later.within;
    has = later.has;
    none = λ j below has.
        elim (cases_order j i) [
          | inl same ↦ subst (λ k. NoneFrom s (k ∷ [])) (sym same) none
          | inr (inl lesser) ↦ had.none j lesser has
          | inr (inr greater) ↦ absurd (later.skipped j (omega arith) below has)
        ];
  }

  -- all are passed
  pub passed_each : IsEven s → HasPassedFrom s lock None → 0 < length s.pattern → ¬ HasFrom s lock
  unfolding key_at
  passed_each even had some has = by has.positions has.walk has.first has.begins has.holds
    where
      by : (walk : List ℕ) → IsSought s walk → (e : Edge) → slice_get (picked s.edges walk) 0 ≡ Some e → e.held ≡ lock → ⊥
      by [] walks e begins holds = absurd (omega (arith, as_long s [] walks, some))
      by (i ∷ rest) walks e begins holds =
          let on = goes_on s even [] i rest walks in
          let first : on.edge ≡ e = same_Some on.edge e (sym (ap (λ l. slice_get l 0) (picked-cons s.edges i rest on.edge on.stands)) ∙ begins) in
          let has = key_from ByLock _ _ _ on.edge on.class on.stands on.of_class on.flagged ∙ ap Some (λ j. (sym (ap (λ o. unwrap_or o 0) on.asked) j, Some ((ap (λ d. d.held) first ∙ holds) j))) in
          had.none i (slice_get_within s.edges i on.edge on.stands) has rest walks

  -- a walk was found that begins so
  pub begins_from : (i : ℕ) (walk : List ℕ) → key_by_lock s i ≡ Some (start_key s lock) → IsLeastFrom s (i ∷ []) walk → HasFrom s lock
  unfolding key_at
  begins_from i walk has found =
      let held = lock_parts (slice_get s.edges i) (slice_get s.classes i) (slice_get s.flags i) (start_key s lock) has in
      record {
        positions = walk;
        walk = found.walks;
        first = held.edge_there;
        begins = ap (λ l. slice_get (picked s.edges l) 0) found.begins ∙ ap (λ l. slice_get l 0) (picked-cons s.edges i found.rest held.edge_there held.stands);
        holds = same_Some held.edge_there.held lock held.holds;
      }

-- fewer positions are left behind a later one
pub closer : (n m i : ℕ) (now next : Option ℕ) → m ≡ n → now ≡ Some i → i < unwrap_or next m → unwrap_or next m ≤ m → n - unwrap_or next n < n - unwrap_or now n
closer n m i now next same is before within =
    let here : unwrap_or now n ≡ i = ap (λ o. unwrap_or o n) is in
    let there : unwrap_or next m ≡ unwrap_or next n = ap (unwrap_or next) same in
    omega arith

-- what was found, or that there is nothing
pub where_some : {V : Type 0} (o : Option V) (N : Type 0) (P : V → Type 0) → MatchOption o N P → is_some o ≡ true → (v : V) × P v
where_some (Some v) N P is some = (v, is)
where_some None N P is some = absurd (false≢true some)

pub where_none : {V : Type 0} (o : Option V) (N : Type 0) (P : V → Type 0) → MatchOption o N P → is_some o ≡ false → N
where_none None N P is none = is
where_none (Some v) N P is none = absurd (false≢true (sym none))
