-- One edge more is removed.
use Rattle.std.proofs.Common.{◌≡◌, ◌≢◌, ℕ, zero, suc, ◌+◌, ◌<◌, ◌≤◌, Bool, true, false, not, ◌||◌, cond, eqb, List, [], ◌∷◌, ◌++◌, length, filter, take, set, get_or, replicate, Some, refl, sym, ap, subst, ◌∙◌, arith, inl, inr}
use Rattle.std.specs.Prelude.{slice_get, Contains}
use Rattle.std.specs.List.{list_any, range_with_len}
use Rattle.std.proofs.lemmas.Bool.{cases_eq, false≢true, ne_eqb, eq-eqb}
use Rattle.std.proofs.lemmas.List.{length-set, length_push, length-replicate, take-append-le, take_all}
use Rattle.std.proofs.lemmas.Option.{slice_get_within, same_Some}
use Rattle.gl_event.specs.declared.events.Segment.{Segment}
use Rattle.gl_edges.specs.declared.edge.Edge.{Edge}
use Rattle.gl_edges.proofs.Membership.{any_from_contains, contains_from_any}
use Rattle.gl_filters.specs.declared.query.Mode.{Mode}
use Rattle.gl_index.specs.declared.sides.Side.{Side}
use Rattle.gl_trims.specs.declared.trims.Hints.{Hints}
use Rattle.gl_trims.specs.Trims.{HasBeside, IsStuck, IsFirstStuck, IsTrimOrder}
use Rattle.gl_trims.specs.bodies.Trimming.{IsFlagged, AreFlagsOf, AreHints, AreBothHints, AreAwake, AreSettled, HasHint, IsWoken, hints_of}
use Rattle.gl_trims.specs.bodies.Waiting.{waits, AreEarlier}
use Rattle.gl_trims.specs.declared.waiting.Waiting.{Waiting}
use Rattle.gl_index.specs.Indexes.{AreChained}
use Rattle.gl_index.specs.Sides.{opposite}
use Rattle.gl_index.specs.Users.{AreUsers}
use Rattle.gl_trims.specs.declared.trims.Sides.{Sides}
use Rattle.gl_index.specs.declared.sides.Side.TheVariants.{Follower, Leader}
use Rattle.gl_trims.proofs.Watching.{left_other}
use Rattle.gl_index.proofs.Lists.{filter-append, range-more, set_here, set_elsewhere, push_before, push_at_end}
use Rattle.gl_trims.proofs.Beside.{not_stuck}

any_push : (p : ℕ → Bool) (xs : List ℕ) (x : ℕ) → list_any p (xs ++ x ∷ []) ≡ (list_any p xs || p x)
any_push p [] x = by (p x)
  where
    by : (b : Bool) → (b || false) ≡ (false || b)
    by true = refl
    by false = refl
any_push p (y ∷ xs) x = ap (λ b. p y || b) (any_push p xs x) ∙ by (p y) (list_any p xs) (p x)
  where
    by : (a b c : Bool) → (a || (b || c)) ≡ ((a || b) || c)
    by true b c = refl
    by false b c = refl

or_true : (b : Bool) → true ≡ (b || true)
or_true true = refl
or_true false = refl

or_false : (b : Bool) → b ≡ (b || false)
or_false true = refl
or_false false = refl

-- the flag of one position more
pub flags_more : (size : ℕ) (gone : List Bool) (removed : List ℕ) (i : ℕ) → i < size → AreFlagsOf size gone removed → AreFlagsOf size (set gone i true) (removed ++ i ∷ [])
flags_more size gone removed i within are = record {
  long = length-set gone i true ∙ are.long;
  flags = λ j below.
      elim (cases_eq j i) [
        | inl same ↦
            ap (slice_get (set gone i true)) same ∙ set_here gone i true (omega (arith, are.long))
            ∙ ap Some (or_true (list_any (λ k. eqb k j) removed) ∙ ap (λ b. list_any (λ k. eqb k j) removed || b) (sym (eq-eqb i j (sym same))) ∙ sym (any_push (λ k. eqb k j) removed i))
        | inr other ↦
            set_elsewhere gone i j true other (omega (arith, are.long)) ∙ are.flags j below
            ∙ ap Some (or_false (list_any (λ k. eqb k j) removed) ∙ ap (λ b. list_any (λ k. eqb k j) removed || b) (sym (ne_eqb i j (λ same. other (sym same)))) ∙ sym (any_push (λ k. eqb k j) removed i))
      ];
}

-- at first none is set
pub flags_none : (size : ℕ) (gone : List Bool) (many : ℕ) → many ≡ size → gone ≡ replicate many false → AreFlagsOf size gone []
flags_none size gone many same none = record {
  long = ap length none ∙ length-replicate many false ∙ same;
  flags = λ i within. ap (λ l. slice_get l i) none ∙ unset many i (omega (arith, same, within));
}
  where
    unset : (n i : ℕ) → i < n → slice_get (replicate n false) i ≡ Some false
    unset zero i within = absurd (omega arith)
    unset (suc n) zero within = refl
    unset (suc n) (suc i) within = unset n i (omega arith)

-- and all wait
pub awake_all : (gone : List Bool) (size : ℕ) (sides : Sides) (waiting : Waiting) → ((i : ℕ) → waits waiting i ≡ true) → AreEarlier waiting → waiting.next ≡ 0 → AreAwake gone size sides waiting
awake_all gone size sides waiting all earlier next = record {
  earlier = earlier;
  within = omega (arith, next);
  hinted = λ i side below left silent. absurd (false≢true (sym silent ∙ all i));
}

-- fewer flags are left
pub left : List Bool → ℕ
left gone = length (filter not gone)

pub fewer : (gone : List Bool) (i : ℕ) → slice_get gone i ≡ Some false → left (set gone i true) < left gone
unfolding left
fewer [] i at = absurd (cc)
fewer (b ∷ gone) zero at = let is : b ≡ false = same_Some b false at in by b is
  where
    by : (b : Bool) → b ≡ false → length (filter not (true ∷ gone)) < length (filter not (b ∷ gone))
    by true is = absurd (false≢true (sym is))
    by false is = omega arith
fewer (b ∷ gone) (suc i) at = by b (fewer gone i at)
  where
    by : (b : Bool) → length (filter not (set gone i true)) < length (filter not gone) → length (filter not (b ∷ set gone i true)) < length (filter not (b ∷ gone))
    by true less = less
    by false less = omega arith

-- as many flags as there are, none of which is set
pub none_set : (n : ℕ) → left (replicate n false) + 0 ≤ n
unfolding left
none_set zero = omega arith
none_set (suc n) = let rest = none_set n in omega (arith, rest)

-- positions that are left over, one more
pub others_more : (p : ℕ → Bool) (n : ℕ) → filter p (range_with_len 0 (n + 1)) ≡ filter p (range_with_len 0 n) ++ cond (p n) (n ∷ []) []
others_more p n =
    let end : 0 + n ≡ n = omega arith in
    ap (filter p) (range-more 0 n) ∙ ap (λ k. filter p (range_with_len 0 n ++ k ∷ [])) end ∙ filter-append p (range_with_len 0 n) (n ∷ [])

-- a flag that isn't set as one more is wasn't set before, and is another one
was_unset : (gone : List Bool) (i q : ℕ) → q < length gone → i < length gone → slice_get (set gone i true) q ≡ Some false → (q ≢ i) × (slice_get gone q ≡ Some false)
was_unset gone i q within inside unset =
    let other : q ≢ i = (λ same. false≢true (same_Some false true (sym unset ∙ ap (slice_get (set gone i true)) same ∙ set_here gone i true inside))) in
    (other, sym (set_elsewhere gone i q true other within) ∙ unset)

all_false : (a b c : Bool) → ((a || b) || c) ≡ false → (a ≡ false) × (b ≡ false) × (c ≡ false)
all_false true b c is = absurd (false≢true (sym is))
all_false false true c is = absurd (false≢true (sym is))
all_false false false c is = (refl, refl, is)

module _ (before : Segment → Segment → Bool) (mode : Mode) (edges : List Edge) where
  -- the order of none
  pub order_none : IsTrimOrder before mode edges []
  order_none = λ n i at. absurd (let within = slice_get_within [] n i at in omega arith)

  -- two ways to say that an edge is gone
  abbrev pub Agree : (ℕ → Type 0) → (ℕ → Type 0) → Type 0
  Agree A B = (j : ℕ) → j < length edges → (A j → B j) × (B j → A j)

  pub turned : (A B : ℕ → Type 0) → Agree A B → Agree B A
  turned A B agree = λ j below. ((agree j below).1, (agree j below).0)

  beside_to : (A B : ℕ → Type 0) → Agree A B → (side : Side) (e : Edge) → HasBeside before mode edges A side e → HasBeside before mode edges B side e
  beside_to A B agree side e has = record {
    place = has.place;
    other = has.other;
    stands = has.stands;
    is_left = λ b. has.is_left ((agree has.place (slice_get_within edges has.place has.other has.stands)).1 b);
    fits = has.fits;
  }

  pub stuck_to : (A B : ℕ → Type 0) → Agree A B → (i : ℕ) → IsStuck before mode edges A i → IsStuck before mode edges B i
  stuck_to A B agree i is = record {
    edge = is.edge;
    stands = is.stands;
    is_left = λ b. is.is_left ((agree i (slice_get_within edges i is.edge is.stands)).1 b);
    side = is.side;
    alone = λ has. is.alone (beside_to B A (turned A B agree) is.side is.edge has);
  }

  -- one edge more goes
  pub order_push : (removed : List ℕ) (i : ℕ) → IsTrimOrder before mode edges removed → IsFirstStuck before mode edges (Contains removed) i → IsTrimOrder before mode edges (removed ++ i ∷ [])
  order_push removed i had first = λ n j at.
      let within = slice_get_within (removed ++ i ∷ []) n j at in
      let short : n ≤ length removed = omega (arith, length_push removed i) in
      elim (cases_eq n (length removed)) [
        | inl same ↦
            let is : i ≡ j = same_Some i j (sym (push_at_end removed i) ∙ ap (slice_get (removed ++ i ∷ [])) (sym same) ∙ at) in
            let all : removed ≡ take n (removed ++ i ∷ []) = sym (take-append-le n removed (i ∷ []) short ∙ take_all n removed (omega arith)) in
            subst (λ r. IsFirstStuck before mode edges (Contains r) j) all (subst (IsFirstStuck before mode edges (Contains removed)) is first)
        | inr other ↦
            let lower : n < length removed = omega arith in
            subst (λ r. IsFirstStuck before mode edges (Contains r) j) (sym (take-append-le n removed (i ∷ []) short)) (had n j (sym (push_before removed i n lower) ∙ at))
      ]

  module _ (gone : List Bool) (removed : List ℕ) (are : AreFlagsOf (length edges) gone removed) where
    pub agree : Agree (IsFlagged gone) (Contains removed)
    agree j below =
        (λ flagged. contains_from_any removed j (sym (same_Some _ _ (sym flagged ∙ are.flags j below))), λ among. are.flags j below ∙ ap Some (any_from_contains removed j among))

    pub unflagged : (j : ℕ) → j < length edges → ¬ Contains removed j → slice_get gone j ≡ Some false
    unflagged j below none = by (list_any (λ k. eqb k j) removed) refl
      where
        by : (b : Bool) → list_any (λ k. eqb k j) removed ≡ b → slice_get gone j ≡ Some false
        by true is = absurd (none (contains_from_any removed j is))
        by false is = are.flags j below ∙ ap Some is

    -- it was left
    pub was_left : (i : ℕ) → IsStuck before mode edges (IsFlagged gone) i → slice_get gone i ≡ Some false
    was_left i is =
        unflagged i (slice_get_within edges i is.edge is.stands) (λ among. is.is_left ((agree i (slice_get_within edges i is.edge is.stands)).1 among))

    -- the first that is stuck goes on with the order
    pub order_more : (i : ℕ) → IsTrimOrder before mode edges removed → IsFirstStuck before mode edges (IsFlagged gone) i → IsTrimOrder before mode edges (removed ++ i ∷ [])
    order_more i had first =
        order_push removed i had (
          stuck_to (IsFlagged gone) (Contains removed) agree i first.0,
          λ k below stuck. first.1 k below (stuck_to (Contains removed) (IsFlagged gone) (turned (IsFlagged gone) (Contains removed) agree) k stuck),
        )

    -- at the end none is stuck
    pub done_at_end : AreSettled before mode edges gone (length edges) → (i : ℕ) → ¬ IsStuck before mode edges (Contains removed) i
    done_at_end settled i is =
        not_stuck before mode edges gone (length edges) i are.long settled (slice_get_within edges i is.edge is.stands) (stuck_to (Contains removed) (IsFlagged gone) (turned (IsFlagged gone) (Contains removed) agree) i is)

    pub stays_at_end : AreSettled before mode edges gone (length edges) → (i : ℕ) (e : Edge) (side : Side) → slice_get edges i ≡ Some e → ¬ Contains removed i → HasBeside before mode edges (Contains removed) side e
    stays_at_end settled i e side at kept =
        let below = slice_get_within edges i e at in
        beside_to (IsFlagged gone) (Contains removed) agree side e (settled i e side below at (unflagged i below kept))

  -- hints stay hints, and those whose hint goes are told
  hints_gone : (gone : List Bool) (side : Side) (old new : Hints) (i : ℕ) → length gone ≡ length edges → i < length edges → AreHints before mode edges gone side old → IsWoken i old new → AreHints before mode edges (set gone i true) side new
  hints_gone gone side old new i long inside are woken = record {
    long = ap length woken.found ∙ are.long;
    as_long = ap length woken.watchers ∙ length-set old.watchers i [] ∙ are.as_long;
    users = subst (AreUsers (opposite side) edges [] (length edges)) (sym woken.users) are.users;
    chain = subst (AreChained (opposite side) edges 0) (sym woken.chain) are.chain;
    each = λ j p at.
        let is = are.each j p (sym (ap (λ l. slice_get l j) woken.found) ∙ at) in
        record {
          passed = λ q e f below at_e at_f unset. is.passed q e f below at_e at_f (was_unset gone i q (omega (arith, long, slice_get_within edges q f at_f)) (omega (arith, long, inside)) unset).1;
          fits = is.fits;
        };
    watched = λ j p at unset.
        let hint = are.each j p (sym (ap (λ l. slice_get l j) woken.found) ∙ at) in
        let was = was_unset gone i p (omega (arith, long, hint.fits.0)) (omega (arith, long, inside)) unset in
        subst (λ w. Contains (get_or w p []) j) (sym woken.watchers) (left_other old.watchers i p j was.0 (are.watched j p (sym (ap (λ l. slice_get l j) woken.found) ∙ at) was.1));
  }

  pub both_gone : (gone : List Bool) (old new : Sides) (i : ℕ) → length gone ≡ length edges → i < length edges → AreBothHints before mode edges gone old
      → IsWoken i old.followers new.followers → IsWoken i old.leaders new.leaders → AreBothHints before mode edges (set gone i true) new
  both_gone gone old new i long inside are followers leaders =
      record { followers = hints_gone gone Follower old.followers new.followers i long inside are.followers followers; leaders = hints_gone gone Leader old.leaders new.leaders i long inside are.leaders leaders }

  -- who is left and doesn't wait keeps its hints
  hinted_gone : (gone : List Bool) (side : Side) (old new : Hints) (i j : ℕ) → length gone ≡ length edges → i < length edges → AreHints before mode edges gone side old → IsWoken i old new
      → list_any (λ w. eqb w j) (get_or old.watchers i []) ≡ false → HasHint gone old.found.items j → HasHint (set gone i true) new.found.items j
  hinted_gone gone side old new i j long inside are woken unwatched hinted =
      let hint = are.each j hinted.hint hinted.is in
      elim (cases_eq hinted.hint i) [
        | inl same ↦
            let watches = are.watched j hinted.hint hinted.is hinted.is_left in
            absurd (false≢true (sym unwatched ∙ any_from_contains (get_or old.watchers i []) j (subst (λ p. Contains (get_or old.watchers p []) j) same watches)))
        | inr other ↦ record {
          hint = hinted.hint;
          is = ap (λ l. slice_get l j) woken.found ∙ hinted.is;
          is_left = set_elsewhere gone i hinted.hint true other (omega (arith, long, hint.fits.0)) ∙ hinted.is_left;
        }
      ]

  pub awake_gone : (gone : List Bool) (size : ℕ) (old new : Sides) (i : ℕ) (had has : Waiting) → length gone ≡ length edges → size ≡ length edges → i < size → AreBothHints before mode edges gone old
      → IsWoken i old.followers new.followers → IsWoken i old.leaders new.leaders
      → ((j : ℕ) → waits has j ≡ ((waits had j || list_any (λ w. eqb w j) (get_or old.followers.watchers i [])) || list_any (λ w. eqb w j) (get_or old.leaders.watchers i [])))
      → AreEarlier has → has.next ≡ had.next → AreAwake gone size old had → AreAwake (set gone i true) size new has
  awake_gone gone size old new i had has long same inside are followers leaders told earlier next awake = record {
    earlier = earlier;
    within = omega (arith, next, awake.within);
    hinted = λ j side below unset silent.
        let none : (waits had j ≡ false) × (list_any (λ w. eqb w j) (get_or old.followers.watchers i []) ≡ false) × (list_any (λ w. eqb w j) (get_or old.leaders.watchers i []) ≡ false) = all_false _ _ _ (sym (told j) ∙ silent) in
        let was = was_unset gone i j (omega (arith, long, same)) (omega (arith, long, same)) unset in
        on side j none.1 none.2 (awake.hinted j side below was.1 none.0);
  }
    where
      on : (side : Side) (j : ℕ) → list_any (λ w. eqb w j) (get_or old.followers.watchers i []) ≡ false → list_any (λ w. eqb w j) (get_or old.leaders.watchers i []) ≡ false
          → HasHint gone (hints_of side old) j → HasHint (set gone i true) (hints_of side new) j
      on Follower j follows leads hinted = hinted_gone gone Follower old.followers new.followers i j long (omega (arith, same, inside)) are.followers followers follows hinted
      on Leader j follows leads hinted = hinted_gone gone Leader old.leaders new.leaders i j long (omega (arith, same, inside)) are.leaders leaders leads hinted
