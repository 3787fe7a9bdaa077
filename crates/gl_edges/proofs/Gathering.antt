-- A table that grows by the edges of one event after another.
use Rattle.std.proofs.Common.{◌≡◌, ◌≢◌, ℕ, zero, suc, ◌+◌, ◌<◌, ◌≤◌, inl, inr, Bool, true, false, cond, eqb, List, [], ◌∷◌, ◌++◌, length, get_or, map, take, Some, None, refl, sym, ap, subst, ◌∙◌, arith}
use Rattle.std.specs.Prelude.{Contains, slice_get}
use Rattle.std.specs.List.{flat_map, range_with_len, enumerate_from}
use Rattle.std.specs.Option.{option_map_or, option_map}
use Rattle.std.proofs.lemmas.Bool.{ne_eqb, cases_lt}
use Rattle.std.proofs.lemmas.List.{append-nil, append_assoc, map_more, take_all, take_more, length-map, length-take-le}
use Rattle.std.proofs.lemmas.List.Concat.{flat_map-append}
use Rattle.std.proofs.lemmas.Option.{slice_get_read, slice_get-map}
use Rattle.std.proofs.lemmas.List.Elements.{Contains-append_left, Contains-append_right, Contains-append_cases, All-contains}
use Rattle.gl_event.specs.Bounds.{greatest}
use Rattle.gl_event.specs.Lawful.{IsLawful, refusal}
use Rattle.gl_event.specs.Events.{depth, held, entry_of}
use Rattle.gl_event.specs.Standing.{StandsFor}
use Rattle.gl_event.specs.declared.events.Event.{Event}
use Rattle.gl_event.specs.declared.events.LockMode.{LockMode}
use Rattle.gl_event.specs.declared.held.HeldEntry.{HeldEntry}
use Rattle.gl_event.proofs.HeldLemmas.{entry_of-lock}
use Rattle.gl_edges.proofs.Holding.{guards_are}
use Rattle.gl_edges.specs.Guards.{guards_of}
use Rattle.gl_edges.specs.Edges.{once, pair_at, edges_wanting, edges_after, edges_at, edges_of_list, edges_made_from}
use Rattle.gl_edges.specs.bodies.Tables.{IsTableOf}
use Rattle.gl_edges.specs.Tracking.{Follows, IsNextFor}
use Rattle.gl_edges.specs.bodies.Gatherers.{pair_for}
use Rattle.gl_edges.specs.declared.edge.Edge.{Edge}
use Rattle.gl_edges.specs.declared.edge.Sample.{Sample}
use Rattle.gl_edges.specs.declared.tracker.Tracker.{Tracker}
use Rattle.gl_edges.specs.Laws.{AreAmong}
use Rattle.gl_edges.proofs.Filling.{once_before}
use Rattle.gl_edges.proofs.Least.{same_once}
use Rattle.gl_edges.proofs.Membership.{contains_none, contains_map, contains_map_from, held_where_deep, deep_where_held}

-- a table of the same pairs
pub table_same : (known : List (Edge × Sample)) (xs ys : List (Edge × Sample)) → xs ≡ ys → IsTableOf known xs → IsTableOf known ys
table_same known xs ys same is = subst (IsTableOf known) same is

-- a table of the same pairs and no more
pub table_nil : (known : List (Edge × Sample)) (pairs : List (Edge × Sample)) → IsTableOf known pairs → IsTableOf known (pairs ++ [])
table_nil known pairs is = subst (IsTableOf known) (sym (append-nil pairs)) is

-- a table into which one more pair was put
pub table_push : (known new : List (Edge × Sample)) (pairs : List (Edge × Sample)) (pair : Edge × Sample) → new ≡ once (known ++ pair ∷ []) → IsTableOf known pairs → IsTableOf new (pairs ++ pair ∷ [])
table_push known new pairs pair put is = record { is = put ∙ ap (λ table. once (table ++ pair ∷ [])) is.is ∙ once_before pairs (pair ∷ []) }

-- ---- the edges of one acquire

-- an edge whose fields were set is that of the held lock
pub pair_is : (edge : Edge) (tracker : Tracker) (wanted : ℕ) (mode : LockMode) (loc : ℕ) (h : HeldEntry) (place : ℕ) → edge.thread ≡ tracker.thread → edge.wanted ≡ wanted → edge.wanted_mode ≡ mode → edge.second ≡ tracker.state.segments
    → edge.guards ≡ guards_of tracker.state.held → place ≡ tracker.state.events
    → ◌≡◌ {A = Edge × Sample} (record edge { held = h.lock; held_mode = h.mode; first = h.seg }, record { place = place; held_loc = h.loc; wanted_loc = loc }) (pair_for tracker wanted mode loc h)
pair_is edge tracker wanted mode loc h place of_thread wants wants_as in_segment guarded at_place = λ i. (
  record { thread = of_thread i; held = h.lock; held_mode = h.mode; wanted = wants i; wanted_mode = wants_as i; first = h.seg; second = in_segment i; guards = guarded i },
  record { place = at_place i; held_loc = h.loc; wanted_loc = loc },
)

-- one more entry of the held locks
pub table_more : (known : List (Edge × Sample)) (pairs : List (Edge × Sample)) (f : HeldEntry → Edge × Sample) (hs : List HeldEntry) (i : ℕ) (h : HeldEntry) (pair : Edge × Sample)
    → i < length hs → h ≡ get_or hs i h → pair ≡ f h → IsTableOf known ((pairs ++ map f (take i hs)) ++ pair ∷ []) → IsTableOf known (pairs ++ map f (take (i + 1) hs))
table_more known pairs f hs i h pair within is same step =
    table_same known _ _
    (append_assoc pairs (map f (take i hs)) (pair ∷ [])
    ∙ ap (λ p. pairs ++ (map f (take i hs) ++ p ∷ [])) (same ∙ ap f is)
    ∙ ap (λ xs. pairs ++ xs) (sym (map_more f hs i h within)))
    step

-- all entries of the held locks
pub table_all : (known : List (Edge × Sample)) (pairs : List (Edge × Sample)) (f : HeldEntry → Edge × Sample) (hs : List HeldEntry) (i : ℕ) → length hs ≤ i
    → IsTableOf known (pairs ++ map f (take i hs)) → IsTableOf known (pairs ++ map f hs)
table_all known pairs f hs i all is = table_same known _ _ (ap (λ xs. pairs ++ map f xs) (take_all i hs all)) is

-- a table of pairs in another order
pub table_alike : (known : List (Edge × Sample)) (xs ys : List (Edge × Sample)) → AreAmong xs ys → AreAmong ys xs → IsTableOf known xs → IsTableOf known ys
table_alike known xs ys to from is = record { is = is.is ∙ same_once xs ys to from }

-- pairs that follow the same front
pub append_among : (pairs xs ys : List (Edge × Sample)) → AreAmong xs ys → AreAmong (pairs ++ xs) (pairs ++ ys)
append_among pairs xs ys to pair at =
    elim (Contains-append_cases pairs xs pair at) [
      | inl front ↦ Contains-append_left pairs ys pair front
      | inr back ↦ Contains-append_right pairs ys pair (to pair back)
    ]

-- what an acquire makes, where its lock isn't held
pub wanting_is : (thread : ℕ) (es : List Event) (wanted : ℕ) (mode : LockMode) (loc : ℕ) → depth es wanted ≡ 0 → edges_wanting thread es wanted mode loc ≡ map (pair_at thread es wanted mode loc) (held es)
unfolding edges_wanting
wanting_is thread es wanted mode loc free = ap (λ d. cond (eqb d 0) (map (pair_at thread es wanted mode loc) (held es)) []) free

-- a lock that is held makes no edges
pub wanting_none : (thread : ℕ) (es : List Event) (wanted : ℕ) (mode : LockMode) (loc : ℕ) → 0 < depth es wanted → edges_wanting thread es wanted mode loc ≡ []
unfolding edges_wanting
wanting_none thread es wanted mode loc deep = ap (λ b. cond b (map (pair_at thread es wanted mode loc) (held es)) []) (ne_eqb (depth es wanted) 0 (λ e. absurd (omega arith)))

module _ (thread : ℕ) (es : List Event) (tracker : Tracker) (tracked : Follows thread es tracker) (wanted : ℕ) (mode : LockMode) (loc : ℕ) where
  -- a tracked thread makes for a held lock the pair that the definition says
  pub pair_for_is : (lock : ℕ) (h : HeldEntry) → h ≡ entry_of es lock → pair_for tracker wanted mode loc h ≡ pair_at thread es wanted mode loc lock
  pair_for_is lock h is =
      let of_lock : h.lock ≡ lock = ap (λ x. x.lock) is ∙ entry_of-lock es lock in
      let guarded = guards_are es tracker.state.held tracked.stands.held in
      λ i. (
        record {
          thread = tracked.of_thread i;
          held = of_lock i;
          held_mode = (is i).mode;
          wanted = wanted;
          wanted_mode = mode;
          first = (is i).seg;
          second = tracked.stands.segments i;
          guards = guarded i;
        },
        record { place = tracked.stands.events i; held_loc = (is i).loc; wanted_loc = loc },
      )

  -- each pair of an entry is one of the definition
  pub pairs_made : AreAmong (map (pair_for tracker wanted mode loc) tracker.state.held) (map (pair_at thread es wanted mode loc) (held es))
  pairs_made pair at =
      let (h, there, is) = contains_map_from (pair_for tracker wanted mode loc) pair tracker.state.held at in
      let entry : h ≡ entry_of es h.lock = All-contains (λ h. h ≡ entry_of es h.lock) tracker.state.held h tracked.stands.held.each there in
      let deep : 0 < depth es h.lock = All-contains (λ h. 0 < depth es h.lock) tracker.state.held h tracked.stands.held.positive there in
      subst (Contains (map (pair_at thread es wanted mode loc) (held es))) (sym (pair_for_is h.lock h entry) ∙ is)
      (contains_map (pair_at thread es wanted mode loc) h.lock (held es) (held_where_deep es h.lock deep))

  -- each pair of the definition is that of an entry
  pub pairs_all : AreAmong (map (pair_at thread es wanted mode loc) (held es)) (map (pair_for tracker wanted mode loc) tracker.state.held)
  pairs_all pair at =
      let (lock, there, is) = contains_map_from (pair_at thread es wanted mode loc) pair (held es) at in
      let entry = tracked.stands.held.whole lock (deep_where_held es lock there) in
      subst (Contains (map (pair_for tracker wanted mode loc) tracker.state.held)) (pair_for_is lock (entry_of es lock) refl ∙ is)
      (contains_map (pair_for tracker wanted mode loc) (entry_of es lock) tracker.state.held entry)

-- a lock that the test doesn't find isn't held
-- an acquire of a lock that isn't held makes an edge where another is held
pub wanting_some : (thread : ℕ) (es : List Event) (wanted : ℕ) (mode : LockMode) (loc : ℕ) (entries : List HeldEntry) → depth es wanted ≡ 0 → StandsFor es entries → entries ≢ []
    → edges_wanting thread es wanted mode loc ≢ []
wanting_some thread es wanted mode loc [] free stands some none = absurd (some refl)
wanting_some thread es wanted mode loc (h ∷ hs) free stands some none =
    let deep : 0 < depth es h.lock = All-contains (λ h. 0 < depth es h.lock) (h ∷ hs) h stands.positive (0, omega arith, refl) in
    let made = contains_map (pair_at thread es wanted mode loc) h.lock (held es) (held_where_deep es h.lock deep) in
    contains_none _ (subst (λ pairs. Contains pairs (pair_at thread es wanted mode loc h.lock)) (sym (wanting_is thread es wanted mode loc free) ∙ none) made)

pub not_deep : (b : Bool) (d : ℕ) → (0 < d → b ≡ true) → b ≡ false → d ≡ 0
not_deep b d found missed =
    elim (cases_lt 0 d) [
      | inl deep ↦ let never = sym (found deep) ∙ missed in absurd (cc)
      | inr none ↦ omega arith
    ]

-- ---- whole lists

-- a range with one more number
pub range_push : (a n : ℕ) → range_with_len a (suc n) ≡ range_with_len a n ++ (a + n) ∷ []
range_push a zero = ap (λ k. k ∷ []) (omega arith)
range_push a (suc n) =
    ap (λ ks. a ∷ ks) (range_push (a + 1) n)
    ∙ ap (λ k. a ∷ (range_with_len (a + 1) n ++ k ∷ [])) (omega arith)

-- the edges at a place are those of its event
pub edges_at_is : (thread : ℕ) (es : List Event) (place : ℕ) (e : Event) → slice_get es place ≡ Some e → edges_at thread es place ≡ edges_after thread (take place es) e
unfolding edges_at
edges_at_is thread es place e at = ap (λ o. option_map_or (edges_after thread (take place es)) o []) at

module _ (thread : ℕ) (es : List Event) (i : ℕ) (e : Event) (tracker : Tracker) (within : i < length es) (item : e ≡ get_or es i e) (tracked : Follows thread (take i es) tracker) where
  -- the event at its place
  at_place : slice_get es i ≡ Some e
  at_place = slice_get_read es (length es) i e refl within item

  -- a tracker may take the next event of a lawful list
  pub follows_next : IsLawful greatest thread es → IsNextFor tracker e
  follows_next lawful = record {
    es = take i es;
    stands = tracked.stands;
    allowed = subst (λ t. refusal greatest t (take i es) e ≡ None) (sym tracked.of_thread) (lawful.each i e at_place);
  }

  -- and then follows one event more
  pub followed : (new : Tracker) → Follows thread (take i es ++ e ∷ []) new → Follows thread (take (i + 1) es) new
  followed new is = subst (λ xs. Follows thread xs new) (ap (λ x. take i es ++ x ∷ []) item ∙ sym (take_more es i e within)) is

-- the last of several numbered elements
enumerate_push : {X : Type 0} (n : ℕ) (xs : List X) (x : X) → enumerate_from n (xs ++ x ∷ []) ≡ enumerate_from n xs ++ (n + length xs, x) ∷ []
enumerate_push n [] x = ap (λ k. (k, x) ∷ []) (omega arith)
enumerate_push n (y ∷ xs) x =
    ap (λ rest. (n, y) ∷ rest) (enumerate_push (n + 1) xs x)
    ∙ ap (λ k. (n, y) ∷ (enumerate_from (n + 1) xs ++ (k, x) ∷ [])) (omega arith)

-- the edges of one more list
edges_made_push : (first : ℕ) (lists : List (List Event)) (es : List Event) → edges_made_from first (lists ++ es ∷ []) ≡ edges_made_from first lists ++ edges_of_list (first + length lists) es
edges_made_push first lists es =
    ap (flat_map (λ numbered. edges_of_list numbered.0 numbered.1)) (enumerate_push first lists es)
    ∙ flat_map-append (λ numbered. edges_of_list numbered.0 numbered.1) (enumerate_from first lists) ((first + length lists, es) ∷ [])
    ∙ ap (λ xs. edges_made_from first lists ++ xs) (append-nil (edges_of_list (first + length lists) es))

module _ {X : Type 0} (items : X → List Event) (xs : List X) (i : ℕ) (x : X) (within : i < length xs) (item : x ≡ get_or xs i x) where
  -- the list at its number
  pub list_at : slice_get (map items xs) i ≡ Some (items x)
  list_at = slice_get-map items xs i ∙ ap (option_map items) (slice_get_read xs (length xs) i x refl within item)

  -- the table then has the edges of one list more
  pub table_lists : (first : ℕ) (known : List (Edge × Sample)) (thread : ℕ) (es : List Event) → thread ≡ first + i → es ≡ items x
      → IsTableOf known (edges_made_from first (map items (take i xs)) ++ edges_of_list thread es) → IsTableOf known (edges_made_from first (map items (take (i + 1) xs)))
  table_lists first known thread es number list is =
      table_same known _ _
      ((λ j. edges_made_from first (map items (take i xs)) ++ edges_of_list ((number ∙ ap (λ n. first + n) (sym long)) j) ((list ∙ ap items item) j))
      ∙ sym (edges_made_push first (map items (take i xs)) (items (get_or xs i x)))
      ∙ ap (edges_made_from first) (sym (map_more items xs i x within)))
      is
    where
      long : length (map items (take i xs)) ≡ i
      long = length-map (take i xs) items ∙ length-take-le i xs (omega arith)
