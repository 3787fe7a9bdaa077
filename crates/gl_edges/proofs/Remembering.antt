-- An acquire whose edges stand among the pairs already, with lesser samples, changes nothing.
use Rattle.std.proofs.Common.{◌≡◌, ℕ, ◌+◌, ◌<◌, ◌⊎◌, inl, inr, false, List, [], ◌++◌, length, map, Option, None, Some, Result, Ok, Err, OnOk, refl, sym, ap, subst, ◌∙◌, arith}
use Rattle.std.specs.Prelude.{Contains}
use Rattle.std.specs.FinMap as map_of
use Rattle.std.specs.Ordering.{is_lt, nat_cmp, ordering_then, MatchOrdering}
use Rattle.std.specs.declared.cmp.Ordering.{Ordering}
use Rattle.std.specs.declared.cmp.Ordering.TheVariants.{Less, Equal, Greater}
use Rattle.std.proofs.lemmas.Cmp.{ranked}
use Rattle.std.proofs.lemmas.List.{append-nil}
use Rattle.std.proofs.lemmas.List.Elements.{Contains-append_left, Contains-append_right, Contains-append_cases}
use Rattle.gl_event.specs.Events.{depth, held, location, lock_mode, wanted_lock}
use Rattle.gl_event.specs.declared.events.Event.{Event}
use Rattle.std.specs.Option.{option_map_or}
use Rattle.gl_event.specs.declared.events.LockMode.{LockMode}
use Rattle.gl_edges.specs.Edges.{least_samples, once, pair_at, edges_wanting, edges_after}
use Rattle.gl_edges.specs.Known.{AreBefore, AreKnown, AreLearned}
use Rattle.gl_edges.specs.bodies.Gatherers.{Gathers, pair_for}
use Rattle.gl_edges.specs.Laws.{AreAmong}
use Rattle.gl_edges.specs.Order.{sample_cmp}
use Rattle.gl_edges.specs.bodies.Tables.{IsTableOf}
use Rattle.gl_edges.specs.bodies.Seen.{edges_now}
use Rattle.gl_edges.specs.Tracking.{Follows}
use Rattle.gl_event.specs.States.{State, StandsAfter}
use Rattle.gl_edges.specs.declared.edge.Edge.{Edge}
use Rattle.gl_edges.specs.declared.edge.Sample.{Sample}
use Rattle.gl_edges.specs.declared.gather.Gatherer.{Gatherer}
use Rattle.gl_edges.specs.declared.tracker.Tracker.{Tracker}
use Rattle.gl_edges.proofs.Gathering.{append_among, pairs_made, pairs_all, table_alike, wanting_is}
use Rattle.gl_edges.proofs.Least.{Answers, table_answers, neither_below}
use Rattle.gl_edges.proofs.Membership.{contains_map, contains_map_from, contains_none}
use Rattle.gl_edges.proofs.Merging.{not_below_trans}
use Rattle.gl_edges.proofs.Orders.{edge_cmp_total, edge_cmp_exact, sample_cmp_total, sample_cmp_exact}

-- ---- pairs that have a lesser one already

-- each of these pairs has a lesser one among those
abbrev HaveLess : List (Edge × Sample) → List (Edge × Sample) → Type 0
HaveLess pairs more = (edge : Edge) (sample : Sample) → Contains more (edge, sample) → (less : Sample) × Contains pairs (edge, less) × (is_lt (sample_cmp sample less) ≡ false)

-- so they change no answer
same_answer : (pairs more : List (Edge × Sample)) → HaveLess pairs more → (edge : Edge) (a b : Option Sample) → Answers pairs edge a → Answers (pairs ++ more) edge b → a ≡ b
same_answer pairs more less edge None None known_a known_b = refl
same_answer pairs more less edge None (Some t) known_a known_b =
    elim (Contains-append_cases pairs more (edge, t) known_b.here) [
      | inl front ↦ absurd (known_a t front)
      | inr back ↦ let (s, there, above) = less edge t back in absurd (known_a s there)
    ]
same_answer pairs more less edge (Some s) None known_a known_b = absurd (known_b s (Contains-append_left pairs more (edge, s) known_a.here))
same_answer pairs more less edge (Some s) (Some t) known_a known_b = ap Some (neither_below sample_cmp_total sample_cmp_exact s t front back)
  where
    front : is_lt (sample_cmp s t) ≡ false
    front = known_b.least s (Contains-append_left pairs more (edge, s) known_a.here)

    back : is_lt (sample_cmp t s) ≡ false
    back =
        elim (Contains-append_cases pairs more (edge, t) known_b.here) [
          | inl at ↦ known_a.least t at
          | inr at ↦ let (u, there, above) = less edge t at in not_below_trans sample_cmp_total t u s above (known_a.least u there)
        ]

-- so each edge is taken once with the same sample
once_stays : (pairs more : List (Edge × Sample)) → HaveLess pairs more → once pairs ≡ once (pairs ++ more)
unfolding once
once_stays pairs more less =
    ap map_of.entries
    (map_of.same_map edge_cmp_total edge_cmp_exact (least_samples pairs) (least_samples (pairs ++ more))
    (λ edge. same_answer pairs more less edge _ _ (table_answers pairs edge) (table_answers (pairs ++ more) edge)))

-- and the table stays
table_stays : (known : List (Edge × Sample)) (pairs more : List (Edge × Sample)) → HaveLess pairs more → IsTableOf known pairs → IsTableOf known (pairs ++ more)
table_stays known pairs more less is = record { is = is.is ∙ once_stays pairs more less }

-- what comes after is greater
after : (x y : ℕ) (r : Ordering) → y < x → MatchOrdering r (x < y) (x ≡ y) (y < x) → r ≡ Greater
after x y Less later is = absurd (omega (arith, later, is))
after x y Equal later is = absurd (omega (arith, later, is))
after x y Greater later is = refl

-- a sample of a later place is not below
later_above : (sample less : Sample) → less.place < sample.place → is_lt (sample_cmp sample less) ≡ false
later_above sample less later =
    ap (λ r. is_lt (ordering_then r (ordering_then (nat_cmp sample.held_loc less.held_loc) (nat_cmp sample.wanted_loc less.wanted_loc))))
    (after sample.place less.place (nat_cmp sample.place less.place) later (ranked sample.place less.place _ refl))

-- ---- one acquire

module _ (tracker : Tracker) (wanted : ℕ) (mode : LockMode) (loc : ℕ) where
  -- its edges with their samples
  abbrev more : List (Edge × Sample)
  more = map (pair_for tracker wanted mode loc) tracker.state.held

  -- where all its edges stand among the pairs with earlier samples, the table has them
  pub table_seen : (known : List (Edge × Sample)) (pairs : List (Edge × Sample)) (seen : List Edge) → AreBefore seen pairs tracker.state.events
      → ((edge : Edge) → Contains (edges_now tracker.thread tracker.state wanted mode) edge → Contains seen edge) → IsTableOf known pairs → IsTableOf known (pairs ++ more)
  table_seen known pairs seen before all is = table_stays known pairs more less is
    where
      less : HaveLess pairs more
      less edge sample at =
          let (h, there, same) = contains_map_from (pair_for tracker wanted mode loc) (edge, sample) tracker.state.held at in
          let now : Contains (edges_now tracker.thread tracker.state wanted mode) edge =
          subst (Contains (edges_now tracker.thread tracker.state wanted mode)) (ap (λ pair. pair.0) same) (contains_map (λ h. (pair_for tracker wanted mode loc h).0) h tracker.state.held there) in
          let (earlier, has, early) = before edge (all edge now) in
          (earlier, has, later_above sample earlier (subst (λ s. earlier.place < s.place) (ap (λ pair. pair.1) same) early))

  -- after it, its edges stand among the pairs
  pub before_more : (pairs : List (Edge × Sample)) (old new : List Edge) → AreBefore old pairs tracker.state.events
      → ((edge : Edge) → Contains new edge → Contains old edge ⊎ Contains (edges_now tracker.thread tracker.state wanted mode) edge) → AreBefore new (pairs ++ more) (tracker.state.events + 1)
  before_more pairs old new before noted edge at =
      elim (noted edge at) [
        | inl was ↦
            let (sample, there, early) = before edge was in
            (sample, Contains-append_left pairs more (edge, sample) there, omega (arith, early))
        | inr now ↦
            let (h, there, same) = contains_map_from (λ h. (pair_for tracker wanted mode loc h).0) edge tracker.state.held now in
            let sample = (pair_for tracker wanted mode loc h).1 in (
              sample,
              Contains-append_right pairs more (edge, sample) (subst (λ e. Contains more (e, sample)) same (contains_map (pair_for tracker wanted mode loc) h tracker.state.held there)),
              omega arith,
            )
      ]

-- ---- an acquire that somebody else follows

module _ (thread : ℕ) (es : List Event) (s : State) (stands : StandsAfter es s) (wanted : ℕ) (mode : LockMode) (loc : ℕ) (free : depth es wanted ≡ 0) (old : List Edge) where
  abbrev tracker : Tracker
  tracker = record { thread = thread; state = s }

  tracked : Follows thread es tracker
  tracked = record { of_thread = refl; stands = stands }

  -- where its edges are known, those that it makes are
  pub acquire_known : ((edge : Edge) → Contains (edges_now thread s wanted mode) edge → Contains old edge) → AreKnown old (edges_wanting thread es wanted mode loc)
  acquire_known all edge sample at =
      let there = pairs_all thread es tracker tracked wanted mode loc (edge, sample) (subst (λ pairs. Contains pairs (edge, sample)) (wanting_is thread es wanted mode loc free) at) in
      let (h, here, same) = contains_map_from (pair_for tracker wanted mode loc) (edge, sample) s.held there in
      all edge (subst (Contains (edges_now thread s wanted mode)) (ap (λ pair. pair.0) same) (contains_map (λ h. (pair_for tracker wanted mode loc h).0) h s.held here))

  -- what is noted with it are edges that it makes
  pub acquire_learned : (new : List Edge) → ((edge : Edge) → Contains new edge → Contains old edge ⊎ Contains (edges_now thread s wanted mode) edge) → AreLearned old (edges_wanting thread es wanted mode loc) new
  acquire_learned new noted edge at =
      elim (noted edge at) [
        | inl was ↦ inl was
        | inr now ↦
            let (h, there, same) = contains_map_from (λ h. (pair_for tracker wanted mode loc h).0) edge s.held now in
            let sample = (pair_for tracker wanted mode loc h).1 in
            let made = pairs_made thread es tracker tracked wanted mode loc (edge, sample) (subst (λ e. Contains (map (pair_for tracker wanted mode loc) s.held) (e, sample)) same (contains_map (pair_for tracker wanted mode loc) h s.held there)) in
            inr (sample, subst (λ pairs. Contains pairs (edge, sample)) (sym (wanting_is thread es wanted mode loc free)) made)
      ]

-- pairs of a later place whose edges stand among those already change no table
pub known_stays : (pairs more : List (Edge × Sample)) (known : List Edge) (place : ℕ) → AreBefore known pairs place → AreKnown known more
    → ((edge : Edge) (sample : Sample) → Contains more (edge, sample) → sample.place ≡ place) → once pairs ≡ once (pairs ++ more)
known_stays pairs more known place before are at_place = once_stays pairs more less
  where
    less : HaveLess pairs more
    less edge sample at =
        let (earlier, has, early) = before edge (are edge sample at) in
        (earlier, has, later_above sample earlier (subst (λ p. earlier.place < p) (sym (at_place edge sample at)) early))

-- ---- what a gatherer knows

-- pairs in another order
gathers_alike : (xs ys : List (Edge × Sample)) (place : ℕ) (gatherer : Gatherer) → AreAmong xs ys → AreAmong ys xs → Gathers xs place gatherer → Gathers ys place gatherer
gathers_alike xs ys place gatherer to from is = record {
  table = table_alike gatherer.batch xs ys to from is.table;
  seen = λ edge at. let (sample, there, early) = is.seen edge at in (sample, to (edge, sample) there, early);
}

-- an event that makes no edges
pub gathers_nothing : (pairs none : List (Edge × Sample)) (place : ℕ) (gatherer : Gatherer) → none ≡ [] → Gathers pairs place gatherer → Gathers (pairs ++ none) (place + 1) gatherer
gathers_nothing pairs none place gatherer nothing is =
    subst (λ xs. Gathers xs (place + 1) gatherer) (sym (append-nil pairs) ∙ ap (λ xs. pairs ++ xs) (sym nothing))
    (record { table = is.table; seen = λ edge at. let (sample, there, early) = is.seen edge at in (sample, there, omega (arith, early)) })

-- an acquire of a lock that isn't held
pub gathers_acquire : (thread : ℕ) (es : List Event) (tracker : Tracker) → Follows thread es tracker → (wanted : ℕ) (mode : LockMode) (loc : ℕ) (pairs : List (Edge × Sample)) (gatherer : Gatherer) → depth es wanted ≡ 0
    → Gathers (pairs ++ more tracker wanted mode loc) (tracker.state.events + 1) gatherer → Gathers (pairs ++ edges_wanting thread es wanted mode loc) (length es + 1) gatherer
gathers_acquire thread es tracker tracked wanted mode loc pairs gatherer free is =
    subst (λ xs. Gathers (pairs ++ xs) (length es + 1) gatherer) (sym (wanting_is thread es wanted mode loc free))
    (subst (λ place. Gathers (pairs ++ map (pair_at thread es wanted mode loc) (held es)) (place + 1) gatherer) tracked.stands.events
    (gathers_alike _ _ (tracker.state.events + 1) gatherer
    (append_among pairs _ _ (pairs_made thread es tracker tracked wanted mode loc))
    (append_among pairs _ _ (pairs_all thread es tracker tracked wanted mode loc)) is))

-- an event that wants no lock makes no edges
pub no_edges : (thread : ℕ) (es : List Event) (event : Event) → wanted_lock event ≡ None → edges_after thread es event ≡ []
no_edges thread es event none = ap (λ wanted. option_map_or (λ lock. edges_wanting thread es lock (lock_mode event) (location event)) wanted []) none

-- before the first event that it takes of a list
pub gathers_start : (pairs : List (Edge × Sample)) (place : ℕ) (gatherer : Gatherer) → gatherer.seen ≡ [] → IsTableOf gatherer.batch pairs → Gathers (pairs ++ []) place gatherer
gathers_start pairs place gatherer none is = record {
  table = subst (IsTableOf gatherer.batch) (sym (append-nil pairs)) is;
  seen = λ edge at. absurd (contains_none edge (subst (λ edges. Contains edges edge) none at));
}

-- two facts of a result
pub both_ok : {T E P Q R : Type 0} (r : Result T E) → (P → Q → R) → OnOk r P → OnOk r Q → OnOk r R
both_ok (Ok x) f p q = f p q
both_ok (Err e) f p q = tt
