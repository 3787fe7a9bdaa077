-- The edges of lists of events and their samples, in the words of the events.
use Rattle.std.proofs.Common.{◌≡◌, ℕ, zero, suc, ◌<◌, ◌≤◌, inl, inr, false, cond, eqb, List, [], ◌∷◌, length, get_or, map, take, drop, Option, Some, None, refl, sym, ap, subst, ◌∙◌, arith}
use Rattle.std.specs.Prelude.{Contains, slice_get}
use Rattle.std.specs.FinMap as table
use Rattle.std.specs.Option.{option_map_or, option_map}
use Rattle.std.specs.Ordering.{is_lt, nat_cmp, ordering_then, ordering_reverse}
use Rattle.std.specs.declared.cmp.Ordering.TheVariants.{Less, Equal, Greater}
use Rattle.std.proofs.lemmas.Bool.{cases_lt, lt-ltb}
use Rattle.std.proofs.lemmas.List.{take-take, take-append-drop, length-take-le}
use Rattle.std.proofs.lemmas.Option.{slice_get_within, slice_get-get_or}
use Rattle.gl_event.specs.Events.{depth, location, segment, held_mode, opened, opens, entry_of}
use Rattle.gl_event.specs.declared.events.Event.{Event}
use Rattle.gl_event.specs.declared.events.Event.TheVariants.{Acquire, Release}
use Rattle.gl_event.specs.declared.events.LockMode.{LockMode}
use Rattle.gl_event.specs.declared.events.LockMode.TheVariants.{Exclusive}
use Rattle.gl_event.proofs.Depths.{greatest_is_below, nonempty_where_held, slice_get_before}
use Rattle.gl_edges.specs.Edges.{sample_of, pair_at, edges_made, once, edges, least_samples}
use Rattle.gl_edges.specs.Laws.{Makes, IsMade, IsMadeFirst}
use Rattle.gl_edges.specs.Order.{sample_cmp}
use Rattle.gl_edges.specs.Samples.{IsLeastSample}
use Rattle.gl_edges.specs.declared.edge.Edge.{Edge}
use Rattle.gl_edges.specs.declared.edge.Sample.{Sample}
use Rattle.gl_edges.proofs.Orders.{sample_cmp_total}
use Rattle.gl_edges.proofs.Least.{not_below_itself, table_answers, Answers}
use Rattle.gl_edges.proofs.Membership.{contains_map, contains_map_from}
use Rattle.gl_edges.proofs.Made.{made_from, made_has}
use Rattle.gl_edges.proofs.Tables.{once_has, once_is_least, least_is_once}

-- ---- where a held lock was opened

-- a held lock was opened before
opened_within : (es : List Event) (lock : ℕ) → 0 < depth es lock → opened es lock < length es
unfolding opened
opened_within es lock deep = greatest_is_below (opens es lock) (length es) (nonempty_where_held es lock deep)

-- a front is no longer than it may be
length_front : {X : Type 0} (n : ℕ) (xs : List X) → length (take n xs) ≤ n
length_front zero xs = omega arith
length_front (suc n) [] = omega arith
length_front (suc n) (x ∷ xs) = let r = length_front n xs in omega arith

-- the segment of an entry
seg_of : (es : List Event) (lock : ℕ) → (entry_of es lock).seg ≡ segment (take (opened es lock) es)
unfolding entry_of
seg_of es lock = refl

-- the location of an entry
loc_of : (es : List Event) (lock : ℕ) → (entry_of es lock).loc ≡ option_map_or location (slice_get es (opened es lock)) 0
unfolding entry_of
loc_of es lock = refl

-- the segment of an entry, in the whole list
seg_is : (es : List Event) (place lock : ℕ) → 0 < depth (take place es) lock → (entry_of (take place es) lock).seg ≡ segment (take (opened (take place es) lock) es)
seg_is es place lock deep =
    let within = opened_within (take place es) lock deep in
    let front = length_front place es in
    seg_of (take place es) lock ∙ ap segment (take-take (opened (take place es) lock) place es (omega arith))

-- an event that is there has a location
some_or : (o : Option Event) (e : Event) → o ≡ Some e → option_map location o ≡ Some (option_map_or location o 0)
some_or None e is = absurd (cc)
some_or (Some f) e is = refl

-- the mode of an entry
mode_of : (es : List Event) (lock : ℕ) → (entry_of es lock).mode ≡ held_mode es lock
unfolding entry_of
mode_of es lock = refl

-- the location of an entry, in the whole list
loc_is : (es : List Event) (place lock : ℕ) → 0 < depth (take place es) lock → option_map location (slice_get es (opened (take place es) lock)) ≡ Some ((entry_of (take place es) lock).loc)
loc_is es place lock deep =
    let q = opened (take place es) lock in
    let within = opened_within (take place es) lock deep in
    let same : slice_get es q ≡ slice_get (take place es) q =
    ap (λ xs. slice_get xs q) (sym (take-append-drop place es)) ∙ slice_get_before (take place es) (drop place es) q within in
    ap (option_map location) same
    ∙ some_or (slice_get (take place es) q) (get_or (take place es) q (Release Exclusive 0 0)) (slice_get-get_or (take place es) q (Release Exclusive 0 0) within)
    ∙ ap Some (sym (loc_of (take place es) lock))

-- ---- a pair at a place, in the words of the events

record IsMadeAt (es : List Event) (place : ℕ) (pair : Edge × Sample) : Type 0 where
  -- the thread makes the edge there
  made : Makes es place pair.0
  -- the sample has this place
  at : pair.1.place ≡ place
  -- and the location of the held lock
  held_at : option_map location (slice_get es (opened (take place es) pair.0.held)) ≡ Some pair.1.held_loc
  -- and that of the wanted mode lock
  wanted_at : option_map location (slice_get es place) ≡ Some pair.1.wanted_loc

-- the pairs of an acquire are made there
made_of : (thread : ℕ) (es : List Event) (place wanted : ℕ) (mode : LockMode) (loc lock : ℕ) → slice_get es place ≡ Some (Acquire mode wanted loc) → depth (take place es) wanted ≡ 0 → 0 < depth (take place es) lock
    → IsMadeAt es place (pair_at thread (take place es) wanted mode loc lock)
made_of thread es place wanted mode loc lock acquires free deep = record {
  made = record {
    loc = loc;
    wants = acquires;
    outermost = free;
    holds = deep;
    holds_as = mode_of (take place es) lock;
    opened_in = seg_is es place lock deep;
    acquired_in = refl;
    guarded = refl;
  };
  at = length-take-le place es (let w = slice_get_within es place (Acquire mode wanted loc) acquires in omega arith);
  held_at = loc_is es place lock deep;
  wanted_at = ap (option_map location) acquires;
}

record IsMadeBy (lists : List (List Event)) (pair : Edge × Sample) : Type 0 where
  -- the events of the thread
  es : List Event
  -- they are the list at its number
  of_thread : slice_get lists pair.0.thread ≡ Some es
  -- where it makes the pair
  place : ℕ
  -- it makes it there
  made_at : IsMadeAt es place pair

-- each pair is made at a place
made_by : (lists : List (List Event)) (pair : Edge × Sample) → Contains (edges_made lists) pair → IsMadeBy lists pair
made_by lists pair at =
    let p = made_from lists pair at in
    subst (IsMadeBy lists) p.made.is
    (record { es = p.es; of_thread = p.of_thread; place = p.place; made_at = made_of p.thread p.es p.place p.wanted p.mode p.loc p.made.lock p.acquires p.made.free p.made.deep })

-- the sample of an edge that is made at a place
abbrev sample_at : (es : List Event) (place : ℕ) (edge : Edge) → Makes es place edge → Sample
sample_at es place edge made = sample_of (take place es) made.loc edge.held

-- each edge that is made gives a pair
made_pair : (lists : List (List Event)) (es : List Event) (edge : Edge) → slice_get lists edge.thread ≡ Some es → (place : ℕ) (made : Makes es place edge) → Contains (edges_made lists) (edge, sample_at es place edge made)
made_pair lists es edge of_thread place made =
    let first = seg_is es place edge.held made.holds ∙ sym made.opened_in in
    let second = sym made.acquired_in in
    let guards = sym made.guarded in
    let held_as = mode_of (take place es) edge.held ∙ sym made.holds_as in
    let is : pair_at edge.thread (take place es) edge.wanted edge.wanted_mode made.loc edge.held ≡ (edge, sample_at es place edge made) =
    λ i. (record { thread = edge.thread; held = edge.held; held_mode = held_as i; wanted = edge.wanted; wanted_mode = edge.wanted_mode; first = first i; second = second i; guards = guards i }, sample_at es place edge made) in
    made_has lists (edge, sample_at es place edge made)
    (record {
      thread = edge.thread;
      es = es;
      of_thread = of_thread;
      place = place;
      wanted = edge.wanted;
      mode = edge.wanted_mode;
      loc = made.loc;
      acquires = made.wants;
      made = record { lock = edge.held; free = made.outermost; deep = made.holds; is = is };
    })

-- ---- each edge was made

-- an edge of some pair is there once
once_has_edge : (pairs : List (Edge × Sample)) (edge : Edge) (sample : Sample) → Contains pairs (edge, sample) → Contains (map (λ pair. pair.0) (once pairs)) edge
once_has_edge pairs edge sample at =
    by_answer (table.get (least_samples pairs) edge) refl (table_answers pairs edge)
  where
    by_answer : (answer : Option Sample) → table.get (least_samples pairs) edge ≡ answer → Answers pairs edge answer → Contains (map (λ pair. pair.0) (once pairs)) edge
    by_answer None is known = absurd (known sample at)
    by_answer (Some least) is known = contains_map (λ pair. pair.0) (edge, least) (once pairs) (once_has pairs edge least is)

-- each edge of the list was made
pub edge_was_made : (lists : List (List Event)) (edge : Edge) → Contains (map (λ pair. pair.0) (edges lists)) edge → IsMade lists edge
edge_was_made lists edge at =
    let (pair, there, is) = contains_map_from (λ pair. pair.0) edge (edges lists) at in
    let least = once_is_least (edges_made lists) pair.0 pair.1 there in
    let by = made_by lists (pair.0, pair.1) least.here in
    subst (IsMade lists) is (record { es = by.es; of_thread = by.of_thread; place = by.place; made = by.made_at.made })

-- each edge that was made is in the list
pub made_edge_is_there : (lists : List (List Event)) (edge : Edge) → IsMade lists edge → Contains (map (λ pair. pair.0) (edges lists)) edge
made_edge_is_there lists edge m =
    once_has_edge (edges_made lists) edge (sample_at m.es m.place edge m.made) (made_pair lists m.es edge m.of_thread m.place m.made)

-- ---- and its sample is where it was made first

-- the lesser number is below
less_cmp : (x y : ℕ) → x < y → nat_cmp x y ≡ Less
less_cmp x y up = ap (λ t. cond t Less (cond (eqb x y) Equal Greater)) (lt-ltb x y up)

-- the sample of an earlier place is below
before_in_place : (a b : Sample) → a.place < b.place → sample_cmp a b ≡ Less
before_in_place a b up =
    ap (λ r. ordering_then r (ordering_then (nat_cmp a.held_loc b.held_loc) (nat_cmp a.wanted_loc b.wanted_loc))) (less_cmp a.place b.place up)

-- that of a later place is not
later_not_below : (a b : Sample) → b.place < a.place → is_lt (sample_cmp a b) ≡ false
later_not_below a b up = ap is_lt (sample_cmp_total.antisymm a b) ∙ ap (λ r. is_lt (ordering_reverse r)) (before_in_place b a up)

-- a sample that isn't below another has no earlier place
no_earlier : (a b : Sample) → is_lt (sample_cmp a b) ≡ false → b.place ≤ a.place
no_earlier a b not_below =
    elim (cases_lt a.place b.place) [
      | inl up ↦ let below = ap is_lt (before_in_place a b up) in absurd (cc)
      | inr not_up ↦ not_up
    ]

-- an option has one value
same_some : {X : Type 0} (x y : X) (o : Option X) → o ≡ Some x → o ≡ Some y → x ≡ y
same_some x y o p q = cc

-- a thread has one list
same_list : (lists : List (List Event)) (thread : ℕ) (es fs : List Event) → slice_get lists thread ≡ Some es → slice_get lists thread ≡ Some fs → fs ≡ es
same_list lists thread es fs p q = same_some fs es (slice_get lists thread) q p

-- the sample of an edge that is made at a place has that place
sample_place : (es : List Event) (place : ℕ) (edge : Edge) (made : Makes es place edge) → (sample_at es place edge made).place ≡ place
sample_place es place edge made = length-take-le place es (let w = slice_get_within es place (Acquire edge.wanted_mode edge.wanted made.loc) made.wants in omega arith)

-- a sample of the list is where the edge is made first
pub made_first : (lists : List (List Event)) (edge : Edge) (sample : Sample) → Contains (edges lists) (edge, sample) → IsMadeFirst lists edge sample
made_first lists edge sample at =
    let least = once_is_least (edges_made lists) edge sample at in
    let by = made_by lists (edge, sample) least.here in
    let place : by.place ≡ sample.place = sym by.made_at.at in
    record {
      es = by.es;
      of_thread = by.of_thread;
      made = subst (λ p. Makes by.es p edge) place by.made_at.made;
      first = λ q makes.
          let other = sample_at by.es q edge makes in
          let there = made_pair lists by.es edge by.of_thread q makes in
          let up = no_earlier other sample (least.least other there) in
          let is = sample_place by.es q edge makes in
          omega arith;
      held_at = subst (λ p. option_map location (slice_get by.es (opened (take p by.es) edge.held)) ≡ Some sample.held_loc) place by.made_at.held_at;
      wanted_at = subst (λ p. option_map location (slice_get by.es p) ≡ Some sample.wanted_loc) place by.made_at.wanted_at;
    }

-- two samples of one edge at one place of one list are one
one_sample : (es : List Event) (edge : Edge) (a b : Sample) → a.place ≡ b.place
    → option_map location (slice_get es (opened (take a.place es) edge.held)) ≡ Some a.held_loc → option_map location (slice_get es a.place) ≡ Some a.wanted_loc
    → option_map location (slice_get es (opened (take b.place es) edge.held)) ≡ Some b.held_loc → option_map location (slice_get es b.place) ≡ Some b.wanted_loc
    → a ≡ b
one_sample es edge a b place held_a wanted_a held_b wanted_b =
    let held : a.held_loc ≡ b.held_loc =
    same_some _ _ _ (subst (λ p. option_map location (slice_get es (opened (take p es) edge.held)) ≡ Some a.held_loc) place held_a) held_b in
    let wanted : a.wanted_loc ≡ b.wanted_loc =
    same_some _ _ _ (subst (λ p. option_map location (slice_get es p) ≡ Some a.wanted_loc) place wanted_a) wanted_b in
    λ i. record { place = place i; held_loc = held i; wanted_loc = wanted i }

-- where the edge is made first is its least sample
first_is_least : (lists : List (List Event)) (edge : Edge) (sample : Sample) → IsMadeFirst lists edge sample → IsLeastSample (edges_made lists) edge sample
first_is_least lists edge sample m = record {
  here =
      let there = made_pair lists m.es edge m.of_thread sample.place m.made in
      let by = made_by lists (edge, sample_at m.es sample.place edge m.made) there in
      let place = sample_place m.es sample.place edge m.made in
      let same_es = same_list lists edge.thread m.es by.es m.of_thread by.of_thread in
      let at = subst (λ es. IsMadeAt es by.place (edge, sample_at m.es sample.place edge m.made)) same_es by.made_at in
      let one = one_sample m.es edge (sample_at m.es sample.place edge m.made) sample place
      (subst (λ p. option_map location (slice_get m.es (opened (take p m.es) edge.held)) ≡ Some (sample_at m.es sample.place edge m.made).held_loc) (sym at.at) at.held_at)
      (subst (λ p. option_map location (slice_get m.es p) ≡ Some (sample_at m.es sample.place edge m.made).wanted_loc) (sym at.at) at.wanted_at)
      m.held_at m.wanted_at in
      subst (λ s. Contains (edges_made lists) (edge, s)) one there;
  least = λ other there.
      let by = made_by lists (edge, other) there in
      let same_es = same_list lists edge.thread m.es by.es m.of_thread by.of_thread in
      let at = subst (λ es. IsMadeAt es by.place (edge, other)) same_es by.made_at in
      let up = m.first by.place at.made in
      elim (cases_lt sample.place other.place) [
        | inl later ↦ later_not_below other sample later
        | inr not_later ↦
            let place : other.place ≡ sample.place = let is = at.at in omega arith in
            let one = one_sample m.es edge other sample place
            (subst (λ p. option_map location (slice_get m.es (opened (take p m.es) edge.held)) ≡ Some other.held_loc) (sym at.at) at.held_at)
            (subst (λ p. option_map location (slice_get m.es p) ≡ Some other.wanted_loc) (sym at.at) at.wanted_at)
            m.held_at m.wanted_at in
            not_below_itself sample_cmp_total sample other one
      ];
}

-- and so in the list
pub first_is_there : (lists : List (List Event)) (edge : Edge) (sample : Sample) → IsMadeFirst lists edge sample → Contains (edges lists) (edge, sample)
first_is_there lists edge sample m = least_is_once (edges_made lists) edge sample (first_is_least lists edge sample m)
