-- Edges that a run makes note by note, but for repeats.
use Rattle.std.proofs.Common.{◌≡◌, ◌⊎◌, ℕ, zero, suc, ◌<◌, ◌≤◌, Bool, true, false, cond, eqb, Option, None, Result, Ok, Err, List, [], ◌∷◌, ◌++◌, length, map, take, set, get_or, Some, refl, sym, ap, ◌∙◌, subst, append_assoc, arith, inl, inr}
use Rattle.std.specs.Prelude.{slice_get, Contains, OnErr}
use Rattle.std.specs.Option.{option_map_or}
use Rattle.std.proofs.Math.Seq.{take-append_seam}
use Rattle.std.proofs.lemmas.Bool.{cases_eq, false≢true}
use Rattle.std.proofs.lemmas.List.{append-nil, length-append, take_all}
use Rattle.std.proofs.lemmas.List.Elements.{Contains-append_left, Contains-append_right, Contains-append_cases}
use Rattle.gl_event.specs.Bounds.{Bounds}
use Rattle.gl_event.specs.Events.{held, location, lock_mode, wanted_lock, depth}
use Rattle.gl_event.specs.declared.events.Event.{Event}
use Rattle.gl_event.specs.declared.notes.Note.{Note}
use Rattle.gl_event.specs.declared.notes.Body.{Body}
use Rattle.gl_event.specs.declared.notes.Body.TheVariants.{Happened, Ended}
use Rattle.gl_edges.specs.Known.{AreAddedUnlessKnown, AreLearned}
use Rattle.gl_edges.specs.Edges.{edges_after, edges_wanting, once, pair_at}
use Rattle.gl_edges.specs.declared.edge.Edge.{Edge}
use Rattle.gl_edges.specs.declared.edge.Sample.{Sample}
use Rattle.gl_edges.proofs.Filling.{once_before}
use Rattle.gl_edges.proofs.Membership.{contains_map_from, contains_none}
use Rattle.gl_edges.proofs.Remembering.{known_stays}
use Rattle.gl_edges.proofs.Steps.{newest}
use Rattle.gl_intake.specs.Stream.{events_of, HasOffered, IsNext}
use Rattle.gl_intake.specs.declared.notes.Accepted.{Accepted}
use Rattle.gl_intake.specs.declared.notes.Refused.{Refused}
use Rattle.gl_intake.proofs.Next.{next_of_none}
use Rattle.gl_intake.proofs.Streams.{events_ended, events_more, events_other}
use Rattle.gl_world.specs.Keeping.{with_body}
use Rattle.gl_world.specs.Machine.{edges_due}
use Rattle.gl_world.proofs.Lists.{same_some, get_at, get_set_same, get_set_other}
use Rattle.gl_engine.specs.Dealing.{edges_of_next, made_by, AreDue}
use Rattle.gl_engine.specs.bodies.Sparing.{AddsEdges, AreSpared, HasAdded, HasForgotten, IsLearned, IsMadeOf, Knows, NotesMade, NothingIsKnown}
use Rattle.gl_engine.specs.declared.making.Making.{Making}
use Rattle.gl_engine.proofs.Dealt.{made_by_more}
use Rattle.gl_engine.proofs.Sides.{due_is, none_due, with_note}

-- ---- what is due

-- all edges made are
pub all_due : (spares : Bool) (made : List (Edge × Sample)) → AreDue spares made made
all_due spares made = record { all = λ no. refl; made_are = λ pair at. at; table = refl }

-- the same edges behind some of which each is due
pub due_more : (spares : Bool) (made due pairs : List (Edge × Sample)) → AreDue spares made due → AreDue spares (made ++ pairs) (due ++ pairs)
due_more spares made due pairs are = record {
  all = λ no. ap (λ all. all ++ pairs) (are.all no);
  made_are = λ pair at.
      elim (Contains-append_cases due pairs pair at) [
        | inl front ↦ Contains-append_left made pairs pair (are.made_are pair front)
        | inr back ↦ Contains-append_right made pairs pair back
      ];
  table = sym (once_before due pairs) ∙ ap (λ table. once (table ++ pairs)) are.table ∙ once_before made pairs;
}

-- ---- the places of a note's edges

-- the edges of an event stand at its place
places_after : (thread : ℕ) (es : List Event) (e : Event) (edge : Edge) (sample : Sample) → Contains (edges_after thread es e) (edge, sample) → sample.place ≡ length es
unfolding edges_wanting
places_after thread es e edge sample at = of_wanted (wanted_lock e) at
  where
    of_pairs : (b : Bool) (wanted : ℕ) → Contains (cond b (map (pair_at thread es wanted (lock_mode e) (location e)) (held es)) []) (edge, sample) → sample.place ≡ length es
    of_pairs true wanted there =
        let (lock, here, is) = contains_map_from (pair_at thread es wanted (lock_mode e) (location e)) (edge, sample) (held es) there in
        sym (ap (λ pair. pair.1.place) is)
    of_pairs false wanted there = absurd (contains_none (edge, sample) there)

    of_lock : (wanted : ℕ) → Contains (edges_wanting thread es wanted (lock_mode e) (location e)) (edge, sample) → sample.place ≡ length es
    of_lock wanted there = of_pairs (eqb (depth es wanted) 0) wanted there

    of_wanted : (wanted : Option ℕ) → Contains (option_map_or (λ lock. edges_wanting thread es lock (lock_mode e) (location e)) wanted []) (edge, sample) → sample.place ≡ length es
    of_wanted None there = absurd (contains_none (edge, sample) there)
    of_wanted (Some wanted) there = of_lock wanted there

-- those of a body that comes next
placed_body : (thread : ℕ) (es : List Event) (body : Body) (edge : Edge) (sample : Sample) → Contains (edges_due thread (with_body es body) (length es) body) (edge, sample)
    → (sample.place ≡ length es) × (length es < length (with_body es body))
placed_body thread es (Happened e) edge sample at =
    (places_after thread es e edge sample (subst (λ pairs. Contains pairs (edge, sample)) (newest thread es e) at), omega (arith, length-append es (e ∷ [])))
placed_body thread es (Ended count) edge sample at = absurd (contains_none (edge, sample) at)

module _ (limits : Bounds) (stream : List Note) (note : Note) (next : IsNext limits stream note) where
  -- they are of the place behind the events before it
  placed : (edge : Edge) (sample : Sample) → Contains (edges_of_next stream note) (edge, sample) → sample.place ≡ length (events_of note.thread stream)
  placed edge sample at = (placed_body note.thread (events_of note.thread stream) note.body edge sample (subst (λ pairs. Contains pairs (edge, sample)) (sym (due_is limits stream note next)) at)).0

  -- which is one of its thread's then
  placed_within : (edge : Edge) (sample : Sample) → Contains (edges_of_next stream note) (edge, sample) → sample.place < length (events_of note.thread (stream ++ note ∷ []))
  placed_within edge sample at =
      let (is, more) = placed_body note.thread (events_of note.thread stream) note.body edge sample (subst (λ pairs. Contains pairs (edge, sample)) (sym (due_is limits stream note next)) at) in
      let all = ap length (with_note limits stream note next) in
      omega (arith, is, more, all)

  -- no thread has fewer events
  no_fewer : (thread : ℕ) → length (events_of thread stream) ≤ length (events_of thread (stream ++ note ∷ []))
  no_fewer thread =
      elim (cases_eq note.thread thread) [
        | inl same ↦ subst (λ t. length (events_of t stream) ≤ length (events_of t (stream ++ note ∷ []))) same (own note.body refl)
        | inr other ↦ (let is = ap length (events_other stream note thread other) in omega (arith, is))
      ]
    where
      own : (body : Body) → note.body ≡ body → length (events_of note.thread stream) ≤ length (events_of note.thread (stream ++ note ∷ []))
      own (Happened e) is = (let more = ap length (events_more stream note e is) in omega (arith, more, length-append (events_of note.thread stream) (e ∷ [])))
      own (Ended count) is = (let same = ap length (events_ended stream note note.thread count is) in omega (arith, same))

-- ---- what is made

-- nothing is
pub adds_none : (stream : List Note) (thread : ℕ) (making more : Making) → NotesMade stream making → HasAdded thread [] making more → AddsEdges stream making stream more
adds_none stream thread making more notes has = record {
  due = λ shipped are.
      elim has.added [
        | inl is ↦ subst (λ pairs. AreDue making.spares (made_by stream) (shipped ++ pairs)) (sym (is ∙ append-nil making.made.items)) are
        | inr is ↦ subst (λ pairs. AreDue making.spares (made_by stream) (shipped ++ pairs)) (sym is.0) are
      ];
  notes = λ t later at edge there.
      let learned = has.learned t later at in
      elim (learned.each edge there) [
        | inl was ↦ notes t learned.known learned.before edge was
        | inr now ↦ absurd (contains_none (edge, now.1) now.2)
      ];
  spares = has.spares;
}

-- where nothing changes, nothing is
pub nothing_added : (thread : ℕ) (pairs : List (Edge × Sample)) (making : Making) → pairs ≡ [] → HasAdded thread pairs making making
nothing_added thread pairs making none = record {
  spares = refl;
  added = inl (sym (append-nil making.made.items) ∙ ap (λ more. making.made.items ++ more) (sym none));
  learned = λ other later at. record { known = later; before = at; each = λ edge there. inl there };
}

-- some are, and then some more
pub adds_on : (before between after : List Note) (making mid more : Making) → AddsEdges before making between mid → AddsEdges between mid after more → AddsEdges before making after more
adds_on before between after making mid more a b = record {
  due = λ shipped are.
      let then = subst (λ s. AreDue s (made_by between) (shipped ++ mid.made.items)) (sym a.spares) (a.due shipped are) in
      subst (λ s. AreDue s (made_by after) (shipped ++ more.made.items)) a.spares (b.due shipped then);
  notes = b.notes;
  spares = b.spares ∙ a.spares;
}

-- the edges of the stream's next note are
pub adds_note : (limits : Bounds) (stream : List Note) (note : Note) → IsNext limits stream note → (making more : Making) → NotesMade stream making → HasAdded note.thread (edges_of_next stream note) making more
    → AddsEdges stream making (stream ++ note ∷ []) more
adds_note limits stream note next making more notes has = record {
  due = λ shipped are.
      subst (λ made. AreDue making.spares made (shipped ++ more.made.items)) (sym (made_by_more stream note))
      (elim has.added [
        | inl is ↦
            subst (λ due. AreDue making.spares (made_by stream ++ pairs) due) (append_assoc shipped making.made.items pairs ∙ ap (λ made. shipped ++ made) (sym is))
            (due_more making.spares (made_by stream) (shipped ++ making.made.items) pairs are)
        | inr is ↦ subst (λ made. AreDue making.spares (made_by stream ++ pairs) (shipped ++ made)) (sym is.0) (spared shipped are is.1)
      ]);
  notes = λ t later at edge there.
      let learned = has.learned t later at in
      elim (learned.each edge there) [
        | inl was ↦
            let (sample, here, early) = notes t learned.known learned.before edge was in
            let still = no_fewer limits stream note next t in
            (sample, subst (λ made. Contains made (edge, sample)) (sym (made_by_more stream note)) (Contains-append_left (made_by stream) pairs (edge, sample) here), omega (arith, early, still))
        | inr now ↦
            let within = placed_within limits stream note next edge now.1 now.2 in (
              now.1,
              subst (λ made. Contains made (edge, now.1)) (sym (made_by_more stream note)) (Contains-append_right (made_by stream) pairs (edge, now.1) now.2),
              subst (λ k. now.1.place < length (events_of k (stream ++ note ∷ []))) now.0 within,
            )
      ];
  spares = has.spares;
}
  where
    pairs : List (Edge × Sample)
    pairs = edges_of_next stream note

    spared : (shipped : List (Edge × Sample)) → AreDue making.spares (made_by stream) (shipped ++ making.made.items) → AreSpared making note.thread pairs
        → AreDue making.spares (made_by stream ++ pairs) (shipped ++ making.made.items)
    spared shipped are so = record {
      all = λ no. absurd (false≢true (sym no ∙ so.spares));
      made_are = λ pair at. Contains-append_left (made_by stream) pairs pair (are.made_are pair at);
      table = are.table
          ∙ known_stays (made_by stream) pairs so.known (length (events_of note.thread stream)) (notes note.thread so.known so.its) so.all (placed limits stream note next);
    }

-- a note that makes none was offered
pub adds_offered : (limits : Bounds) (stream later : List Note) (note : Note) (offered : Result Accepted Refused) → HasOffered limits stream later note offered → (making : Making) → NotesMade stream making
    → edges_due note.thread (with_body (events_of note.thread stream) note.body) (length (events_of note.thread stream)) note.body ≡ [] → AddsEdges stream making later making
adds_offered limits stream later note (Ok accepted) has making notes none =
    subst (λ after. AddsEdges stream making after making) (sym has.grown)
    (adds_note limits stream note (next_of_none limits stream note has.next) making making notes (nothing_added note.thread (edges_of_next stream note) making (none_due limits stream note has.next none)))
adds_offered limits stream later note (Err why) has making notes none =
    subst (λ after. AddsEdges stream making after making) (sym has.unchanged) (adds_none stream note.thread making making notes (nothing_added note.thread [] making refl))

-- what was added is taken back
pub taken_back : (thread : ℕ) (pairs : List (Edge × Sample)) (making mid more : Making) (count : ℕ) → count ≡ length making.made.items → HasAdded thread pairs making mid
    → more.made.items ≡ take count mid.made.items → more.spares ≡ mid.spares → HasForgotten thread mid more → HasAdded thread [] making more
taken_back thread pairs making mid more count all has made spares forgotten = record {
  spares = spares ∙ has.spares;
  added = inl
      (made
      ∙ elim has.added [
        | inl is ↦ (λ i. take (all i) (is i)) ∙ take-append_seam making.made.items pairs
        | inr is ↦ ap (take count) is.0 ∙ take_all count making.made.items (omega (arith, all))
      ]
      ∙ sym (append-nil making.made.items));
  learned = λ other later at.
      let (known, before, each) = forgotten other later at in
      let learned = has.learned other known before in
      record {
        known = learned.known;
        before = learned.before;
        each = λ edge there.
            let (apart, was) = each edge there in
            elim (learned.each edge was) [
              | inl first ↦ inl first
              | inr now ↦ absurd (apart now.0)
            ];
      };
}

-- one thread's acquires change
module _ (making more : Making) (thread : ℕ) (was new : List Edge) (here : was ≡ get_or making.acquires.items thread was) (within : thread < length making.acquires.items)
    (one : more.acquires.items ≡ set making.acquires.items thread new) where
  its_own : Knows making thread was
  its_own = get_at making.acquires.items thread was within here

  -- they were known before, or are edges of its pairs
  pub learned_one : (pairs : List (Edge × Sample)) → ((edge : Edge) → Contains new edge → Contains was edge ⊎ ((sample : Sample) × Contains pairs (edge, sample)))
      → (other : ℕ) (later : List Edge) → Knows more other later → IsLearned making thread pairs other later
  learned_one pairs each other later at =
      let there = subst (λ xs. slice_get xs other ≡ Some later) one at in
      elim (cases_eq thread other) [
        | inl same ↦
            let is : new ≡ later = same_some new later (sym (get_set_same making.acquires.items thread new within) ∙ subst (λ k. slice_get (set making.acquires.items thread new) k ≡ Some later) (sym same) there) in
            record {
              known = was;
              before = subst (λ k. Knows making k was) same its_own;
              each = λ edge in_later.
                  elim (each edge (subst (λ edges. Contains edges edge) (sym is) in_later)) [
                    | inl before ↦ inl before
                    | inr now ↦ inr (same, now.0, now.1)
                  ];
            }
        | inr apart ↦ record { known = later; before = sym (get_set_other making.acquires.items thread other new apart) ∙ there; each = λ edge in_later. inl in_later }
      ]

  -- they are forgotten
  pub forgotten_one : new ≡ [] → HasForgotten thread making more
  forgotten_one none other later at =
      let there = subst (λ xs. slice_get xs other ≡ Some later) one at in
      elim (cases_eq thread other) [
        | inl same ↦
            let is : new ≡ later = same_some new later (sym (get_set_same making.acquires.items thread new within) ∙ subst (λ k. slice_get (set making.acquires.items thread new) k ≡ Some later) (sym same) there) in
            (was, subst (λ k. Knows making k was) same its_own, λ edge in_later. absurd (contains_none edge (subst (λ edges. Contains edges edge) (sym is ∙ none) in_later)))
        | inr apart ↦ (later, sym (get_set_other making.acquires.items thread other new apart) ∙ there, λ edge in_later. (apart, in_later))
      ]

  -- its edges were put behind those made, or are known
  pub added_one : (pairs : List (Edge × Sample)) → more.spares ≡ making.spares → making.spares ≡ true → AreAddedUnlessKnown was pairs making.made.items more.made.items → AreLearned was pairs new
      → HasAdded thread pairs making more
  added_one pairs spares sparing added learned = record {
    spares = spares;
    added =
        elim added [
          | inl is ↦ inl is
          | inr is ↦ inr (is.0, record { spares = sparing; known = was; its = its_own; all = is.1 })
        ];
    learned = learned_one pairs learned;
  }

  -- none were, and its acquires are forgotten
  pub none_one : more.spares ≡ making.spares → more.made.items ≡ making.made.items → new ≡ [] → HasAdded thread [] making more
  none_one spares made none = record {
    spares = spares;
    added = inl (made ∙ sym (append-nil making.made.items));
    learned = learned_one [] (λ edge at. absurd (contains_none edge (subst (λ edges. Contains edges edge) none at)));
  }

-- two facts of a failure
pub both_err : {T E P Q R : Type 0} (r : Result T E) → (P → Q → R) → OnErr r P → OnErr r Q → OnErr r R
both_err (Ok x) f p q = tt
both_err (Err e) f p q = f p q

-- ---- before the first note

-- one thread more of which nothing is known
pub unknown_more : (xs : List (List Edge)) → ((at : ℕ) (known : List Edge) → slice_get xs at ≡ Some known → known ≡ []) → (x : List Edge) → x ≡ []
    → (at : ℕ) (known : List Edge) → slice_get (xs ++ x ∷ []) at ≡ Some known → known ≡ []
unknown_more [] none x is zero known at = sym (same_some x known at) ∙ is
unknown_more [] none x is (suc n) known at = absurd (let e : None ≡ Some known = at in cc)
unknown_more (y ∷ ys) none x is zero known at = none 0 known at
unknown_more (y ∷ ys) none x is (suc n) known at = unknown_more ys (λ k. none (suc k)) x is n known at

pub nothing_known : (stream : List Note) (making : Making) → NothingIsKnown making → NotesMade stream making
nothing_known stream making none thread known its edge at = absurd (contains_none edge (subst (λ edges. Contains edges edge) (none thread known its) at))

pub made_of_none : (making : Making) (notes : List Note) → made_by notes ≡ [] → making.made.items ≡ [] → NothingIsKnown making → IsMadeOf notes making
made_of_none making notes empty none unknown = record {
  due = subst (λ pairs. AreDue making.spares pairs making.made.items) (none ∙ sym empty) (all_due making.spares making.made.items);
  notes = nothing_known notes making unknown;
}
