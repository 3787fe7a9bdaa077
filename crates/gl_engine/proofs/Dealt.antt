-- Edges made by a stream, and dealt to shards, one after the other.
use Rattle.std.proofs.Common.{◌≡◌, ◌≢◌, ℕ, zero, suc, ◌+◌, ◌<◌, ◌≤◌, eqb, List, [], ◌∷◌, ◌++◌, length, map, set, true, Some, refl, sym, ap, ◌∙◌, arith, append_assoc}
use Rattle.std.specs.Prelude.{slice_get}
use Rattle.std.specs.List.{range_with_len, flat_map}
use Rattle.std.proofs.lemmas.Bool.{eq-eqb, false≢true, ne_eqb}
use Rattle.std.proofs.lemmas.List.{append-nil}
use Rattle.std.proofs.lemmas.List.Elements.{filter-append}
use Rattle.std.proofs.lemmas.List.Folds.{flat_map-map}
use Rattle.std.proofs.lemmas.Simd.{map-map}
use Rattle.gl_event.specs.declared.notes.Note.{Note}
use Rattle.gl_edges.specs.Edges.{once, edges, edges_made}
use Rattle.gl_edges.specs.declared.edge.Edge.{Edge}
use Rattle.gl_edges.specs.declared.edge.Sample.{Sample}
use Rattle.gl_edges.proofs.Least.{same_once}
use Rattle.gl_intake.specs.Stream.{events_of, logs_of}
use Rattle.gl_shards.specs.Feeds.{AllSent}
use Rattle.gl_shards.specs.Shards.{shard_of}
use Rattle.gl_shards.specs.Tables.{all_pairs, union, of_shard}
use Rattle.gl_shards.proofs.Uniting.{union_of_once, shards_whole}
use Rattle.gl_world.specs.Keeping.{AreMade}
use Rattle.gl_world.specs.Machine.{edges_due}
use Rattle.gl_engine.specs.Dealing.{made_after, made_by, dealt}

-- one note more makes its edges beside those made before
after_more : (before notes : List Note) (note : Note)
    → made_after before (notes ++ note ∷ []) ≡ made_after before notes ++ edges_due note.thread (events_of note.thread ((before ++ notes) ++ note ∷ [])) note.place note.body
after_more before [] note =
    let due : List Note → List (Edge × Sample) = λ stream. edges_due note.thread (events_of note.thread (stream ++ note ∷ [])) note.place note.body in
    append-nil (due before) ∙ ap due (sym (append-nil before))
after_more before (n ∷ notes) note =
    let first = edges_due n.thread (events_of n.thread (before ++ n ∷ [])) n.place n.body in
    let due : List Note → List (Edge × Sample) = λ stream. edges_due note.thread (events_of note.thread (stream ++ note ∷ [])) note.place note.body in
    ap (λ es. first ++ es) (after_more (before ++ n ∷ []) notes note ∙ ap (λ stream. made_after (before ++ n ∷ []) notes ++ due stream) (append_assoc before (n ∷ []) notes))
    ∙ sym (append_assoc first (made_after (before ++ n ∷ []) notes) (due (before ++ n ∷ notes)))

pub made_by_more : (stream : List Note) (note : Note) → made_by (stream ++ note ∷ []) ≡ made_by stream ++ edges_due note.thread (events_of note.thread (stream ++ note ∷ [])) note.place note.body
unfolding made_by
made_by_more stream note = after_more [] stream note

pub made_by_none : made_by [] ≡ []
unfolding made_by
made_by_none = refl

pub made_by_empty : (stream : List Note) → true ≡ eqb (length stream) 0 → made_by stream ≡ []
made_by_empty [] none = made_by_none
made_by_empty (note ∷ notes) none =
    let some : length (note ∷ notes) ≢ 0 = λ is. (omega (arith, is)) in
    absurd (false≢true (sym (ne_eqb (length (note ∷ notes)) 0 some) ∙ sym none))

-- ---- dealing

module _ (shards : ℕ) (pairs : List (Edge × Sample)) (pair : Edge × Sample) where
  abbrev its : ℕ
  its = shard_of pair.0 shards

  dealt_here : (shard : ℕ) → its ≡ shard → of_shard shards (pairs ++ pair ∷ []) shard ≡ of_shard shards pairs shard ++ pair ∷ []
  dealt_here shard is = filter-append (λ p. eqb (shard_of p.0 shards) shard) pairs (pair ∷ []) ∙ rw (eq-eqb (shard_of pair.0 shards) shard is)

  dealt_there : (shard : ℕ) → its ≢ shard → of_shard shards (pairs ++ pair ∷ []) shard ≡ of_shard shards pairs shard
  dealt_there shard other = filter-append (λ p. eqb (shard_of p.0 shards) shard) pairs (pair ∷ []) ∙ rw (ne_eqb (shard_of pair.0 shards) shard other, append-nil)

  -- from some shard on, the pair's own is this many later
  dealt_from : (first n k : ℕ) → its ≡ first + k → k < n
      → map (of_shard shards (pairs ++ pair ∷ [])) (range_with_len first n) ≡ set (map (of_shard shards pairs) (range_with_len first n)) k (of_shard shards pairs its ++ pair ∷ [])
  dealt_from first zero k is within = absurd (omega arith)
  dealt_from first (suc n) zero is within =
      let here : its ≡ first = is ∙ omega arith in
      (λ i. (dealt_here first here ∙ ap (λ s. of_shard shards pairs s ++ pair ∷ []) (sym here)) i ∷ dealt_past (first + 1) n (λ k. omega (arith, here)) i)
    where
      dealt_past : (first n : ℕ) → ((k : ℕ) → its ≢ first + k) → map (of_shard shards (pairs ++ pair ∷ [])) (range_with_len first n) ≡ map (of_shard shards pairs) (range_with_len first n)
      dealt_past first zero none = refl
      dealt_past first (suc n) none =
          let other : its ≢ first = λ is. none 0 (is ∙ omega arith) in
          (λ i. dealt_there first other i ∷ dealt_past (first + 1) n (λ k is. none (k + 1) (is ∙ omega arith)) i)
  dealt_from first (suc n) (suc k) is within =
      let other : its ≢ first = λ same. (omega (arith, same, is)) in
      (λ i. dealt_there first other i ∷ dealt_from (first + 1) n k (is ∙ omega arith) (omega arith) i)

  -- one pair more goes to its shard
  pub dealt_more : shard_of pair.0 shards < shards → dealt shards (pairs ++ pair ∷ []) ≡ set (dealt shards pairs) (shard_of pair.0 shards) (of_shard shards pairs (shard_of pair.0 shards) ++ pair ∷ [])
  unfolding dealt
  dealt_more within = dealt_from 0 shards its (let here : its ≡ 0 + its = omega arith in here) within

-- what stands at a place of a list by numbers
pub numbered_at : {X : Type 0} (f : ℕ → X) (a n i : ℕ) → i < n → slice_get (map f (range_with_len a n)) i ≡ Some (f (a + i))
numbered_at f a zero i within = absurd (omega arith)
numbered_at f a (suc n) zero within = ap (λ k. Some (f k)) (let here : a ≡ a + 0 = omega arith in here)
numbered_at f a (suc n) (suc i) within = numbered_at f (a + 1) n i (omega arith) ∙ ap (λ k. Some (f k)) (let here : (a + 1) + i ≡ a + suc i = omega arith in here)

-- what was dealt to one shard
pub dealt_at : (shards : ℕ) (pairs : List (Edge × Sample)) (shard : ℕ) → shard < shards → slice_get (dealt shards pairs) shard ≡ Some (of_shard shards pairs shard)
unfolding dealt
dealt_at shards pairs shard within = numbered_at (of_shard shards pairs) 0 shards shard within ∙ ap (λ k. Some (of_shard shards pairs k)) (let here : 0 + shard ≡ shard = omega arith in here)

-- the tables of all that was dealt are those of the lists, where each edge made is among it with its least sample
pub dealt_edges : (threads : ℕ) (stream : List Note) (sent : List AllSent) (shards : ℕ) (due : List (Edge × Sample)) → 1 ≤ shards → AreMade threads stream (made_by stream) → once due ≡ once (made_by stream)
    → map (λ s. s.sent) sent ≡ dealt shards due → once (flat_map (λ s. s.sent) sent) ≡ edges (logs_of threads stream)
unfolding dealt
dealt_edges threads stream sent shards due some made table are =
    ap once (sym (flat_map-map (λ list. list) (λ (s : AllSent). s.sent) sent) ∙ ap all_pairs are)
    ∙ sym (union_of_once (map (of_shard shards due) (range_with_len 0 shards)))
    ∙ ap union (map-map once (of_shard shards due) (range_with_len 0 shards))
    ∙ shards_whole shards due some
    ∙ table
    ∙ same_once (made_by stream) (edges_made (logs_of threads stream)) made.from made.all
