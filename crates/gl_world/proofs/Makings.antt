-- The edges made so far are those of the lists of what was collected.
use Rattle.std.proofs.Common.{◌≡◌, ◌≢◌, ℕ, zero, suc, ◌+◌, ◌<◌, List, [], ◌∷◌, ◌++◌, length, map, take, Some, refl, sym, ap, ◌∙◌, subst, arith, inl, inr}
use Rattle.std.specs.Prelude.{slice_get, Contains}
use Rattle.std.specs.List.{range_with_len, enumerate_from}
use Rattle.std.proofs.lemmas.Bool.{cases_eq}
use Rattle.std.proofs.lemmas.List.{append-nil}
use Rattle.std.proofs.lemmas.List.Elements.{Contains-append_left, Contains-append_right, Contains-append_cases}
use Rattle.gl_event.specs.declared.notes.Note.{Note}
use Rattle.gl_event.specs.declared.notes.Body.{Body}
use Rattle.gl_event.specs.declared.notes.Body.TheVariants.{Happened, Ended}
use Rattle.gl_event.specs.Bounds.{Bounds}
use Rattle.gl_edges.specs.Edges.{edges_at, edges_after, edges_made, edges_of_list}
use Rattle.gl_edges.specs.declared.edge.Edge.{Edge}
use Rattle.gl_edges.specs.declared.edge.Sample.{Sample}
use Rattle.gl_edges.proofs.Fronts.{edges_of_more}
use Rattle.gl_edges.proofs.Made.{contains_enumerate, contains_enumerate_from}
use Rattle.gl_edges.proofs.Membership.{contains_flat_map, contains_flat_map_from, contains_none}
use Rattle.gl_edges.proofs.Steps.{newest}
use Rattle.gl_intake.specs.Stream.{events_of, logs_of}
use Rattle.gl_intake.proofs.Streams.{events_more, events_ended, events_other}
use Rattle.gl_world.specs.Machine.{Lane, edges_due, taken_of}
use Rattle.gl_world.specs.Keeping.{AreMade, IsFrontOf}
use Rattle.gl_world.proofs.Lists.{same_some}
use Rattle.gl_world.proofs.ThreadParts.{due_are}

-- ---- the edges of the lists of what was collected

-- what stands at a place of a list by numbers
pub number_at : {X : Type 0} (f : ℕ → X) (a n i : ℕ) (x : X) → slice_get (map f (range_with_len a n)) i ≡ Some x → (i < n) × (f (a + i) ≡ x)
number_at f a zero i x at = absurd (cc)
number_at f a (suc n) zero x at = let here : a + 0 ≡ a = omega arith in (omega arith, ap f here ∙ same_some (f a) x at)
number_at f a (suc n) (suc i) x at =
    let (within, is) = number_at f (a + 1) n i x at in
    let here : a + suc i ≡ (a + 1) + i = omega arith in
    (omega arith, ap f here ∙ is)

there_at : {X : Type 0} (f : ℕ → X) (a n i : ℕ) → i < n → slice_get (map f (range_with_len a n)) i ≡ Some (f (a + i))
there_at f a zero i within = absurd (omega arith)
there_at f a (suc n) zero within = let here : a ≡ a + 0 = omega arith in ap (λ k. Some (f k)) here
there_at f a (suc n) (suc i) within = let here : (a + 1) + i ≡ a + suc i = omega arith in there_at f (a + 1) n i (omega arith) ∙ ap (λ k. Some (f k)) here

-- the edges of all logs are those of each thread's log
pub of_thread : (threads : ℕ) (stream : List Note) (pair : Edge × Sample) → Contains (edges_made (logs_of threads stream)) pair
    → (t : ℕ) × (t < threads) × Contains (edges_of_list t (events_of t stream)) pair
of_thread threads stream pair at =
    let (numbered, there, here) = contains_flat_map_from (λ numbered. edges_of_list numbered.0 numbered.1) pair (enumerate_from 0 (logs_of threads stream)) at in
    let (i, number, list) = contains_enumerate_from 0 (logs_of threads stream) numbered there in
    let (within, is) = number_at (λ t. events_of t stream) 0 threads i numbered.1 list in
    let same : i ≡ numbered.0 = omega arith in
    let list_is : numbered.1 ≡ events_of numbered.0 stream = sym is ∙ ap (λ t. events_of t stream) number in
    (numbered.0, omega arith, subst (λ es. Contains (edges_of_list numbered.0 es) pair) list_is here)

pub in_thread : (threads : ℕ) (stream : List Note) (pair : Edge × Sample) (t : ℕ) → t < threads → Contains (edges_of_list t (events_of t stream)) pair → Contains (edges_made (logs_of threads stream)) pair
in_thread threads stream pair t within here =
    let number : 0 + t ≡ t = omega arith in
    let there = contains_enumerate 0 (logs_of threads stream) t (events_of t stream) (there_at (λ t. events_of t stream) 0 threads t within ∙ ap (λ k. Some (events_of k stream)) number) in
    contains_flat_map (λ numbered. edges_of_list numbered.0 numbered.1) (t, events_of t stream) pair (enumerate_from 0 (logs_of threads stream))
    (subst (λ k. Contains (enumerate_from 0 (logs_of threads stream)) (k, events_of t stream)) number there) here

-- ---- one note more

module _ (threads thread : ℕ) (stream : List Note) (note : Note) (due made : List (Edge × Sample)) (known : thread < threads)
    (others : (t : ℕ) → thread ≢ t → events_of t (stream ++ note ∷ []) ≡ events_of t stream)
    (grows : edges_of_list thread (events_of thread (stream ++ note ∷ [])) ≡ edges_of_list thread (events_of thread stream) ++ due) (are : AreMade threads stream made) where
  more_from : (pair : Edge × Sample) → Contains (made ++ due) pair → Contains (edges_made (logs_of threads (stream ++ note ∷ []))) pair
  more_from pair at =
      elim (Contains-append_cases made due pair at) [
        | inl before ↦
            let (t, within, here) = of_thread threads stream pair (are.from pair before) in
            in_thread threads (stream ++ note ∷ []) pair t within (still t here)
        | inr new ↦
            in_thread threads (stream ++ note ∷ []) pair thread known
            (subst (λ es. Contains es pair) (sym grows) (Contains-append_right (edges_of_list thread (events_of thread stream)) due pair new))
      ]
    where
      still : (t : ℕ) → Contains (edges_of_list t (events_of t stream)) pair → Contains (edges_of_list t (events_of t (stream ++ note ∷ []))) pair
      still t here =
          elim (cases_eq thread t) [
            | inl same ↦
                subst (λ k. Contains (edges_of_list k (events_of k (stream ++ note ∷ []))) pair) same
                (subst (λ es. Contains es pair) (sym grows)
                (Contains-append_left (edges_of_list thread (events_of thread stream)) due pair (subst (λ k. Contains (edges_of_list k (events_of k stream)) pair) (sym same) here)))
            | inr other ↦ subst (λ es. Contains (edges_of_list t es) pair) (sym (others t other)) here
          ]

  more_all : (pair : Edge × Sample) → Contains (edges_made (logs_of threads (stream ++ note ∷ []))) pair → Contains (made ++ due) pair
  more_all pair at =
      let (t, within, here) = of_thread threads (stream ++ note ∷ []) pair at in
      elim (cases_eq thread t) [
        | inl same ↦
            let own : Contains (edges_of_list thread (events_of thread (stream ++ note ∷ []))) pair = subst (λ k. Contains (edges_of_list k (events_of k (stream ++ note ∷ []))) pair) (sym same) here in
            elim (Contains-append_cases (edges_of_list thread (events_of thread stream)) due pair (subst (λ es. Contains es pair) grows own)) [
              | inl before ↦ Contains-append_left made due pair (are.all pair (in_thread threads stream pair thread known before))
              | inr new ↦ Contains-append_right made due pair new
            ]
        | inr other ↦
            Contains-append_left made due pair (are.all pair (in_thread threads stream pair t within (subst (λ es. Contains (edges_of_list t es) pair) (others t other) here)))
      ]

  pub made_more : AreMade threads (stream ++ note ∷ []) (made ++ due)
  made_more = record { from = more_from; all = more_all }

-- the next note of a lane is pulled
pub made_pulled : (limits : Bounds) (thread threads : ℕ) (stream : List Note) (lane : Lane) (note : Note) (made : List (Edge × Sample)) → thread < threads
    → events_of thread (take lane.popped lane.pushed) ≡ events_of thread stream → IsFrontOf limits thread lane note → AreMade threads stream made
    → AreMade threads (stream ++ note ∷ []) (made ++ edges_due thread (taken_of thread lane) note.place note.body)
made_pulled limits thread threads stream lane note made known told front are = by_body note.body refl
  where
    others : (t : ℕ) → thread ≢ t → events_of t (stream ++ note ∷ []) ≡ events_of t stream
    others t other = events_other stream note t (λ same. other (sym front.own ∙ same))

    by_body : (body : Body) → note.body ≡ body → AreMade threads (stream ++ note ∷ []) (made ++ edges_due thread (taken_of thread lane) note.place body)
    by_body (Happened e) is =
        let grown : events_of thread (stream ++ note ∷ []) ≡ events_of thread stream ++ e ∷ [] =
        subst (λ t. events_of t (stream ++ note ∷ []) ≡ events_of t stream ++ e ∷ []) front.own (events_more stream note e is) in
        let due : edges_at thread (events_of thread stream ++ e ∷ []) (length (events_of thread stream)) ≡ edges_at thread (taken_of thread lane) note.place =
        newest thread (events_of thread stream) e ∙ ap (λ es. edges_after thread es e) (sym told) ∙ sym (due_are limits thread lane note front e is) in
        made_more threads thread stream note (edges_at thread (taken_of thread lane) note.place) made known others
        (ap (edges_of_list thread) grown ∙ edges_of_more thread (events_of thread stream) e ∙ ap (λ xs. edges_of_list thread (events_of thread stream) ++ xs) due) are
    by_body (Ended count) is =
        made_more threads thread stream note [] made known others (ap (edges_of_list thread) (events_ended stream note thread count is) ∙ sym (append-nil (edges_of_list thread (events_of thread stream)))) are

-- nothing is made of nothing
pub made_nothing : (threads : ℕ) → AreMade threads [] []
unfolding events_of
made_nothing threads = record {
  from = λ pair at. absurd (contains_none pair at);
  all = λ pair at. (let (t, within, here) = of_thread threads [] pair at in absurd (nothing_of t pair here));
}
  where
    nothing_of : (t : ℕ) (pair : Edge × Sample) → Contains (edges_of_list t (events_of t [])) pair → ⊥
    nothing_of t pair at = contains_none pair at
