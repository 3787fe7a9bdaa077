-- The steps of the threads are exactly the steps of the lists.
use Rattle.std.proofs.Common.{◌≡◌, ℕ, zero, suc, ◌+◌, ◌<◌, true, List, [], ◌∷◌, length, Option, Some, None, refl, sym, ap, subst, ◌∙◌, ◌⊎◌, inl, inr, arith}
use Rattle.std.specs.Prelude.{Contains, filter, slice_get, slice_index_or}
use Rattle.std.specs.Option.{option_map, option_map_or}
use Rattle.std.proofs.lemmas.Bool.{cases_lt}
use Rattle.std.proofs.lemmas.List.{length-map, get_or_past}
use Rattle.std.proofs.lemmas.Option.{slice_get_within, same_Some, slice_get-map}
use Rattle.gl_event.specs.Bounds.{greatest}
use Rattle.gl_event.specs.Events.{closes, segment}
use Rattle.gl_event.specs.Lawful.{AreLawful}
use Rattle.gl_event.specs.declared.events.Event.{Event}
use Rattle.gl_event.specs.declared.events.Event.TheVariants.{Acquire, Release, TryAcquire, Fork, Join}
use Rattle.gl_event.specs.declared.events.Segment.{Segment}
use Rattle.gl_segments.specs.Segments.{IsSegment, StandsIn, IsNext, IsFork, IsJoin, IsStep}
use Rattle.gl_segments.specs.bodies.Tables.{Sources, steps_of_thread, sources, Has, LeadsTo, IsSound, ShowsSteps, cuts_of, AreSmall, joined_last, AreStepsOfThread}
use Rattle.gl_segments.proofs.Cutting.{place_to_cut, cut_to_place, segment_is_length, segment_at_most, segment_take, lawful_length, some_at}
use Rattle.gl_segments.proofs.Tabling.{cut_at_is, cut_within}

-- the forks and joins of a thread that has a list
cuts_at : (lists : List (List Event)) (t : ℕ) (es : List Event) → slice_get lists t ≡ Some es → slice_get (cuts_of lists) t ≡ Some (filter closes es)
cuts_at lists t es at = slice_get-map (filter closes) lists t ∙ ap (option_map (filter closes)) at

-- what an option was before it was mapped
mapped : {X Y : Type 0} (f : X → Y) (o : Option X) (y : Y) → option_map f o ≡ Some y → (x : X) × (o ≡ Some x) × (f x ≡ y)
mapped f (Some x) y h = (x, refl, same_Some (f x) y h)
mapped f None y h = cc

-- the list of a thread that has forks and joins
cuts_from : (lists : List (List Event)) (t : ℕ) (cs : List Event) → slice_get (cuts_of lists) t ≡ Some cs → (es : List Event) × (slice_get lists t ≡ Some es) × (filter closes es ≡ cs)
cuts_from lists t cs at = mapped (filter closes) (slice_get lists t) cs (sym (slice_get-map (filter closes) lists t) ∙ at)

-- the forks and joins of lawful lists can be counted
pub cuts_small : (lists : List (List Event)) → AreLawful greatest lists → AreSmall (cuts_of lists)
cuts_small lists lawful = record {
  few = omega (arith, length-map lists (filter closes), lawful.few);
  small = λ t cs at.
      let r = cuts_from lists t cs at in
      let long = lawful_length t r.0 (lawful.each t r.0 r.1) in
      let most = segment_at_most r.0 in
      let is = segment_is_length r.0 in
      let same = ap length r.2 in
      omega arith;
}

-- an event that stands in a segment is the segment's fork or join
stands_cut : (lists : List (List Event)) (s : Segment) (e : Event) → closes e ≡ true → (h : StandsIn lists s e) → slice_get (filter closes h.list) s.index ≡ Some e
stands_cut lists s e closing h = rw h.in_segment (place_to_cut h.list h.place e h.there closing)

-- a segment's fork or join stands in it
cut_stands : (lists : List (List Event)) (s : Segment) (e : Event) (es : List Event) → slice_get lists s.thread ≡ Some es → slice_get (filter closes es) s.index ≡ Some e → StandsIn lists s e
cut_stands lists s e es at cut =
    let p = cut_to_place es s.index e cut in
    record { list = es; of_thread = at; place = p.place; there = p.there; in_segment = sym p.in_segment }

-- an event's segment is one of the lists
stands_inside : (lists : List (List Event)) (s : Segment) (e : Event) → StandsIn lists s e → IsSegment lists s
stands_inside lists s e h = record { list = h.list; of_thread = h.of_thread; within = let i = h.in_segment in let m = segment_take h.list h.place in omega arith }

-- the first element
contains_head : {X : Type 0} (xs ys : List X) (x y : X) → xs ≡ x ∷ ys → x ≡ y → Contains xs y
contains_head xs ys x y is same = rw is (0, omega arith, same)

-- the second element
contains_second : {X : Type 0} (xs : List X) (w x y : X) → xs ≡ w ∷ x ∷ [] → x ≡ y → Contains xs y
contains_second xs w x y is same = rw is (1, omega arith, same)

-- an element is the first or a later one
contains_cons : {X : Type 0} (x y : X) (xs : List X) → Contains (x ∷ xs) y → (x ≡ y) ⊎ Contains xs y
contains_cons x y xs (zero, within, is) = inl is
contains_cons x y xs (suc k, within, is) = inr (k, omega arith, is)

-- an empty list contains nothing
contains_nil : {X : Type 0} (y : X) → Contains [] y → ⊥
contains_nil y (k, within, is) = absurd (omega arith)

-- a segment from which a step leads is one of the lists
pub step_from : (lists : List (List Event)) (a b : Segment) → IsStep lists a b → IsSegment lists a
step_from lists a b (inl h) = record { list = h.real.list; of_thread = ap (slice_get lists) (sym h.same_thread) ∙ h.real.of_thread; within = let w = h.real.within in let o = h.one_later in omega arith }
step_from lists a b (inr (inl h)) = stands_inside lists a _ h.forks
step_from lists a b (inr (inr h)) = h.real

-- a segment to which a step leads is one of the lists
pub step_to : (lists : List (List Event)) (a b : Segment) → IsStep lists a b → IsSegment lists b
step_to lists a b (inl h) = h.real
step_to lists a b (inr (inl h)) = h.real
step_to lists a b (inr (inr h)) =
    let cut = stands_cut lists (record { thread = b.thread; index = h.joining }) (Join a.thread h.loc) refl h.joins in
    let within = slice_get_within (filter closes h.joins.list) h.joining (Join a.thread h.loc) cut in
    record { list = h.joins.list; of_thread = h.joins.of_thread; within = let n = segment_is_length h.joins.list in let i = h.one_later in omega arith }

-- the last segment of a joined thread
record IsJoined (lists : List (List Event)) (e : Event) (a : Segment) : Type 0 where
  loc : ℕ
  -- the event is a join of its thread
  is : e ≡ Join a.thread loc
  real : IsSegment lists a
  -- it is its thread's last
  last : a.index ≡ segment real.list

-- what a join waits for is the last segment of a thread of the lists
joined_join : (lists : List (List Event)) (thread loc : ℕ) (a : Segment) (o : Option (List Event)) → slice_get (cuts_of lists) thread ≡ o
    → Contains (option_map_or (λ (es : List Event). let s : Segment = record { thread = thread; index = length es } in s ∷ []) o []) a → IsJoined lists (Join thread loc) a
joined_join lists thread loc a None at h = absurd (contains_nil a h)
joined_join lists thread loc a (Some cs) at h =
    elim (contains_cons (record { thread = thread; index = length cs }) a [] h) [
      | inl same ↦
          let t : thread ≡ a.thread = ap (λ s. s.thread) same in
          let i : length cs ≡ a.index = ap (λ s. s.index) same in
          let l = cuts_from lists thread cs at in
          let n = segment_is_length l.0 in
          let long : length (filter closes l.0) ≡ length cs = ap length l.2 in
          record { loc = loc; is = ap (λ u. Join u loc) t; real = record { list = l.0; of_thread = ap (slice_get lists) (sym t) ∙ l.1; within = omega arith }; last = omega arith }
      | inr none ↦ absurd (contains_nil a none)
    ]

-- the same, whichever the event
joined_cases : (lists : List (List Event)) (e : Event) (a : Segment) → Contains (joined_last (cuts_of lists) e) a → IsJoined lists e a
joined_cases lists (Acquire mode lock loc) a h = absurd (contains_nil a h)
joined_cases lists (Release mode lock loc) a h = absurd (contains_nil a h)
joined_cases lists (TryAcquire mode lock loc) a h = absurd (contains_nil a h)
joined_cases lists (Fork thread loc) a h = absurd (contains_nil a h)
joined_cases lists (Join thread loc) a h = joined_join lists thread loc a (slice_get (cuts_of lists) thread) refl h

module _ (lists : List (List Event)) (steps : Sources) (long : length steps ≡ length lists)
    (each : (t : ℕ) (cs : List Event) → slice_get (cuts_of lists) t ≡ Some cs → AreStepsOfThread (cuts_of lists) t cs (steps_of_thread steps t)) where
  -- a thread has as many segments as its list
  segment_count : (t : ℕ) (es : List Event) → slice_get lists t ≡ Some es → length (steps_of_thread steps t) ≡ segment es + 1
  segment_count t es at = (each t _ (cuts_at lists t es at)).size ∙ ap (λ n. n + 1) (sym (segment_is_length es))

  -- the table has the steps to next segments
  next_shown : (a b : Segment) → IsNext lists a b → LeadsTo steps a b
  next_shown a b h =
      let es = h.real.list in
      let cs = filter closes es in
      let within : a.index < length cs = let w = h.real.within in let i = h.one_later in let n = segment_is_length es in omega arith in
      let cut = some_at cs a.index within in
      let r = (each b.thread cs (cuts_at lists b.thread es h.real.of_thread)).later a.index cut.0 cut.1 in
      let here : sources steps b ≡ record { thread = b.thread; index = a.index } ∷ joined_last (cuts_of lists) cut.0 = ap (λ i. slice_index_or (steps_of_thread steps b.thread) i []) h.one_later ∙ r in
      contains_head _ _ (record { thread = b.thread; index = a.index }) a here (ap (λ t. let s : Segment = record { thread = t; index = a.index } in s) h.same_thread)

  -- the table has the steps of forks
  fork_shown : (a b : Segment) → IsFork lists a b → LeadsTo steps a b
  fork_shown a b h =
      let cut = stands_cut lists a (Fork b.thread h.loc) refl h.forks in
      let at = cut_at_is (cuts_of lists) (filter closes h.forks.list) a (cuts_at lists a.thread h.forks.list h.forks.of_thread) in
      let r = (each b.thread _ (cuts_at lists b.thread h.real.list h.real.of_thread)).first a in
      subst (λ i. Contains (slice_index_or (steps_of_thread steps b.thread) i []) a) (sym h.first) (r.1 (h.loc, at ∙ cut))

  -- the table has the steps of joins
  join_shown : (a b : Segment) → IsJoin lists a b → LeadsTo steps a b
  join_shown a b h =
      let joining : Segment = record { thread = b.thread; index = h.joining } in
      let cut = stands_cut lists joining (Join a.thread h.loc) refl h.joins in
      let r = (each b.thread _ (cuts_at lists b.thread h.joins.list h.joins.of_thread)).later h.joining _ cut in
      let last : Segment = record { thread = a.thread; index = length (filter closes h.real.list) } in
      let joined : joined_last (cuts_of lists) (Join a.thread h.loc) ≡ last ∷ [] = ap (λ o. option_map_or (λ (es : List Event). let s : Segment = record { thread = a.thread; index = length es } in s ∷ []) o []) (cuts_at lists a.thread h.real.list h.real.of_thread) in
      let here : sources steps b ≡ joining ∷ last ∷ [] = ap (λ i. slice_index_or (steps_of_thread steps b.thread) i []) h.one_later ∙ r ∙ ap (λ xs. joining ∷ xs) joined in
      contains_second _ joining last a here (ap (λ i. let s : Segment = record { thread = a.thread; index = i } in s) (sym (segment_is_length h.real.list) ∙ sym h.last))

  -- the table has all steps
  shown : (a b : Segment) → IsStep lists a b → LeadsTo steps a b
  shown a b (inl h) = next_shown a b h
  shown a b (inr (inl h)) = fork_shown a b h
  shown a b (inr (inr h)) = join_shown a b h

  -- a segment that the table has is a segment of the lists
  has_list : (s : Segment) → Has steps s → IsSegment lists s
  has_list s has =
      let within : s.thread < length lists =
      elim (cases_lt s.thread (length steps)) [
        | inl below ↦ omega arith
        | inr past ↦ let none : steps_of_thread steps s.thread ≡ [] = get_or_past steps s.thread [] past in absurd (omega (arith, ap length none))
      ] in
      let es = some_at lists s.thread within in
      let size = segment_count s.thread es.0 es.1 in
      record { list = es.0; of_thread = es.1; within = omega arith }

  -- a segment of the lists has its place in the table
  list_has : (s : Segment) → IsSegment lists s → Has steps s
  list_has s h = let size = segment_count s.thread h.list h.of_thread in let w = h.within in omega arith

  -- a segment to which a step leads has its place in the table
  source_has : (a b : Segment) → LeadsTo steps a b → Has steps b
  source_has a b h =
      elim (cases_lt b.index (length (steps_of_thread steps b.thread))) [
        | inl below ↦ below
        | inr past ↦ let none : sources steps b ≡ [] = get_or_past (steps_of_thread steps b.thread) b.index [] past in absurd (contains_nil a (subst (λ xs. Contains xs a) none h))
      ]

  -- the segment after a fork or join has only the steps of the lists
  later_back : (a : Segment) (t i : ℕ) → IsSegment lists (record { thread = t; index = suc i }) → LeadsTo steps a (record { thread = t; index = suc i }) → IsStep lists a (record { thread = t; index = suc i })
  later_back a t i real h =
      let cs = filter closes real.list in
      let within : i < length cs = let w = real.within in let n = segment_is_length real.list in omega arith in
      let cut = some_at cs i within in
      let r = (each t cs (cuts_at lists t real.list real.of_thread)).later i cut.0 cut.1 in
      let one : suc i ≡ i + 1 = omega arith in
      let among : Contains (record { thread = t; index = i } ∷ joined_last (cuts_of lists) cut.0) a = subst (λ xs. Contains xs a) (ap (λ k. slice_index_or (steps_of_thread steps t) k []) one ∙ r) h in
      elim (contains_cons _ a _ among) [
        | inl same ↦
            let index : i ≡ a.index = ap (λ s. s.index) same in
            inl (record { real = real; same_thread = ap (λ s. s.thread) same; one_later = omega arith })
        | inr joined ↦
            let j = joined_cases lists cut.0 a joined in
            let closes_it : StandsIn lists (record { thread = t; index = i }) (Join a.thread j.loc) = cut_stands lists (record { thread = t; index = i }) (Join a.thread j.loc) real.list real.of_thread (cut.1 ∙ ap Some j.is) in
            inr (inr (record { loc = j.loc; joining = i; joins = closes_it; one_later = one; real = j.real; last = j.last }))
      ]

  -- a first segment has only the steps of forks
  first_back : (a : Segment) (t : ℕ) → IsSegment lists (record { thread = t; index = zero }) → LeadsTo steps a (record { thread = t; index = zero }) → IsStep lists a (record { thread = t; index = zero })
  first_back a t real h =
      let f = ((each t _ (cuts_at lists t real.list real.of_thread)).first a).0 h in
      let c = cut_within (slice_get (cuts_of lists) a.thread) a.index _ f.1 in
      let l = cuts_from lists a.thread c.0 c.1 in
      let cut : slice_get (filter closes l.0) a.index ≡ Some (Fork t f.0) = ap (λ xs. slice_get xs a.index) l.2 ∙ sym (cut_at_is (cuts_of lists) c.0 a c.1) ∙ f.1 in
      inr (inl (record { loc = f.0; forks = cut_stands lists a (Fork t f.0) l.0 l.1 cut; real = real; first = refl }))

  -- the table has only the steps of the lists
  back_at : (a : Segment) (t i : ℕ) → LeadsTo steps a (record { thread = t; index = i }) → IsStep lists a (record { thread = t; index = i })
  back_at a t zero h = first_back a t (has_list _ (source_has a (record { thread = t; index = zero }) h)) h
  back_at a t (suc i) h = later_back a t i (has_list _ (source_has a (record { thread = t; index = suc i }) h)) h

  -- it has exactly the steps of the lists
  pub shows_steps : ShowsSteps lists steps
  shows_steps = record { threads = long; segments = segment_count; forward = shown; back = λ a b h. back_at a b.thread b.index h }

  -- its steps lead from its segments
  pub shows_inside : (a b : Segment) → LeadsTo steps a b → Has steps a
  shows_inside a b h = list_has a (step_from lists a b (back_at a b.thread b.index h))

  -- it is sound where the lists are lawful
  pub steps_sound : AreLawful greatest lists → IsSound steps
  steps_sound lawful = record {
    few = let f = lawful.few in omega arith;
    small = λ t.
        elim (cases_lt t (length lists)) [
          | inl below ↦
              let es = some_at lists t below in
              let size = segment_count t es.0 es.1 in
              let most = segment_at_most es.0 in
              let short = lawful_length t es.0 (lawful.each t es.0 es.1) in
              omega arith
          | inr past ↦ let none : steps_of_thread steps t ≡ [] = get_or_past steps t [] (omega arith) in let zero_long = ap length none in omega arith
        ];
    some = λ t below.
        let es = some_at lists t (omega arith) in
        let size = segment_count t es.0 es.1 in
        omega arith;
    inside = shows_inside;
    next = λ a b has thread index. shown a b (inl (record { real = has_list b has; same_thread = thread; one_later = index }));
  }
