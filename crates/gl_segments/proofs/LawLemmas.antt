-- Why the laws of the order of segments hold.
use Rattle.std.proofs.Common.{◌≡◌, ℕ, zero, suc, ◌+◌, ◌-◌, ◌<◌, Bool, true, false, List, [], ◌∷◌, ◌++◌, take, Some, refl, sym, ap, subst, ◌∙◌, inl, inr, arith}
use Rattle.std.specs.Prelude.{◌↔◌, IsTrue, slice_get}
use Rattle.std.proofs.lemmas.Bool.{cases_lt}
use Rattle.std.proofs.lemmas.List.{take-take}
use Rattle.std.proofs.lemmas.Option.{same_Some, slice_get_within}
use Rattle.gl_event.specs.Events.{segment}
use Rattle.gl_event.specs.declared.events.Event.{Event}
use Rattle.gl_event.specs.declared.events.Event.TheVariants.{Join}
use Rattle.gl_event.specs.declared.events.Segment.{Segment}
use Rattle.gl_segments.specs.Segments.{IsSegment, StandsIn, IsJoin, IsStep, Leads, Before}
use Rattle.gl_segments.specs.Laws.{BeforeIsTransitive, BeforeIsBetweenSegments, EarlierIsBefore, TestsAgree, AreFronts, FrontsAreConsistent}
use Rattle.gl_segments.proofs.Chains.{leads_append}
use Rattle.gl_segments.proofs.Stepping.{step_from, step_to}
use Rattle.gl_segments.proofs.Cutting.{segment_take, some_at}

pub before_trans : BeforeIsTransitive
before_trans lists a b c p q = (p.0 ++ b ∷ q.0, leads_append (IsStep lists) a p.0 b q.0 c p.1 q.1)

-- a chain leads between segments of the lists
chain_segments : (lists : List (List Event)) (a : Segment) (via : List Segment) (b : Segment) → Leads (IsStep lists) a via b → IsSegment lists a × IsSegment lists b
chain_segments lists a [] b h = (step_from lists a b h, step_to lists a b h)
chain_segments lists a (c ∷ via) b h = (step_from lists a c h.0, (chain_segments lists c via b h.1).1)

pub between_segments : BeforeIsBetweenSegments
between_segments lists a b p = chain_segments lists a p.0 b p.1

-- n + 1 segments on in one thread
earlier_by : (lists : List (List Event)) (n : ℕ) (a b : Segment) → IsSegment lists b → a.thread ≡ b.thread → b.index ≡ a.index + suc n → Before lists a b
earlier_by lists zero a b real same later = ([], inl (record { real = real; same_thread = sym same; one_later = omega arith }))
earlier_by lists (suc n) a b real same later =
    let between : Segment = record { thread = b.thread; index = b.index - 1 } in
    let there : IsSegment lists between = record { list = real.list; of_thread = real.of_thread; within = let w = real.within in omega arith } in
    let first = earlier_by lists n a between there same (omega arith) in
    before_trans lists a between b first ([], inl (record { real = real; same_thread = refl; one_later = omega arith }))

pub earlier : EarlierIsBefore
earlier lists a b real same below = earlier_by lists (b.index - a.index - 1) a b real same (omega arith)

-- two tests of one fact agree
agree_at : (p q : Bool) (P : Type 0) → (IsTrue p ↔ P) → (IsTrue q ↔ P) → p ≡ q
agree_at true true P h k = refl
agree_at true false P h k = sym (k.1 (h.0 refl))
agree_at false true P h k = h.1 (k.0 refl)
agree_at false false P h k = refl

pub agree : TestsAgree
agree lists p q h k a b = agree_at (p a b) (q a b) (Before lists a b) (h a b) (k a b)

-- an event of a front stands at the same place of the whole list
get_front : (n : ℕ) (es : List Event) (p : ℕ) (e : Event) → slice_get (take n es) p ≡ Some e → (p < n) × (slice_get es p ≡ Some e)
get_front zero es p e h = cc
get_front (suc n) [] p e h = cc
get_front (suc n) (x ∷ xs) zero e h = (omega arith, h)
get_front (suc n) (x ∷ xs) (suc p) e h = let r = get_front n xs p e h in (omega arith, r.1)

-- the whole list of a front
record IsFrontOf (lists : List (List Event)) (thread : ℕ) (front : List Event) : Type 0 where
  whole : List Event
  -- it is the thread's
  of_thread : slice_get lists thread ≡ Some whole
  size : ℕ
  -- the front is its beginning
  is : front ≡ take size whole

module _ (lists fronts : List (List Event)) (are : AreFronts fronts lists) where
  -- the whole list of a front
  whole_of : (thread : ℕ) (front : List Event) → slice_get fronts thread ≡ Some front → IsFrontOf lists thread front
  whole_of thread front at =
      let within = slice_get_within fronts thread front at in
      let es = some_at lists thread (let t = are.threads in omega arith) in
      let n = are.each thread es.0 es.1 in
      record { whole = es.0; of_thread = es.1; size = n.0; is = same_Some front (take n.0 es.0) (sym at ∙ n.1) }

  -- a segment of the fronts is one of the lists
  segment_whole : (s : Segment) → IsSegment fronts s → IsSegment lists s
  segment_whole s h =
      let w = whole_of s.thread h.list h.of_thread in
      let most = segment_take w.whole w.size in
      let same = ap segment w.is in
      record { list = w.whole; of_thread = w.of_thread; within = let i = h.within in omega arith }

  -- an event stands in the same segment of the whole list
  stands_whole : (s : Segment) (e : Event) → StandsIn fronts s e → StandsIn lists s e
  stands_whole s e h =
      let w = whole_of s.thread h.list h.of_thread in
      let r = get_front w.size w.whole h.place e (ap (λ es. slice_get es h.place) (sym w.is) ∙ h.there) in
      let same : take h.place h.list ≡ take h.place w.whole = ap (take h.place) w.is ∙ take-take h.place w.size w.whole (omega (arith, r.0)) in
      record { list = w.whole; of_thread = w.of_thread; place = h.place; there = r.1; in_segment = h.in_segment ∙ ap segment same }

  -- a join that waits for all of a thread comes after what of it was in the front
  join_whole : (a b : Segment) → IsJoin fronts a b → Before lists a b
  join_whole a b h =
      let w = whole_of a.thread h.real.list h.real.of_thread in
      let last : Segment = record { thread = a.thread; index = segment w.whole } in
      let real : IsSegment lists last = record { list = w.whole; of_thread = w.of_thread; within = omega arith } in
      let joins = stands_whole (record { thread = b.thread; index = h.joining }) (Join a.thread h.loc) h.joins in
      let step : IsStep lists last b = inr (inr (record { loc = h.loc; joining = h.joining; joins = joins; one_later = h.one_later; real = real; last = refl })) in
      let most = segment_take w.whole w.size in
      let same = ap segment w.is in
      elim (cases_lt a.index (segment w.whole)) [
        | inl earlier_one ↦ before_trans lists a last b (earlier lists a last real refl earlier_one) ([], step)
        | inr at_end ↦
            let is : segment w.whole ≡ a.index = let l = h.last in omega arith in
            ([], subst (λ i. IsStep lists (record { thread = a.thread; index = i }) b) is step)
      ]

  -- a step of the fronts is a chain of the lists
  step_whole : (a b : Segment) → IsStep fronts a b → Before lists a b
  step_whole a b (inl h) = ([], inl (record { real = segment_whole b h.real; same_thread = h.same_thread; one_later = h.one_later }))
  step_whole a b (inr (inl h)) = ([], inr (inl (record { loc = h.loc; forks = stands_whole a _ h.forks; real = segment_whole b h.real; first = h.first })))
  step_whole a b (inr (inr h)) = join_whole a b h

  -- a chain of the fronts is one of the lists
  chain_whole : (a : Segment) (via : List Segment) (b : Segment) → Leads (IsStep fronts) a via b → Before lists a b
  chain_whole a [] b h = step_whole a b h
  chain_whole a (c ∷ via) b h = before_trans lists a c b (step_whole a c h.0) (chain_whole c via b h.1)

pub fronts_consistent : FrontsAreConsistent
fronts_consistent lists fronts are consistent = record { each = λ s p. consistent.each s (chain_whole lists fronts are s p.0 s p.1) }
