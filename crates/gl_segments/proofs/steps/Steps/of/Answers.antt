use Rattle.std.proofs.Common.{◌≡◌, ℕ, ◌+◌, ◌<◌, length, List, Some, sym, ap, subst, ◌∙◌, arith, rules}
use Rattle.std.specs.Prelude.{filter, slice_get}
use Rattle.std.specs.Global.{Vec}
use Rattle.std.proofs.lemmas.List.{length-map, length_push}
use Rattle.std.proofs.lemmas.Option.{slice_get_within}
use Rattle.gl_event.specs.Events.{closes}
use Rattle.gl_event.specs.declared.events.Event.{Event}
use Rattle.gl_event.specs.declared.events.Segment.{Segment}
use Rattle.gl_event.specs.Lawful.{lists_of}
use Rattle.gl_segments.specs.bodies.Tables.{cuts_of, AreSmall, AreStepsOfThread, steps_of_thread}
use Rattle.gl_segments.specs.bodies.Forked.{AreAllForks}
use Rattle.gl_segments.proofs.Tabling.{threads_more}
use Rattle.gl_segments.proofs.Stepping.{cuts_small, shows_steps, steps_sound}
use Rattle.gl_segments.proofs.steps.Steps.of.Goals as goal

pub steps_of_thread-requires-clause-small : goal.steps_of_thread-requires-clause-small
steps_of_thread-requires-clause-small c =
    let is = ap lists_of c.deref-in-loop-thread.ensures.value ∙ c.in_ok-cuts.ensures in
    subst AreSmall (sym is) (cuts_small _ c.requires.lawful)

pub of-requires : goal.of-requires
of-requires c =
    let is = ap lists_of c.deref.ensures.value ∙ c.in_ok-cuts.ensures in
    subst AreSmall (sym is) (cuts_small _ c.requires.lawful)

pub steps_of_thread-requires-clause-forked : goal.steps_of_thread-requires-clause-forked
steps_of_thread-requires-clause-forked c = subst (λ xs. AreAllForks (lists_of xs) c.in_ok-forked.forked) (c.deref.ensures.value ∙ sym c.deref-in-loop-thread.ensures.value) c.in_ok-forked.ensures

pub loop-thread-preserved : goal.loop-thread-preserved
loop-thread-preserved c =
    let cuts : List (List Event) = lists_of c.in_ok-cuts.cuts.items in
    let old = c.loop-thread.by_thread.items in
    let new : (es : List Event) → slice_get cuts c.loop-thread.thread ≡ Some es → AreStepsOfThread cuts c.loop-thread.thread es c.in_ok-steps_of_thread.field-0
    = rw (c.deref-in-loop-thread.ensures.value, c.new.ensures) at c.in_ok-steps_of_thread.ensures in
    record {
      size = rw (c.in_ok-push.ensures.items, length_push) (ap (λ n. n + 1) c.loop-thread.invariant.size);
      each = rw c.in_ok-push.ensures.items (threads_more cuts old c.loop-thread.thread c.in_ok-steps_of_thread.field-0 c.loop-thread.invariant.size new c.loop-thread.invariant.each);
    }

-- the steps of all threads, for the lists' own forks and joins
all_threads : (lists : List (List Event)) (cuts : List (Vec Event)) (built : List (List (List Segment))) (n : ℕ) → lists_of cuts ≡ cuts_of lists → length built ≡ n → n ≡ length cuts
    → ((t : ℕ) (es : List Event) → t < n → slice_get (lists_of cuts) t ≡ Some es → AreStepsOfThread (lists_of cuts) t es (steps_of_thread built t))
    → (length built ≡ length lists) × ((t : ℕ) (es : List Event) → slice_get (cuts_of lists) t ≡ Some es → AreStepsOfThread (cuts_of lists) t es (steps_of_thread built t))
all_threads lists cuts built n is size all each =
    let listed = length-map cuts (λ (v : Vec Event). v.items) in
    let kept = length-map lists (filter closes) in
    let same = ap length is in (
      omega arith,
      λ t es at.
          let within = slice_get_within (cuts_of lists) t es at in
          subst (λ k. AreStepsOfThread k t es (steps_of_thread built t)) is (each t es (omega arith) (ap (λ k. slice_get k t) is ∙ at)),
    )

pub returns-clause-shows : goal.returns-clause-shows
returns-clause-shows c =
    let lists = lists_of c.args.lists.now in
    let all : c.loop-thread.thread ≡ length c.in_ok-cuts.cuts.items = search rules in
    let r = all_threads lists c.in_ok-cuts.cuts.items c.loop-thread.by_thread.items c.loop-thread.thread c.in_ok-cuts.ensures c.loop-thread.invariant.size all c.loop-thread.invariant.each in
    shows_steps lists c.loop-thread.by_thread.items r.0 r.1

pub returns-clause-sound : goal.returns-clause-sound
returns-clause-sound c =
    let lists = lists_of c.args.lists.now in
    let all : c.loop-thread.thread ≡ length c.in_ok-cuts.cuts.items = search rules in
    let r = all_threads lists c.in_ok-cuts.cuts.items c.loop-thread.by_thread.items c.loop-thread.thread c.in_ok-cuts.ensures c.loop-thread.invariant.size all c.loop-thread.invariant.each in
    steps_sound lists c.loop-thread.by_thread.items r.0 r.1 c.requires.lawful
