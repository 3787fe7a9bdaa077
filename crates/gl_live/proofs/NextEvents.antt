-- Why no recorder refuses an event that a text tells.
use Rattle.std.proofs.Common.{◌≡◌, ◌∙◌, ℕ, ◌<◌, ◌≤◌, Bool, true, false, cond, List, [], ◌++◌, ◌∷◌, length, Option, Some, None, Result, Ok, refl, sym, ap, subst, nat_le, ◌==◌, arith}
use Rattle.std.specs.Prelude.{slice_get, slice_index_or, if◌then◌else◌}
use Rattle.std.specs.Option.{option_map_or}
use Rattle.std.proofs.lemmas.Bool.Decides.{nat_tests}
use Rattle.gl_event.specs.Bounds.{Bounds, AreWithinRange}
use Rattle.gl_event.specs.Events.{partner}
use Rattle.gl_event.specs.Lawful.{lock_refusal, refusal, IsLawful}
use Rattle.gl_event.specs.declared.events.Event.{Event}
use Rattle.gl_event.specs.declared.events.Refusal.{Refusal}
use Rattle.gl_event.specs.declared.events.Refusal.TheVariants.{PlaceFull, NoSuchThread, OnItself}
use Rattle.gl_event.proofs.Lawfulness.{IsLawful-last}
use Rattle.gl_io.specs.Positions.{Position}
use Rattle.gl_io.specs.Uses.{SourceUse, used}
use Rattle.gl_std.specs.Lines.{ended_lines}
use Rattle.gl_std.specs.Listed.{listed}
use Rattle.gl_std.specs.Streaming.{names_of, with_item, CanBeAsked, CanReadOn, GoesOn, HasNoFault, HasTold, HasToldAt, IsAnswerAt, IsNextAnswer, IsOfNamed, Leaves, Stage, Stream}
use Rattle.gl_std.specs.Streaming.Stage.{Reading, Done, Faulty}
use Rattle.gl_std.specs.Trace.{IsTraceOver}
use Rattle.gl_std.specs.declared.faults.LinesFault.{LinesFault}
use Rattle.gl_std.specs.declared.stream.Item.{Item}
use Rattle.gl_std.specs.declared.stream.Item.TheVariants.{Event as Told}
use Rattle.gl_std.specs.declared.trace.Trace.{Trace}
use Rattle.gl_std.proofs.WithinLimits.{trace_of_over}
use Rattle.gl_engine.specs.Recording.{Recording, recorded}
use Rattle.gl_world.proofs.Lists.{found_within}
use Rattle.gl_live.specs.bodies.Streams.{CanBeTaken, HaveKeptUp, IsRecording, MayTake}
use Rattle.gl_live.proofs.Following.{is_told, listed_here}

-- ---- greater limits

passes_more : (most more n : ℕ) → most ≤ more → nat_le most n ≡ false → nat_le more n ≡ false
passes_more most more n few passes = grind (arith, nat_tests, few, passes)

-- a limit of more events refuses no event more
pub refuses_no_more : (limits more : Bounds) (thread : ℕ) (es : List Event) (e : Event) → limits.events ≤ more.events → more.threads ≡ limits.threads → refusal limits thread es e ≡ None → refusal more thread es e ≡ None
unfolding refusal
refuses_no_more limits more thread es e few same none =
    by (nat_le limits.events (length es)) (nat_le more.events (length es)) (passes_more limits.events more.events (length es) few) none
  where
    rest : ℕ → Option Refusal
    rest threads =
        if option_map_or (nat_le threads) (partner e) false then Some NoSuchThread
        else (if option_map_or (λ other. other == thread) (partner e) false then Some OnItself
        else lock_refusal es e)

    by : (full fuller : Bool) → (full ≡ false → fuller ≡ false) → cond full (Some PlaceFull) (rest limits.threads) ≡ None → cond fuller (Some PlaceFull) (rest more.threads) ≡ None
    by true fuller passes h = cc
    by false true passes h = let wrong = passes refl in cc
    by false false passes h = ap rest same ∙ h

-- ---- what a text tells

-- the items so far told a trace that obeys the limits
told_over : (limits : Bounds) (turns : ℕ) (input : SourceUse) (items : Stream) (text : List ℕ) (told : Trace) → HasNoFault items → HasTold limits turns input items text told → IsTraceOver limits told
told_over limits turns input items text told none tells = by items.stage refl tells
  where
    by : (stage : Stage) → items.stage ≡ stage → HasToldAt stage limits turns input items.reader text told → IsTraceOver limits told
    by Reading is on =
        let judge = items.reader.judge in
        let reaches = on.at.reaches in
        subst (λ l. IsTraceOver l told) on.same (trace_of_over judge.limits (ended_lines on.at.seen ++ []) told (reaches.is.goes_on []))
    by Done is over = trace_of_over limits text told over.1
    by (Faulty fault) is over = absurd (none fault is)

-- the limits are in range while items come
in_range : (limits : Bounds) (turns : ℕ) (input : SourceUse) (items : Stream) (text : List ℕ) (told : Trace) (result : Result Item LinesFault) (thread : ℕ) (event : Event) → result ≡ Ok (Told thread event)
    → IsAnswerAt items.stage result
    → CanBeAsked items input.failed → HasTold limits turns input items text told → AreWithinRange limits
in_range limits turns input items text told result thread event is again usable tells = by items.stage again usable tells
  where
    by : (stage : Stage) → IsAnswerAt stage result → CanReadOn stage input.failed items.reader → HasToldAt stage limits turns input items.reader text told → AreWithinRange limits
    by Reading at fit on = subst AreWithinRange on.same fit.1.sound.in_range
    by Done at fit on = let wrong = sym is ∙ at in cc
    by (Faulty fault) at fit on = let wrong = sym is ∙ at in cc

-- ---- a recorder

-- the event that was told may come next
takes_next : (limits : Bounds) (s : Bounds) (threads : ℕ) (lists : List (List Event)) (recorders : List Recording) (thread : ℕ) (event : Event) → thread < threads → thread < length recorders
    → limits.events ≤ s.events → s.threads ≡ limits.threads
    → ((r : Recording) → slice_get recorders thread ≡ Some r → (r.limits ≡ s) × (r.thread ≡ thread) × (recorded r ≡ slice_index_or lists thread []))
    → ((es : List Event) → slice_get (listed threads lists thread event) thread ≡ Some es → IsLawful limits thread es) → MayTake recorders thread event
takes_next limits s threads lists recorders thread event known within few same each lawful =
    let found = found_within recorders thread within in
    let r : Recording = found.0 in
    let its = each r found.1 in
    let es = slice_index_or lists thread [] in
    let none = refuses_no_more limits s thread es event few same (IsLawful-last limits thread es event (lawful (es ++ event ∷ []) (listed_here threads lists thread event known))) in
    record {
      recorder = r;
      here = found.1;
      lawful =
          ap (λ l. refusal l r.thread (recorded r) event) its.0
          ∙ ap (λ t. refusal s t (recorded r) event) its.1
          ∙ ap (λ xs. refusal s thread xs event) its.2
          ∙ none;
    }

pub can_be_taken : (now later : Position) (failed failed2 : Bool) (items more : Stream) (recorders : List Recording) (item : Item) (result : Result Item LinesFault) → result ≡ Ok item
    → (recording : IsRecording now failed items recorders) → CanBeAsked items failed → IsNextAnswer now failed items later failed2 more result → CanBeTaken recorders item
can_be_taken now later failed failed2 items more recorders item result answer recording usable next = λ thread event its.
    let is : result ≡ Ok (Told thread event) = answer ∙ ap (λ x. Ok x) (is_told item thread event its) in
    let limits = recording.limits in
    let told = recording.follows.told in
    let names = names_of more in
    let known = subst (IsOfNamed names) is next.known in
    let none = subst (λ r. Leaves r more) is next.leaves in
    let on = next.tells limits recording.turns recording.start recording.follows.text told recording.follows.tells in
    let tells = subst (λ r. GoesOn limits recording.turns (used recording.start later failed2) more recording.follows.text told r) is on in
    let over = told_over limits recording.turns (used recording.start later failed2) more (recording.follows.text ++ tells.piece) (with_item (Told thread event) names told) none tells.tells in
    let range = in_range limits recording.turns (used recording.start now failed) items recording.follows.text told result thread event is next.again usable recording.follows.tells in
    let s = recording.s.limits in
    let are = recording.follows.recorded in
    takes_next limits s (length names.threads) told.lists recorders thread event known
    (omega (arith, known, over.threads_fit, recording.as_many))
    (omega (arith, range.events_fit, recording.events_are))
    recording.threads_are
    (λ r here. ((are.identities thread r here).limits, are.threads thread r here, are.events thread r here))
    (λ es at. over.lawful thread es at)

-- recorders go on after items were recorded
pub still_recording : (now later : Position) (failed failed2 : Bool) (items more : Stream) (old new : List Recording) → length new ≡ length old → (recording : IsRecording now failed items old)
    → (HaveKeptUp recording.s recording.limits recording.turns (used recording.start now failed) items old → HaveKeptUp recording.s recording.limits recording.turns (used recording.start later failed2) more new) → IsRecording later failed2 more new
still_recording now later failed failed2 items more old new count recording follows = record {
  s = recording.s;
  limits = recording.limits;
  turns = recording.turns;
  start = recording.start;
  as_many = recording.as_many ∙ sym count;
  threads_are = recording.threads_are;
  events_are = recording.events_are;
  follows = follows recording.follows;
}
