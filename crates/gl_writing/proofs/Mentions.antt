-- What tells all events of a trace again mentions all of its names.
use Rattle.std.proofs.Common.{◌≡◌, ℕ, zero, suc, ◌<◌, Bool, true, false, cond, List, [], ◌∷◌, ◌++◌, length, map, filter, fold, position, get_or, unwrap_or, All, Contains, Option, Some, None, Ok, refl, sym, ap, subst, ◌∙◌, arith}
use Rattle.std.specs.Prelude.{slice_get}
use Rattle.std.specs.List.{AllZip, flat_map}
use Rattle.std.specs.Str.{bytes_eq}
use Rattle.std.proofs.lemmas.Bool.{false≢true}
use Rattle.std.proofs.lemmas.List.Elements.{All-append, All-push, All-map}
use Rattle.std.proofs.lemmas.Option.{get_or_from_slice_get, slice_get_within}
use Rattle.gl_event.specs.Bounds.{Bounds}
use Rattle.gl_event.specs.Events.{location}
use Rattle.gl_event.specs.declared.events.Event.{Event}
use Rattle.gl_std.specs.Laws.{KeptLine, IsNumbered, threads_in, locks_in, kept_from}
use Rattle.gl_std.specs.Line.{is_on_thread}
use Rattle.gl_std.specs.Lines.{lines}
use Rattle.gl_std.specs.Names.{NameLists, with_new}
use Rattle.gl_std.specs.Trace.{operands, events_of, nothing, trace_of}
use Rattle.gl_std.specs.bodies.Finding.{with_name}
use Rattle.gl_writing.specs.Written.{name_at, operand_name, operation_in}
use Rattle.gl_std.specs.declared.trace.Trace.{Trace}
use Rattle.gl_std.proofs.KeptLines.{trace_of-kept}
use Rattle.gl_std.proofs.Places.{itself, events_named}
use Rattle.gl_writing.proofs.Retold.{IsRetold, HasRetold, among}
use Rattle.gl_writing.proofs.ToldAgain.{operand_again, location_again, operation_again}

-- ---- what holds of names that are mentioned

module _ (P : List ℕ → Type 0) where
  all_mention : (names : List (List ℕ)) (name : List ℕ) → All P names → P name → All P (with_new names name)
  all_mention names name all here = by (position (bytes_eq name) names)
    where
      by : (r : Option ℕ) → All P (with_name names r name)
      by (Some i) = all
      by None = All-push P names name all here

  all_mentions : (more names : List (List ℕ)) → All P names → All P more → All P (fold with_new names more)
  all_mentions [] names all new = all
  all_mentions (name ∷ more) names all new = all_mentions more (with_new names name) (all_mention names name all (new 0 name (omega arith))) (λ k d h. new (suc k) d (omega (arith, h)))

  all_flat_map : (f : KeptLine → List (List ℕ)) (kept : List KeptLine) → All (λ line. All P (f line)) kept → All P (flat_map f kept)
  all_flat_map f [] each = λ k d h. absurd (omega (arith, h))
  all_flat_map f (line ∷ kept) each = All-append P (f line) (flat_map f kept) (each 0 line (omega arith)) (all_flat_map f kept (λ k d h. each (suc k) d (omega (arith, h))))

-- ---- the names of a line

-- an event is alike one of these
record IsAlikeOne (R : Event → Event → Type 0) (e : Event) (fs : List Event) : Type 0 where
  event : Event
  alike : R e event
  listed : Contains fs event

-- the event of a thread's line is alike one of those that are alike the thread's events
alike_one : (R : Event → Event → Type 0) (name : List ℕ) (kept : List KeptLine) (fs : List Event) → AllZip R (map (λ line. line.event) (filter (λ line. bytes_eq name line.thread) kept)) fs → (k : ℕ) (d : KeptLine) → k < length kept → bytes_eq name (get_or kept k d).thread ≡ true → IsAlikeOne R (get_or kept k d).event fs
alike_one R name [] fs all k d h mine = absurd (omega (arith, h))
alike_one R name (line ∷ kept) fs all k d h mine = by (bytes_eq name line.thread) refl fs all k h mine (alike_one R name kept)
  where
    by : (b : Bool) → bytes_eq name line.thread ≡ b → (fs : List Event)
        → AllZip R (map (λ line. line.event) (cond b (line ∷ filter (λ line. bytes_eq name line.thread) kept) (filter (λ line. bytes_eq name line.thread) kept))) fs
        → (k : ℕ) → k < length (line ∷ kept) → bytes_eq name (get_or (line ∷ kept) k d).thread ≡ true
        → ((gs : List Event) → AllZip R (map (λ line. line.event) (filter (λ line. bytes_eq name line.thread) kept)) gs → (k : ℕ) (d : KeptLine) → k < length kept → bytes_eq name (get_or kept k d).thread ≡ true → IsAlikeOne R (get_or kept k d).event gs)
        → IsAlikeOne R (get_or (line ∷ kept) k d).event fs
    by true is [] all k h mine later = absurd all
    by true is (f ∷ fs) all zero h mine later = record { event = f; alike = all.0; listed = (0, omega arith, refl) }
    by true is (f ∷ fs) all (suc k) h mine later =
        let rest = later fs all.1 k d (omega (arith, h)) mine in
        let place = rest.listed in
        record { event = rest.event; alike = rest.alike; listed = (suc place.0, omega (arith, place.1), place.2) }
    by false is fs all zero h mine later = absurd (false≢true (sym is ∙ mine))
    by false is fs all (suc k) h mine later = later fs all k d (omega (arith, h)) mine

-- the names that the line has are among these
record IsMentioned (names : NameLists) (line : KeptLine) : Type 0 where
  thread : Contains names.threads line.thread
  operand : Contains (operands line.operation names) line.operand
  loc : Contains names.locs line.loc

stands_among : (names : List (List ℕ)) (n : ℕ) (name : List ℕ) → slice_get names n ≡ Some name → Contains names name
stands_among names n name at = (n, slice_get_within names n name at, get_or_from_slice_get names n name name at)

-- a thread that has an event has a name
thread_among : (names : List (List ℕ)) (lists : List (List Event)) (name : List ℕ) (e : Event) → Contains (events_named names lists name) e → Contains names name
thread_among names lists name e at = by (position (bytes_eq name) names) refl at
  where
    by : (r : Option ℕ) → position (bytes_eq name) names ≡ r → Contains (events_of lists r) e → Contains names name
    by None is at = absurd (omega (arith, at.1))
    by (Some i) is at = among names name i is

line_mentioned : (trace again : Trace) (line : KeptLine) → IsNumbered trace.names line → IsAlikeOne (IsRetold trace.names again.names line.thread) line.event (events_named again.names.threads again.lists line.thread) → IsMentioned again.names line
line_mentioned trace again line numbered one =
    let n = numbered.operand_number in
    let m = numbered.loc_number in
    let new = one.alike.numbered in
    let operation : operation_in line.event ≡ line.operation = ap operation_in numbered.event_is ∙ operation_again line.operation n m in
    let operand : operand_name trace.names line.event ≡ line.operand = ap (operand_name trace.names) numbered.event_is ∙ operand_again line.operation trace.names n m line.operand numbered.operand_at in
    let loc : name_at trace.names.locs (location line.event) ≡ line.loc =
    ap (λ e. name_at trace.names.locs (location e)) numbered.event_is ∙ ap (name_at trace.names.locs) (location_again line.operation n m) ∙ ap (λ o. unwrap_or o []) numbered.loc_at in
    record {
      thread = thread_among again.names.threads again.lists line.thread one.event one.listed;
      operand = subst (λ o. Contains (operands o again.names) line.operand) operation (subst (Contains (operands (operation_in line.event) again.names)) operand (stands_among (operands (operation_in line.event) again.names) new.operand_number _ new.operand_at));
      loc = subst (Contains again.names.locs) loc (stands_among again.names.locs new.loc_number _ new.loc_at);
    }

threads_mentioned : (on : Bool) (names : NameLists) (thread operand : List ℕ) → Contains names.threads thread → Contains (cond on names.threads names.locks) operand → All (Contains names.threads) (thread ∷ cond on (operand ∷ []) [])
threads_mentioned true names thread operand here other = All-push (Contains names.threads) (thread ∷ []) operand (All-push (Contains names.threads) [] thread (λ k d h. absurd (omega (arith, h))) here) other
threads_mentioned false names thread operand here other = All-push (Contains names.threads) [] thread (λ k d h. absurd (omega (arith, h))) here

locks_mentioned : (on : Bool) (names : NameLists) (operand : List ℕ) → Contains (cond on names.threads names.locks) operand → All (Contains names.locks) (cond on [] (operand ∷ []))
locks_mentioned true names operand other = λ k d h. absurd (omega (arith, h))
locks_mentioned false names operand other = All-push (Contains names.locks) [] operand (λ k d h. absurd (omega (arith, h))) other

-- all names of the trace are among these
pub record AreMentioned (trace again : Trace) : Type 0 where
  pub threads : All (Contains again.names.threads) trace.names.threads
  pub locks : All (Contains again.names.locks) trace.names.locks
  pub locs : All (Contains again.names.locs) trace.names.locs

pub all_mentioned : (limits : Bounds) (text : List ℕ) (trace again : Trace) → trace_of limits text ≡ Ok trace → HasRetold trace again (events_named trace.names.threads trace.lists) → AreMentioned trace again
all_mentioned limits text trace again is has =
    let tells = trace_of-kept limits text trace is in
    let kept = kept_from limits 1 nothing (lines text) in
    let each : All (IsMentioned again.names) kept = λ k d h.
    let line = get_or kept k d in
    line_mentioned trace again line (tells.numbered k d h)
    (alike_one (IsRetold trace.names again.names line.thread) line.thread kept (events_named again.names.threads again.lists line.thread)
    (subst (λ es. AllZip (IsRetold trace.names again.names line.thread) es (events_named again.names.threads again.lists line.thread)) (tells.lists line.thread) (has.events line.thread))
    k d h (itself line.thread)) in
    record {
      threads = subst (All (Contains again.names.threads)) (sym tells.threads) (all_mentions (Contains again.names.threads) (flat_map threads_in kept) [] (λ k d h. absurd (omega (arith, h)))
          (all_flat_map (Contains again.names.threads) threads_in kept (λ k d h. let line = get_or kept k d in let one = each k d h in threads_mentioned (is_on_thread line.operation) again.names line.thread line.operand one.thread one.operand)));
      locks = subst (All (Contains again.names.locks)) (sym tells.locks) (all_mentions (Contains again.names.locks) (flat_map locks_in kept) [] (λ k d h. absurd (omega (arith, h)))
          (all_flat_map (Contains again.names.locks) locks_in kept (λ k d h. let line = get_or kept k d in let one = each k d h in locks_mentioned (is_on_thread line.operation) again.names line.operand one.operand)));
      locs = subst (All (Contains again.names.locs)) (sym tells.locs) (all_mentions (Contains again.names.locs) (map (λ line. line.loc) kept) [] (λ k d h. absurd (omega (arith, h)))
          (All-map (Contains again.names.locs) (λ line. line.loc) kept (λ k d h. (each k d h).loc)));
    }
