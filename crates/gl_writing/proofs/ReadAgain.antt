-- What is written of a trace that was read is read again, and tells the same.
use Rattle.std.proofs.Common.{◌≡◌, ◌≢◌, ℕ, suc, ◌+◌, ◌<◌, ◌≤◌, Bool, true, false, not, cond, nat_lt, List, [], ◌∷◌, ◌++◌, length, map, take, position, get_or, unwrap_or, All, AllPairs, Contains, Option, Some, None, Result, Ok, Err, refl, sym, ap, subst, ◌∙◌, append_assoc, arith}
use Rattle.std.specs.Prelude.{slice_get}
use Rattle.std.specs.List.{AllZip, flat_map, zip, position_or_len}
use Rattle.std.specs.Str.{bytes_eq}
use Rattle.std.proofs.lemmas.Bool.Decides.{nat_tests}
use Rattle.std.proofs.lemmas.List.{map-append, append-nil, take-append-le, take_all, get_or_past}
use Rattle.std.proofs.lemmas.List.Elements.{All-contains}
use Rattle.std.proofs.lemmas.List.Quantifiers.{position-Some}
use Rattle.std.proofs.lemmas.Option.{slice_get-get_or, get_or_from_slice_get, slice_get_within}
use Rattle.gl_event.specs.Bounds.{Bounds}
use Rattle.gl_event.specs.Events.{location}
use Rattle.gl_event.specs.Lawful.{lock_refusal}
use Rattle.gl_event.specs.declared.events.Event.{Event}
use Rattle.gl_event.proofs.Lawfulness.{HasLawfulLocks-from_lawful}
use Rattle.gl_std.specs.Line.{Shape, shape_of}
use Rattle.gl_std.specs.Line.Shape.{Call}
use Rattle.gl_std.specs.Lines.{lines}
use Rattle.gl_std.specs.Names.{NameLists}
use Rattle.gl_std.specs.Trace.{events_of, event_of, after_line, after_shape, and_then, read_from, nothing, trace_of, IsNamed, IsTraceOver}
use Rattle.gl_writing.specs.Written.{name_at, operand_name, operation_in, said, written, HaveSameNames, WrittenTextsAreReadAgain}
use Rattle.gl_std.specs.declared.faults.ReadFault.{ReadFault}
use Rattle.gl_std.specs.declared.trace.Trace.{Trace}
use Rattle.gl_writing.proofs.Mentions.{all_mentioned}
use Rattle.gl_std.proofs.Places.{itself, same_name, other_name, events_named, own}
use Rattle.gl_writing.proofs.Retold.{IsRetold, HasRetold, with_retold, has_retold-next, line_again, among}
use Rattle.gl_std.proofs.WithinLimits.{trace_of_over, trace_of-lines}
use Rattle.gl_writing.proofs.ToldAgain.{operand_again, location_again, operation_again, written_tells}

-- ---- lines are read by what they say

-- the trace after lines that say this
abbrev read_shapes : Bounds → ℕ → Trace → List Shape → Result Trace ReadFault
read_shapes limits number told [] = Ok told
read_shapes limits number told (shape ∷ rest) = and_then (after_shape limits number told shape) (λ more. read_shapes limits (number + 1) more rest)

read_by_shapes : (limits : Bounds) (ls : List (List ℕ)) (number : ℕ) (told : Trace) → read_from limits number told ls ≡ read_shapes limits number told (map shape_of ls)
read_by_shapes limits [] number told = refl
read_by_shapes limits (line ∷ ls) number told = by (after_line limits number told line) (λ next. read_by_shapes limits ls (number + 1) next)
  where
    by : (r : Result Trace ReadFault) → ((next : Trace) → read_from limits (number + 1) next ls ≡ read_shapes limits (number + 1) next (map shape_of ls)) → and_then r (λ more. read_from limits (number + 1) more ls) ≡ and_then r (λ more. read_shapes limits (number + 1) more (map shape_of ls))
    by (Ok next) later = later next
    by (Err fault) later = refl

-- ---- the events of all threads, in the order in which they are written

-- an event and its thread
abbrev OwnEvent : Type 0
OwnEvent = List ℕ × Event

-- the events of this thread
abbrev own_events : List ℕ → List OwnEvent → List Event
own_events name [] = []
own_events name (call ∷ calls) = cond (bytes_eq name call.0) (call.1 ∷ own_events name calls) (own_events name calls)

abbrev said_own : NameLists → OwnEvent → Shape
said_own names call = said names call.0 call.1

-- a thread's events
abbrev calls_of : List ℕ × List Event → List OwnEvent
calls_of own = map (λ e. (own.0, e)) own.1

all_said : (names : NameLists) (owned : List (List ℕ × List Event)) → map (said_own names) (flat_map calls_of owned) ≡ flat_map (λ own. map (said names own.0) own.1) owned
all_said names [] = refl
all_said names (own ∷ owned) =
    map-append (said_own names) (calls_of own) (flat_map calls_of owned) ∙ (λ i. each own.1 i ++ all_said names owned i)
  where
    each : (es : List Event) → map (said_own names) (map (λ e. (own.0, e)) es) ≡ map (said names own.0) es
    each [] = refl
    each (e ∷ es) = ap (λ ss. said names own.0 e ∷ ss) (each es)

own_events-append : (name : List ℕ) (front back : List OwnEvent) → own_events name (front ++ back) ≡ own_events name front ++ own_events name back
own_events-append name [] back = refl
own_events-append name (call ∷ front) back = by (bytes_eq name call.0) (own_events-append name front back)
  where
    by : (b : Bool) → own_events name (front ++ back) ≡ own_events name front ++ own_events name back → cond b (call.1 ∷ own_events name (front ++ back)) (own_events name (front ++ back)) ≡ cond b (call.1 ∷ own_events name front) (own_events name front) ++ own_events name back
    by true later = ap (λ es. call.1 ∷ es) later
    by false later = later

own_events-one : (name thread : List ℕ) (es : List Event) → own_events name (calls_of (thread, es)) ≡ cond (bytes_eq name thread) es []
own_events-one name thread es = by (bytes_eq name thread) refl es
  where
    by : (b : Bool) → bytes_eq name thread ≡ b → (es : List Event) → own_events name (calls_of (thread, es)) ≡ cond b es []
    by true is [] = refl
    by false is [] = refl
    by true is (e ∷ es) = ap (λ b. cond b (e ∷ own_events name (calls_of (thread, es))) (own_events name (calls_of (thread, es)))) is ∙ ap (λ l. e ∷ l) (by true is es)
    by false is (e ∷ es) = ap (λ b. cond b (e ∷ own_events name (calls_of (thread, es))) (own_events name (calls_of (thread, es)))) is ∙ by false is es

-- of a thread that has no list there are none
no_events : (name : List ℕ) (threads : List (List ℕ)) (lists : List (List Event)) → ((k : ℕ) → k < length threads → bytes_eq name (get_or threads k []) ≡ false) → own_events name (flat_map calls_of (zip threads lists)) ≡ []
no_events name [] lists none = refl
no_events name (thread ∷ threads) [] none = refl
no_events name (thread ∷ threads) (es ∷ lists) none =
    own_events-append name (calls_of (thread, es)) (flat_map calls_of (zip threads lists))
    ∙ (λ i. own_events-one name thread es i ++ no_events name threads lists (λ k h. none (suc k) (omega (arith, h))) i)
    ∙ ap (λ b. cond b es [] ++ []) (none 0 (omega arith))

pub own_events-listed : (name : List ℕ) (threads : List (List ℕ)) (lists : List (List Event)) → length lists ≡ length threads → AllPairs (λ a b. a ≢ b) threads → own_events name (flat_map calls_of (zip threads lists)) ≡ get_or lists (position_or_len (bytes_eq name) threads) []
own_events-listed name [] [] each differ = refl
own_events-listed name [] (es ∷ lists) each differ = absurd (omega (arith, each))
own_events-listed name (thread ∷ threads) [] each differ = absurd (omega (arith, each))
own_events-listed name (thread ∷ threads) (es ∷ lists) each differ =
    let rest = own_events name (flat_map calls_of (zip threads lists)) in
    own_events-append name (calls_of (thread, es)) (flat_map calls_of (zip threads lists)) ∙ ap (λ l. l ++ rest) (own_events-one name thread es)
    ∙ by (bytes_eq name thread) refl (own_events-listed name threads lists (omega (arith, each)) (λ i j d low high. differ (suc i) (suc j) d (omega (arith, low)) (omega (arith, high))))
  where
    by : (b : Bool) → bytes_eq name thread ≡ b → own_events name (flat_map calls_of (zip threads lists)) ≡ get_or lists (position_or_len (bytes_eq name) threads) [] → cond b es [] ++ own_events name (flat_map calls_of (zip threads lists)) ≡ get_or (es ∷ lists) (cond (not b) (1 + position_or_len (bytes_eq name) threads) 0) []
    by true is later =
        let apart = λ (k : ℕ) (h : k < length threads). other_name name (get_or threads k []) (λ same. differ 0 (suc k) [] (omega arith) (omega (arith, h)) (sym (same_name name thread is) ∙ same)) in
        ap (λ l. es ++ l) (no_events name threads lists apart) ∙ append-nil es
    by false is later =
        let one_more : suc (position_or_len (bytes_eq name) threads) ≡ 1 + position_or_len (bytes_eq name) threads = omega arith in
        later ∙ ap (λ n. get_or (es ∷ lists) n []) one_more

-- they are those that the thread has
events_written : (name : List ℕ) (trace : Trace) → length trace.lists ≡ length trace.names.threads → AllPairs (λ a b. a ≢ b) trace.names.threads → own_events name (flat_map calls_of (zip trace.names.threads trace.lists)) ≡ events_named trace.names.threads trace.lists name
events_written name trace each differ =
    own_events-listed name trace.names.threads trace.lists each differ ∙ by (nat_lt (position_or_len (bytes_eq name) trace.names.threads) (length trace.names.threads)) refl
  where
    by : (b : Bool) → nat_lt (position_or_len (bytes_eq name) trace.names.threads) (length trace.names.threads) ≡ b → get_or trace.lists (position_or_len (bytes_eq name) trace.names.threads) [] ≡ events_of trace.lists (cond b (Some (position_or_len (bytes_eq name) trace.names.threads)) None)
    by true is = refl
    by false is =
        let past : length trace.lists ≤ position_or_len (bytes_eq name) trace.names.threads = grind (arith, nat_tests, is, each) in
        get_or_past trace.lists (position_or_len (bytes_eq name) trace.names.threads) [] past

-- ---- each event may come next again

-- what the trace allows where an event of a thread follows these
record MayComeNext (limits : Bounds) (trace : Trace) (thread : List ℕ) (front : List Event) (e : Event) : Type 0 where
  known : Contains trace.names.threads thread
  named : IsNamed trace.names e
  allowed : lock_refusal front e ≡ None
  room : length front < limits.events

get_between : (front back : List Event) (e : Event) → slice_get (front ++ e ∷ back) (length front) ≡ Some e
get_between [] back e = refl
get_between (x ∷ front) back e = get_between front back e

may_come_next : (limits : Bounds) (trace : Trace) (thread : List ℕ) (front back : List Event) (e : Event) → IsTraceOver limits trace → front ++ e ∷ back ≡ events_named trace.names.threads trace.lists thread → MayComeNext limits trace thread front e
may_come_next limits trace thread front back e over is = by (position (bytes_eq thread) trace.names.threads) refl is
  where
    by : (r : Option ℕ) → position (bytes_eq thread) trace.names.threads ≡ r → front ++ e ∷ back ≡ events_of trace.lists r → MayComeNext limits trace thread front e
    by None at is = absurd (none front is)
      where
        none : (front : List Event) → front ++ e ∷ back ≡ [] → ⊥
        none [] h = cc
        none (x ∷ front) h = cc
    by (Some i) at is =
        let within = (position-Some (bytes_eq thread) trace.names.threads i [] at).0 in
        let listed : slice_get trace.lists i ≡ Some (front ++ e ∷ back) = slice_get-get_or trace.lists i [] (omega (arith, within, over.one_list_each)) ∙ ap (λ es. Some es) (sym is) in
        let here = get_between front back e in
        let before : take (length front) (front ++ e ∷ back) ≡ front = take-append-le (length front) front (e ∷ back) (omega arith) ∙ take_all (length front) front (omega arith) in
        let inside = slice_get_within (front ++ e ∷ back) (length front) e here in
        record {
          known = among trace.names.threads thread i at;
          named = subst (IsNamed trace.names) (get_or_from_slice_get (front ++ e ∷ back) (length front) e e here) (over.named i (front ++ e ∷ back) listed (length front) e inside);
          allowed = ap (λ l. lock_refusal l e) (sym before) ∙ (HasLawfulLocks-from_lawful limits i (front ++ e ∷ back) (over.lawful i (front ++ e ∷ back) listed)).each (length front) e here;
          room = omega (arith, inside, over.events_fit i (front ++ e ∷ back) listed);
        }

-- ---- all lines are read again

-- lines that say this are read, and tell the trace again
record AreReadAgain (limits : Bounds) (trace : Trace) (number : ℕ) (told : Trace) (shapes : List Shape) : Type 0 where
  again : Trace
  read : read_shapes limits number told shapes ≡ Ok again
  retold : HasRetold trace again (events_named trace.names.threads trace.lists)

with_events : (trace told : Trace) (so_far more : List ℕ → List Event) → ((name : List ℕ) → so_far name ≡ more name) → HasRetold trace told so_far → HasRetold trace told more
with_events trace told so_far more same has =
    record {
      one_list_each = has.one_list_each;
      threads_differ = has.threads_differ;
      locks_differ = has.locks_differ;
      locs_differ = has.locs_differ;
      threads_known = has.threads_known;
      locks_known = has.locks_known;
      locs_known = has.locs_known;
      none_skipped = has.none_skipped;
      none_stray = has.none_stray;
      events = λ name. subst (λ es. AllZip (IsRetold trace.names told.names name) es (events_named told.names.threads told.lists name)) (same name) (has.events name);
    }

own_first : (b : Bool) (before later : List Event) (e : Event) → (before ++ own b e) ++ later ≡ before ++ cond b (e ∷ later) later
own_first true before later e = append_assoc before (e ∷ []) later
own_first false before later e = ap (λ l. l ++ later) (append-nil before)

all_read : (limits : Bounds) (trace : Trace) → IsTraceOver limits trace → (calls : List OwnEvent) (number : ℕ) (told : Trace) (so_far : List ℕ → List Event) → HasRetold trace told so_far → ((name : List ℕ) → so_far name ++ own_events name calls ≡ events_named trace.names.threads trace.lists name) → AreReadAgain limits trace number told (map (said_own trace.names) calls)
all_read limits trace over [] number told so_far has whole =
    record { again = told; read = refl; retold = with_events trace told so_far (events_named trace.names.threads trace.lists) (λ name. sym (append-nil (so_far name)) ∙ whole name) has }
all_read limits trace over (call ∷ calls) number told so_far has whole =
    let thread = call.0 in
    let e = call.1 in
    let here : so_far thread ++ e ∷ own_events thread calls ≡ events_named trace.names.threads trace.lists thread =
    ap (λ b. so_far thread ++ cond b (e ∷ own_events thread calls) (own_events thread calls)) (sym (itself thread)) ∙ whole thread in
    let may = may_come_next limits trace thread (so_far thread) (own_events thread calls) e over here in
    let new = with_retold trace told thread e in
    let line = line_again trace told so_far thread e may.named may.known has limits number over may.allowed may.room in
    let rest = all_read limits trace over calls (number + 1) new (λ name. so_far name ++ own (bytes_eq name thread) e) (has_retold-next trace told so_far thread e may.named may.known has)
    (λ name. own_first (bytes_eq name thread) (so_far name) (own_events name calls) e ∙ whole name) in
    record {
      again = rest.again;
      read = ap (λ r. and_then r (λ more. read_shapes limits (number + 1) more (map (said_own trace.names) calls))) line ∙ rest.read;
      retold = rest.retold;
    }

nothing_retold : (trace : Trace) → HasRetold trace nothing (λ name. [])
nothing_retold trace =
    record {
      one_list_each = refl;
      threads_differ = λ i j d a b. absurd (omega arith);
      locks_differ = λ i j d a b. absurd (omega arith);
      locs_differ = λ i j d a b. absurd (omega arith);
      threads_known = λ k d h. absurd (omega arith);
      locks_known = λ k d h. absurd (omega arith);
      locs_known = λ k d h. absurd (omega arith);
      none_skipped = refl;
      none_stray = refl;
      events = λ name. tt;
    }

pub text_read : (limits : Bounds) (text : List ℕ) (trace : Trace) → trace_of limits text ≡ Ok trace → (again : Trace) × (trace_of limits (written trace.names trace.lists) ≡ Ok again) × HasRetold trace again (events_named trace.names.threads trace.lists)
text_read limits text trace is =
    let over = trace_of_over limits text trace is in
    let calls = flat_map calls_of (zip trace.names.threads trace.lists) in
    let new_text = written trace.names trace.lists in
    let all = all_read limits trace over calls 1 nothing (λ name. []) (nothing_retold trace) (λ name. events_written name trace over.one_list_each over.threads_differ) in (
      all.again,
      sym (trace_of-lines limits new_text) ∙ read_by_shapes limits (lines new_text) 1 nothing
          ∙ ap (read_shapes limits 1 nothing) (written_tells limits text trace is ∙ sym (all_said trace.names (zip trace.names.threads trace.lists))) ∙ all.read,
      all.retold,
    )

-- ---- what it says

said_again : (old new : NameLists) (thread : List ℕ) (e f : Event) → IsRetold old new thread e f → said new thread f ≡ said old thread e
said_again old new thread e f is =
    let operation = operation_in e in
    let n = is.numbered.operand_number in
    let m = is.numbered.loc_number in
    let place : name_at new.locs (location (event_of operation n m)) ≡ name_at old.locs (location e) =
    ap (name_at new.locs) (location_again operation n m) ∙ ap (λ o. unwrap_or o []) is.numbered.loc_at in
    ap (said new thread) is.numbered.event_is ∙ (λ i. Call (operation_again operation n m i) thread (operand_again operation new n m (operand_name old e) is.numbered.operand_at i) (place i))

all_said_again : (old new : NameLists) (thread : List ℕ) (es fs : List Event) → AllZip (IsRetold old new thread) es fs → map (said new thread) fs ≡ map (said old thread) es
all_said_again old new thread [] [] all = refl
all_said_again old new thread [] (f ∷ fs) all = absurd all
all_said_again old new thread (e ∷ es) [] all = absurd all
all_said_again old new thread (e ∷ es) (f ∷ fs) all = λ i. said_again old new thread e f all.0 i ∷ all_said_again old new thread es fs all.1 i

same_names : (names others : List (List ℕ)) → All (Contains others) names → All (Contains names) others → HaveSameNames names others
same_names names others there back name = (λ at. All-contains (Contains others) names name there at, λ at. All-contains (Contains names) others name back at)

pub written_read_again : WrittenTextsAreReadAgain
written_read_again limits text trace is =
    let read = text_read limits text trace is in
    let again = read.0 in
    let has = read.2 in
    let back = all_mentioned limits text trace again is has in
    record {
      again = again;
      accepted = read.1;
      none_skipped = has.none_skipped;
      none_stray = has.none_stray;
      threads = same_names again.names.threads trace.names.threads has.threads_known back.threads;
      locks = same_names again.names.locks trace.names.locks has.locks_known back.locks;
      locs = same_names again.names.locs trace.names.locs has.locs_known back.locs;
      lists = λ thread. all_said_again trace.names again.names thread (events_named trace.names.threads trace.lists thread) (events_named again.names.threads again.lists thread) (has.events thread);
    }
