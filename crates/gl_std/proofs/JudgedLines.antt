-- What a judge of lines knows.
use Rattle.std.proofs.Common.{◌≡◌, ℕ, zero, suc, ◌+◌, ◌-◌, ◌<◌, ◌≤◌, Bool, true, false, cond, List, [], ◌∷◌, ◌++◌, length, replicate, Option, Some, None, All, Result, Ok, Err, get_or, nat_le, nat_lt, is_none, unwrap_or, map, refl, sym, ap, subst, ◌∙◌, append_assoc, length-append, arith}
use Rattle.std.specs.Prelude.{slice_get, slice_set, IfSome}
use Rattle.std.proofs.lemmas.Bool.Decides.{nat_tests}
use Rattle.std.proofs.lemmas.List.{length-map, length-replicate, replicate_more, map-append, map-set}
use Rattle.gl_event.specs.Bounds.{AreWithinRange, Bounds}
use Rattle.gl_event.specs.declared.events.Event.{Event}
use Rattle.gl_event.specs.Lawful.{lock_refusal}
use Rattle.gl_std.specs.bodies.Telling.{with_judged}
use Rattle.gl_std.specs.Judging.{Judge, HasJudged, IsSound}
use Rattle.gl_std.specs.Listed.{listed}
use Rattle.gl_event.specs.States.{State, StandsAfter}
use Rattle.gl_std.specs.Standings.{AreStanding}
use Rattle.gl_std.specs.bodies.Counting.{count_of}
use Rattle.gl_std.specs.Line.{Operation, is_on_thread}
use Rattle.gl_std.specs.Names.{NameLists}
use Rattle.gl_std.specs.Trace.{events_of, with_event, with_list, after_call, IsTraceOver}
use Rattle.gl_std.specs.bodies.Finding.{found_in, with_lists, event_found, limit_found, limit_fault, ruling_of, with_names, after_ruling}
use Rattle.gl_std.specs.declared.faults.StdKind.{StdKind}
use Rattle.gl_std.specs.declared.faults.StdKind.TheVariants.{TooManyThreads, TooManyEvents, TooManyNames}
use Rattle.gl_std.specs.declared.faults.ReadFault.{ReadFault}
use Rattle.gl_std.specs.declared.judge.Judged.TheVariants.{Event as Told}
use Rattle.gl_std.specs.declared.names.Found.{Found}
use Rattle.gl_std.specs.declared.ruling.Ruling.{Ruling}
use Rattle.gl_std.specs.declared.trace.Trace.{Trace}
use Rattle.gl_std.proofs.FoundNames.{with_found, length-threads_of, call-found}
use Rattle.gl_std.proofs.WithinLimits.{found_within}

-- ---- the standings of all threads

-- there is one for each list
pub standing_length : (lists : List (List Event)) (states : List State) → AreStanding lists states → length states ≡ length lists
standing_length [] [] are = refl
standing_length [] (s ∷ states) are = absurd are
standing_length (es ∷ lists) [] are = absurd are
standing_length (es ∷ lists) (s ∷ states) are = ap suc (standing_length lists states are.1)

-- each stands after its list
pub standing_at : (lists : List (List Event)) (states : List State) (i : ℕ) (s : State) → AreStanding lists states → i < length states → s ≡ get_or states i s → StandsAfter (get_or lists i []) s
standing_at lists [] i s are within at = absurd (omega arith)
standing_at [] (t ∷ states) i s are within at = absurd are
standing_at (es ∷ lists) (t ∷ states) zero s are within at = subst (StandsAfter es) (sym at) are.0
standing_at (es ∷ lists) (t ∷ states) (suc i) s are within at = standing_at lists states i s are.1 (omega (arith, within)) at

-- a thread stands after other events
pub standing_set : (lists : List (List Event)) (states : List State) (i : ℕ) (es : List Event) (s : State) → AreStanding lists states → StandsAfter es s → AreStanding (slice_set lists i es) (slice_set states i s)
standing_set [] [] i es s are own = are
standing_set [] (t ∷ states) i es s are own = absurd are
standing_set (fs ∷ lists) [] i es s are own = absurd are
standing_set (fs ∷ lists) (t ∷ states) zero es s are own = (own, are.1)
standing_set (fs ∷ lists) (t ∷ states) (suc i) es s are own = (are.0, standing_set lists states i es s are.1 own)

-- one more thread
pub standing_push : (lists : List (List Event)) (states : List State) (es : List Event) (s : State) → AreStanding lists states → StandsAfter es s → AreStanding (lists ++ es ∷ []) (states ++ s ∷ [])
standing_push [] [] es s are own = (own, tt)
standing_push [] (t ∷ states) es s are own = absurd are
standing_push (fs ∷ lists) [] es s are own = absurd are
standing_push (fs ∷ lists) (t ∷ states) es s are own = (are.0, standing_push lists states es s are.1 own)

-- a thread's events are counted
pub standing_count : (lists : List (List Event)) (states : List State) (number : Option ℕ) → AreStanding lists states → count_of states number ≡ length (events_of lists number)
standing_count lists states None are = refl
standing_count [] [] (Some i) are = refl
standing_count [] (t ∷ states) (Some i) are = absurd are
standing_count (es ∷ lists) [] (Some i) are = absurd are
standing_count (es ∷ lists) (t ∷ states) (Some zero) are = are.0.events
standing_count (es ∷ lists) (t ∷ states) (Some (suc i)) are = standing_count lists states (Some i) are.1

-- the acting thread stands after its events
pub standing_own : (lists : List (List Event)) (states : List State) (number : Option ℕ) (i count : ℕ) (s : State) → AreStanding lists states → number ≡ Some i → IfSome number (λ k. k < count) → count ≡ length states → s ≡ get_or states i s → StandsAfter (events_of lists number) s
standing_own lists states number i count s are is known size at =
    let within : i < count = subst (λ n. IfSome n (λ k. k < count)) is known in
    subst (λ n. StandsAfter (events_of lists n) s) (sym is) (standing_at lists states i s are (omega (arith, within, size)) at)

-- and then after one more
pub standing_event : (lists : List (List Event)) (states : List State) (number : Option ℕ) (i : ℕ) (s : State) (e : Event) → AreStanding lists states → number ≡ Some i → StandsAfter (events_of lists number ++ e ∷ []) s → AreStanding (with_event lists number e) (slice_set states i s)
standing_event lists states None i s e are is own = absurd (none_some is)
  where
    none_some : None ≡ Some i → ⊥
    none_some e = cc
standing_event lists states (Some k) i s e are is own =
    let same : k ≡ i = cc in
    subst (λ n. AreStanding (with_event lists (Some k) e) (slice_set states n s)) same (standing_set lists states k (get_or lists k [] ++ e ∷ []) s are own)

-- a new thread that is forked or joined stands after nothing
pub standing_partner : (lists : List (List Event)) (states states2 : List State) (on : Bool) (place : Option ℕ) (s : State) → AreStanding lists states → StandsAfter [] s → on ≡ true → place ≡ None → states2 ≡ states ++ s ∷ [] → AreStanding (cond on (with_list lists place) lists) states2
standing_partner lists states states2 on place s are own is none items =
    subst (AreStanding (cond on (with_list lists place) lists)) (sym items)
    (subst (λ b. AreStanding (cond b (with_list lists place) lists) (states ++ s ∷ [])) (sym is)
    (subst (λ n. AreStanding (with_list lists n) (states ++ s ∷ [])) (sym none) (standing_push lists states [] s are own)))

-- ---- the lists with an event

-- what stands behind stays
set_before : (lists more : List (List Event)) (i : ℕ) (es : List Event) → i < length lists → slice_set (lists ++ more) i es ≡ slice_set lists i es ++ more
set_before [] more i es within = absurd (omega arith)
set_before (x ∷ lists) more zero es within = refl
set_before (x ∷ lists) more (suc i) es within = ap (λ ls. x ∷ ls) (set_before lists more i es (omega (arith, within)))

get_before : (lists more : List (List Event)) (i : ℕ) → i < length lists → get_or (lists ++ more) i [] ≡ get_or lists i []
get_before [] more i within = absurd (omega arith)
get_before (x ∷ lists) more zero within = refl
get_before (x ∷ lists) more (suc i) within = get_before lists more i (omega (arith, within))

set_behind : (lists more : List (List Event)) (es fs : List Event) → slice_set (lists ++ es ∷ more) (length lists) fs ≡ lists ++ fs ∷ more
set_behind [] more es fs = refl
set_behind (x ∷ lists) more es fs = ap (λ ls. x ∷ ls) (set_behind lists more es fs)

get_behind : (lists more : List (List Event)) (es : List Event) → get_or (lists ++ es ∷ more) (length lists) [] ≡ es
get_behind [] more es = refl
get_behind (x ∷ lists) more es = get_behind lists more es

append_nil : (lists : List (List Event)) → lists ++ [] ≡ lists
append_nil [] = refl
append_nil (x ∷ lists) = ap (λ ls. x ∷ ls) (append_nil lists)

append_two : (lists : List (List Event)) (x y : List Event) → (lists ++ x ∷ []) ++ y ∷ [] ≡ lists ++ x ∷ y ∷ []
append_two [] x y = refl
append_two (z ∷ lists) x y = ap (λ ls. z ∷ ls) (append_two lists x y)

-- the lists of so many more threads, with the event
abbrev put_in : List (List Event) → ℕ → Event → List (List Event)
put_in all thread event = slice_set all thread (get_or all thread [] ++ event ∷ [])

-- the list of a thread that has one
put_before : (lists more : List (List Event)) (i : ℕ) (event : Event) → i < length lists → put_in (lists ++ more) i event ≡ slice_set lists i (get_or lists i [] ++ event ∷ []) ++ more
put_before lists more i event within = ap (λ es. slice_set (lists ++ more) i (es ++ event ∷ [])) (get_before lists more i within) ∙ set_before lists more i (get_or lists i [] ++ event ∷ []) within

-- the list of the next thread
put_behind : (lists more : List (List Event)) (event : Event) → put_in (lists ++ [] ∷ more) (length lists) event ≡ lists ++ (event ∷ []) ∷ more
put_behind lists more event = ap (λ es. slice_set (lists ++ [] ∷ more) (length lists) (es ++ event ∷ [])) (get_behind lists more []) ∙ set_behind lists more [] (event ∷ [])

-- so many more threads
more_by : (threads n k : ℕ) → threads ≡ n + k → replicate (threads - n) [] ≡ replicate {A = List Event} k []
more_by threads n k is = let left : threads - n ≡ k = omega (arith, is) in ap (λ m. replicate m []) left

-- the lists after a line are those that have the event in them
pub listed_alike : (lists : List (List Event)) (number place : Option ℕ) (on : Bool) (event : Event) (threads : ℕ) → ((i : ℕ) → number ≡ Some i → i < length lists) → threads ≡ length lists + cond (is_none number) 1 0 + cond on (cond (is_none place) 1 0) 0 → cond on (with_list (with_event lists number event) place) (with_event lists number event) ≡ listed threads lists (unwrap_or number (length lists)) event
listed_alike lists (Some i) place false event threads within is =
    sym (ap (λ more. put_in (lists ++ more) i event) (more_by threads (length lists) 0 (omega (arith, is))) ∙ put_before lists [] i event (within i refl) ∙ append_nil _)
listed_alike lists (Some i) (Some j) true event threads within is =
    sym (ap (λ more. put_in (lists ++ more) i event) (more_by threads (length lists) 0 (omega (arith, is))) ∙ put_before lists [] i event (within i refl) ∙ append_nil _)
listed_alike lists (Some i) None true event threads within is =
    sym (ap (λ more. put_in (lists ++ more) i event) (more_by threads (length lists) 1 (omega (arith, is))) ∙ put_before lists ([] ∷ []) i event (within i refl))
listed_alike lists None place false event threads within is =
    sym (ap (λ more. put_in (lists ++ more) (length lists) event) (more_by threads (length lists) 1 (omega (arith, is))) ∙ put_behind lists [] event)
listed_alike lists None (Some j) true event threads within is =
    sym (ap (λ more. put_in (lists ++ more) (length lists) event) (more_by threads (length lists) 1 (omega (arith, is))) ∙ put_behind lists [] event)
listed_alike lists None None true event threads within is =
    sym (ap (λ more. put_in (lists ++ more) (length lists) event) (more_by threads (length lists) 2 (omega (arith, is))) ∙ put_behind lists ([] ∷ []) event ∙ sym (append_two lists (event ∷ []) []))

-- ---- the judge

-- no thread has more events than the limits allow
events_fit : (most : ℕ) (lists : List (List Event)) (states : List State) → AreStanding lists states → ((thread : ℕ) (es : List Event) → slice_get lists thread ≡ Some es → length es ≤ most) → All (λ s. s.events ≤ most) states
events_fit most [] [] are each = λ k d within. absurd (omega arith)
events_fit most [] (t ∷ states) are each = absurd are
events_fit most (es ∷ lists) [] are each = absurd are
events_fit most (es ∷ lists) (t ∷ states) are each = by (events_fit most lists states are.1 (λ thread fs. each (suc thread) fs))
  where
    by : All (λ s. s.events ≤ most) states → (k : ℕ) (d : State) → k < length (t ∷ states) → (get_or (t ∷ states) k d).events ≤ most
    by later zero d within = let few = each zero es refl in omega (arith, few, are.0.events)
    by later (suc k) d within = later k d (omega (arith, within))

-- what stands for a trace that obeys the limits is sound
pub sound_of : (j : Judge) (told : Trace) → HasJudged j told → IsTraceOver j.limits told → AreWithinRange j.limits → j.skipped < j.line → j.stray < j.line → IsSound j
sound_of j told judged over in_range few_skipped few_stray =
    record {
      told = told;
      judged = judged;
      sound = over;
      in_range = in_range;
      few_skipped = few_skipped;
      few_stray = few_stray;
      threads_fit = subst (λ names. length names.threads ≤ j.limits.threads) (sym judged.names) over.threads_fit;
      locks_fit = subst (λ names. length names.locks ≤ j.limits.names) (sym judged.names) over.locks_fit;
      locs_fit = subst (λ names. length names.locs ≤ j.limits.names) (sym judged.names) over.locs_fit;
      events_fit = events_fit j.limits.events told.lists j.standings judged.states over.events_fit;
      one_standing_each = standing_length told.lists j.standings judged.states ∙ over.one_list_each ∙ ap (λ names. length names.threads) (sym judged.names);
    }

-- a line that tells an event, by what was found out of it
pub call_judged : (limits : Bounds) (line : ℕ) (names : NameLists) (states : List State) (told : Trace) (operation : Operation) (thread operand location : List ℕ) (found : Found) (event : Event) (limit : Option StdKind) (ruling : Ruling) → names ≡ told.names → AreStanding told.lists states → found ≡ found_in names operation thread operand location → event ≡ event_found names operation found → limit ≡ limit_found limits names (count_of states found.thread) operation found → ruling ≡ ruling_of (lock_refusal (events_of told.lists found.thread) event) limit → after_call limits line told operation thread operand location ≡ after_ruling line told (with_found told operation thread operand location) ruling
call_judged limits line names states told operation thread operand location found event limit ruling same are is_found is_event is_limit is_ruling =
    let found1 = found_in told.names operation thread operand location in
    let event1 = event_found told.names operation found1 in
    let es1 = events_of told.lists found1.thread in
    let to_found : found ≡ found1 = is_found ∙ ap (λ ns. found_in ns operation thread operand location) same in
    let to_event : event ≡ event1 = is_event ∙ ap (λ ns. event_found ns operation found) same ∙ ap (event_found told.names operation) to_found in
    let to_limit : limit ≡ limit_fault limits told operation found1 =
    is_limit ∙ ap (λ ns. limit_found limits ns (count_of states found.thread) operation found) same
    ∙ ap (λ n. limit_found limits told.names n operation found) (standing_count told.lists states found.thread are)
    ∙ ap (limit_fault limits told operation) to_found in
    let to_ruling : ruling ≡ ruling_of (lock_refusal es1 event1) (limit_fault limits told operation found1) =
    is_ruling ∙ ap (λ f. ruling_of (lock_refusal (events_of told.lists f.thread) event) limit) to_found
    ∙ ap (λ e. ruling_of (lock_refusal es1 e) limit) to_event ∙ ap (ruling_of (lock_refusal es1 event1)) to_limit in
    call-found limits line told operation thread operand location ∙ ap (after_ruling line told (with_found told operation thread operand location)) (sym to_ruling)

-- the lists after a line that is kept
pub call_listed : (names names2 : NameLists) (states : List State) (told : Trace) (operation : Operation) (thread operand location : List ℕ) (found : Found) (event : Event) (own : ℕ) → AreStanding told.lists states → length states ≡ length names.threads → found ≡ found_in names operation thread operand location → names2 ≡ with_names names operation found thread operand location → own ≡ unwrap_or found.thread (length names.threads) → with_lists told.lists operation found event ≡ listed (length names2.threads) told.lists own event
call_listed names names2 states told operation thread operand location found event own are each is_found are_names is_own =
    let found1 = found_in names operation thread operand location in
    let size : length told.lists ≡ length names.threads = sym (standing_length told.lists states are) ∙ each in
    let threads : length names2.threads ≡ length told.lists + cond (is_none found1.thread) 1 0 + cond (is_on_thread operation) (cond (is_none found1.operand) 1 0) 0 =
    ap (λ ns. length ns.threads) (are_names ∙ ap (λ f. with_names names operation f thread operand location) is_found)
    ∙ length-threads_of (is_on_thread operation) names thread operand
    ∙ ap (λ n. n + cond (is_none found1.thread) 1 0 + cond (is_on_thread operation) (cond (is_none found1.operand) 1 0) 0) (sym size) in
    let within : (i : ℕ) → found1.thread ≡ Some i → i < length told.lists = λ i is. subst (λ n. i < n) (sym size) (found_within names.threads thread i is) in
    ap (λ f. with_lists told.lists operation f event) is_found
    ∙ listed_alike told.lists found1.thread found1.operand (is_on_thread operation) event (length names2.threads) within threads
    ∙ ap (λ n. listed (length names2.threads) told.lists (unwrap_or found1.thread n) event) size
    ∙ ap (λ f. listed (length names2.threads) told.lists (unwrap_or f.thread (length names.threads)) event) (sym is_found)
    ∙ ap (λ n. listed (length names2.threads) told.lists n event) (sym is_own)

-- the acting thread has a name
pub call_known : (names names2 : NameLists) (operation : Operation) (thread operand location : List ℕ) (found : Found) (own : ℕ) → found ≡ found_in names operation thread operand location → names2 ≡ with_names names operation found thread operand location → own ≡ unwrap_or found.thread (length names.threads) → own < length names2.threads
call_known names names2 operation thread operand location found own is_found are_names is_own =
    let found1 = found_in names operation thread operand location in
    let threads : length names2.threads ≡ length names.threads + cond (is_none found1.thread) 1 0 + cond (is_on_thread operation) (cond (is_none found1.operand) 1 0) 0 =
    ap (λ ns. length ns.threads) (are_names ∙ ap (λ f. with_names names operation f thread operand location) is_found) ∙ length-threads_of (is_on_thread operation) names thread operand in
    by found1.thread (found_within names.threads thread) (is_own ∙ ap (λ f. unwrap_or f.thread (length names.threads)) is_found) threads
  where
    by : (number : Option ℕ) → ((i : ℕ) → number ≡ Some i → i < length names.threads) → own ≡ unwrap_or number (length names.threads) → length names2.threads ≡ length names.threads + cond (is_none number) 1 0 + cond (is_on_thread operation) (cond (is_none (found_in names operation thread operand location).operand) 1 0) 0 → own < length names2.threads
    by None within is threads = omega (arith, is, threads)
    by (Some i) within is threads = let low = within i refl in omega (arith, is, threads, low)

-- the trace after a line that is kept
pub call_kept : (names names2 : NameLists) (states : List State) (told : Trace) (operation : Operation) (thread operand location : List ℕ) (found : Found) (event : Event) (own : ℕ) → names ≡ told.names → AreStanding told.lists states → length states ≡ length names.threads → found ≡ found_in names operation thread operand location → event ≡ event_found names operation found → names2 ≡ with_names names operation found thread operand location → own ≡ unwrap_or found.thread (length names.threads) → with_found told operation thread operand location ≡ with_judged (Told own event) names2 told
call_kept names names2 states told operation thread operand location found event own same are each is_found is_event are_names is_own =
    let found1 = found_in told.names operation thread operand location in
    let to_found : found ≡ found1 = is_found ∙ ap (λ ns. found_in ns operation thread operand location) same in
    let to_event : event ≡ event_found told.names operation found1 = is_event ∙ ap (λ ns. event_found ns operation found) same ∙ ap (event_found told.names operation) to_found in
    let to_names : with_names told.names operation found1 thread operand location ≡ names2 =
    sym (are_names ∙ ap (λ ns. with_names ns operation found thread operand location) same ∙ ap (λ f. with_names told.names operation f thread operand location) to_found) in
    let to_lists : with_lists told.lists operation found1 (event_found told.names operation found1) ≡ listed (length names2.threads) told.lists own event =
    sym (ap (λ f. with_lists told.lists operation f event) to_found ∙ ap (with_lists told.lists operation found1) to_event)
    ∙ call_listed names names2 states told operation thread operand location found event own are each is_found are_names is_own in
    (λ i. record { names = to_names i; lists = to_lists i; skipped = told.skipped; stray = told.stray })

-- a fault is the same, whatever stands in its place
abbrev fault_or : {A : Type 0} → ReadFault → Result A ReadFault → ReadFault
fault_or other (Ok a) = other
fault_or other (Err fault) = fault

pub same_fault : {A B : Type 0} (e f : ReadFault) → ◌≡◌ {A = Result A ReadFault} (Err e) (Err f) → ◌≡◌ {A = Result B ReadFault} (Err e) (Err f)
same_fault e f h = let same : e ≡ f = ap (fault_or e) h in ap (λ g. Err g) same

-- ---- lists that grow

-- one more list without events
pub grown_more : {A B : Type 0} (f : A → B) (xs ys : List A) (x : A) (front : List B) (more : ℕ) (d : B) → ys ≡ xs ++ x ∷ [] → f x ≡ d → map f xs ≡ front ++ replicate more d → map f ys ≡ front ++ replicate (more + 1) d
grown_more f xs ys x front more d items is so_far =
    ap (map f) items ∙ map-append f xs (x ∷ []) ∙ ap (λ y. map f xs ++ y ∷ []) is ∙ ap (λ t. t ++ d ∷ []) so_far
    ∙ append_assoc front (replicate more d) (d ∷ []) ∙ ap (λ t. front ++ t) (replicate_more more d)

get_map : {A B : Type 0} (f : A → B) (xs : List A) (i : ℕ) (d : A) (e : B) → i < length xs → f (get_or xs i d) ≡ get_or (map f xs) i e
get_map f [] i d e within = absurd (omega arith)
get_map f (x ∷ xs) zero d e within = refl
get_map f (x ∷ xs) (suc i) d e within = get_map f xs i d e (omega (arith, within))

-- the event at the end of its thread's list
pub put_listed : {A : Type 0} (f : A → List Event) (rows : List A) (old : List (List Event)) (threads n thread : ℕ) (event : Event) (row new : A) → map f rows ≡ old ++ replicate (threads - n) [] → n ≡ length old → thread < threads → row ≡ get_or rows thread row → f new ≡ f row ++ event ∷ [] → map f (slice_set rows thread new) ≡ listed threads old thread event
put_listed f rows old threads n thread event row new grown size within at is =
    let long : length rows ≡ length old + (threads - n) =
    sym (length-map rows f) ∙ ap length grown ∙ length-append old (replicate (threads - n) []) ∙ ap (λ m. length old + m) (length-replicate (threads - n) []) in
    let same : f row ≡ get_or (map f rows) thread [] = ap f at ∙ get_map f rows thread row [] (omega (arith, long, size, within)) in
    map-set f rows thread new
    ∙ ap (λ es. slice_set (map f rows) thread es) (is ∙ ap (λ es. es ++ event ∷ []) same)
    ∙ ap (λ all. slice_set all thread (get_or all thread [] ++ event ∷ [])) (grown ∙ ap (λ m. old ++ replicate (threads - m) []) size)

-- ---- names that have numbers

same_names : (v : Bool) (threads locks locs : List (List ℕ)) → ◌≡◌ {A = NameLists} (record { threads = threads; locks = locks; locs = locs }) (record { threads = cond v threads threads; locks = cond v locks locks; locs = locs })
same_names true threads locks locs = refl
same_names false threads locks locs = refl

-- none is added
pub known_names : (names : NameLists) (operation : Operation) (thread operand location : List ℕ) (own number loc : ℕ) → names ≡ with_names names operation (record { thread = Some own; operand = Some number; loc = Some loc }) thread operand location
known_names names operation thread operand location own number loc = same_names (is_on_thread operation) names.threads names.locks names.locs

not_more : (most n : ℕ) (v : Bool) → n ≤ most → nat_lt most (n + 0 + cond v 0 0) ≡ false
not_more most n true few = grind (arith, nat_tests, few)
not_more most n false few = grind (arith, nat_tests, few)

not_more_too : (most n : ℕ) (v : Bool) → n ≤ most → nat_lt most (n + cond v 0 0) ≡ false
not_more_too most n true few = grind (arith, nat_tests, few)
not_more_too most n false few = grind (arith, nat_tests, few)

-- so that the number of events alone may be too great
pub known_limit : (limits : Bounds) (names : NameLists) (events : ℕ) (operation : Operation) (own number loc : ℕ) → length names.threads ≤ limits.threads → length names.locks ≤ limits.names → length names.locs ≤ limits.names
    → cond (nat_le limits.events events) (Some TooManyEvents) None ≡ limit_found limits names events operation (record { thread = Some own; operand = Some number; loc = Some loc })
known_limit limits names events operation own number loc threads locks locs =
    let a = not_more limits.threads (length names.threads) (is_on_thread operation) threads in
    let b = not_more_too limits.names (length names.locks) (is_on_thread operation) locks in
    let d = not_more_too limits.names (length names.locs) true locs in
    (λ i. cond (sym a i) (Some TooManyThreads) (cond (nat_le limits.events events) (Some TooManyEvents) (cond (sym b i) (Some TooManyNames) (cond (sym d i) (Some TooManyNames) None))))
