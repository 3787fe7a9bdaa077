-- What is found of a line's names before they are added tells the trace after the line.
use Rattle.std.proofs.Common.{◌≡◌, ℕ, ◌+◌, Bool, true, false, cond, nat_lt, List, length, position, is_none, unwrap_or, Option, Some, None, refl, ap, ◌∙◌, arith}
use Rattle.std.specs.Prelude.{nat_le}
use Rattle.std.specs.Str.{bytes_eq}
use Rattle.std.proofs.lemmas.List.{length_push}
use Rattle.gl_event.specs.Bounds.{Bounds}
use Rattle.gl_event.specs.Lawful.{lock_refusal}
use Rattle.gl_event.specs.declared.events.Event.{Event}
use Rattle.gl_event.specs.declared.events.Refusal.{Refusal}
use Rattle.gl_event.specs.declared.events.Refusal.TheVariants.{PlaceFull, NoSuchThread, OnItself, NotHeld, HeldFull as NoRoom, DepthFull as TooDeep, Upgrade as IsUpgrade}
use Rattle.gl_std.specs.Line.{Operation, is_on_thread}
use Rattle.gl_std.specs.Names.{NameLists, number_of, with_new}
use Rattle.gl_std.specs.Trace.{names_after, event_of, event_told, events_of, with_event, with_list, lists_after, with_call, limit_reached, after_event, after_call}
use Rattle.gl_std.specs.bodies.Finding.{found_in, with_name, if_new, threads_after, locks_after, with_lists, operand_number, event_found, limit_found, limit_fault, ruling_of, with_names, after_ruling, after_found}
use Rattle.gl_std.specs.declared.faults.StdKind.{StdKind}
use Rattle.gl_std.specs.declared.faults.StdKind.TheVariants.{TooManyThreads, TooManyEvents, TooManyNames}
use Rattle.gl_std.specs.declared.trace.Trace.{Trace}
use Rattle.gl_std.proofs.Places.{place_after, position-push, itself}

-- ---- one name

pub length-with_name : (names : List (List ℕ)) (number : Option ℕ) (name : List ℕ) → length (with_name names number name) ≡ length names + cond (is_none number) 1 0
length-with_name names None name = length_push names name
length-with_name names (Some i) name = omega arith

-- a name has a place once it is mentioned: the one that it had, or the next one
pub placed : (names : List (List ℕ)) (name : List ℕ) → position (bytes_eq name) (with_new names name) ≡ Some (number_of names name)
placed names name = by (position (bytes_eq name) names) refl
  where
    by : (r : Option ℕ) → position (bytes_eq name) names ≡ r → position (bytes_eq name) (with_name names r name) ≡ Some (unwrap_or r (length names))
    by (Some i) e = e
    by None e = position-push (bytes_eq name) names name ∙ ap (λ r. place_after r (bytes_eq name name) (length names)) e ∙ ap (λ b. place_after None b (length names)) (itself name)

number-found : (names : List (List ℕ)) (name : List ℕ) → number_of (with_new names name) name ≡ number_of names name
number-found names name = ap (λ r. unwrap_or r (length (with_new names name))) (placed names name)

-- ---- the names of a line, where its operand is a thread, and where it is a lock

-- the threads, with the acting one
abbrev pub acting : NameLists → List ℕ → List (List ℕ)
acting names thread = with_name names.threads (position (bytes_eq thread) names.threads) thread

-- the number that the operand has
abbrev pub place_of : Bool → NameLists → List ℕ → List ℕ → Option ℕ
place_of on names thread operand = position (bytes_eq operand) (cond on (acting names thread) names.locks)

-- the threads after the line
abbrev pub threads_of : Bool → NameLists → List ℕ → List ℕ → List (List ℕ)
threads_of on names thread operand = cond on (with_name (acting names thread) (place_of on names thread operand) operand) (acting names thread)

-- the locks after the line
abbrev pub locks_of : Bool → NameLists → List ℕ → List ℕ → List (List ℕ)
locks_of on names thread operand = cond on names.locks (with_name names.locks (place_of on names thread operand) operand)

pub length-threads_of : (on : Bool) (names : NameLists) (thread operand : List ℕ) → length (threads_of on names thread operand) ≡ length names.threads + cond (is_none (position (bytes_eq thread) names.threads)) 1 0 + cond on (cond (is_none (place_of on names thread operand)) 1 0) 0
length-threads_of true names thread operand =
    omega (arith, length-with_name names.threads (position (bytes_eq thread) names.threads) thread, length-with_name (acting names thread) (place_of true names thread operand) operand)
length-threads_of false names thread operand = omega (arith, length-with_name names.threads (position (bytes_eq thread) names.threads) thread)

pub length-locks_of : (on : Bool) (names : NameLists) (thread operand : List ℕ) → length (locks_of on names thread operand) ≡ length names.locks + cond on 0 (cond (is_none (place_of on names thread operand)) 1 0)
length-locks_of true names thread operand = omega arith
length-locks_of false names thread operand = length-with_name names.locks (place_of false names thread operand) operand

-- the trace with one more event, by what is found
abbrev pub with_found : Trace → Operation → List ℕ → List ℕ → List ℕ → Trace
with_found told operation thread operand location =
    let found = found_in told.names operation thread operand location in
    record told { names = with_names told.names operation found thread operand location; lists = with_lists told.lists operation found (event_found told.names operation found) }

-- ---- the trace after a line

threads-found : (on : Bool) (names : NameLists) (thread operand : List ℕ) → cond on (with_new (with_new names.threads thread) operand) (with_new names.threads thread) ≡ threads_of on names thread operand
threads-found true names thread operand = refl
threads-found false names thread operand = refl

locks-found : (on : Bool) (names : NameLists) (thread operand : List ℕ) → cond on names.locks (with_new names.locks operand) ≡ locks_of on names thread operand
locks-found true names thread operand = refl
locks-found false names thread operand = refl

pub names-found : (names : NameLists) (operation : Operation) (thread operand location : List ℕ) → names_after names operation thread operand location ≡ with_names names operation (found_in names operation thread operand location) thread operand location
names-found names operation thread operand location =
    let on = is_on_thread operation in
    let threads = threads-found on names thread operand in
    let locks = locks-found on names thread operand in
    (λ i. record { threads = threads i; locks = locks i; locs = with_new names.locs location })

operand-number : (on : Bool) (names : NameLists) (thread operand : List ℕ) → number_of (cond on (cond on (with_new (with_new names.threads thread) operand) (with_new names.threads thread)) (cond on names.locks (with_new names.locks operand))) operand ≡ unwrap_or (place_of on names thread operand) (cond on (length names.threads + cond (is_none (position (bytes_eq thread) names.threads)) 1 0) (length names.locks))
operand-number true names thread operand =
    number-found (acting names thread) operand ∙ ap (unwrap_or (place_of true names thread operand)) (length-with_name names.threads (position (bytes_eq thread) names.threads) thread)
operand-number false names thread operand = number-found names.locks operand

pub event-found : (names : NameLists) (operation : Operation) (thread operand location : List ℕ) → event_told names operation thread operand location ≡ event_found names operation (found_in names operation thread operand location)
event-found names operation thread operand location =
    ap (λ n. event_of operation n (number_of (with_new names.locs location) location)) (operand-number (is_on_thread operation) names thread operand)
    ∙ ap (event_of operation (operand_number names operation (found_in names operation thread operand location))) (number-found names.locs location)

lists-found : (on : Bool) (names : NameLists) (lists : List (List Event)) (thread operand : List ℕ) (event : Event) → cond on (with_list (with_event lists (position (bytes_eq thread) names.threads) event) (position (bytes_eq operand) (with_new names.threads thread))) (with_event lists (position (bytes_eq thread) names.threads) event) ≡ cond on (with_list (with_event lists (position (bytes_eq thread) names.threads) event) (place_of on names thread operand)) (with_event lists (position (bytes_eq thread) names.threads) event)
lists-found true names lists thread operand event = refl
lists-found false names lists thread operand event = refl

pub trace-found : (told : Trace) (operation : Operation) (thread operand location : List ℕ) → with_call told operation thread operand location ≡ with_found told operation thread operand location
trace-found told operation thread operand location =
    let names = names-found told.names operation thread operand location in
    let found = found_in told.names operation thread operand location in
    let lists : lists_after told.names told.lists operation thread operand (event_told told.names operation thread operand location) ≡ with_lists told.lists operation found (event_found told.names operation found) =
    ap (lists_after told.names told.lists operation thread operand) (event-found told.names operation thread operand location)
    ∙ lists-found (is_on_thread operation) told.names told.lists thread operand (event_found told.names operation found) in
    (λ i. record { names = names i; lists = lists i; skipped = told.skipped; stray = told.stray })

-- the first limit, by how many there are of each
abbrev limit_by : Bounds → ℕ → ℕ → ℕ → ℕ → Option StdKind
limit_by limits events threads locks locs =
    cond (nat_lt limits.threads threads) (Some TooManyThreads)
    (cond (nat_le limits.events events) (Some TooManyEvents) (cond (nat_lt limits.names locks) (Some TooManyNames) (cond (nat_lt limits.names locs) (Some TooManyNames) None)))

limit-found : (limits : Bounds) (names : NameLists) (events : ℕ) (operation : Operation) (thread operand location : List ℕ) → limit_reached limits (names_after names operation thread operand location) events ≡ limit_found limits names events operation (found_in names operation thread operand location)
limit-found limits names events operation thread operand location =
    let on = is_on_thread operation in
    let found = found_in names operation thread operand location in
    let after = names_after names operation thread operand location in
    let threads : length after.threads ≡ threads_after names operation found = ap length (threads-found on names thread operand) ∙ length-threads_of on names thread operand in
    let locks : length after.locks ≡ locks_after names operation found = ap length (locks-found on names thread operand) ∙ length-locks_of on names thread operand in
    let locs : length after.locs ≡ length names.locs + if_new found.loc = length-with_name names.locs found.loc location in
    ap (λ n. limit_by limits events n (length after.locks) (length after.locs)) threads
    ∙ ap (λ n. limit_by limits events (threads_after names operation found) n (length after.locs)) locks
    ∙ ap (limit_by limits events (threads_after names operation found) (locks_after names operation found)) locs

ruling-found : (line : ℕ) (told kept : Trace) (r : Option Refusal) (limit : Option StdKind) → after_event line told kept r limit ≡ after_ruling line told kept (ruling_of r limit)
ruling-found line told kept None None = refl
ruling-found line told kept None (Some kind) = refl
ruling-found line told kept (Some NoRoom) limit = refl
ruling-found line told kept (Some TooDeep) limit = refl
ruling-found line told kept (Some IsUpgrade) limit = refl
ruling-found line told kept (Some NotHeld) limit = refl
ruling-found line told kept (Some PlaceFull) limit = refl
ruling-found line told kept (Some NoSuchThread) limit = refl
ruling-found line told kept (Some OnItself) limit = refl

-- the trace after a line that tells an event is the one that is found
pub call-found : (limits : Bounds) (line : ℕ) (told : Trace) (operation : Operation) (thread operand location : List ℕ) → after_call limits line told operation thread operand location ≡ after_found limits line told operation thread operand location
call-found limits line told operation thread operand location =
    let found = found_in told.names operation thread operand location in
    let before = events_of told.lists found.thread in
    let kept = with_call told operation thread operand location in
    let limit = limit_reached limits (names_after told.names operation thread operand location) (length before) in
    let event = event_found told.names operation found in
    ruling-found line told kept (lock_refusal before (event_told told.names operation thread operand location)) limit
    ∙ ap (λ e. after_ruling line told kept (ruling_of (lock_refusal before e) limit)) (event-found told.names operation thread operand location)
    ∙ ap (λ l. after_ruling line told kept (ruling_of (lock_refusal before event) l)) (limit-found limits told.names (length before) operation thread operand location)
    ∙ ap (λ t. after_ruling line told t (ruling_of (lock_refusal before event) (limit_fault limits told operation found))) (trace-found told operation thread operand location)
