-- A line leaves a trace that obeys the limits as one that does.
use Rattle.std.proofs.Common.{◌≡◌, ◌≢◌, ℕ, zero, suc, ◌+◌, ◌<◌, ◌≤◌, ◌⊎◌, Bool, true, false, ◌&&◌, cond, eqb, List, [], ◌∷◌, ◌++◌, length, Option, Some, None, Result, Ok, Err, All, AllPairs, get_or, position, is_none, unwrap_or, refl, sym, ap, subst, ◌∙◌, inl, inr, ⊎_elim, add-zero, arith}
use Rattle.std.specs.Prelude.{slice_get, slice_set, nat_le, nat_lt}
use Rattle.std.specs.Str.{bytes_eq}
use Rattle.std.proofs.lemmas.Bool.{false≢true, ne_eqb}
use Rattle.std.proofs.lemmas.Bool.Decides.{nat_tests}
use Rattle.std.proofs.lemmas.List.{length-set, length_push, get_or_push}
use Rattle.std.proofs.lemmas.List.Elements.{All-push, All-weaker}
use Rattle.std.proofs.lemmas.List.Folds.{list_any_at}
use Rattle.std.proofs.lemmas.List.Quantifiers.{position-Some, all_pairs_push}
use Rattle.std.proofs.lemmas.Slice.Eq.{bytes_eq-Decides}
use Rattle.gl_event.specs.Bounds.{Bounds}
use Rattle.gl_event.specs.Lawful.{lock_refusal, refusal, IsLawful}
use Rattle.gl_event.proofs.Lawfulness.{IsLawful-nil, IsLawful-push}
use Rattle.gl_event.specs.declared.events.Event.{Event}
use Rattle.gl_event.specs.declared.events.Event.TheVariants.{Acquire, Release, TryAcquire, Fork, Join}
use Rattle.gl_event.specs.declared.events.Refusal.{Refusal}
use Rattle.gl_event.specs.declared.events.Refusal.TheVariants.{PlaceFull, NoSuchThread, OnItself, NotHeld, HeldFull as NoRoom, DepthFull as TooDeep, Upgrade as IsUpgrade}
use Rattle.gl_std.specs.Line.{Operation, Shape, shape_of, is_on_itself, is_on_thread}
use Rattle.gl_std.specs.bodies.Judgements.{AreApart}
use Rattle.gl_std.proofs.Shapes.{shape_of_apart}
use Rattle.gl_std.specs.Line.Shape.{Blank, Bad, Other, Call}
use Rattle.gl_std.specs.Laws.{ReadingGoesOn}
use Rattle.gl_std.specs.Lines.{LF, lines}
use Rattle.gl_std.proofs.LinesOfTexts.{lines-after_line}
use Rattle.gl_std.specs.Names.{NameLists}
use Rattle.gl_std.specs.Trace.{events_of, with_event, with_list, event_of, after_call, after_shape, after_line, and_then, read_from, nothing, trace_of, IsNamed, IsTraceOver}
use Rattle.gl_std.specs.bodies.Finding.{found_in, with_name, if_new, threads_after, locks_after, event_found, limit_fault, ruling_of, with_names, after_ruling}
use Rattle.gl_std.specs.declared.faults.StdKind.{StdKind}
use Rattle.gl_std.specs.declared.faults.ReadFault.{ReadFault}
use Rattle.gl_std.specs.declared.faults.ReadFault.TheVariants.{Line}
use Rattle.gl_std.specs.Line.Operation.{Acquire as AcquireOf, Release as ReleaseOf, TryAcquire as TryAcquireOf, Fork as ForkOf, Join as JoinOf}
use Rattle.gl_std.specs.declared.names.Found.{Found}
use Rattle.gl_std.specs.declared.ruling.Ruling.{Ruling}
use Rattle.gl_std.specs.declared.ruling.Ruling.TheVariants.{Kept, Stray, Fault}
use Rattle.gl_std.specs.declared.trace.Trace.{Trace}
use Rattle.gl_std.proofs.FoundNames.{length-with_name, acting, place_of, threads_of, locks_of, length-threads_of, length-locks_of, with_found, call-found}
use Rattle.gl_std.proofs.NameBytes.{list_any-absent}

-- ---- names

-- a number that was given is that of a name
abbrev IsWithin : Option ℕ → ℕ → Type 0
IsWithin number most = (i : ℕ) → number ≡ Some i → i < most

pub found_within : (names : List (List ℕ)) (name : List ℕ) → IsWithin (position (bytes_eq name) names) (length names)
found_within names name i is = (position-Some (bytes_eq name) names i [] is).0

names_grow : (names : List (List ℕ)) (number : Option ℕ) (name : List ℕ) → length names ≤ length (with_name names number name)
names_grow names None name = omega (arith, length_push names name)
names_grow names (Some i) name = omega arith

-- the number of a name lies below their count
number_below : (names : List (List ℕ)) (number : Option ℕ) (name : List ℕ) → IsWithin number (length names) → unwrap_or number (length names) < length (with_name names number name)
number_below names None name within = omega (arith, length_push names name)
number_below names (Some i) name within = within i refl

absent_differs : (names : List (List ℕ)) (name : List ℕ) → position (bytes_eq name) names ≡ None → (k : ℕ) (d : List ℕ) → k < length names → get_or names k d ≢ name
absent_differs names name absent k d within same =
    false≢true (sym (list_any-absent (bytes_eq name) names absent) ∙ list_any_at (bytes_eq name) names k d within ((bytes_eq-Decides name (get_or names k d)).1 (sym same)))

pub names_differ : (names : List (List ℕ)) (number : Option ℕ) (name : List ℕ) → number ≡ position (bytes_eq name) names → AllPairs (λ a b. a ≢ b) names → AllPairs (λ a b. a ≢ b) (with_name names number name)
names_differ names None name is differ = all_pairs_push (λ a b. a ≢ b) names name differ (absent_differs names name (sym is))
names_differ names (Some i) name is differ = differ

-- ---- lists

at_or_nil : (lists : List (List Event)) (i : ℕ) → (slice_get lists i ≡ Some (get_or lists i [])) ⊎ (get_or lists i [] ≡ [])
at_or_nil [] i = inr refl
at_or_nil (es ∷ lists) zero = inl refl
at_or_nil (es ∷ lists) (suc i) = at_or_nil lists i

-- what holds of no events and of each list holds of a thread's events
events_have : (P : List Event → Type 0) (lists : List (List Event)) (number : Option ℕ) → P [] → ((k : ℕ) (es : List Event) → slice_get lists k ≡ Some es → P es) → P (events_of lists number)
events_have P lists None none each = none
events_have P lists (Some i) none each = ⊎_elim (λ at. each i (get_or lists i []) at) (λ nil. subst P (sym nil) none) (at_or_nil lists i)

-- the thread's number, or the next one
abbrev thread_number : List (List Event) → Option ℕ → ℕ
thread_number lists number = unwrap_or number (length lists)

set_at : (lists : List (List Event)) (i : ℕ) (new : List Event) (k : ℕ) (es : List Event) → slice_get (slice_set lists i new) k ≡ Some es → (slice_get lists k ≡ Some es) ⊎ ((es ≡ new) × (k ≡ i))
set_at [] i new k es h = inl h
set_at (x ∷ lists) zero new zero es h = let same : new ≡ es = cc in inr (sym same, refl)
set_at (x ∷ lists) zero new (suc k) es h = inl h
set_at (x ∷ lists) (suc i) new zero es h = inl h
set_at (x ∷ lists) (suc i) new (suc k) es h = ⊎_elim (λ old. inl old) (λ here. inr (here.0, ap suc here.1)) (set_at lists i new k es h)

push_at : (lists : List (List Event)) (new : List Event) (k : ℕ) (es : List Event) → slice_get (lists ++ new ∷ []) k ≡ Some es → (slice_get lists k ≡ Some es) ⊎ ((es ≡ new) × (k ≡ length lists))
push_at [] new zero es h = let same : new ≡ es = cc in inr (sym same, refl)
push_at [] new (suc k) es h = absurd (some_none h)
  where
    some_none : None ≡ Some es → ⊥
    some_none e = cc
push_at (x ∷ lists) new zero es h = inl h
push_at (x ∷ lists) new (suc k) es h = ⊎_elim (λ old. inl old) (λ here. inr (here.0, ap suc here.1)) (push_at lists new k es h)

-- a list after an event is one from before, or the thread's with the event
with_event_at : (lists : List (List Event)) (number : Option ℕ) (e : Event) (k : ℕ) (es : List Event) → slice_get (with_event lists number e) k ≡ Some es → (slice_get lists k ≡ Some es) ⊎ ((es ≡ events_of lists number ++ e ∷ []) × (k ≡ thread_number lists number))
with_event_at lists None e k es h = push_at lists (e ∷ []) k es h
with_event_at lists (Some i) e k es h = set_at lists i (get_or lists i [] ++ e ∷ []) k es h

pub length-with_event : (lists : List (List Event)) (number : Option ℕ) (e : Event) → length (with_event lists number e) ≡ length lists + cond (is_none number) 1 0
length-with_event lists None e = length_push lists (e ∷ [])
length-with_event lists (Some i) e = omega (arith, length-set lists i (get_or lists i [] ++ e ∷ []))

-- the thread's own list is among the lists
events_lawful : (limits : Bounds) (lists : List (List Event)) (number : Option ℕ) → ((k : ℕ) (es : List Event) → slice_get lists k ≡ Some es → IsLawful limits k es) → IsLawful limits (thread_number lists number) (events_of lists number)
events_lawful limits lists None each = IsLawful-nil limits (length lists)
events_lawful limits lists (Some i) each = ⊎_elim (λ at. each i (get_or lists i []) at) (λ nil. subst (IsLawful limits i) (sym nil) (IsLawful-nil limits i)) (at_or_nil lists i)

-- ---- an event

-- where its list isn't full, only the locks refuse an acquire or a release, and nothing refuses a fork or a join of
-- another thread
refusal_by_locks : (limits : Bounds) (thread : ℕ) (es : List Event) (operation : Operation) (operand loc : ℕ) → nat_le limits.events (length es) ≡ false → lock_refusal es (event_of operation operand loc) ≡ None → (is_on_thread operation ≡ true → (operand < limits.threads) × (operand ≢ thread)) → refusal limits thread es (event_of operation operand loc) ≡ None
unfolding refusal
refusal_by_locks limits thread es (AcquireOf mode) lock loc room locks other = ap (λ v. cond v (Some PlaceFull) (lock_refusal es (Acquire mode lock loc))) room ∙ locks
refusal_by_locks limits thread es (ReleaseOf mode) lock loc room locks other = ap (λ v. cond v (Some PlaceFull) (lock_refusal es (Release mode lock loc))) room ∙ locks
refusal_by_locks limits thread es (TryAcquireOf mode) lock loc room locks other = ap (λ v. cond v (Some PlaceFull) (lock_refusal es (TryAcquire mode lock loc))) room ∙ locks
refusal_by_locks limits thread es ForkOf partner loc room locks other =
    let is = other refl in
    let below : nat_le limits.threads partner ≡ false = let low = is.0 in grind (arith, nat_tests, low) in
    let apart = ne_eqb partner thread is.1 in
    ap (λ v. cond v (Some PlaceFull) (cond (nat_le limits.threads partner) (Some NoSuchThread) (cond (eqb partner thread) (Some OnItself) (lock_refusal es (Fork partner loc))))) room
    ∙ ap (λ v. cond v (Some NoSuchThread) (cond (eqb partner thread) (Some OnItself) (lock_refusal es (Fork partner loc)))) below
    ∙ ap (λ v. cond v (Some OnItself) (lock_refusal es (Fork partner loc))) apart ∙ locks
refusal_by_locks limits thread es JoinOf partner loc room locks other =
    let is = other refl in
    let below : nat_le limits.threads partner ≡ false = let low = is.0 in grind (arith, nat_tests, low) in
    let apart = ne_eqb partner thread is.1 in
    ap (λ v. cond v (Some PlaceFull) (cond (nat_le limits.threads partner) (Some NoSuchThread) (cond (eqb partner thread) (Some OnItself) (lock_refusal es (Join partner loc))))) room
    ∙ ap (λ v. cond v (Some NoSuchThread) (cond (eqb partner thread) (Some OnItself) (lock_refusal es (Join partner loc)))) below
    ∙ ap (λ v. cond v (Some OnItself) (lock_refusal es (Join partner loc))) apart ∙ locks

IsNamed-told : (names : NameLists) (operation : Operation) (operand loc : ℕ) → (is_on_thread operation ≡ false → operand < length names.locks) → (is_on_thread operation ≡ true → operand < length names.threads) → loc < length names.locs → IsNamed names (event_of operation operand loc)
IsNamed-told names (AcquireOf mode) lock loc a b c = (a refl, c)
IsNamed-told names (ReleaseOf mode) lock loc a b c = (a refl, c)
IsNamed-told names (TryAcquireOf mode) lock loc a b c = (a refl, c)
IsNamed-told names ForkOf other loc a b c = (b refl, c)
IsNamed-told names JoinOf other loc a b c = (b refl, c)

IsNamed-more : (old new : NameLists) → length old.threads ≤ length new.threads → length old.locks ≤ length new.locks → length old.locs ≤ length new.locs → (e : Event) → IsNamed old e → IsNamed new e
IsNamed-more old new a b c (Acquire mode lock loc) h = (omega (arith, h.0, b), omega (arith, h.1, c))
IsNamed-more old new a b c (Release mode lock loc) h = (omega (arith, h.0, b), omega (arith, h.1, c))
IsNamed-more old new a b c (TryAcquire mode lock loc) h = (omega (arith, h.0, b), omega (arith, h.1, c))
IsNamed-more old new a b c (Fork t loc) h = (omega (arith, h.0, a), omega (arith, h.1, c))
IsNamed-more old new a b c (Join t loc) h = (omega (arith, h.0, a), omega (arith, h.1, c))

-- what isn't on itself is on another thread
on_other : (operation : Operation) (thread operand : List ℕ) → is_on_itself operation thread operand ≡ false → is_on_thread operation ≡ true → bytes_eq operand thread ≡ false
on_other operation thread operand apart on = sym (ap (λ a. a && bytes_eq operand thread) on) ∙ apart

-- ---- the names of a line, where its operand is a thread, and where it is a lock

-- the number that the operand gets
abbrev number_of : Bool → NameLists → List ℕ → List ℕ → ℕ
number_of on names thread operand =
    unwrap_or (place_of on names thread operand) (cond on (length names.threads + cond (is_none (position (bytes_eq thread) names.threads)) 1 0) (length names.locks))

-- the lists after the line
abbrev pub lists_of : Bool → List (List Event) → Option ℕ → Option ℕ → Event → List (List Event)
lists_of on lists number place e = cond on (with_list (with_event lists number e) place) (with_event lists number e)

length-with_list : (lists : List (List Event)) (number : Option ℕ) → length (with_list lists number) ≡ length lists + cond (is_none number) 1 0
length-with_list lists None = length_push lists []
length-with_list lists (Some i) = omega arith

pub length-lists_of : (on : Bool) (lists : List (List Event)) (number place : Option ℕ) (e : Event) → length (lists_of on lists number place e) ≡ length lists + cond (is_none number) 1 0 + cond on (cond (is_none place) 1 0) 0
length-lists_of true lists number place e = omega (arith, length-with_event lists number e, length-with_list (with_event lists number e) place)
length-lists_of false lists number place e = omega (arith, length-with_event lists number e)

pub threads_of-differ : (on : Bool) (names : NameLists) (thread operand : List ℕ) → AllPairs (λ a b. a ≢ b) names.threads → AllPairs (λ a b. a ≢ b) (threads_of on names thread operand)
threads_of-differ true names thread operand differ =
    names_differ (acting names thread) (place_of true names thread operand) operand refl (names_differ names.threads (position (bytes_eq thread) names.threads) thread refl differ)
threads_of-differ false names thread operand differ = names_differ names.threads (position (bytes_eq thread) names.threads) thread refl differ

pub locks_of-differ : (on : Bool) (names : NameLists) (thread operand : List ℕ) → AllPairs (λ a b. a ≢ b) names.locks → AllPairs (λ a b. a ≢ b) (locks_of on names thread operand)
locks_of-differ true names thread operand differ = differ
locks_of-differ false names thread operand differ = names_differ names.locks (place_of false names thread operand) operand refl differ

-- an operand's number is that of a name
lock_named : (on : Bool) (names : NameLists) (thread operand : List ℕ) → on ≡ false → number_of on names thread operand < length (locks_of on names thread operand)
lock_named true names thread operand h = absurd (false≢true (sym h))
lock_named false names thread operand h = number_below names.locks (place_of false names thread operand) operand (found_within names.locks operand)

thread_named : (on : Bool) (names : NameLists) (thread operand : List ℕ) → on ≡ true → number_of on names thread operand < length (threads_of on names thread operand)
thread_named true names thread operand h =
    let below = number_below (acting names thread) (place_of true names thread operand) operand (found_within (acting names thread) operand) in
    let size = length-with_name names.threads (position (bytes_eq thread) names.threads) thread in
    subst (λ n. unwrap_or (place_of true names thread operand) n < length (threads_of true names thread operand)) size below
thread_named false names thread operand h = absurd (false≢true h)

-- the acting thread has its name's number
acting_at : (names : List (List ℕ)) (thread : List ℕ) → get_or (with_name names (position (bytes_eq thread) names) thread) (unwrap_or (position (bytes_eq thread) names) (length names)) [] ≡ thread
acting_at names thread = by (position (bytes_eq thread) names) refl
  where
    by : (r : Option ℕ) → position (bytes_eq thread) names ≡ r → get_or (with_name names r thread) (unwrap_or r (length names)) [] ≡ thread
    by None e = get_or_push names thread [] (length names) refl
    by (Some i) e = let at = position-Some (bytes_eq thread) names i [] e in sym ((bytes_eq-Decides thread (get_or names i [])).0 at.1)

-- another thread has another number
numbers_differ : (on : Bool) (names : NameLists) (thread operand : List ℕ) → on ≡ true → bytes_eq operand thread ≡ false → number_of on names thread operand ≢ unwrap_or (position (bytes_eq thread) names.threads) (length names.threads)
numbers_differ false names thread operand h apart same = absurd (false≢true h)
numbers_differ true names thread operand h apart same = by (place_of true names thread operand) refl same
  where
    number : Option ℕ
    number = position (bytes_eq thread) names.threads

    by : (r : Option ℕ) → place_of true names thread operand ≡ r → unwrap_or r (length names.threads + cond (is_none number) 1 0) ≡ unwrap_or number (length names.threads) → ⊥
    by None e same =
        let below = number_below names.threads number thread (found_within names.threads thread) in
        let size = length-with_name names.threads number thread in
        omega (arith, same, below, size)
    by (Some j) e same =
        let at = position-Some (bytes_eq operand) (acting names thread) j [] e in
        false≢true (sym apart ∙ ap (bytes_eq operand) (sym (acting_at names.threads thread) ∙ ap (λ n. get_or (acting names thread) n []) (sym same)) ∙ at.1)

-- a list after the line is one after the event, or is empty
lists_of_at : (on : Bool) (lists : List (List Event)) (number place : Option ℕ) (e : Event) (k : ℕ) (es : List Event) → slice_get (lists_of on lists number place e) k ≡ Some es → (slice_get (with_event lists number e) k ≡ Some es) ⊎ (es ≡ [])
lists_of_at false lists number place e k es h = inl h
lists_of_at true lists number (Some i) e k es h = inl h
lists_of_at true lists number None e k es h = ⊎_elim (λ old. inl old) (λ new. inr new.0) (push_at (with_event lists number e) [] k es h)

-- what holds of no events, of each list from before, and of the thread's with its event, holds of each list after the line
each_list : (P : ℕ → List Event → Type 0) (on : Bool) (lists : List (List Event)) (number place : Option ℕ) (e : Event) → ((k : ℕ) → P k []) → ((k : ℕ) (es : List Event) → slice_get lists k ≡ Some es → P k es) → P (thread_number lists number) (events_of lists number ++ e ∷ []) → (k : ℕ) (es : List Event) → slice_get (lists_of on lists number place e) k ≡ Some es → P k es
each_list P on lists number place e none each own k es at =
    ⊎_elim
    (λ told. ⊎_elim (λ old. each k es old) (λ here. subst (P k) (sym here.0) (subst (λ n. P n (events_of lists number ++ e ∷ [])) (sym here.1) own)) (with_event_at lists number e k es told))
    (λ nil. subst (P k) (sym nil) (none k))
    (lists_of_at on lists number place e k es at)

-- no limit forbids the event
record IsAllowed (limits : Bounds) (told : Trace) (operation : Operation) (found : Found) : Type 0 where
  threads : nat_lt limits.threads (threads_after told.names operation found) ≡ false
  events : nat_le limits.events (length (events_of told.lists found.thread)) ≡ false
  locks : nat_lt limits.names (locks_after told.names operation found) ≡ false
  locs : nat_lt limits.names (length told.names.locs + if_new found.loc) ≡ false

not_over : (most n : ℕ) → nat_lt most n ≡ false → n ≤ most
not_over most n h = grind (arith, nat_tests, h)

kept_over : (limits : Bounds) (told : Trace) (operation : Operation) (thread operand location : List ℕ) → IsTraceOver limits told → is_on_itself operation thread operand ≡ false → IsAllowed limits told operation (found_in told.names operation thread operand location) → lock_refusal (events_of told.lists (found_in told.names operation thread operand location).thread) (event_found told.names operation (found_in told.names operation thread operand location)) ≡ None → IsTraceOver limits (with_found told operation thread operand location)
kept_over limits told operation thread operand location over apart allowed locks =
    let names = told.names in
    let on = is_on_thread operation in
    let found = found_in names operation thread operand location in
    let event = event_found names operation found in
    let number = number_of on names thread operand in
    let new = with_names names operation found thread operand location in
    let within_locs = found_within names.locs location in
    let es0 = events_of told.lists found.thread in
    let k0 = thread_number told.lists found.thread in
    let threads_size = length-threads_of on names thread operand in
    let locks_size = length-locks_of on names thread operand in
    let locs_size = length-with_name names.locs found.loc location in
    let threads_fit : length new.threads ≤ limits.threads = let fits = not_over limits.threads (threads_after names operation found) allowed.threads in omega (arith, threads_size, fits) in
    let other_named = thread_named on names thread operand in
    let differ : on ≡ true → number ≢ k0 = λ h. subst (λ n. number ≢ unwrap_or found.thread n) (sym over.one_list_each) (numbers_differ on names thread operand h (on_other operation thread operand apart h)) in
    let lawful0 : IsLawful limits k0 (es0 ++ event ∷ []) =
    IsLawful-push limits k0 es0 event (events_lawful limits told.lists found.thread over.lawful) (refusal_by_locks limits k0 es0 operation number (unwrap_or found.loc (length names.locs)) allowed.events locks (λ h. (let low = other_named h in omega (arith, low, threads_fit), differ h))) in
    let named_event : IsNamed new event =
    IsNamed-told new operation number (unwrap_or found.loc (length names.locs)) (lock_named on names thread operand) other_named (number_below names.locs found.loc location within_locs) in
    let more_threads : length names.threads ≤ length new.threads = omega (arith, threads_size) in
    let more_locks : length names.locks ≤ length new.locks = omega (arith, locks_size) in
    let more = IsNamed-more names new more_threads more_locks (names_grow names.locs found.loc location) in
    let named_nil : All (IsNamed new) [] = λ k d h. absurd (omega arith) in
    let named0 : All (IsNamed new) (es0 ++ event ∷ []) =
    All-push (IsNamed new) es0 event (events_have (All (IsNamed new)) told.lists found.thread named_nil (λ k es at. All-weaker (IsNamed names) (IsNamed new) more es (over.named k es at))) named_event in
    let fits0 : length (es0 ++ event ∷ []) ≤ limits.events = let room : length es0 < limits.events = grind (arith, nat_tests, allowed.events) in omega (arith, length_push es0 event) in
    let each = λ (P : ℕ → List Event → Type 0). each_list P on told.lists found.thread found.operand event in
    record {
      one_list_each = omega (arith, length-lists_of on told.lists found.thread found.operand event, threads_size, over.one_list_each);
      threads_fit = threads_fit;
      locks_fit = let fits = not_over limits.names (locks_after names operation found) allowed.locks in omega (arith, locks_size, fits);
      locs_fit = let fits = not_over limits.names (length names.locs + if_new found.loc) allowed.locs in omega (arith, locs_size, fits);
      threads_differ = threads_of-differ on names thread operand over.threads_differ;
      locks_differ = locks_of-differ on names thread operand over.locks_differ;
      locs_differ = names_differ names.locs found.loc location refl over.locs_differ;
      events_fit = each (λ k es. length es ≤ limits.events) (λ k. omega arith) over.events_fit fits0;
      lawful = each (IsLawful limits) (IsLawful-nil limits) over.lawful lawful0;
      named = each (λ k es. All (IsNamed new) es) (λ k. named_nil) (λ k es old. All-weaker (IsNamed names) (IsNamed new) more es (over.named k es old)) named0;
    }

-- ---- a line

-- what was counted doesn't matter
counted_over : (limits : Bounds) (told : Trace) (skipped stray : ℕ) → IsTraceOver limits told → IsTraceOver limits (record { names = told.names; lists = told.lists; skipped = skipped; stray = stray })
counted_over limits told skipped stray over =
    record {
      one_list_each = over.one_list_each;
      threads_fit = over.threads_fit;
      locks_fit = over.locks_fit;
      locs_fit = over.locs_fit;
      threads_differ = over.threads_differ;
      locks_differ = over.locks_differ;
      locs_differ = over.locs_differ;
      events_fit = over.events_fit;
      lawful = over.lawful;
      named = over.named;
    }

abbrev trace_or : Trace → Result Trace ReadFault → Trace
trace_or other (Ok told) = told
trace_or other (Err fault) = other

-- the answer is this trace
abbrev pub IsTrace : Result Trace ReadFault → Trace → Type 0
IsTrace answer told = answer ≡ Ok told

pub same_trace : (a b : Trace) → IsTrace (Ok a) b → a ≡ b
same_trace a b h = ap (trace_or a) h

pub no_trace : (fault : ReadFault) (b : Trace) → IsTrace (Err fault) b → ⊥
no_trace fault b h = cc

pub kept_ruling : (r : Option Refusal) (limit : Option StdKind) → ruling_of r limit ≡ Kept → (r ≡ None) × (limit ≡ None)
kept_ruling None None h = (refl, refl)
kept_ruling None (Some kind) h = absurd cc
kept_ruling (Some NotHeld) limit h = absurd cc
kept_ruling (Some NoRoom) limit h = absurd cc
kept_ruling (Some TooDeep) limit h = absurd cc
kept_ruling (Some IsUpgrade) limit h = absurd cc
kept_ruling (Some PlaceFull) limit h = absurd cc
kept_ruling (Some NoSuchThread) limit h = absurd cc
kept_ruling (Some OnItself) limit h = absurd cc

-- where no limit is named, none forbids
no_limit : (k1 k2 k3 k4 : StdKind) (a b c d : Bool) → cond a (Some k1) (cond b (Some k2) (cond c (Some k3) (cond d (Some k4) None))) ≡ None → (a ≡ false) × (b ≡ false) × (c ≡ false) × (d ≡ false)
no_limit k1 k2 k3 k4 true b c d h = absurd cc
no_limit k1 k2 k3 k4 false true c d h = absurd cc
no_limit k1 k2 k3 k4 false false true d h = absurd cc
no_limit k1 k2 k3 k4 false false false true h = absurd cc
no_limit k1 k2 k3 k4 false false false false h = (refl, refl, refl, refl)

allowed : (limits : Bounds) (told : Trace) (operation : Operation) (found : Found) → limit_fault limits told operation found ≡ None → IsAllowed limits told operation found
allowed limits told operation found h =
    let all = no_limit _ _ _ _ (nat_lt limits.threads (threads_after told.names operation found)) (nat_le limits.events (length (events_of told.lists found.thread))) (nat_lt limits.names (locks_after told.names operation found)) (nat_lt limits.names (length told.names.locs + if_new found.loc)) h in
    record { threads = all.0; events = all.1; locks = all.2; locs = all.3 }

after_ruling_over : (limits : Bounds) (line : ℕ) (told kept more : Trace) (v : Ruling) → IsTraceOver limits told → (v ≡ Kept → IsTraceOver limits kept) → IsTrace (after_ruling line told kept v) more → IsTraceOver limits more
after_ruling_over limits line told kept more Kept over new is = subst (IsTraceOver limits) (same_trace kept more is) (new refl)
after_ruling_over limits line told kept more Stray over new is = subst (IsTraceOver limits) (same_trace (record told { stray = told.stray + 1 }) more is) (counted_over limits told told.skipped (told.stray + 1) over)
after_ruling_over limits line told kept more (Fault kind) over new is = absurd (no_trace (Line line kind) more is)

after_call_over : (limits : Bounds) (line : ℕ) (told more : Trace) (operation : Operation) (thread operand location : List ℕ) → IsTraceOver limits told → is_on_itself operation thread operand ≡ false → IsTrace (after_call limits line told operation thread operand location) more → IsTraceOver limits more
after_call_over limits line told more operation thread operand location over apart is =
    let found = found_in told.names operation thread operand location in
    let event = event_found told.names operation found in
    let by_found = sym (call-found limits line told operation thread operand location) ∙ is in
    let refused = lock_refusal (events_of told.lists found.thread) event in
    let limit = limit_fault limits told operation found in
    after_ruling_over limits line told (with_found told operation thread operand location) more (ruling_of refused limit) over
    (λ keeps. let none = kept_ruling refused limit keeps in kept_over limits told operation thread operand location over apart (allowed limits told operation found none.1) none.0)
    by_found

pub after_shape_over : (limits : Bounds) (line : ℕ) (told more : Trace) (shape : Shape) → AreApart shape → IsTraceOver limits told → IsTrace (after_shape limits line told shape) more → IsTraceOver limits more
after_shape_over limits line told more Blank apart over is = subst (IsTraceOver limits) (same_trace told more is) over
after_shape_over limits line told more (Bad kind) apart over is = absurd (no_trace (Line line kind) more is)
after_shape_over limits line told more Other apart over is = subst (IsTraceOver limits) (same_trace (record told { skipped = told.skipped + 1 }) more is) (counted_over limits told (told.skipped + 1) told.stray over)
after_shape_over limits line told more (Call operation thread operand location) apart over is = after_call_over limits line told more operation thread operand location over apart is

-- a line leaves a trace that obeys the limits
pub after_line_over : (limits : Bounds) (number : ℕ) (told more : Trace) (line : List ℕ) → IsTraceOver limits told → IsTrace (after_line limits number told line) more → IsTraceOver limits more
after_line_over limits number told more line over is = after_shape_over limits number told more (shape_of line) (shape_of_apart line) over is

-- and so do all lines
read_from_over : (limits : Bounds) (ls : List (List ℕ)) (number : ℕ) (told more : Trace) → IsTraceOver limits told → IsTrace (read_from limits number told ls) more → IsTraceOver limits more
read_from_over limits [] number told more over is = subst (IsTraceOver limits) (same_trace told more is) over
read_from_over limits (line ∷ ls) number told more over is = by (after_line limits number told line) refl (λ next. read_from_over limits ls (number + 1) next more) is
  where
    by : (r : Result Trace ReadFault) → after_line limits number told line ≡ r → ((next : Trace) → IsTraceOver limits next → IsTrace (read_from limits (number + 1) next ls) more → IsTraceOver limits more) → IsTrace (and_then r (λ next. read_from limits (number + 1) next ls)) more → IsTraceOver limits more
    by (Ok next) here later is = later next (after_line_over limits number told next line over here) is
    by (Err fault) here later is = absurd (no_trace fault more is)

-- the trace of no lines obeys all limits
pub nothing_over : (limits : Bounds) → IsTraceOver limits nothing
nothing_over limits =
    record {
      one_list_each = refl;
      threads_fit = omega arith;
      locks_fit = omega arith;
      locs_fit = omega arith;
      threads_differ = λ i j d a b. absurd (omega arith);
      locks_differ = λ i j d a b. absurd (omega arith);
      locs_differ = λ i j d a b. absurd (omega arith);
      events_fit = λ k es at. absurd (no_list es at);
      lawful = λ k es at. absurd (no_list es at);
      named = λ k es at. absurd (no_list es at);
    }
  where
    no_list : (es : List Event) → None ≡ Some es → ⊥
    no_list es e = cc

-- the trace of a text obeys the limits
pub trace_of_over : (limits : Bounds) (text : List ℕ) (trace : Trace) → IsTrace (trace_of limits text) trace → IsTraceOver limits trace
unfolding trace_of
trace_of_over limits text trace is = read_from_over limits (lines text) 1 nothing trace (nothing_over limits) is

-- ---- reading

-- an event that is kept, by what was found out of it
-- the trace of a text is that of its lines
pub trace_of-lines : (limits : Bounds) (text : List ℕ) → read_from limits 1 nothing (lines text) ≡ trace_of limits text
unfolding trace_of
trace_of-lines limits text = refl

-- lines are read one list after another
pub read_from-append : (limits : Bounds) (ls ms : List (List ℕ)) (number : ℕ) (told : Trace) → read_from limits number told (ls ++ ms) ≡ and_then (read_from limits number told ls) (λ more. read_from limits (number + length ls) more ms)
read_from-append limits [] ms number told = ap (λ n. read_from limits n told ms) (sym (add-zero number))
read_from-append limits (line ∷ ls) ms number told = by (after_line limits number told line) (λ next. read_from-append limits ls ms (number + 1) next)
  where
    by : (r : Result Trace ReadFault) → ((next : Trace) → read_from limits (number + 1) next (ls ++ ms) ≡ and_then (read_from limits (number + 1) next ls) (λ more. read_from limits (number + 1 + length ls) more ms)) → and_then r (λ next. read_from limits (number + 1) next (ls ++ ms)) ≡ and_then (and_then r (λ next. read_from limits (number + 1) next ls)) (λ more. read_from limits (number + length (line ∷ ls)) more ms)
    by (Ok next) later =
        let same : number + 1 + length ls ≡ number + length (line ∷ ls) = omega arith in
        later next ∙ ap (λ n. and_then (read_from limits (number + 1) next ls) (λ more. read_from limits n more ms)) same
    by (Err fault) later = refl

pub trace_of-append : ReadingGoesOn
unfolding trace_of
trace_of-append limits front rest =
    ap (read_from limits 1 nothing) (lines-after_line front rest) ∙ read_from-append limits (lines (front ++ LF ∷ [])) (lines rest) 1 nothing
