-- An event that a trace told is told again, by other numbers of the same names.
use Rattle.std.proofs.Common.{◌≡◌, ◌≢◌, ℕ, ◌<◌, ◌≤◌, Bool, true, false, cond, eqb, nat_lt, List, [], ◌++◌, length, position, get_or, unwrap_or, All, AllPairs, Contains, Option, Some, None, Ok, refl, sym, ap, subst, ◌∙◌, inl, inr, arith}
use Rattle.std.specs.Prelude.{slice_get, nat_le}
use Rattle.std.specs.List.{AllZip}
use Rattle.std.specs.Str.{bytes_eq}
use Rattle.std.proofs.lemmas.Bool.{false≢true, cases_lt, eqb-true, eqb-false}
use Rattle.std.proofs.lemmas.Bool.Decides.{nat_tests}
use Rattle.std.proofs.lemmas.List.{append-nil}
use Rattle.std.proofs.lemmas.List.Elements.{All-push, AllZip-push, Contains-get_or}
use Rattle.std.proofs.lemmas.List.Folds.{list_any_at}
use Rattle.std.proofs.lemmas.List.Quantifiers.{position-Some}
use Rattle.std.proofs.lemmas.Option.{slice_get-get_or, unwrap_or-slice_get}
use Rattle.indexmap.proofs.IndexTableLemmas.Probe.{pigeonhole}
use Rattle.gl_event.specs.Bounds.{Bounds}
use Rattle.gl_event.specs.Events.{location}
use Rattle.gl_event.specs.Lawful.{lock_refusal}
use Rattle.gl_event.specs.declared.events.Event.{Event}
use Rattle.gl_event.specs.declared.events.Event.TheVariants.{Acquire, Release, TryAcquire, Fork, Join}
use Rattle.gl_std.specs.Laws.{KeptLine, IsNumbered}
use Rattle.gl_std.specs.Line.{is_on_thread}
use Rattle.gl_std.specs.Names.{NameLists}
use Rattle.gl_std.specs.Trace.{operands, event_told, names_after, limit_reached, after_event, after_shape, IsNamed, IsTraceOver}
use Rattle.gl_writing.specs.Written.{name_at, operand_name, operation_in, said}
use Rattle.gl_std.specs.bodies.Finding.{found_in, with_name, operand_number, event_found}
use Rattle.gl_std.specs.declared.faults.StdKind.TheVariants.{TooManyThreads, TooManyEvents, TooManyNames}
use Rattle.gl_std.specs.declared.trace.Trace.{Trace}
use Rattle.gl_std.proofs.FoundNames.{acting, place_of, threads_of, locks_of, length-threads_of, with_found, names-found, event-found, trace-found}
use Rattle.gl_std.proofs.Growth.{call_grows}
use Rattle.gl_std.proofs.KeptLines.{IsNumbered-more, events_named-lists_of, operand_at, name_stands}
use Rattle.gl_std.proofs.NameBytes.{list_any-absent}
use Rattle.gl_std.proofs.Places.{itself, same_name, number_of, events_named, own}
use Rattle.gl_writing.proofs.Renumbering.{Renumbered, alike_by, same_length, same_refusal}
use Rattle.gl_writing.proofs.Renumbering.Renumbered.{acquire, release, try_acquire, fork, join}
use Rattle.gl_std.proofs.WithinLimits.{names_differ, threads_of-differ, locks_of-differ, length-lists_of}

-- ---- names

-- no name stands twice among these
abbrev AreDifferent : List (List ℕ) → Type 0
AreDifferent names = AllPairs (λ a b. a ≢ b) names

-- a name that is among these has a place
has_place : (names : List (List ℕ)) (name : List ℕ) → Contains names name → (i : ℕ) × (position (bytes_eq name) names ≡ Some i)
has_place names name at = by (position (bytes_eq name) names) refl
  where
    by : (r : Option ℕ) → position (bytes_eq name) names ≡ r → (i : ℕ) × (position (bytes_eq name) names ≡ Some i)
    by (Some i) is = (i, is)
    by None is = absurd (false≢true (sym (list_any-absent (bytes_eq name) names is) ∙ list_any_at (bytes_eq name) names at.0 name at.1 (ap (bytes_eq name) at.2 ∙ itself name)))

-- a name with a place is among these
pub among : (names : List (List ℕ)) (name : List ℕ) (i : ℕ) → position (bytes_eq name) names ≡ Some i → Contains names name
among names name i is = let at = position-Some (bytes_eq name) names i name is in (i, at.0, sym (same_name name (get_or names i name) at.1))

one_index : (names : List (List ℕ)) → AreDifferent names → (i j : ℕ) → i < length names → j < length names → get_or names i [] ≡ get_or names j [] → i ≡ j
one_index names differ i j a b same =
    elim (cases_lt i j) [
      | inl low ↦ absurd (differ i j [] low b same)
      | inr high ↦ elim (cases_lt j i) [ inl low ↦ absurd (differ j i [] low a (sym same)) | inr low ↦ omega (arith, high, low) ]
    ]

-- the place among others of the name at this place
abbrev place_among : List (List ℕ) → List (List ℕ) → ℕ → ℕ
place_among others names k = unwrap_or (position (bytes_eq (get_or names k [])) others) 0

placed_among : (names others : List (List ℕ)) → All (Contains others) names → (k : ℕ) → k < length names → (place_among others names k < length others) × (get_or names k [] ≡ get_or others (place_among others names k) [])
placed_among names others known k h =
    let name = get_or names k [] in
    let is = has_place others name (known k [] h) in
    let at = position-Some (bytes_eq name) others is.0 [] is.1 in
    subst (λ r. (unwrap_or r 0 < length others) × (name ≡ get_or others (unwrap_or r 0) [])) (sym is.1) (at.0, same_name name (get_or others is.0 []) at.1)

-- different names that are all among others are no more than these
fewer : (names others : List (List ℕ)) → AreDifferent names → All (Contains others) names → length names ≤ length others
fewer names others differ known =
    pigeonhole (length names) (length others) (place_among others names) (λ k h. (placed_among names others known k h).0)
    (λ i j a b same. one_index names differ i j a b ((placed_among names others known i a).1 ∙ ap (λ n. get_or others n []) same ∙ sym (placed_among names others known j b).1))

-- a name stands at these numbers in one list and in another
abbrev IsSameName : List (List ℕ) → List (List ℕ) → ℕ → ℕ → Type 0
IsSameName old new a b = (name : List ℕ) × (slice_get old a ≡ Some name) × (slice_get new b ≡ Some name)

same_some : {X : Type 0} (x y : X) → Some x ≡ Some y → x ≡ y
same_some x y h = cc

one_place : (names : List (List ℕ)) (name : List ℕ) (a b : ℕ) → AreDifferent names → slice_get names a ≡ Some name → slice_get names b ≡ Some name → a ≡ b
one_place names name a b differ first second = same_some a b (sym (number_of names name name a differ first (itself name)) ∙ number_of names name name b differ second (itself name))

-- where names are the same in two lists of different ones, so are numbers
next_to : (old new : List (List ℕ)) (a b k l : ℕ) → AreDifferent new → IsSameName old new a b → IsSameName old new k l → a ≡ k → b ≡ l
next_to old new a b k l differ here there same = one_place new here.0 b l differ here.2 (there.2 ∙ sym (sym here.1 ∙ ap (slice_get old) same ∙ there.1))

same_numbers : (old new : List (List ℕ)) → AreDifferent old → AreDifferent new → (a b k l : ℕ) → IsSameName old new a b → IsSameName old new k l → eqb a k ≡ eqb b l
same_numbers old new olds news a b k l here there = by (eqb a k) refl (eqb b l) refl
  where
    back : b ≡ l → a ≡ k
    back = next_to new old b a l k olds (here.0, here.2, here.1) (there.0, there.2, there.1)

    by : (p : Bool) → eqb a k ≡ p → (q : Bool) → eqb b l ≡ q → p ≡ q
    by true x true y = refl
    by true x false y = absurd (eqb-false b l y (next_to old new a b k l news here there (eqb-true a k x)))
    by false x true y = absurd (eqb-false a k x (back (eqb-true b l y)))
    by false x false y = refl

-- ---- an event that is told again

-- the line that tells the event by these names, and tells another one
abbrev retold : NameLists → List ℕ → Event → Event → KeptLine
retold names thread e f = record { operation = operation_in e; thread = thread; operand = operand_name names e; loc = name_at names.locs (location e); event = f }

-- the event is told again by the numbers that its names have now
pub record IsRetold (old new : NameLists) (thread : List ℕ) (e f : Event) : Type 0 where
  pub named : IsNamed old e
  pub numbered : IsNumbered new (retold old thread e f)

name_there : (names : List (List ℕ)) (n : ℕ) → n < length names → slice_get names n ≡ Some (name_at names n)
name_there names n within = slice_get-get_or names n [] within ∙ ap (λ x. Some x) (sym (unwrap_or-slice_get names n []))

renumbered : (old new : NameLists) (thread : List ℕ) (e f : Event) → IsRetold old new thread e f → Renumbered (IsSameName old.locks new.locks) e f
renumbered old new thread (Acquire mode lock loc) f is =
    subst (Renumbered (IsSameName old.locks new.locks) (Acquire mode lock loc)) (sym is.numbered.event_is)
    (acquire lock is.numbered.operand_number mode loc is.numbered.loc_number (name_at old.locks lock, name_there old.locks lock is.named.0, is.numbered.operand_at))
renumbered old new thread (Release mode lock loc) f is =
    subst (Renumbered (IsSameName old.locks new.locks) (Release mode lock loc)) (sym is.numbered.event_is)
    (release lock is.numbered.operand_number mode loc is.numbered.loc_number (name_at old.locks lock, name_there old.locks lock is.named.0, is.numbered.operand_at))
renumbered old new thread (TryAcquire mode lock loc) f is =
    subst (Renumbered (IsSameName old.locks new.locks) (TryAcquire mode lock loc)) (sym is.numbered.event_is)
    (try_acquire lock is.numbered.operand_number mode loc is.numbered.loc_number (name_at old.locks lock, name_there old.locks lock is.named.0, is.numbered.operand_at))
renumbered old new thread (Fork other loc) f is =
    subst (Renumbered (IsSameName old.locks new.locks) (Fork other loc)) (sym is.numbered.event_is) (fork other is.numbered.operand_number loc is.numbered.loc_number)
renumbered old new thread (Join other loc) f is =
    subst (Renumbered (IsSameName old.locks new.locks) (Join other loc)) (sym is.numbered.event_is) (join other is.numbered.operand_number loc is.numbered.loc_number)

name_among : (names : List (List ℕ)) (n : ℕ) → n < length names → Contains names (name_at names n)
name_among names n within = subst (Contains names) (sym (unwrap_or-slice_get names n [])) (Contains-get_or names n [] within)

operand_among : (names : NameLists) (e : Event) → IsNamed names e → Contains (operands (operation_in e) names) (operand_name names e)
operand_among names (Acquire mode lock loc) named = name_among names.locks lock named.0
operand_among names (Release mode lock loc) named = name_among names.locks lock named.0
operand_among names (TryAcquire mode lock loc) named = name_among names.locks lock named.0
operand_among names (Fork other loc) named = name_among names.threads other named.0
operand_among names (Join other loc) named = name_among names.threads other named.0

loc_among : (names : NameLists) (e : Event) → IsNamed names e → Contains names.locs (name_at names.locs (location e))
loc_among names (Acquire mode lock loc) named = name_among names.locs loc named.1
loc_among names (Release mode lock loc) named = name_among names.locs loc named.1
loc_among names (TryAcquire mode lock loc) named = name_among names.locs loc named.1
loc_among names (Fork other loc) named = name_among names.locs loc named.1
loc_among names (Join other loc) named = name_among names.locs loc named.1

-- ---- the names after a line

module _ (P : List ℕ → Type 0) where
  all_with_name : (names : List (List ℕ)) (number : Option ℕ) (name : List ℕ) → All P names → P name → All P (with_name names number name)
  all_with_name names None name all here = All-push P names name all here
  all_with_name names (Some i) name all here = all

  all_threads_of : (on : Bool) (names : NameLists) (thread operand : List ℕ) → All P names.threads → P thread → (on ≡ true → P operand) → All P (threads_of on names thread operand)
  all_threads_of true names thread operand all here other =
      all_with_name (acting names thread) (place_of true names thread operand) operand (all_with_name names.threads (position (bytes_eq thread) names.threads) thread all here) (other refl)
  all_threads_of false names thread operand all here other = all_with_name names.threads (position (bytes_eq thread) names.threads) thread all here

  all_locks_of : (on : Bool) (names : NameLists) (thread operand : List ℕ) → All P names.locks → (on ≡ false → P operand) → All P (locks_of on names thread operand)
  all_locks_of true names thread operand all other = all
  all_locks_of false names thread operand all other = all_with_name names.locks (place_of false names thread operand) operand all (other refl)

-- ---- what was told again so far

-- these events of each thread were told again, and no other names than theirs
pub record HasRetold (trace told : Trace) (so_far : List ℕ → List Event) : Type 0 where
  pub one_list_each : length told.lists ≡ length told.names.threads
  pub threads_differ : AreDifferent told.names.threads
  pub locks_differ : AreDifferent told.names.locks
  pub locs_differ : AreDifferent told.names.locs
  pub threads_known : All (Contains trace.names.threads) told.names.threads
  pub locks_known : All (Contains trace.names.locks) told.names.locks
  pub locs_known : All (Contains trace.names.locs) told.names.locs
  pub none_skipped : told.skipped ≡ 0
  pub none_stray : told.stray ≡ 0
  pub events : (name : List ℕ) → AllZip (IsRetold trace.names told.names name) (so_far name) (events_named told.names.threads told.lists name)

-- the trace with the event told again
abbrev pub with_retold : Trace → Trace → List ℕ → Event → Trace
with_retold trace told thread e = with_found told (operation_in e) thread (operand_name trace.names e) (name_at trace.names.locs (location e))

module _ (trace told : Trace) (so_far : List ℕ → List Event) (thread : List ℕ) (e : Event) (named : IsNamed trace.names e) (known : Contains trace.names.threads thread) (has : HasRetold trace told so_far) where
  abbrev on : Bool
  on = is_on_thread (operation_in e)

  abbrev operand : List ℕ
  operand = operand_name trace.names e

  abbrev place : List ℕ
  place = name_at trace.names.locs (location e)

  abbrev new : Trace
  new = with_retold trace told thread e

  -- the event by the numbers that its names have now
  abbrev again : Event
  again = event_found told.names (operation_in e) (found_in told.names (operation_in e) thread operand place)

  next_retold : IsRetold trace.names new.names thread e again
  next_retold =
      record {
        named = named;
        numbered = record {
          operand_number = operand_number told.names (operation_in e) (found_in told.names (operation_in e) thread operand place);
          loc_number = unwrap_or (position (bytes_eq place) told.names.locs) (length told.names.locs);
          operand_at = operand_at on told.names thread operand;
          loc_at = name_stands told.names.locs place;
          event_is = refl;
        };
      }

  -- what was told again stays
  still_retold : (name : List ℕ) → AllZip (IsRetold trace.names new.names name) (so_far name) (events_named told.names.threads told.lists name)
  still_retold name =
      alike_by (IsRetold trace.names told.names name) (IsRetold trace.names new.names name)
      (λ x y is. record { named = is.named; numbered = IsNumbered-more told new (call_grows told (operation_in e) thread operand place) (retold trace.names name x y) is.numbered })
      (so_far name) (events_named told.names.threads told.lists name) (has.events name)

  next_events : (name : List ℕ) → AllZip (IsRetold trace.names new.names name) (so_far name ++ own (bytes_eq name thread) e) (events_named new.names.threads new.lists name)
  next_events name =
      subst (AllZip (IsRetold trace.names new.names name) (so_far name ++ own (bytes_eq name thread) e)) (sym (events_named-lists_of on told.names told.lists thread operand name again has.one_list_each)) (by (bytes_eq name thread) refl)
    where
      by : (b : Bool) → bytes_eq name thread ≡ b → AllZip (IsRetold trace.names new.names name) (so_far name ++ own b e) (events_named told.names.threads told.lists name ++ own b again)
      by true same = AllZip-push (IsRetold trace.names new.names name) (so_far name) (events_named told.names.threads told.lists name) e again (still_retold name) (subst (λ t. IsRetold trace.names new.names t e again) (sym (same_name name thread same)) next_retold)
      by false same =
          subst (AllZip (IsRetold trace.names new.names name) (so_far name ++ [])) (sym (append-nil (events_named told.names.threads told.lists name)))
          (subst (λ es. AllZip (IsRetold trace.names new.names name) es (events_named told.names.threads told.lists name)) (sym (append-nil (so_far name))) (still_retold name))

  pub has_retold-next : HasRetold trace new (λ name. so_far name ++ own (bytes_eq name thread) e)
  has_retold-next =
      let among_operands = operand_among trace.names e named in
      let operand_known = λ (b : Bool) (h : on ≡ b). subst (λ o. Contains (cond o trace.names.threads trace.names.locks) operand) h among_operands in
      let sizes = length-threads_of on told.names thread operand in
      record {
        one_list_each = omega (arith, length-lists_of on told.lists (position (bytes_eq thread) told.names.threads) (place_of on told.names thread operand) again, sizes, has.one_list_each);
        threads_differ = threads_of-differ on told.names thread operand has.threads_differ;
        locks_differ = locks_of-differ on told.names thread operand has.locks_differ;
        locs_differ = names_differ told.names.locs (position (bytes_eq place) told.names.locs) place refl has.locs_differ;
        threads_known = all_threads_of (Contains trace.names.threads) on told.names thread operand has.threads_known known (operand_known true);
        locks_known = all_locks_of (Contains trace.names.locks) on told.names thread operand has.locks_known (operand_known false);
        locs_known = all_with_name (Contains trace.names.locs) told.names.locs (position (bytes_eq place) told.names.locs) place has.locs_known (loc_among trace.names e named);
        none_skipped = has.none_skipped;
        none_stray = has.none_stray;
        events = next_events;
      }

  -- the locks allow the event again, and so do the limits
  locks_allow : AreDifferent trace.names.locks → lock_refusal (so_far thread) e ≡ None → lock_refusal (events_named told.names.threads told.lists thread) again ≡ None
  locks_allow olds allowed =
      let fs = events_named told.names.threads told.lists thread in
      let R = IsSameName trace.names.locks new.names.locks in
      let alike = alike_by (IsRetold trace.names new.names thread) (Renumbered R) (renumbered trace.names new.names thread) (so_far thread) fs (still_retold thread) in
      sym (same_refusal R (same_numbers trace.names.locks new.names.locks olds has_retold-next.locks_differ) (so_far thread) fs e again alike (renumbered trace.names new.names thread e again next_retold)) ∙ allowed

  limits_allow : (limits : Bounds) → IsTraceOver limits trace → length (so_far thread) < limits.events → limit_reached limits new.names (length (events_named told.names.threads told.lists thread)) ≡ None
  limits_allow limits over room =
      let fs = events_named told.names.threads told.lists thread in
      let is = has_retold-next in
      let few_threads = fewer new.names.threads trace.names.threads is.threads_differ is.threads_known in
      let few_locks = fewer new.names.locks trace.names.locks is.locks_differ is.locks_known in
      let few_locs = fewer new.names.locs trace.names.locs is.locs_differ is.locs_known in
      let as_many = same_length (IsRetold trace.names told.names thread) (so_far thread) fs (has.events thread) in
      let threads : nat_lt limits.threads (length new.names.threads) ≡ false = let h : length new.names.threads ≤ limits.threads = omega (arith, few_threads, over.threads_fit) in grind (arith, nat_tests, h) in
      let events : nat_le limits.events (length fs) ≡ false = let h : length fs < limits.events = omega (arith, as_many, room) in grind (arith, nat_tests, h) in
      let locks : nat_lt limits.names (length new.names.locks) ≡ false = let h : length new.names.locks ≤ limits.names = omega (arith, few_locks, over.locks_fit) in grind (arith, nat_tests, h) in
      let locs : nat_lt limits.names (length new.names.locs) ≡ false = let h : length new.names.locs ≤ limits.names = omega (arith, few_locs, over.locs_fit) in grind (arith, nat_tests, h) in
      λ i. cond (threads i) (Some TooManyThreads) (cond (events i) (Some TooManyEvents) (cond (locks i) (Some TooManyNames) (cond (locs i) (Some TooManyNames) None)))

  -- the line is read again
  pub line_again : (limits : Bounds) (number : ℕ) → IsTraceOver limits trace → lock_refusal (so_far thread) e ≡ None → length (so_far thread) < limits.events → after_shape limits number told (said trace.names thread e) ≡ Ok new
  line_again limits number over allowed room =
      let fs = events_named told.names.threads told.lists thread in
      let call = trace-found told (operation_in e) thread operand place in
      let locks : lock_refusal fs (event_told told.names (operation_in e) thread operand place) ≡ None = ap (lock_refusal fs) (event-found told.names (operation_in e) thread operand place) ∙ locks_allow over.locks_differ allowed in
      let limit : limit_reached limits (names_after told.names (operation_in e) thread operand place) (length fs) ≡ None =
      ap (λ n. limit_reached limits n (length fs)) (names-found told.names (operation_in e) thread operand place) ∙ limits_allow limits over room in
      λ i. after_event number told (call i) (locks i) (limit i)
