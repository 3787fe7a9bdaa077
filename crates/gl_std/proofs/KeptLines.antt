-- The trace of a text tells the lines that are kept as events.
use Rattle.std.proofs.Common.{◌≡◌, ℕ, ◌+◌, Bool, true, false, cond, eqb, List, [], ◌∷◌, ◌++◌, length, map, filter, fold, position, count_by, get_or, is_none, unwrap_or, All, Option, Some, None, Result, Ok, Err, refl, sym, ap, subst, ◌∙◌, append_assoc, length-append, arith}
use Rattle.std.specs.Prelude.{slice_get, nat_le}
use Rattle.std.specs.List.{flat_map}
use Rattle.std.specs.Str.{bytes_eq}
use Rattle.std.proofs.lemmas.List.{map-append}
use Rattle.std.proofs.lemmas.List.Sums.{fold-append, sum_by-append}
use Rattle.std.proofs.lemmas.Grind.{flat_map-append}
use Rattle.std.proofs.lemmas.List.Elements.{filter-append, All-append, All-push, All-weaker}
use Rattle.std.proofs.lemmas.List.Quantifiers.{position-Some}
use Rattle.std.proofs.lemmas.Option.{slice_get_within, slice_get-get_or}
use Rattle.std.proofs.lemmas.Slice.Eq.{bytes_eq-Decides}
use Rattle.gl_event.specs.Bounds.{Bounds}
use Rattle.gl_event.specs.Events.{depth, held, held_mode}
use Rattle.gl_event.specs.Lawful.{lock_refusal, acquire_refusal, is_upgrade}
use Rattle.gl_event.specs.declared.events.Event.{Event}
use Rattle.gl_event.specs.declared.events.Event.TheVariants.{Acquire, Release, TryAcquire, Fork, Join}
use Rattle.gl_event.specs.declared.events.LockMode.{LockMode}
use Rattle.gl_event.specs.declared.events.Refusal.TheVariants.{NotHeld, HeldFull as NoRoom, DepthFull as TooDeep, Upgrade as IsUpgrade}
use Rattle.gl_event.specs.declared.held.TheConstants.{MAX_HELD, MAX_DEPTH}
use Rattle.gl_event.proofs.Depths.{slice_get_before, slice_get_last}
use Rattle.gl_std.specs.Laws.{IsFront, Grows, KeptLine, IsNumbered, threads_in, locks_in, is_stray, is_other, is_call, kept_in, kept_from, if_told, TracesTellLines}
use Rattle.gl_std.specs.Names.{NameLists, with_new}
use Rattle.gl_std.specs.Line.{Operation, Shape, shape_of, is_on_thread}
use Rattle.gl_std.specs.Line.Shape.{Blank, Bad, Other, Call}
use Rattle.gl_std.specs.Lines.{lines}
use Rattle.gl_std.specs.Trace.{operands, with_event, events_of, after_shape, after_line, and_then, read_from, nothing, trace_of, IsTraceOver}
use Rattle.gl_std.specs.bodies.Finding.{found_in, with_name, operand_number, event_found, limit_fault, ruling_of, after_ruling}
use Rattle.gl_std.specs.declared.faults.StdKind.{StdKind}
use Rattle.gl_std.specs.declared.faults.ReadFault.{ReadFault}
use Rattle.gl_std.specs.declared.faults.ReadFault.TheVariants.{Line}
use Rattle.gl_std.specs.declared.ruling.Ruling.{Ruling}
use Rattle.gl_std.specs.declared.ruling.Ruling.TheVariants.{Kept, Stray, Fault}
use Rattle.gl_std.specs.declared.trace.Trace.{Trace}
use Rattle.gl_std.proofs.Growth.{Grows-itself, Grows-then, call_grows}
use Rattle.gl_std.proofs.FoundNames.{length-with_name, acting, place_of, threads_of, locks_of, with_found, event-found, call-found}
use Rattle.gl_std.proofs.WithinLimits.{IsTrace, lists_of, length-with_event, same_trace, no_trace, kept_ruling, after_line_over, nothing_over}
use Rattle.gl_std.proofs.Places.{events_named, own, events_named-after, events_named-listed}

-- the trace after more lines, which say this, and of which these are kept
record Tells (old : Trace) (shapes : List Shape) (kept : List KeptLine) (new : Trace) : Type 0 where
  threads : new.names.threads ≡ fold with_new old.names.threads (flat_map threads_in kept)
  locks : new.names.locks ≡ fold with_new old.names.locks (flat_map locks_in kept)
  locs : new.names.locs ≡ fold with_new old.names.locs (map (λ line. line.loc) kept)
  grows : Grows old new
  numbered : All (IsNumbered new.names) kept
  lists : (name : List ℕ) → events_named new.names.threads new.lists name ≡ events_named old.names.threads old.lists name ++ map (λ line. line.event) (filter (λ line. bytes_eq name line.thread) kept)
  skipped : new.skipped ≡ old.skipped + count_by is_other shapes
  stray : length kept + new.stray ≡ old.stray + count_by is_call shapes

append_nil : {X : Type 0} (xs : List X) → xs ++ [] ≡ xs
append_nil [] = refl
append_nil (x ∷ xs) = ap (λ ys. x ∷ ys) (append_nil xs)

Tells-none : (told : Trace) (shapes : List Shape) (skipped stray : ℕ) → skipped ≡ told.skipped + count_by is_other shapes → stray ≡ told.stray + count_by is_call shapes → Tells told shapes [] (record { names = told.names; lists = told.lists; skipped = skipped; stray = stray })
Tells-none told shapes skipped stray a b =
    record {
      threads = refl;
      locks = refl;
      locs = refl;
      grows = Grows-itself told skipped stray;
      numbered = λ k d h. absurd (omega arith);
      lists = λ name. sym (append_nil (events_named told.names.threads told.lists name));
      skipped = a;
      stray = omega (arith, b);
    }

fold_two : (f : KeptLine → List ℕ) (ms ns : List KeptLine) (seen mid new : List (List ℕ)) → mid ≡ fold with_new seen (map f ms) → new ≡ fold with_new mid (map f ns) → new ≡ fold with_new seen (map f (ms ++ ns))
fold_two f [] ns seen mid new a b = b ∙ ap (λ s. fold with_new s (map f ns)) a
fold_two f (m ∷ ms) ns seen mid new a b = fold_two f ms ns (with_new seen (f m)) mid new a b

fold_all : (f : KeptLine → List (List ℕ)) (ms ns : List KeptLine) (seen mid new : List (List ℕ)) → mid ≡ fold with_new seen (flat_map f ms) → new ≡ fold with_new mid (flat_map f ns) → new ≡ fold with_new seen (flat_map f (ms ++ ns))
fold_all f ms ns seen mid new a b =
    b ∙ ap (λ s. fold with_new s (flat_map f ns)) a ∙ sym (fold-append with_new seen (flat_map f ms) (flat_map f ns)) ∙ ap (fold with_new seen) (sym (flat_map-append f ms ns))

lists_two : (p : KeptLine → Bool) (ms ns : List KeptLine) → map (λ line. line.event) (filter p (ms ++ ns)) ≡ map (λ line. line.event) (filter p ms) ++ map (λ line. line.event) (filter p ns)
lists_two p ms ns = ap (map (λ line. line.event)) (filter-append p ms ns) ∙ map-append (λ line. line.event) (filter p ms) (filter p ns)

get_front : (xs ys : List (List ℕ)) (i : ℕ) (x : List ℕ) → IsFront xs ys → slice_get xs i ≡ Some x → slice_get ys i ≡ Some x
get_front xs ys i x front at = ap (λ l. slice_get l i) front.1 ∙ slice_get_before xs front.0 i (slice_get_within xs i x at) ∙ at

operands_front : (on : Bool) (a b : Trace) → Grows a b → IsFront (cond on a.names.threads a.names.locks) (cond on b.names.threads b.names.locks)
operands_front true a b grows = grows.threads
operands_front false a b grows = grows.locks

-- a name keeps its number
pub IsNumbered-more : (a b : Trace) → Grows a b → (line : KeptLine) → IsNumbered a.names line → IsNumbered b.names line
IsNumbered-more a b grows line is =
    record {
      operand_number = is.operand_number;
      loc_number = is.loc_number;
      operand_at = get_front (operands line.operation a.names) (operands line.operation b.names) is.operand_number line.operand (operands_front (is_on_thread line.operation) a b grows) is.operand_at;
      loc_at = get_front a.names.locs b.names.locs is.loc_number line.loc grows.locs is.loc_at;
      event_is = is.event_is;
    }

count_two : {X : Type 0} (p : X → Bool) (xs ys : List X) → count_by p (xs ++ ys) ≡ count_by p xs + count_by p ys
count_two p xs ys = sum_by-append (λ x. cond (p x) 1 0) xs ys

Tells-then : (a b c : Trace) (ss ts : List Shape) (ms ns : List KeptLine) → Tells a ss ms b → Tells b ts ns c → Tells a (ss ++ ts) (ms ++ ns) c
Tells-then a b c ss ts ms ns one two =
    record {
      threads = fold_all threads_in ms ns a.names.threads b.names.threads c.names.threads one.threads two.threads;
      locks = fold_all locks_in ms ns a.names.locks b.names.locks c.names.locks one.locks two.locks;
      locs = fold_two (λ line. line.loc) ms ns a.names.locs b.names.locs c.names.locs one.locs two.locs;
      grows = Grows-then a b c one.grows two.grows;
      numbered = All-append (IsNumbered c.names) ms ns (All-weaker (IsNumbered b.names) (IsNumbered c.names) (IsNumbered-more b c two.grows) ms one.numbered) two.numbered;
      lists = λ name.
          let front = map (λ line. line.event) (filter (λ line. bytes_eq name line.thread) ms) in
          let back = map (λ line. line.event) (filter (λ line. bytes_eq name line.thread) ns) in
          two.lists name ∙ ap (λ es. es ++ back) (one.lists name) ∙ append_assoc (events_named a.names.threads a.lists name) front back ∙ ap (λ es. events_named a.names.threads a.lists name ++ es) (sym (lists_two (λ line. bytes_eq name line.thread) ms ns));
      skipped = omega (arith, one.skipped, two.skipped, count_two is_other ss ts);
      stray = omega (arith, one.stray, two.stray, count_two is_call ss ts, length-append ms ns);
    }

-- ---- which events are strays

acquire_no_stray : (held room deep up : Bool) (limit : Option StdKind) → ruling_of (cond held (cond room (Some NoRoom) None) (cond deep (Some TooDeep) (cond up (Some IsUpgrade) None))) limit ≡ Stray → ⊥
acquire_no_stray true true deep up limit h = cc
acquire_no_stray true false deep up None h = cc
acquire_no_stray true false deep up (Some kind) h = cc
acquire_no_stray false room true up limit h = cc
acquire_no_stray false room false true limit h = cc
acquire_no_stray false room false false None h = cc
acquire_no_stray false room false false (Some kind) h = cc

closing_no_stray : (limit : Option StdKind) → ruling_of None limit ≡ Stray → ⊥
closing_no_stray None h = cc
closing_no_stray (Some kind) h = cc

release_stray : (none : Bool) (limit : Option StdKind) → ruling_of (cond none (Some NotHeld) None) limit ≡ Stray → none ≡ true
release_stray true limit h = refl
release_stray false limit h = absurd (closing_no_stray limit h)

acquired_stray : (es : List Event) (lock : ℕ) (mode : LockMode) (limit : Option StdKind) → ruling_of (acquire_refusal es lock mode) limit ≡ Stray → ⊥
unfolding acquire_refusal
acquired_stray es lock mode limit h = acquire_no_stray (eqb (depth es lock) 0) (nat_le MAX_HELD (length (held es))) (nat_le MAX_DEPTH (depth es lock)) (is_upgrade (held_mode es lock) mode) limit h

dropped_stray : (es : List Event) (e : Event) (limit : Option StdKind) → ruling_of (lock_refusal es e) limit ≡ Stray → is_stray es e ≡ true
unfolding lock_refusal
dropped_stray es (Acquire mode lock loc) limit h = absurd (acquired_stray es lock mode limit h)
dropped_stray es (Release mode lock loc) limit h = release_stray (eqb (depth es lock) 0) limit h
dropped_stray es (TryAcquire mode lock loc) limit h = absurd (acquired_stray es lock mode limit h)
dropped_stray es (Fork thread loc) limit h = absurd (closing_no_stray limit h)
dropped_stray es (Join thread loc) limit h = absurd (closing_no_stray limit h)

release_kept : (none : Bool) → cond none (Some NotHeld) None ≡ None → none ≡ false
release_kept true h = absurd cc
release_kept false h = refl

allowed_no_stray : (es : List Event) (e : Event) → lock_refusal es e ≡ None → is_stray es e ≡ false
unfolding lock_refusal
allowed_no_stray es (Acquire mode lock loc) h = refl
allowed_no_stray es (Release mode lock loc) h = release_kept (eqb (depth es lock) 0) h
allowed_no_stray es (TryAcquire mode lock loc) h = refl
allowed_no_stray es (Fork thread loc) h = refl
allowed_no_stray es (Join thread loc) h = refl

after_ruling-kept : (number : ℕ) (told kept more : Trace) (shapes : List Shape) (line : KeptLine) (v : Ruling) (stray : Bool) → (v ≡ Kept → stray ≡ false) → (v ≡ Stray → stray ≡ true) → Tells told shapes [] (record told { stray = told.stray + 1 }) → Tells told shapes (line ∷ []) kept → IsTrace (after_ruling number told kept v) more → Tells told shapes (cond stray [] (line ∷ [])) more
after_ruling-kept number told kept more shapes line Kept stray keeps drops none new is =
    subst (λ b. Tells told shapes (cond b [] (line ∷ [])) more) (sym (keeps refl)) (subst (Tells told shapes (line ∷ [])) (same_trace kept more is) new)
after_ruling-kept number told kept more shapes line Stray stray keeps drops none new is =
    subst (λ b. Tells told shapes (cond b [] (line ∷ [])) more) (sym (drops refl)) (subst (Tells told shapes []) (same_trace (record told { stray = told.stray + 1 }) more is) none)
after_ruling-kept number told kept more shapes line (Fault kind) stray keeps drops none new is = absurd (no_trace (Line number kind) more is)

own_event : (b : Bool) (line : KeptLine) → own b line.event ≡ map (λ l. l.event) (cond b (line ∷ []) [])
own_event true line = refl
own_event false line = refl

threads_of-mentioned : (on : Bool) (names : NameLists) (thread operand : List ℕ) → threads_of on names thread operand ≡ fold with_new names.threads ((thread ∷ cond on (operand ∷ []) []) ++ [])
threads_of-mentioned true names thread operand = refl
threads_of-mentioned false names thread operand = refl

locks_of-mentioned : (on : Bool) (names : NameLists) (thread operand : List ℕ) → locks_of on names thread operand ≡ fold with_new names.locks (cond on [] (operand ∷ []) ++ [])
locks_of-mentioned true names thread operand = refl
locks_of-mentioned false names thread operand = refl

-- the event goes to the end of its own thread's events, and to no other's
pub events_named-lists_of : (on : Bool) (names : NameLists) (lists : List (List Event)) (thread operand name : List ℕ) (e : Event) → length lists ≡ length names.threads → events_named (threads_of on names thread operand) (lists_of on lists (position (bytes_eq thread) names.threads) (place_of on names thread operand) e) name ≡ events_named names.threads lists name ++ own (bytes_eq name thread) e
events_named-lists_of false names lists thread operand name e each = events_named-after names.threads lists thread name e each
events_named-lists_of true names lists thread operand name e each =
    let number = position (bytes_eq thread) names.threads in
    let sizes : length (with_event lists number e) ≡ length (acting names thread) = omega (arith, length-with_event lists number e, length-with_name names.threads number thread, each) in
    events_named-listed (acting names thread) (with_event lists number e) operand name sizes ∙ events_named-after names.threads lists thread name e each

-- the name stands at its number
pub name_stands : (names : List (List ℕ)) (name : List ℕ) → slice_get (with_name names (position (bytes_eq name) names) name) (unwrap_or (position (bytes_eq name) names) (length names)) ≡ Some name
name_stands names name = by (position (bytes_eq name) names) refl
  where
    by : (r : Option ℕ) → position (bytes_eq name) names ≡ r → slice_get (with_name names r name) (unwrap_or r (length names)) ≡ Some name
    by None e = slice_get_last names name
    by (Some i) e =
        let at = position-Some (bytes_eq name) names i [] e in
        slice_get-get_or names i [] at.0 ∙ ap (λ n. Some n) (sym ((bytes_eq-Decides name (get_or names i [])).0 at.1))

pub operand_at : (on : Bool) (names : NameLists) (thread operand : List ℕ) → slice_get (cond on (threads_of on names thread operand) (locks_of on names thread operand)) (unwrap_or (place_of on names thread operand) (cond on (length names.threads + cond (is_none (position (bytes_eq thread) names.threads)) 1 0) (length names.locks))) ≡ Some operand
operand_at true names thread operand =
    subst (λ n. slice_get (threads_of true names thread operand) (unwrap_or (place_of true names thread operand) n) ≡ Some operand) (length-with_name names.threads (position (bytes_eq thread) names.threads) thread) (name_stands (acting names thread) operand)
operand_at false names thread operand = name_stands names.locks operand

one_line : (P : KeptLine → Type 0) (line : KeptLine) → P line → All P (line ∷ [])
one_line P line is = All-push P [] line (λ k d h. absurd (omega arith)) is

-- the trace with the call tells its line
call_told : (told : Trace) (operation : Operation) (thread operand location : List ℕ) → length told.lists ≡ length told.names.threads → Tells told (Call operation thread operand location ∷ []) (record { operation = operation; thread = thread; operand = operand; loc = location; event = event_found told.names operation (found_in told.names operation thread operand location) } ∷ []) (with_found told operation thread operand location)
call_told told operation thread operand location each =
    let found = found_in told.names operation thread operand location in
    let event = event_found told.names operation found in
    let on = is_on_thread operation in
    let line : KeptLine = record { operation = operation; thread = thread; operand = operand; loc = location; event = event } in
    let new = with_found told operation thread operand location in
    let numbered : IsNumbered new.names line = record {
      operand_number = operand_number told.names operation found;
      loc_number = unwrap_or found.loc (length told.names.locs);
      operand_at = operand_at on told.names thread operand;
      loc_at = name_stands told.names.locs location;
      event_is = refl;
    } in
    record {
      threads = threads_of-mentioned on told.names thread operand;
      locks = locks_of-mentioned on told.names thread operand;
      locs = refl;
      grows = call_grows told operation thread operand location;
      numbered = one_line (IsNumbered new.names) line numbered;
      lists = λ name. events_named-lists_of on told.names told.lists thread operand name event each ∙ ap (λ es. events_named told.names.threads told.lists name ++ es) (own_event (bytes_eq name thread) line);
      skipped = omega arith;
      stray = omega arith;
    }

after_shape-kept : (limits : Bounds) (number : ℕ) (told more : Trace) (shape : Shape) → length told.lists ≡ length told.names.threads → IsTrace (after_shape limits number told shape) more → Tells told (shape ∷ []) (kept_in told shape) more
after_shape-kept limits number told more Blank each is = subst (Tells told (Blank ∷ []) []) (same_trace told more is) (Tells-none told (Blank ∷ []) told.skipped told.stray (omega arith) (omega arith))
after_shape-kept limits number told more (Bad kind) each is = absurd (no_trace (Line number kind) more is)
after_shape-kept limits number told more Other each is = subst (Tells told (Other ∷ []) []) (same_trace (record told { skipped = told.skipped + 1 }) more is) (Tells-none told (Other ∷ []) (told.skipped + 1) told.stray (omega arith) (omega arith))
after_shape-kept limits number told more (Call operation thread operand location) each is =
    let found = found_in told.names operation thread operand location in
    let event = event_found told.names operation found in
    let es = events_of told.lists found.thread in
    let limit = limit_fault limits told operation found in
    let line : KeptLine = record { operation = operation; thread = thread; operand = operand; loc = location; event = event } in
    let shapes = Call operation thread operand location ∷ [] in
    let keeps : Event → List KeptLine = λ e. cond (is_stray es e) [] (record { operation = operation; thread = thread; operand = operand; loc = location; event = e } ∷ []) in
    subst (λ e. Tells told shapes (keeps e) more) (sym (event-found told.names operation thread operand location))
    (after_ruling-kept number told (with_found told operation thread operand location) more shapes line (ruling_of (lock_refusal es event) limit) (is_stray es event)
    (λ kept. allowed_no_stray es event (kept_ruling (lock_refusal es event) limit kept).0)
    (λ dropped. dropped_stray es event limit dropped)
    (Tells-none told shapes told.skipped (told.stray + 1) (omega arith) (omega arith))
    (call_told told operation thread operand location each)
    (sym (call-found limits number told operation thread operand location) ∙ is))

read_from-kept : (limits : Bounds) (ls : List (List ℕ)) (number : ℕ) (told more : Trace) → IsTraceOver limits told → IsTrace (read_from limits number told ls) more → Tells told (map shape_of ls) (kept_from limits number told ls) more
read_from-kept limits [] number told more over is = subst (Tells told [] []) (same_trace told more is) (Tells-none told [] told.skipped told.stray (omega arith) (omega arith))
read_from-kept limits (line ∷ ls) number told more over is = by (after_line limits number told line) refl (λ next. read_from-kept limits ls (number + 1) next more) is
  where
    by : (r : Result Trace ReadFault) → after_line limits number told line ≡ r → ((next : Trace) → IsTraceOver limits next → IsTrace (read_from limits (number + 1) next ls) more → Tells next (map shape_of ls) (kept_from limits (number + 1) next ls) more) → IsTrace (and_then r (λ next. read_from limits (number + 1) next ls)) more → Tells told (shape_of line ∷ map shape_of ls) (kept_in told (shape_of line) ++ if_told r (λ next. kept_from limits (number + 1) next ls)) more
    by (Ok next) here later is = Tells-then told next more (shape_of line ∷ []) (map shape_of ls) (kept_in told (shape_of line)) (kept_from limits (number + 1) next ls) (after_shape-kept limits number told next (shape_of line) over.one_list_each here) (later next (after_line_over limits number told next line over here) is)
    by (Err fault) here later is = absurd (no_trace fault more is)

pub trace_of-kept : TracesTellLines
unfolding trace_of
trace_of-kept limits text trace is =
    let all = read_from-kept limits (lines text) 1 nothing trace (nothing_over limits) is in
    record { threads = all.threads; locks = all.locks; locs = all.locs; numbered = all.numbered; lists = all.lists; skipped = omega (arith, all.skipped); stray = omega (arith, all.stray) }
