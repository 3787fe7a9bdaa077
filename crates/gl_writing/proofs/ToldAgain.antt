-- What is written of a trace that was read says its lists again.
use Rattle.std.proofs.Common.{◌≡◌, ◌≢◌, ℕ, zero, suc, ◌+◌, ◌≤◌, Bool, true, false, ◌||◌, cond, eqb, codes, ◌⊎◌, inl, inr, ⊎_elim, List, [], ◌∷◌, ◌++◌, length, map, filter, position, get_or, unwrap_or, All, Contains, Option, Some, None, Result, Ok, Err, refl, sym, ap, subst, ◌∙◌, append_assoc, arith}
use Rattle.std.specs.Prelude.{IsTrue, slice_get}
use Rattle.std.specs.List.{flat_map, zip}
use Rattle.std.specs.Option.{option_map}
use Rattle.std.specs.Str.{bytes_eq}
use Rattle.std.proofs.lemmas.List.Folds.{list_any-append}
use Rattle.std.proofs.lemmas.List.Elements.{All-append, All-push, All-map}
use Rattle.std.proofs.lemmas.Option.{get_or_from_slice_get}
use Rattle.std.proofs.lemmas.Slice.Eq.{bytes_eq-Decides}
use Rattle.gl_event.specs.Bounds.{Bounds}
use Rattle.gl_event.specs.Events.{location}
use Rattle.gl_event.specs.declared.events.Event.{Event}
use Rattle.gl_event.specs.declared.events.LockMode.TheVariants.{Exclusive, Shared}
use Rattle.gl_std.specs.Laws.{KeptLine, IsNumbered, kept_in, kept_from, if_told, is_stray}
use Rattle.gl_std.specs.Line.{BAR, OPEN, CLOSE, Operation, Shape, Says, FieldsSay, shape_of, operation_of, is_on_thread}
use Rattle.gl_std.specs.Line.Shape.{Blank, Bad, Other, Call}
use Rattle.gl_std.specs.Line.Says.{too_long, blank, no_bar, one_bar, fields}
use Rattle.gl_std.specs.Line.FieldsSay.{no_thread, other_word, no_operand, other_call, call, on_itself, bad_operand}
use Rattle.gl_std.specs.Lines.{LF, HasLines, lines}
use Rattle.gl_std.specs.Lines.HasLines.{no_line, last_line, ended_by_lf, ended_by_cr_lf}
use Rattle.gl_std.specs.Names.{NameLists}
use Rattle.gl_std.specs.Trace.{operands, events_of, event_of, event_told, after_line, nothing}
use Rattle.gl_writing.specs.Written.{name_at, word_of, operand_name, event_line, written_event, written_list, operation_in, said, CanBeTold, WrittenTextsSayTraces}
use Rattle.gl_std.specs.declared.faults.ReadFault.{ReadFault}
use Rattle.gl_std.specs.Line.Operation.{Acquire as AcquireOf, Release as ReleaseOf, TryAcquire as TryAcquireOf, Fork as ForkOf, Join as JoinOf}
use Rattle.gl_std.specs.declared.line.TheConstants.{MAX_LINE}
use Rattle.gl_std.specs.declared.trace.Trace.{Trace}
use Rattle.gl_std.proofs.Cutting.{holds}
use Rattle.gl_std.proofs.LinesOfTexts.{text_has_lines}
use Rattle.gl_std.proofs.KeptLines.{trace_of-kept}
use Rattle.gl_std.proofs.Places.{number_of}
use Rattle.gl_writing.proofs.Saying.{line_parts, line_says, line_read}
use Rattle.gl_std.proofs.Shapes.{holds-none, free_of, line_says as says_shape_of}
use Rattle.gl_std.proofs.WithinLimits.{trace_of_over}

-- ---- lists

none_all : {X : Type 0} (P : X → Type 0) → All P []
none_all P = λ k d h. absurd (omega arith)

front_all : {X : Type 0} (P : X → Type 0) (x : X) (xs : List X) → P x → All P xs → All P (x ∷ xs)
front_all P x xs here later = All-append P (x ∷ []) xs (All-push P [] x (none_all P) here) later

tail_all : {X : Type 0} (P : X → Type 0) (x : X) (xs : List X) → All P (x ∷ xs) → All P xs
tail_all P x xs all = λ k d h. all (suc k) d (omega arith)

head_all : {X : Type 0} (P : X → Type 0) (x : X) (xs : List X) → All P (x ∷ xs) → P x
head_all P x xs all = all 0 x (omega arith)

zip_at : (ks : List (List ℕ)) (vs : List (List Event)) (i : ℕ) (own : List ℕ × List Event) → slice_get (zip ks vs) i ≡ Some own → (slice_get ks i ≡ Some own.0) × (slice_get vs i ≡ Some own.1)
zip_at [] vs i own h = absurd (none_some own h)
  where
    none_some : (own : List ℕ × List Event) → None ≡ Some own → ⊥
    none_some own e = cc
zip_at (k ∷ ks) [] i own h = absurd (none_some own h)
  where
    none_some : (own : List ℕ × List Event) → None ≡ Some own → ⊥
    none_some own e = cc
zip_at (k ∷ ks) (v ∷ vs) zero own h = (ap (option_map (λ o. o.0)) h, ap (option_map (λ o. o.1)) h)
zip_at (k ∷ ks) (v ∷ vs) (suc i) own h = zip_at ks vs i own h

-- ---- no line holds LF

each_free : (text : List ℕ) (ls : List (List ℕ)) → HasLines text ls → All (λ line. ¬ Contains line LF) ls
each_free _ _ no_line = none_all (λ line. ¬ Contains line LF)
each_free _ _ (last_line line some none) = front_all (λ line. ¬ Contains line LF) line [] none (none_all (λ line. ¬ Contains line LF))
each_free _ _ (ended_by_lf line rest ls none no_cr has) = front_all (λ line. ¬ Contains line LF) line ls none (each_free rest ls has)
each_free _ _ (ended_by_cr_lf line rest ls none has) = front_all (λ line. ¬ Contains line LF) line ls none (each_free rest ls has)

-- ---- what is known of a line that says a call

-- the word of an operation
abbrev word_for : Operation → List ℕ
word_for operation = word_of (event_of operation 0 0)

-- the line is these parts, and they can be told
record IsCallLine (line : List ℕ) (operation : Operation) (thread operand location : List ℕ) : Type 0 where
  parts : line ≡ thread ++ BAR ∷ ((word_for operation ++ OPEN ∷ (operand ++ CLOSE ∷ [])) ++ BAR ∷ location)
  some_thread : thread ≢ []
  some_operand : operand ≢ []
  no_bar : ¬ Contains thread BAR
  no_bar_in_operand : ¬ Contains operand BAR
  apart : IsTrue (is_on_thread operation) → operand ≢ thread
  fits : length line ≤ MAX_LINE

-- what is known of a line, by what it says
abbrev Known : List ℕ → Shape → Type 0
Known line Blank = Unit {0}
Known line (Bad kind) = Unit {0}
Known line Other = Unit {0}
Known line (Call operation thread operand location) = IsCallLine line operation thread operand location

-- ---- what is known of a kept line

-- it comes of a line without LF that says it
record ComesOfLine (kept : KeptLine) : Type 0 where
  line : List ℕ
  one_line : ¬ Contains line LF
  is : IsCallLine line kept.operation kept.thread kept.operand kept.loc

or_left : (a b : Bool) → (a || b) ≡ false → a ≡ false
or_left true b h = h
or_left false b h = refl

or_right : (a b : Bool) → (a || b) ≡ false → b ≡ false
or_right true b h = absurd cc
or_right false b h = h

-- a name is the first of two words, or passes on
pick : (name word : List ℕ) (one : Operation) (rest : Option Operation) (operation : Operation) → cond (bytes_eq name word) (Some one) rest ≡ Some operation → ((name ≡ word) × (one ≡ operation)) ⊎ (rest ≡ Some operation)
pick name word one rest operation h = by (bytes_eq name word) refl h
  where
    by : (b : Bool) → bytes_eq name word ≡ b → cond b (Some one) rest ≡ Some operation → ((name ≡ word) × (one ≡ operation)) ⊎ (rest ≡ Some operation)
    by true e h = inl ((bytes_eq-Decides name word).0 e, cc)
    by false e h = inr h

-- only its word names an operation
word_named : (name : List ℕ) (operation : Operation) → operation_of name ≡ Some operation → name ≡ word_for operation
word_named name operation h =
    ⊎_elim (λ hit. hit.0 ∙ ap word_for hit.1)
    (λ r1. ⊎_elim (λ hit. hit.0 ∙ ap word_for hit.1)
    (λ r2. ⊎_elim (λ hit. hit.0 ∙ ap word_for hit.1)
    (λ r3. ⊎_elim (λ hit. hit.0 ∙ ap word_for hit.1)
    (λ r4. ⊎_elim (λ hit. hit.0 ∙ ap word_for hit.1)
    (λ r5. ⊎_elim (λ hit. hit.0 ∙ ap word_for hit.1)
    (λ r6. ⊎_elim (λ hit. hit.0 ∙ ap word_for hit.1)
    (λ r7. ⊎_elim (λ hit. hit.0 ∙ ap word_for hit.1) (λ r8. absurd (none_some r8))
    (pick name (codes "join") JoinOf _ operation r7))
    (pick name (codes "fork") ForkOf _ operation r6))
    (pick name (codes "tryracq") (TryAcquireOf Shared) _ operation r5))
    (pick name (codes "tryacq") (TryAcquireOf Exclusive) _ operation r4))
    (pick name (codes "rrel") (ReleaseOf Shared) _ operation r3))
    (pick name (codes "rel") (ReleaseOf Exclusive) _ operation r2))
    (pick name (codes "racq") (AcquireOf Shared) _ operation r1))
    (pick name (codes "acq") (AcquireOf Exclusive) _ operation h)
  where
    none_some : None ≡ Some operation → ⊥
    none_some e = cc

-- an operand holds no bar where its field holds none
operand_free : (name operand : List ℕ) → ¬ Contains (name ++ OPEN ∷ (operand ++ CLOSE ∷ [])) BAR → ¬ Contains operand BAR
operand_free name operand none =
    let field = name ++ OPEN ∷ (operand ++ CLOSE ∷ []) in
    let all : (holds BAR name || holds BAR (OPEN ∷ (operand ++ CLOSE ∷ []))) ≡ false = sym (list_any-append (λ b. eqb b BAR) name (OPEN ∷ (operand ++ CLOSE ∷ []))) ∙ holds-none BAR field none in
    let rest : holds BAR (operand ++ CLOSE ∷ []) ≡ false = or_right (holds BAR name) (holds BAR (OPEN ∷ (operand ++ CLOSE ∷ []))) all in
    free_of BAR operand (or_left (holds BAR operand) (holds BAR (CLOSE ∷ [])) (sym (list_any-append (λ b. eqb b BAR) operand (CLOSE ∷ [])) ∙ rest))

fields_known : (thread field location : List ℕ) (shape : Shape) → FieldsSay thread field location shape → ¬ Contains thread BAR → ¬ Contains field BAR → (line : List ℕ) → line ≡ thread ++ BAR ∷ (field ++ BAR ∷ location) → length line ≤ MAX_LINE → Known line shape
fields_known _ _ _ _ (no_thread field location) a b line at fits = tt
fields_known _ _ _ _ (other_word thread field location some none is) a b line at fits = tt
fields_known _ _ _ _ (no_operand thread field location operation some none is) a b line at fits = tt
fields_known _ _ _ _ (other_call thread name rest location some none is) a b line at fits = tt
fields_known _ _ _ _ (call thread name operand location operation some none is any apart) a b line at fits =
    record {
      parts = at ∙ ap (λ w. thread ++ BAR ∷ ((w ++ OPEN ∷ (operand ++ CLOSE ∷ [])) ++ BAR ∷ location)) (word_named name operation is);
      some_thread = some;
      some_operand = any;
      no_bar = a;
      no_bar_in_operand = operand_free name operand b;
      apart = apart;
      fits = fits;
    }
fields_known _ _ _ _ (on_itself thread name location operation some none is on) a b line at fits = tt
fields_known _ _ _ _ (bad_operand thread name rest location operation some none is unclosed) a b line at fits = tt

says_known : (line : List ℕ) (shape : Shape) → Says line shape → Known line shape
says_known _ _ (too_long line h) = tt
says_known _ _ blank = tt
says_known _ _ (no_bar line fits some none) = tt
says_known _ _ (one_bar thread rest fits none none_more) = tt
says_known _ _ (fields thread field location shape fits none none_more says) = fields_known thread field location shape says none none_more (thread ++ BAR ∷ (field ++ BAR ∷ location)) refl fits

kept_comes : (told : Trace) (line : List ℕ) → ¬ Contains line LF → (shape : Shape) → Known line shape → All ComesOfLine (kept_in told shape)
kept_comes told line one Blank known = none_all ComesOfLine
kept_comes told line one (Bad kind) known = none_all ComesOfLine
kept_comes told line one Other known = none_all ComesOfLine
kept_comes told line one (Call operation thread operand location) known =
    let event = event_told told.names operation thread operand location in
    let kept : KeptLine = record { operation = operation; thread = thread; operand = operand; loc = location; event = event } in
    by kept (record { line = line; one_line = one; is = known }) (is_stray (events_of told.lists (position (bytes_eq thread) told.names.threads)) event)
  where
    by : (kept : KeptLine) → ComesOfLine kept → (b : Bool) → All ComesOfLine (cond b [] (kept ∷ []))
    by kept comes true = none_all ComesOfLine
    by kept comes false = front_all ComesOfLine kept [] comes (none_all ComesOfLine)

kept_from_comes : (limits : Bounds) (ls : List (List ℕ)) (number : ℕ) (told : Trace) → All (λ line. ¬ Contains line LF) ls → All ComesOfLine (kept_from limits number told ls)
kept_from_comes limits [] number told free = none_all ComesOfLine
kept_from_comes limits (line ∷ ls) number told free =
    All-append ComesOfLine (kept_in told (shape_of line)) (if_told (after_line limits number told line) (λ next. kept_from limits (number + 1) next ls))
    (kept_comes told line (head_all (λ line. ¬ Contains line LF) line ls free) (shape_of line) (says_known line (shape_of line) (says_shape_of line)))
    (by (after_line limits number told line) (λ next. kept_from_comes limits ls (number + 1) next (tail_all (λ line. ¬ Contains line LF) line ls free)))
  where
    by : (r : Result Trace ReadFault) → ((next : Trace) → All ComesOfLine (kept_from limits (number + 1) next ls)) → All ComesOfLine (if_told r (λ next. kept_from limits (number + 1) next ls))
    by (Ok next) later = later next
    by (Err fault) later = none_all ComesOfLine

-- ---- the event of a kept line can be told again

pub operand_again : (operation : Operation) (names : NameLists) (n m : ℕ) (operand : List ℕ) → slice_get (operands operation names) n ≡ Some operand → operand_name names (event_of operation n m) ≡ operand
operand_again (AcquireOf mode) names n m operand at = ap (λ o. unwrap_or o []) at
operand_again (ReleaseOf mode) names n m operand at = ap (λ o. unwrap_or o []) at
operand_again (TryAcquireOf mode) names n m operand at = ap (λ o. unwrap_or o []) at
operand_again ForkOf names n m operand at = ap (λ o. unwrap_or o []) at
operand_again JoinOf names n m operand at = ap (λ o. unwrap_or o []) at

pub location_again : (operation : Operation) (n m : ℕ) → location (event_of operation n m) ≡ m
location_again (AcquireOf mode) n m = refl
location_again (ReleaseOf mode) n m = refl
location_again (TryAcquireOf mode) n m = refl
location_again ForkOf n m = refl
location_again JoinOf n m = refl

pub operation_again : (operation : Operation) (n m : ℕ) → operation_in (event_of operation n m) ≡ operation
operation_again (AcquireOf mode) n m = refl
operation_again (ReleaseOf mode) n m = refl
operation_again (TryAcquireOf mode) n m = refl
operation_again ForkOf n m = refl
operation_again JoinOf n m = refl

word_again : (operation : Operation) (n m : ℕ) → word_of (event_of operation n m) ≡ word_for operation
word_again (AcquireOf Exclusive) n m = refl
word_again (AcquireOf Shared) n m = refl
word_again (ReleaseOf Exclusive) n m = refl
word_again (ReleaseOf Shared) n m = refl
word_again (TryAcquireOf Exclusive) n m = refl
word_again (TryAcquireOf Shared) n m = refl
word_again ForkOf n m = refl
word_again JoinOf n m = refl

can_be_told : (names : NameLists) (kept : KeptLine) → IsNumbered names kept → ComesOfLine kept → CanBeTold names kept.thread kept.event
can_be_told names kept numbered comes =
    let e = event_of kept.operation numbered.operand_number numbered.loc_number in
    let thread = kept.thread in
    let place = name_at names.locs (location e) in
    let operand_is : operand_name names e ≡ kept.operand = operand_again kept.operation names numbered.operand_number numbered.loc_number kept.operand numbered.operand_at in
    let loc_is : place ≡ kept.loc = ap (name_at names.locs) (location_again kept.operation numbered.operand_number numbered.loc_number) ∙ ap (λ o. unwrap_or o []) numbered.loc_at in
    let word_is : word_of e ≡ word_for kept.operation = word_again kept.operation numbered.operand_number numbered.loc_number in
    let operation_is : operation_in e ≡ kept.operation = operation_again kept.operation numbered.operand_number numbered.loc_number in
    let line_is : event_line names thread e ≡ comes.line =
    sym (line_parts names thread e) ∙ ap (λ w. thread ++ BAR ∷ ((w ++ OPEN ∷ (operand_name names e ++ CLOSE ∷ [])) ++ BAR ∷ place)) word_is
    ∙ ap (λ o. thread ++ BAR ∷ ((word_for kept.operation ++ OPEN ∷ (o ++ CLOSE ∷ [])) ++ BAR ∷ place)) operand_is
    ∙ ap (λ l. thread ++ BAR ∷ ((word_for kept.operation ++ OPEN ∷ (kept.operand ++ CLOSE ∷ [])) ++ BAR ∷ l)) loc_is
    ∙ sym comes.is.parts in
    let can : CanBeTold names thread e = record {
      some_thread = comes.is.some_thread;
      some_operand = subst (λ o. o ≢ []) (sym operand_is) comes.is.some_operand;
      no_bar = comes.is.no_bar;
      no_bar_in_operand = subst (λ o. ¬ Contains o BAR) (sym operand_is) comes.is.no_bar_in_operand;
      one_line = subst (λ l. ¬ Contains l LF) (sym line_is) comes.one_line;
      apart = λ on. subst (λ o. o ≢ thread) (sym operand_is) (comes.is.apart (subst (λ p. IsTrue (is_on_thread p)) operation_is on));
      fits = subst (λ l. length l ≤ MAX_LINE) (sym line_is) comes.is.fits;
    } in
    subst (CanBeTold names thread) (sym numbered.event_is) can

each_told : (names : NameLists) (kept : List KeptLine) → All (IsNumbered names) kept → All ComesOfLine kept → All (λ line. CanBeTold names line.thread line.event) kept
each_told names kept numbered comes = λ k d h. can_be_told names (get_or kept k d) (numbered k d h) (comes k d h)

-- the events of one thread
own_told : (names : NameLists) (name : List ℕ) (kept : List KeptLine) → All (λ line. CanBeTold names line.thread line.event) kept → All (λ line. CanBeTold names name line.event) (filter (λ line. bytes_eq name line.thread) kept)
own_told names name [] all = none_all (λ line. CanBeTold names name line.event)
own_told names name (line ∷ kept) all = by (bytes_eq name line.thread) refl (own_told names name kept (tail_all (λ line. CanBeTold names line.thread line.event) line kept all))
  where
    by : (b : Bool) → bytes_eq name line.thread ≡ b → All (λ line. CanBeTold names name line.event) (filter (λ line. bytes_eq name line.thread) kept) → All (λ line. CanBeTold names name line.event) (cond b (line ∷ filter (λ line. bytes_eq name line.thread) kept) (filter (λ line. bytes_eq name line.thread) kept))
    by true e later = front_all (λ line. CanBeTold names name line.event) line (filter (λ line. bytes_eq name line.thread) kept) (subst (λ t. CanBeTold names t line.event) (sym ((bytes_eq-Decides name line.thread).0 e)) (head_all (λ line. CanBeTold names line.thread line.event) line kept all)) later
    by false e later = later

-- ---- what is written

list_read : (names : NameLists) (thread : List ℕ) (es : List Event) (rest : List ℕ) → All (CanBeTold names thread) es → map shape_of (lines (written_list names thread es ++ rest)) ≡ map (said names thread) es ++ map shape_of (lines rest)
list_read names thread [] rest all = refl
list_read names thread (e ∷ es) rest all =
    let later = written_list names thread es ++ rest in
    let can = head_all (CanBeTold names thread) e es all in
    ap (λ t. map shape_of (lines t)) (append_assoc (written_event names thread e) (written_list names thread es) rest)
    ∙ ap (map shape_of) (line_read names thread e later can)
    ∙ ap (λ s. s ∷ map shape_of (lines later)) (line_says names thread e can)
    ∙ ap (λ l. said names thread e ∷ l) (list_read names thread es rest (tail_all (CanBeTold names thread) e es all))

lists_read : (names : NameLists) (owned : List (List ℕ × List Event)) → ((i : ℕ) (own : List ℕ × List Event) → slice_get owned i ≡ Some own → All (CanBeTold names own.0) own.1) → map shape_of (lines (flat_map (λ own. written_list names own.0 own.1) owned)) ≡ flat_map (λ own. map (said names own.0) own.1) owned
lists_read names [] each = refl
lists_read names (own ∷ owned) each =
    list_read names own.0 own.1 (flat_map (λ own. written_list names own.0 own.1) owned) (each 0 own refl)
    ∙ ap (λ l. map (said names own.0) own.1 ++ l) (lists_read names owned (λ i. each (suc i)))

pub written_tells : WrittenTextsSayTraces
written_tells limits text trace is = lists_read trace.names (zip trace.names.threads trace.lists) each
  where
    each : (i : ℕ) (own : List ℕ × List Event) → slice_get (zip trace.names.threads trace.lists) i ≡ Some own → All (CanBeTold trace.names own.0) own.1
    each i own at =
        let over = trace_of_over limits text trace is in
        let tells = trace_of-kept limits text trace is in
        let kept = kept_from limits 1 nothing (lines text) in
        let here = zip_at trace.names.threads trace.lists i own at in
        let number : position (bytes_eq own.0) trace.names.threads ≡ Some i = number_of trace.names.threads own.0 own.0 i over.threads_differ here.0 ((bytes_eq-Decides own.0 own.0).1 refl) in
        let listed : map (λ line. line.event) (filter (λ line. bytes_eq own.0 line.thread) kept) ≡ own.1 = sym (tells.lists own.0) ∙ ap (events_of trace.lists) number ∙ get_or_from_slice_get trace.lists i own.1 [] here.1 in
        let told = own_told trace.names own.0 kept (each_told trace.names kept tells.numbered (kept_from_comes limits (lines text) 1 nothing (each_free text (lines text) (text_has_lines text)))) in
        subst (All (CanBeTold trace.names own.0)) listed (All-map (CanBeTold trace.names own.0) (λ line. line.event) (filter (λ line. bytes_eq own.0 line.thread) kept) told)
