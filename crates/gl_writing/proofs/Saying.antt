-- A line that is written of an event says the event.
use Rattle.std.proofs.Common.{◌≡◌, ℕ, ◌≤◌, Bool, true, false, ◌&&◌, ◌||◌, cond, eqb, List, [], ◌∷◌, ◌++◌, length, Contains, Some, refl, sym, ap, subst, ◌∙◌, append_assoc}
use Rattle.std.specs.Str.{bytes_eq}
use Rattle.std.proofs.lemmas.List.Folds.{list_any-append}
use Rattle.std.proofs.lemmas.Slice.Eq.{bytes_eq-Decides}
use Rattle.gl_event.specs.Events.{location}
use Rattle.gl_event.specs.declared.events.Event.{Event}
use Rattle.gl_event.specs.declared.events.Event.TheVariants.{Acquire, Release, TryAcquire, Fork, Join}
use Rattle.gl_event.specs.declared.events.LockMode.TheVariants.{Exclusive, Shared}
use Rattle.gl_std.specs.Line.{BAR, OPEN, CLOSE, shape_of, operation_of}
use Rattle.gl_std.specs.Line.Shape.{Call}
use Rattle.gl_std.specs.Line.Says.{fields}
use Rattle.gl_std.specs.Line.FieldsSay.{call}
use Rattle.gl_std.specs.Lines.{LF, CR, is_empty, lines, without_cr}
use Rattle.gl_std.specs.Names.{NameLists}
use Rattle.gl_writing.specs.Written.{name_at, word_of, operand_name, event_line, written_event, operation_in, said, CanBeTold, WrittenLinesSayEvents}
use Rattle.gl_std.specs.declared.line.TheConstants.{MAX_LINE}
use Rattle.gl_std.proofs.Cutting.{holds}
use Rattle.gl_std.proofs.LinesOfTexts.{lines-first, no_lf, holds_lf-cr, without_cr-append}
use Rattle.gl_std.proofs.Shapes.{holds-none, free_of, says_shape}

-- ---- words

pub word_read : (e : Event) → operation_of (word_of e) ≡ Some (operation_in e)
word_read (Acquire Exclusive lock loc) = refl
word_read (Acquire Shared lock loc) = refl
word_read (Release Exclusive lock loc) = refl
word_read (Release Shared lock loc) = refl
word_read (TryAcquire Exclusive lock loc) = refl
word_read (TryAcquire Shared lock loc) = refl
word_read (Fork thread loc) = refl
word_read (Join thread loc) = refl

word_without_bar : (e : Event) → holds BAR (word_of e) ≡ false
word_without_bar (Acquire Exclusive lock loc) = refl
word_without_bar (Acquire Shared lock loc) = refl
word_without_bar (Release Exclusive lock loc) = refl
word_without_bar (Release Shared lock loc) = refl
word_without_bar (TryAcquire Exclusive lock loc) = refl
word_without_bar (TryAcquire Shared lock loc) = refl
word_without_bar (Fork thread loc) = refl
word_without_bar (Join thread loc) = refl

word_without_open : (e : Event) → holds OPEN (word_of e) ≡ false
word_without_open (Acquire Exclusive lock loc) = refl
word_without_open (Acquire Shared lock loc) = refl
word_without_open (Release Exclusive lock loc) = refl
word_without_open (Release Shared lock loc) = refl
word_without_open (TryAcquire Exclusive lock loc) = refl
word_without_open (TryAcquire Shared lock loc) = refl
word_without_open (Fork thread loc) = refl
word_without_open (Join thread loc) = refl

-- ---- the line alone

-- the middle field of a line
abbrev pub field_of : NameLists → Event → List ℕ
field_of names e = word_of e ++ OPEN ∷ (operand_name names e ++ CLOSE ∷ [])

-- the line by its three fields
pub line_parts : (names : NameLists) (thread : List ℕ) (e : Event) → thread ++ BAR ∷ (field_of names e ++ BAR ∷ name_at names.locs (location e)) ≡ event_line names thread e
line_parts names thread e = simp append_assoc

neither : (a b : Bool) → a ≡ false → b ≡ false → (a || b) ≡ false
neither a b p q = ap (λ v. v || b) p ∙ q

field_without_bar : (names : NameLists) (e : Event) → ¬ Contains (operand_name names e) BAR → ¬ Contains (field_of names e) BAR
field_without_bar names e none =
    let operand = operand_name names e in
    let closed : holds BAR (operand ++ CLOSE ∷ []) ≡ false = list_any-append (λ b. eqb b BAR) operand (CLOSE ∷ []) ∙ neither (holds BAR operand) false (holds-none BAR operand none) refl in
    let opened : holds BAR (OPEN ∷ (operand ++ CLOSE ∷ [])) ≡ false = closed in
    free_of BAR (field_of names e) (list_any-append (λ b. eqb b BAR) (word_of e) (OPEN ∷ (operand ++ CLOSE ∷ [])) ∙ neither (holds BAR (word_of e)) (holds BAR (OPEN ∷ (operand ++ CLOSE ∷ []))) (word_without_bar e) opened)

pub line_says : (names : NameLists) (thread : List ℕ) (e : Event) → CanBeTold names thread e → shape_of (event_line names thread e) ≡ said names thread e
line_says names thread e can =
    let location_name = name_at names.locs (location e) in
    let parts = line_parts names thread e in
    let long : length (thread ++ BAR ∷ (field_of names e ++ BAR ∷ location_name)) ≤ MAX_LINE = subst (λ l. length l ≤ MAX_LINE) (sym parts) can.fits in
    let says = call thread (word_of e) (operand_name names e) location_name (operation_in e) can.some_thread (free_of OPEN (word_of e) (word_without_open e)) (word_read e) can.some_operand can.apart in
    ap shape_of (sym parts)
    ∙ sym (says_shape (thread ++ BAR ∷ (field_of names e ++ BAR ∷ location_name)) (Call (operation_in e) thread (operand_name names e) location_name) (fields thread (field_of names e) location_name (Call (operation_in e) thread (operand_name names e) location_name) long can.no_bar (field_without_bar names e can.no_bar_in_operand) says))

-- ---- what ends the line

some_after : (xs : List ℕ) (b : ℕ) (ys : List ℕ) → is_empty (xs ++ b ∷ ys) ≡ false
some_after [] b ys = refl
some_after (x ∷ xs) b ys = refl

-- only the end of a text matters
without_cr-after : (xs : List ℕ) (b : ℕ) (ys : List ℕ) → without_cr (xs ++ b ∷ ys) ≡ xs ++ without_cr (b ∷ ys)
without_cr-after [] b ys = refl
without_cr-after (x ∷ xs) b ys =
    let some = some_after xs b ys in
    let test : (eqb x CR && is_empty (xs ++ b ∷ ys)) ≡ false = elim (eqb x CR) as (λ v. (v && is_empty (xs ++ b ∷ ys)) ≡ false) [ true ↦ some | false ↦ refl ] in
    ap (λ v. cond v [] (x ∷ without_cr (xs ++ b ∷ ys))) test ∙ ap (λ l. x ∷ l) (without_cr-after xs b ys)

-- the line up to its second bar
abbrev before_location : NameLists → List ℕ → Event → List ℕ
before_location names thread e = thread ++ BAR ∷ field_of names e

location_last : (names : NameLists) (thread : List ℕ) (e : Event) → event_line names thread e ≡ before_location names thread e ++ BAR ∷ name_at names.locs (location e)
location_last names thread e = sym (line_parts names thread e) ∙ sym (append_assoc thread (BAR ∷ field_of names e) (BAR ∷ name_at names.locs (location e)))

-- where the location doesn't end with CR, nor does the line
line_without_cr : (names : NameLists) (thread : List ℕ) (e : Event) → without_cr (name_at names.locs (location e)) ≡ name_at names.locs (location e) → without_cr (event_line names thread e) ≡ event_line names thread e
line_without_cr names thread e same =
    let location_name = name_at names.locs (location e) in
    ap without_cr (location_last names thread e) ∙ without_cr-after (before_location names thread e) BAR location_name ∙ ap (λ l. before_location names thread e ++ BAR ∷ l) same ∙ sym (location_last names thread e)

-- a line with what ends it, by whether its location ends with CR
line_ended : (line rest : List ℕ) → ¬ Contains line LF → (same : Bool) → (same ≡ true → without_cr line ≡ line) → lines ((line ++ cond same (LF ∷ []) (CR ∷ LF ∷ [])) ++ rest) ≡ line ∷ lines rest
line_ended line rest one true same = ap lines (append_assoc line (LF ∷ []) rest) ∙ lines-first line rest (no_lf line one) ∙ ap (λ l. l ∷ lines rest) (same refl)
line_ended line rest one false same =
    ap lines (append_assoc line (CR ∷ LF ∷ []) rest ∙ sym (append_assoc line (CR ∷ []) (LF ∷ rest))) ∙ lines-first (line ++ CR ∷ []) rest (holds_lf-cr line (no_lf line one))
    ∙ ap (λ l. l ∷ lines rest) (without_cr-append line)

pub line_read : (names : NameLists) (thread : List ℕ) (e : Event) (rest : List ℕ) → CanBeTold names thread e → lines (written_event names thread e ++ rest) ≡ event_line names thread e ∷ lines rest
line_read names thread e rest can =
    let location_name = name_at names.locs (location e) in
    line_ended (event_line names thread e) rest can.one_line (bytes_eq (without_cr location_name) location_name) (λ is. line_without_cr names thread e ((bytes_eq-Decides (without_cr location_name) location_name).0 is))

pub written_says : WrittenLinesSayEvents
written_says names thread event rest can = (line_read names thread event rest can, line_says names thread event can)
