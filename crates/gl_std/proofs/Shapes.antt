-- What a line says, in words, is its shape.
use Rattle.std.proofs.Common.{◌≡◌, ◌≢◌, ℕ, zero, suc, ◌-◌, ◌<◌, ◌≤◌, Bool, true, false, cond, eqb, ◌&&◌, ◌||◌, List, [], ◌∷◌, ◌++◌, length, take, get_or, Option, Some, None, Contains, refl, sym, ap, subst, ◌∙◌, arith}
use Rattle.std.specs.Prelude.{IsTrue, nat_lt}
use Rattle.std.specs.Option.{option_map, option_map_or}
use Rattle.std.proofs.lemmas.Bool.{false≢true, eqb-true, eq-eqb}
use Rattle.std.proofs.lemmas.Bool.Decides.{nat_tests}
use Rattle.std.proofs.lemmas.List.{get_or_default, take-append-le, take_all, length_push, length-take}
use Rattle.std.proofs.lemmas.List.Folds.{Any-from_list_any, list_any_at}
use Rattle.gl_std.specs.Line.{BAR, OPEN, CLOSE, Operation, Shape, Says, FieldsSay, cut_at, is_on_itself, is_on_thread, operation_of, operation_name, operand_of, before_close, shape_of, shape_of_call, shape_of_fields}
use Rattle.gl_std.specs.Line.Shape.{Blank, Bad, Call}
use Rattle.gl_std.specs.Line.Says.{too_long, blank, no_bar, one_bar, fields}
use Rattle.gl_std.specs.Line.FieldsSay.{no_thread, other_word, no_operand, other_call, call, on_itself, bad_operand}
use Rattle.gl_std.specs.declared.faults.StdKind.TheVariants.{TooLong, NoBar, NoLocation, NoThread, OnItself}
use Rattle.gl_std.specs.declared.line.TheConstants.{MAX_LINE}
use Rattle.gl_std.specs.bodies.Judgements.{AreApart}
use Rattle.std.specs.Str.{bytes_eq}
use Rattle.std.proofs.lemmas.Slice.Eq.{bytes_eq-Decides}
use Rattle.gl_std.proofs.Cutting.{holds, cut_at-Some, cut_at-None}

pub holds-none : (byte : ℕ) (text : List ℕ) → ¬ Contains text byte → holds byte text ≡ false
holds-none byte text none = by (holds byte text) refl
  where
    by : (v : Bool) → holds byte text ≡ v → v ≡ false
    by true e =
        let at = Any-from_list_any (λ b. eqb b byte) text e in
        let is : at.1 ≡ byte = eqb-true at.1 byte at.4 in
        absurd (none (at.0, at.2, get_or_default text at.0 byte at.1 at.2 ∙ at.3 ∙ is))
    by false e = refl

pub free_of : (byte : ℕ) (text : List ℕ) → holds byte text ≡ false → ¬ Contains text byte
free_of byte text h has = false≢true (sym h ∙ list_any_at (λ b. eqb b byte) text has.0 byte has.1 (eq-eqb (get_or text has.0 byte) byte has.2))

-- a text without the byte isn't cut
cut_at-free : (byte : ℕ) (text : List ℕ) → holds byte text ≡ false → cut_at byte text ≡ None
cut_at-free byte [] h = refl
cut_at-free byte (b ∷ text) h = by (eqb b byte) h (cut_at-free byte text)
  where
    by : (v : Bool) → (v || holds byte text) ≡ false → (holds byte text ≡ false → cut_at byte text ≡ None) → cond v (let parts : List ℕ × List ℕ = ([], text) in Some parts) (option_map (λ parts. (b ∷ parts.0, parts.1)) (cut_at byte text)) ≡ None
    by true e later = absurd (false≢true (sym e))
    by false e later = ap (option_map (λ parts. (b ∷ parts.0, parts.1))) (later e)

-- the two parts of a text
abbrev pair : List ℕ → List ℕ → List ℕ × List ℕ
pair front rest = (front, rest)

-- a text is cut at the byte, where what stands before doesn't hold it
cut_at-append : (byte : ℕ) (front rest : List ℕ) → holds byte front ≡ false → cut_at byte (front ++ byte ∷ rest) ≡ Some (pair front rest)
cut_at-append byte [] rest h = ap (λ v. cond v (Some (pair [] rest)) (option_map (λ parts. (byte ∷ parts.0, parts.1)) (cut_at byte rest))) (eq-eqb byte byte refl)
cut_at-append byte (b ∷ front) rest h = by (eqb b byte) h (cut_at-append byte front rest)
  where
    by : (v : Bool) → (v || holds byte front) ≡ false → (holds byte front ≡ false → cut_at byte (front ++ byte ∷ rest) ≡ Some (pair front rest)) → cond v (Some (pair [] (front ++ byte ∷ rest))) (option_map (λ parts. (b ∷ parts.0, parts.1)) (cut_at byte (front ++ byte ∷ rest))) ≡ Some (pair (b ∷ front) rest)
    by true e later = absurd (false≢true (sym e))
    by false e later = ap (option_map (λ parts. (b ∷ parts.0, parts.1))) (later e)

last_of : (front : List ℕ) (b : ℕ) → get_or (front ++ b ∷ []) (length front) 0 ≡ b
last_of [] b = refl
last_of (x ∷ front) b = last_of front b

some_length : (front : List ℕ) → front ≢ [] → 0 < length front
some_length [] h = absurd (h refl)
some_length (b ∷ front) h = omega arith

before_close-append : (operand : List ℕ) → operand ≢ [] → before_close (operand ++ CLOSE ∷ []) ≡ Some operand
before_close-append operand some =
    let long = some_length operand some in
    let len : length (operand ++ CLOSE ∷ []) - 1 ≡ length operand = omega (arith, length_push operand CLOSE) in
    let more : nat_lt 1 (length (operand ++ CLOSE ∷ [])) ≡ true = grind (arith, nat_tests, length_push operand CLOSE, long) in
    let last : eqb (get_or (operand ++ CLOSE ∷ []) (length (operand ++ CLOSE ∷ []) - 1) 0) CLOSE ≡ true = eq-eqb _ CLOSE (ap (λ n. get_or (operand ++ CLOSE ∷ []) n 0) len ∙ last_of operand CLOSE) in
    let all : take (length (operand ++ CLOSE ∷ []) - 1) (operand ++ CLOSE ∷ []) ≡ operand = ap (λ n. take n (operand ++ CLOSE ∷ [])) len ∙ take-append-le (length operand) operand (CLOSE ∷ []) (omega arith) ∙ take_all (length operand) operand (omega arith) in
    ap (λ v. cond (v && eqb (get_or (operand ++ CLOSE ∷ []) (length (operand ++ CLOSE ∷ []) - 1) 0) CLOSE) (Some (take (length (operand ++ CLOSE ∷ []) - 1) (operand ++ CLOSE ∷ []))) None) more
    ∙ ap (λ v. cond v (Some (take (length (operand ++ CLOSE ∷ []) - 1) (operand ++ CLOSE ∷ []))) None) last
    ∙ ap (λ xs. Some xs) all

-- a list is its front and its last element
front_and_last : (text : List ℕ) (n : ℕ) → length text ≡ suc n → text ≡ take n text ++ get_or text n 0 ∷ []
front_and_last [] n h = absurd (omega arith)
front_and_last (b ∷ []) zero h = refl
front_and_last (b ∷ c ∷ text) zero h = absurd (omega arith)
front_and_last (b ∷ []) (suc n) h = absurd (omega arith)
front_and_last (b ∷ c ∷ text) (suc n) h = ap (λ xs. b ∷ xs) (front_and_last (c ∷ text) n (omega arith))

and_left : (a b : Bool) → (a && b) ≡ true → a ≡ true
and_left true b h = refl
and_left false b h = h

and_right : (a b : Bool) → (a && b) ≡ true → b ≡ true
and_right true b h = h
and_right false b h = absurd (false≢true h)

abbrev list_or : List ℕ → Option (List ℕ) → List ℕ
list_or other None = other
list_or other (Some xs) = xs

-- what stands before a closing parenthesis
abbrev IsClosed : List ℕ → List ℕ → Type 0
IsClosed text operand = (text ≡ operand ++ CLOSE ∷ []) × (operand ≢ [])

before_close-Some : (text operand : List ℕ) → before_close text ≡ Some operand → IsClosed text operand
before_close-Some text operand h = by (nat_lt 1 (length text) && eqb (get_or text (length text - 1) 0) CLOSE) refl h
  where
    by : (v : Bool) → (nat_lt 1 (length text) && eqb (get_or text (length text - 1) 0) CLOSE) ≡ v → cond v (Some (take (length text - 1) text)) None ≡ Some operand → IsClosed text operand
    by true e h =
        let long = and_left (nat_lt 1 (length text)) (eqb (get_or text (length text - 1) 0) CLOSE) e in
        let last = eqb-true (get_or text (length text - 1) 0) CLOSE (and_right (nat_lt 1 (length text)) (eqb (get_or text (length text - 1) 0) CLOSE) e) in
        let some : 1 < length text = grind (arith, nat_tests, long) in
        let front : take (length text - 1) text ≡ operand = ap (list_or []) h in
        let parts = front_and_last text (length text - 1) (omega arith) in
        let size : length operand ≡ length text - 1 = omega (arith, ap length (sym front ∙ refl), length-take (length text - 1) text) in
        (parts ∙ ap (λ b. take (length text - 1) text ++ b ∷ []) last ∙ ap (λ xs. xs ++ CLOSE ∷ []) front, λ nil. absurd (omega (arith, ap length nil, size)))
    by false e h = absurd cc

-- ---- the parts of a line

abbrev after_bar : List ℕ × List ℕ → Shape
after_bar first = option_map_or (λ second. shape_of_fields first.0 second.0 second.1) (cut_at BAR first.1) (Bad NoLocation)

abbrev short_shape : List ℕ → Shape
short_shape line = option_map_or after_bar (cut_at BAR line) (Bad NoBar)

shape_of-short : (line : List ℕ) → length line ≤ MAX_LINE → line ≢ [] → short_shape line ≡ shape_of line
shape_of-short line fits some =
    let long : nat_lt MAX_LINE (length line) ≡ false = grind (arith, nat_tests, fits) in
    let any = some_length line some in
    let empty : eqb (length line) 0 ≡ false = grind (arith, nat_tests, any) in
    sym (ap (λ v. cond v (Bad TooLong) (cond (eqb (length line) 0) Blank (short_shape line))) long ∙ ap (λ v. cond v Blank (short_shape line)) empty)

pub shape_of-long : (line : List ℕ) → MAX_LINE < length line → Bad TooLong ≡ shape_of line
shape_of-long line h =
    let long : nat_lt MAX_LINE (length line) ≡ true = grind (arith, nat_tests, h) in
    sym (ap (λ v. cond v (Bad TooLong) (cond (eqb (length line) 0) Blank (short_shape line))) long)

shape_of_fields-call : (thread field location : List ℕ) → thread ≢ [] → shape_of_call thread (operation_of (operation_name field)) (operand_of field) location ≡ shape_of_fields thread field location
shape_of_fields-call thread field location some =
    let any = some_length thread some in
    let empty : eqb (length thread) 0 ≡ false = grind (arith, nat_tests, any) in
    sym (ap (λ v. cond v (Bad NoThread) (shape_of_call thread (operation_of (operation_name field)) (operand_of field) location)) empty)

not_nil : (front rest : List ℕ) (b : ℕ) → front ++ b ∷ rest ≢ []
not_nil [] rest b e = cc
not_nil (x ∷ front) rest b e = cc

-- ---- what is said is the shape

word_call : (thread field location : List ℕ) → holds OPEN field ≡ false → shape_of_call thread (operation_of field) None location ≡ shape_of_call thread (operation_of (operation_name field)) (operand_of field) location
word_call thread field location none =
    sym (ap (λ r. shape_of_call thread (operation_of (option_map_or (λ parts. parts.0) r field)) (option_map_or (λ parts. before_close parts.1) r None) location) (cut_at-free OPEN field none))

paren_call : (thread name rest location : List ℕ) → holds OPEN name ≡ false → shape_of_call thread (operation_of name) (before_close rest) location ≡ shape_of_call thread (operation_of (operation_name (name ++ OPEN ∷ rest))) (operand_of (name ++ OPEN ∷ rest)) location
paren_call thread name rest location none =
    sym (ap (λ r. shape_of_call thread (operation_of (option_map_or (λ parts. parts.0) r (name ++ OPEN ∷ rest))) (option_map_or (λ parts. before_close parts.1) r None) location) (cut_at-append OPEN name rest none))

not_closed : (rest : List ℕ) → ((operand : List ℕ) → operand ≢ [] → rest ≢ operand ++ CLOSE ∷ []) → before_close rest ≡ None
not_closed rest none = by (before_close rest) refl
  where
    by : (r : Option (List ℕ)) → before_close rest ≡ r → r ≡ None
    by None e = refl
    by (Some operand) e = let is = before_close-Some rest operand e in absurd (none operand is.1 is.0)

-- what is on another thread isn't on itself
apart_itself : (operation : Operation) (thread operand : List ℕ) → (IsTrue (is_on_thread operation) → operand ≢ thread) → is_on_itself operation thread operand ≡ false
apart_itself operation thread operand apart = by (is_on_thread operation) refl (bytes_eq operand thread) refl
  where
    by : (a : Bool) → is_on_thread operation ≡ a → (b : Bool) → bytes_eq operand thread ≡ b → (a && b) ≡ false
    by false on b same = refl
    by true on false same = refl
    by true on true same = absurd (apart on ((bytes_eq-Decides operand thread).0 same))

itself_apart : (operation : Operation) (thread operand : List ℕ) → is_on_itself operation thread operand ≡ false → IsTrue (is_on_thread operation) → operand ≢ thread
itself_apart operation thread operand none on same =
    let both : is_on_itself operation thread operand ≡ true = ap (λ a. a && bytes_eq operand thread) on ∙ (bytes_eq-Decides operand thread).1 same in
    false≢true (sym none ∙ both)

shape_apart : (operation : Operation) (thread operand location : List ℕ) → is_on_itself operation thread operand ≡ false → Call operation thread operand location ≡ shape_of_call thread (Some operation) (Some operand) location
shape_apart operation thread operand location apart = sym (ap (λ v. cond v (Bad OnItself) (Call operation thread operand location)) apart)

shape_itself : (operation : Operation) (thread location : List ℕ) → IsTrue (is_on_thread operation) → Bad OnItself ≡ shape_of_call thread (Some operation) (Some thread) location
shape_itself operation thread location on =
    let both : is_on_itself operation thread thread ≡ true = ap (λ a. a && bytes_eq thread thread) on ∙ (bytes_eq-Decides thread thread).1 refl in
    sym (ap (λ v. cond v (Bad OnItself) (Call operation thread thread location)) both)

fields_shape : (thread field location : List ℕ) (shape : Shape) → FieldsSay thread field location shape → shape ≡ shape_of_fields thread field location
fields_shape _ _ _ _ (no_thread field location) = refl
fields_shape _ _ _ _ (other_word thread field location some none is) =
    sym (ap (λ o. shape_of_call thread o None location) is) ∙ word_call thread field location (holds-none OPEN field none) ∙ shape_of_fields-call thread field location some
fields_shape _ _ _ _ (no_operand thread field location operation some none is) =
    sym (ap (λ o. shape_of_call thread o None location) is) ∙ word_call thread field location (holds-none OPEN field none) ∙ shape_of_fields-call thread field location some
fields_shape _ _ _ _ (other_call thread name rest location some none is) =
    sym (ap (λ o. shape_of_call thread o (before_close rest) location) is) ∙ paren_call thread name rest location (holds-none OPEN name none) ∙ shape_of_fields-call thread (name ++ OPEN ∷ rest) location some
fields_shape _ _ _ _ (call thread name operand location operation some none is any apart) =
    shape_apart operation thread operand location (apart_itself operation thread operand apart)
    ∙ sym (ap (λ q. shape_of_call thread (Some operation) q location) (before_close-append operand any))
    ∙ sym (ap (λ o. shape_of_call thread o (before_close (operand ++ CLOSE ∷ [])) location) is) ∙ paren_call thread name (operand ++ CLOSE ∷ []) location (holds-none OPEN name none) ∙ shape_of_fields-call thread (name ++ OPEN ∷ (operand ++ CLOSE ∷ [])) location some
fields_shape _ _ _ _ (on_itself thread name location operation some none is on) =
    shape_itself operation thread location on
    ∙ sym (ap (λ q. shape_of_call thread (Some operation) q location) (before_close-append thread some))
    ∙ sym (ap (λ o. shape_of_call thread o (before_close (thread ++ CLOSE ∷ [])) location) is) ∙ paren_call thread name (thread ++ CLOSE ∷ []) location (holds-none OPEN name none) ∙ shape_of_fields-call thread (name ++ OPEN ∷ (thread ++ CLOSE ∷ [])) location some
fields_shape _ _ _ _ (bad_operand thread name rest location operation some none is unclosed) =
    sym (ap (λ q. shape_of_call thread (Some operation) q location) (not_closed rest unclosed))
    ∙ sym (ap (λ o. shape_of_call thread o (before_close rest) location) is) ∙ paren_call thread name rest location (holds-none OPEN name none) ∙ shape_of_fields-call thread (name ++ OPEN ∷ rest) location some

pub says_shape : (line : List ℕ) (shape : Shape) → Says line shape → shape ≡ shape_of line
says_shape _ _ (too_long line h) = shape_of-long line h
says_shape _ _ blank = refl
says_shape _ _ (no_bar line fits some none) =
    sym (ap (λ r. option_map_or after_bar r (Bad NoBar)) (cut_at-free BAR line (holds-none BAR line none))) ∙ shape_of-short line fits some
says_shape _ _ (one_bar thread rest fits none none_more) =
    sym (ap (λ r. option_map_or (λ second. shape_of_fields thread second.0 second.1) r (Bad NoLocation)) (cut_at-free BAR rest (holds-none BAR rest none_more)))
    ∙ sym (ap (λ r. option_map_or after_bar r (Bad NoBar)) (cut_at-append BAR thread rest (holds-none BAR thread none)))
    ∙ shape_of-short (thread ++ BAR ∷ rest) fits (not_nil thread rest BAR)
says_shape _ _ (fields thread field location shape fits none none_more says) =
    fields_shape thread field location shape says
    ∙ sym (ap (λ r. option_map_or (λ second. shape_of_fields thread second.0 second.1) r (Bad NoLocation)) (cut_at-append BAR field location (holds-none BAR field none_more)))
    ∙ sym (ap (λ r. option_map_or after_bar r (Bad NoBar)) (cut_at-append BAR thread (field ++ BAR ∷ location) (holds-none BAR thread none)))
    ∙ shape_of-short (thread ++ BAR ∷ (field ++ BAR ∷ location)) fits (not_nil thread (field ++ BAR ∷ location) BAR)

-- ---- and each line says its shape

word_says : (thread field location : List ℕ) → thread ≢ [] → ¬ Contains field OPEN → (o : Option Operation) → operation_of field ≡ o → FieldsSay thread field location (shape_of_call thread o None location)
word_says thread field location some none None is = other_word thread field location some none is
word_says thread field location some none (Some operation) is = no_operand thread field location operation some none is

closed_says : (thread name operand location : List ℕ) (operation : Operation) → thread ≢ [] → ¬ Contains name OPEN → operation_of name ≡ Some operation → operand ≢ [] → FieldsSay thread (name ++ OPEN ∷ (operand ++ CLOSE ∷ [])) location (shape_of_call thread (Some operation) (Some operand) location)
closed_says thread name operand location operation some none is any = by (is_on_itself operation thread operand) refl
  where
    by : (v : Bool) → is_on_itself operation thread operand ≡ v → FieldsSay thread (name ++ OPEN ∷ (operand ++ CLOSE ∷ [])) location (cond v (Bad OnItself) (Call operation thread operand location))
    by false e = call thread name operand location operation some none is any (itself_apart operation thread operand e)
    by true e =
        let on = and_left (is_on_thread operation) (bytes_eq operand thread) e in
        let same : operand ≡ thread = (bytes_eq-Decides operand thread).0 (and_right (is_on_thread operation) (bytes_eq operand thread) e) in
        subst (λ o. FieldsSay thread (name ++ OPEN ∷ (o ++ CLOSE ∷ [])) location (Bad OnItself)) (sym same) (on_itself thread name location operation some none is on)

paren_says : (thread name rest location : List ℕ) → thread ≢ [] → ¬ Contains name OPEN → (o : Option Operation) → operation_of name ≡ o → (q : Option (List ℕ)) → before_close rest ≡ q → FieldsSay thread (name ++ OPEN ∷ rest) location (shape_of_call thread o q location)
paren_says thread name rest location some none None is q closed = other_call thread name rest location some none is
paren_says thread name rest location some none (Some operation) is (Some operand) closed =
    let parts = before_close-Some rest operand closed in
    subst (λ r. FieldsSay thread (name ++ OPEN ∷ r) location (shape_of_call thread (Some operation) (Some operand) location)) (sym parts.0) (closed_says thread name operand location operation some none is parts.1)
paren_says thread name rest location some none (Some operation) is None closed =
    bad_operand thread name rest location operation some none is (λ operand any same. some_none operand (sym (before_close-append operand any) ∙ sym (ap before_close same) ∙ closed))
  where
    some_none : (operand : List ℕ) → Some operand ≡ None → ⊥
    some_none operand e = cc

call_says : (thread field location : List ℕ) → thread ≢ [] → FieldsSay thread field location (shape_of_call thread (operation_of (operation_name field)) (operand_of field) location)
call_says thread field location some = by (cut_at OPEN field) refl
  where
    by : (r : Option (List ℕ × List ℕ)) → cut_at OPEN field ≡ r → FieldsSay thread field location (shape_of_call thread (operation_of (option_map_or (λ parts. parts.0) r field)) (option_map_or (λ parts. before_close parts.1) r None) location)
    by None e = word_says thread field location some (free_of OPEN field (cut_at-None OPEN field e)) (operation_of field) refl
    by (Some parts) e =
        let are = cut_at-Some OPEN field parts e in
        subst (λ f. FieldsSay thread f location (shape_of_call thread (operation_of parts.0) (before_close parts.1) location)) (sym are.0) (paren_says thread parts.0 parts.1 location some (free_of OPEN parts.0 are.1) (operation_of parts.0) refl (before_close parts.1) refl)

fields_say : (thread field location : List ℕ) → FieldsSay thread field location (shape_of_fields thread field location)
fields_say [] field location = no_thread field location
fields_say (b ∷ thread) field location =
    let some : b ∷ thread ≢ [] = λ e. cc in
    subst (FieldsSay (b ∷ thread) field location) (shape_of_fields-call (b ∷ thread) field location some) (call_says (b ∷ thread) field location some)

short_says : (line : List ℕ) → length line ≤ MAX_LINE → line ≢ [] → Says line (short_shape line)
short_says line fits some = by (cut_at BAR line) refl
  where
    second : (parts : List ℕ × List ℕ) → line ≡ parts.0 ++ BAR ∷ parts.1 → holds BAR parts.0 ≡ false → (r : Option (List ℕ × List ℕ)) → cut_at BAR parts.1 ≡ r → Says line (option_map_or (λ second. shape_of_fields parts.0 second.0 second.1) r (Bad NoLocation))
    second parts whole none None e =
        subst (λ l. Says l (Bad NoLocation)) (sym whole) (one_bar parts.0 parts.1 (subst (λ l. length l ≤ MAX_LINE) whole fits) (free_of BAR parts.0 none) (free_of BAR parts.1 (cut_at-None BAR parts.1 e)))
    second parts whole none (Some more) e =
        let are = cut_at-Some BAR parts.1 more e in
        let all : line ≡ parts.0 ++ BAR ∷ (more.0 ++ BAR ∷ more.1) = whole ∙ ap (λ r. parts.0 ++ BAR ∷ r) are.0 in
        subst (λ l. Says l (shape_of_fields parts.0 more.0 more.1)) (sym all) (fields parts.0 more.0 more.1 (shape_of_fields parts.0 more.0 more.1) (subst (λ l. length l ≤ MAX_LINE) all fits) (free_of BAR parts.0 none) (free_of BAR more.0 are.1) (fields_say parts.0 more.0 more.1))

    by : (r : Option (List ℕ × List ℕ)) → cut_at BAR line ≡ r → Says line (option_map_or after_bar r (Bad NoBar))
    by None e = no_bar line fits some (free_of BAR line (cut_at-None BAR line e))
    by (Some parts) e = let are = cut_at-Some BAR line parts e in second parts are.0 are.1 (cut_at BAR parts.1) refl

pub line_says : (line : List ℕ) → Says line (shape_of line)
line_says [] = blank
line_says (b ∷ line) = by (nat_lt MAX_LINE (length (b ∷ line))) refl
  where
    by : (v : Bool) → nat_lt MAX_LINE (length (b ∷ line)) ≡ v → Says (b ∷ line) (shape_of (b ∷ line))
    by true e =
        let long : MAX_LINE < length (b ∷ line) = grind (arith, nat_tests, e) in
        subst (Says (b ∷ line)) (shape_of-long (b ∷ line) long) (too_long (b ∷ line) long)
    by false e =
        let fits : length (b ∷ line) ≤ MAX_LINE = grind (arith, nat_tests, e) in
        let some : b ∷ line ≢ [] = λ e. cc in
        subst (Says (b ∷ line)) (shape_of-short (b ∷ line) fits some) (short_says (b ∷ line) fits some)

-- ---- no thread forks or joins itself

fields_apart : (thread field location : List ℕ) (shape : Shape) → FieldsSay thread field location shape → AreApart shape
fields_apart _ _ _ _ (no_thread field location) = tt
fields_apart _ _ _ _ (other_word thread field location some none is) = tt
fields_apart _ _ _ _ (no_operand thread field location operation some none is) = tt
fields_apart _ _ _ _ (other_call thread name rest location some none is) = tt
fields_apart _ _ _ _ (call thread name operand location operation some none is any apart) = apart_itself operation thread operand apart
fields_apart _ _ _ _ (on_itself thread name location operation some none is on) = tt
fields_apart _ _ _ _ (bad_operand thread name rest location operation some none is unclosed) = tt

says_apart : (line : List ℕ) (shape : Shape) → Says line shape → AreApart shape
says_apart _ _ (too_long line h) = tt
says_apart _ _ blank = tt
says_apart _ _ (no_bar line fits some none) = tt
says_apart _ _ (one_bar thread rest fits none none_more) = tt
says_apart _ _ (fields thread field location shape fits none none_more says) = fields_apart thread field location shape says

pub shape_of_apart : (line : List ℕ) → AreApart (shape_of line)
shape_of_apart line = says_apart line (shape_of line) (line_says line)
