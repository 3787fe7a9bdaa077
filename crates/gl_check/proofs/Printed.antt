-- JSON of the shape of a report is what is printed of the report that it lists.
use Rattle.std.proofs.Common.{◌≡◌, ℕ, ◌^◌, Bool, true, false, cond, ◌&&◌, List, [], ◌∷◌, map, Some, None, refl, sym, ap, subst, ◌∙◌}
use Rattle.std.specs.Prelude.{codes, is_some, option_and_then, unwrap_or}
use Rattle.std.specs.List.{list_all}
use Rattle.std.specs.Str.{bytes_eq}
use Rattle.std.proofs.lemmas.Bool.{and_parts, eqb-true, false≢true}
use Rattle.std.proofs.lemmas.Slice.Eq.{bytes_eq-Decides}
use Rattle.serde_json.specs.Data.{unsigned, negative, float, Data, null, boolean, number, string, array, object, Items, no_items, item, Members, no_members, member}
use Rattle.serde_json.specs.Find.{as_array, as_bool, as_str, get}
use Rattle.serde_json.specs.View.{items_of}
use Rattle.gl_filters.specs.Asked.{mode_name, mode_named}
use Rattle.gl_filters.specs.declared.query.Mode.TheVariants.{Basic, Guarded, Full}
use Rattle.gl_report.specs.Tree.{positions_tree, trim_tree}
use Rattle.gl_check.specs.Shape.{has_fields, have_fields, is_below, is_of, items_in, items_under, items_listed, mode_under, number_told, number_under, order_of, report_fields, trim_in}
use Rattle.gl_check.specs.declared.fields.Format.TheVariants.{One, Two, Three}
use Rattle.gl_check.specs.declared.fields.Kind.{Kind}
use Rattle.gl_check.specs.declared.fields.Kind.TheVariants.{Number, Exactly, Word, Flag, Array, Trim}

-- what stands under `more`
abbrev pub more_under : Data → Bool
more_under d = unwrap_or (option_and_then as_bool (get (codes "more") d)) false

items_of_listed : (ds : Items) → items_of (items_listed ds) ≡ ds
items_of_listed no_items = refl
items_of_listed (item d ds) = ap (item d) (items_of_listed ds)

-- an array is that of its items
pub array_is : (d : Data) → is_some (as_array d) ≡ true → d ≡ array (items_of (items_in d))
array_is null is = absurd (false≢true is)
array_is (boolean b) is = absurd (false≢true is)
array_is (number n) is = absurd (false≢true is)
array_is (string s) is = absurd (false≢true is)
array_is (array ds) is = ap array (sym (items_of_listed ds))
array_is (object ms) is = absurd (false≢true is)

pub number_is : (bound : ℕ) (d : Data) → is_below bound d ≡ true → d ≡ number (unsigned (number_told d))
number_is bound null is = absurd (false≢true is)
number_is bound (boolean b) is = absurd (false≢true is)
number_is bound (number (unsigned n)) is = refl
number_is bound (number (negative z)) is = absurd (false≢true is)
number_is bound (number (float x)) is = absurd (false≢true is)
number_is bound (string s) is = absurd (false≢true is)
number_is bound (array ds) is = absurd (false≢true is)
number_is bound (object ms) is = absurd (false≢true is)

exactly_is : (n : ℕ) (d : Data) → is_of (Exactly n) d ≡ true → d ≡ number (unsigned n)
exactly_is n null is = absurd (false≢true is)
exactly_is n (boolean b) is = absurd (false≢true is)
exactly_is n (number (unsigned m)) is = ap (λ k. number (unsigned k)) (eqb-true m n is)
exactly_is n (number (negative z)) is = absurd (false≢true is)
exactly_is n (number (float x)) is = absurd (false≢true is)
exactly_is n (string s) is = absurd (false≢true is)
exactly_is n (array ds) is = absurd (false≢true is)
exactly_is n (object ms) is = absurd (false≢true is)

word_of : (s : List ℕ) → is_some (mode_named s) ≡ true → s ≡ mode_name (unwrap_or (mode_named s) Basic)
word_of s is = by (bytes_eq s (codes "basic")) (bytes_eq s (codes "guarded")) (bytes_eq s (codes "full")) refl refl refl is
  where
    by : (a b c : Bool) → bytes_eq s (codes "basic") ≡ a → bytes_eq s (codes "guarded") ≡ b → bytes_eq s (codes "full") ≡ c
        → is_some (cond a (Some Basic) (cond b (Some Guarded) (cond c (Some Full) None))) ≡ true
        → s ≡ mode_name (unwrap_or (cond a (Some Basic) (cond b (Some Guarded) (cond c (Some Full) None))) Basic)
    by true b c one two three is = (bytes_eq-Decides s (codes "basic")).0 one
    by false true c one two three is = (bytes_eq-Decides s (codes "guarded")).0 two
    by false false true one two three is = (bytes_eq-Decides s (codes "full")).0 three
    by false false false one two three is = absurd (false≢true is)

word_is : (d : Data) → is_of Word d ≡ true → d ≡ string (mode_name (unwrap_or (option_and_then mode_named (as_str d)) Basic))
word_is null is = absurd (false≢true is)
word_is (boolean b) is = absurd (false≢true is)
word_is (number n) is = absurd (false≢true is)
word_is (string s) is = ap string (word_of s is)
word_is (array ds) is = absurd (false≢true is)
word_is (object ms) is = absurd (false≢true is)

flag_is : (d : Data) → is_of Flag d ≡ true → d ≡ boolean (unwrap_or (as_bool d) false)
flag_is null is = absurd (false≢true is)
flag_is (boolean b) is = refl
flag_is (number n) is = absurd (false≢true is)
flag_is (string s) is = absurd (false≢true is)
flag_is (array ds) is = absurd (false≢true is)
flag_is (object ms) is = absurd (false≢true is)

-- the values of members that have these fields
record Holds (field : List ℕ × Kind) (Others : Members → Type 0) (members : Members) : Type 0 where
  value : Data
  rest : Members
  is : members ≡ member field.0 value rest
  fits : is_of field.1 value ≡ true
  others : Others rest

abbrev Filled : List (List ℕ × Kind) → Members → Type 0
Filled [] members = members ≡ no_members
Filled (field ∷ fields) members = Holds field (Filled fields) members

filled : (fields : List (List ℕ × Kind)) (members : Members) → have_fields fields members ≡ true → Filled fields members
filled [] no_members is = refl
filled [] (member key d rest) is = absurd (false≢true is)
filled (field ∷ fields) no_members is = absurd (false≢true is)
filled (field ∷ fields) (member key d rest) is =
    let tests = and_parts (bytes_eq key field.0) (is_of field.1 d && have_fields fields rest) is in
    let both = and_parts (is_of field.1 d) (have_fields fields rest) tests.1 in
    record { value = d; rest = rest; is = ap (λ l. member l d rest) ((bytes_eq-Decides key field.0).0 tests.0); fits = both.0; others = filled fields rest both.1 }

-- the object with these six values
abbrev pub six : Data → Data → Data → Data → Data → Data → Data
six a b c d e f =
    object (member (codes "cycles") a (member (codes "format") b (member (codes "len") c (member (codes "max") d (member (codes "mode") e (member (codes "more") f no_members))))))

-- an object with the keys of a report of format 1, by what stands under them
abbrev Rebuilt : Data → Type 0
Rebuilt d = d ≡ six (array (items_of (items_under (codes "cycles") d))) (number (unsigned 1)) (number (unsigned (number_under (codes "len") d))) (number (unsigned (number_under (codes "max") d))) (string (mode_name (mode_under d))) (boolean (more_under d))

rebuilt_six : (a b c d e f : Data) → is_of Array a ≡ true → is_of (Exactly 1) b ≡ true → is_of Number c ≡ true → is_of Number d ≡ true → is_of Word e ≡ true → is_of Flag f ≡ true → Rebuilt (six a b c d e f)
rebuilt_six a b c d e f one two three four five more =
    λ i. six (array_is a one i) (exactly_is 1 b two i) (number_is (2 ^ 32) c three i) (number_is (2 ^ 32) d four i) (word_is e five i) (flag_is f more i)

of_six : (m1 m2 m3 m4 m5 m6 m7 : Members) (a b c d e f : Data) → m1 ≡ member (codes "cycles") a m2 → m2 ≡ member (codes "format") b m3 → m3 ≡ member (codes "len") c m4 → m4 ≡ member (codes "max") d m5
    → m5 ≡ member (codes "mode") e m6 → m6 ≡ member (codes "more") f m7 → m7 ≡ no_members
    → is_of Array a ≡ true → is_of (Exactly 1) b ≡ true → is_of Number c ≡ true → is_of Number d ≡ true → is_of Word e ≡ true → is_of Flag f ≡ true → Rebuilt (object m1)
of_six m1 m2 m3 m4 m5 m6 m7 a b c d e f one two three four five six_ done fits_a fits_b fits_c fits_d fits_e fits_f =
    let last : m6 ≡ member (codes "more") f no_members = six_ ∙ ap (member (codes "more") f) done in
    let fifth : m5 ≡ member (codes "mode") e (member (codes "more") f no_members) = five ∙ ap (member (codes "mode") e) last in
    let fourth : m4 ≡ member (codes "max") d (member (codes "mode") e (member (codes "more") f no_members)) = four ∙ ap (member (codes "max") d) fifth in
    let third : m3 ≡ member (codes "len") c (member (codes "max") d (member (codes "mode") e (member (codes "more") f no_members))) = three ∙ ap (member (codes "len") c) fourth in
    let form : object m1 ≡ six a b c d e f = ap object (one ∙ ap (member (codes "cycles") a) (two ∙ ap (member (codes "format") b) third)) in
    subst Rebuilt (sym form) (rebuilt_six a b c d e f fits_a fits_b fits_c fits_d fits_e fits_f)

pub rebuilt_v1 : (d : Data) → has_fields (report_fields One) d ≡ true → Rebuilt d
rebuilt_v1 null is = absurd (false≢true is)
rebuilt_v1 (boolean b) is = absurd (false≢true is)
rebuilt_v1 (number n) is = absurd (false≢true is)
rebuilt_v1 (string s) is = absurd (false≢true is)
rebuilt_v1 (array ds) is = absurd (false≢true is)
rebuilt_v1 (object ms) is =
    let a = filled (report_fields One) ms is in
    let b = a.others in
    let c = b.others in
    let d = c.others in
    let e = d.others in
    let f = e.others in
    of_six ms a.rest b.rest c.rest d.rest e.rest f.rest a.value b.value c.value d.value e.value f.value a.is b.is c.is d.is e.is f.is f.others a.fits b.fits c.fits d.fits e.fits f.fits

-- numbers are what is printed of them
pub numbers_are : (bound : ℕ) (ds : List Data) → list_all (is_below bound) ds ≡ true → ds ≡ map (λ position. number (unsigned position)) (map number_told ds)
numbers_are bound [] all = refl
numbers_are bound (d ∷ ds) all =
    let tests = and_parts (is_below bound d) (list_all (is_below bound) ds) all in
    let here = number_is bound d tests.0 in
    let more = numbers_are bound ds tests.1 in
    λ i. here i ∷ more i

trim_is : (d : Data) → is_of Trim d ≡ true → d ≡ trim_tree (order_of d)
unfolding positions_tree
trim_is null is = refl
trim_is (boolean b) is = absurd (false≢true is)
trim_is (number n) is = absurd (false≢true is)
trim_is (string s) is = absurd (false≢true is)
trim_is (array ds) is = ap array (sym (items_of_listed ds) ∙ ap items_of (numbers_are (2 ^ 32) (items_listed ds) is))
trim_is (object ms) is = absurd (false≢true is)

-- the object with these eight values
abbrev pub eight : Data → Data → Data → Data → Data → Data → Data → Data → Data
eight a b c d e f g h =
    object (member (codes "cycles") a (member (codes "edges") b (member (codes "format") c (member (codes "len") d (member (codes "max") e (member (codes "mode") f (member (codes "more") g (member (codes "trim") h no_members))))))))

-- an object with the keys of a report of format 2, by what stands under them
abbrev RebuiltTwo : Data → Type 0
RebuiltTwo d =
    d ≡ eight (array (items_of (items_under (codes "cycles") d))) (array (items_of (items_under (codes "edges") d))) (number (unsigned 2)) (number (unsigned (number_under (codes "len") d)))
    (number (unsigned (number_under (codes "max") d))) (string (mode_name (mode_under d))) (boolean (more_under d)) (trim_tree (trim_in d))

rebuilt_eight : (a b c d e f g h : Data) → is_of Array a ≡ true → is_of Array b ≡ true → is_of (Exactly 2) c ≡ true → is_of Number d ≡ true → is_of Number e ≡ true → is_of Word f ≡ true → is_of Flag g ≡ true
    → is_of Trim h ≡ true → RebuiltTwo (eight a b c d e f g h)
rebuilt_eight a b c d e f g h one two three four five six_ seven last =
    λ i. eight (array_is a one i) (array_is b two i) (exactly_is 2 c three i) (number_is (2 ^ 32) d four i) (number_is (2 ^ 32) e five i) (word_is f six_ i) (flag_is g seven i) (trim_is h last i)

pub rebuilt_two : (d : Data) → has_fields (report_fields Two) d ≡ true → RebuiltTwo d
rebuilt_two null is = absurd (false≢true is)
rebuilt_two (boolean b) is = absurd (false≢true is)
rebuilt_two (number n) is = absurd (false≢true is)
rebuilt_two (string s) is = absurd (false≢true is)
rebuilt_two (array ds) is = absurd (false≢true is)
rebuilt_two (object ms) is =
    let a = filled (report_fields Two) ms is in
    let b = a.others in
    let c = b.others in
    let d = c.others in
    let e = d.others in
    let f = e.others in
    let g = f.others in
    let h = g.others in
    let at_h = h.is ∙ ap (member (codes "trim") h.value) h.others in
    let at_g = g.is ∙ ap (member (codes "more") g.value) at_h in
    let at_f = f.is ∙ ap (member (codes "mode") f.value) at_g in
    let at_e = e.is ∙ ap (member (codes "max") e.value) at_f in
    let at_d = d.is ∙ ap (member (codes "len") d.value) at_e in
    let at_c = c.is ∙ ap (member (codes "format") c.value) at_d in
    let at_b = b.is ∙ ap (member (codes "edges") b.value) at_c in
    let form : object ms ≡ eight a.value b.value c.value d.value e.value f.value g.value h.value = ap object (a.is ∙ ap (member (codes "cycles") a.value) at_b) in
    subst RebuiltTwo (sym form) (rebuilt_eight a.value b.value c.value d.value e.value f.value g.value h.value a.fits b.fits c.fits d.fits e.fits f.fits g.fits h.fits)

-- the object with these seven values
abbrev pub seven : Data → Data → Data → Data → Data → Data → Data → Data
seven a b c d e f g =
    object (member (codes "edges") a (member (codes "findings") b (member (codes "format") c (member (codes "len") d (member (codes "max") e (member (codes "mode") f (member (codes "more") g no_members)))))))

-- an object with the keys of a report of format 3, by what stands under them
abbrev RebuiltThree : Data → Type 0
RebuiltThree d =
    d ≡ seven (array (items_of (items_under (codes "edges") d))) (array (items_of (items_under (codes "findings") d))) (number (unsigned 3)) (number (unsigned (number_under (codes "len") d)))
    (number (unsigned (number_under (codes "max") d))) (string (mode_name (mode_under d))) (boolean (more_under d))

rebuilt_seven : (a b c d e f g : Data) → is_of Array a ≡ true → is_of Array b ≡ true → is_of (Exactly 3) c ≡ true → is_of Number d ≡ true → is_of Number e ≡ true → is_of Word f ≡ true → is_of Flag g ≡ true
    → RebuiltThree (seven a b c d e f g)
rebuilt_seven a b c d e f g one two three four five six_ last =
    λ i. seven (array_is a one i) (array_is b two i) (exactly_is 3 c three i) (number_is (2 ^ 32) d four i) (number_is (2 ^ 32) e five i) (word_is f six_ i) (flag_is g last i)

pub rebuilt_three : (d : Data) → has_fields (report_fields Three) d ≡ true → RebuiltThree d
rebuilt_three null is = absurd (false≢true is)
rebuilt_three (boolean b) is = absurd (false≢true is)
rebuilt_three (number n) is = absurd (false≢true is)
rebuilt_three (string s) is = absurd (false≢true is)
rebuilt_three (array ds) is = absurd (false≢true is)
rebuilt_three (object ms) is =
    let a = filled (report_fields Three) ms is in
    let b = a.others in
    let c = b.others in
    let d = c.others in
    let e = d.others in
    let f = e.others in
    let g = f.others in
    let at_g = g.is ∙ ap (member (codes "more") g.value) g.others in
    let at_f = f.is ∙ ap (member (codes "mode") f.value) at_g in
    let at_e = e.is ∙ ap (member (codes "max") e.value) at_f in
    let at_d = d.is ∙ ap (member (codes "len") d.value) at_e in
    let at_c = c.is ∙ ap (member (codes "format") c.value) at_d in
    let at_b = b.is ∙ ap (member (codes "findings") b.value) at_c in
    let form : object ms ≡ seven a.value b.value c.value d.value e.value f.value g.value = ap object (a.is ∙ ap (member (codes "edges") a.value) at_b) in
    subst RebuiltThree (sym form) (rebuilt_seven a.value b.value c.value d.value e.value f.value g.value a.fits b.fits c.fits d.fits e.fits f.fits g.fits)
