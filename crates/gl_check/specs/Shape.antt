-- The shape of a report's JSON, and what stands under its keys.
use Rattle.std.specs.Prelude.{ℕ, ◌^◌, ◌==◌, ◌&&◌, ◌||◌, Bool, true, false, List, [], ◌∷◌, length, map, Option, option_map, option_and_then, unwrap_or, is_some, is_none, nat_lt, nat_le, if◌then◌else◌, codes}
use Rattle.std.specs.List.{list_all}
use Rattle.std.specs.Str.{bytes_eq}
use Rattle.serde_json.specs.Data.{Data, null, boolean, number, string, array, object, Items, no_items, item, Members, no_members, member}
use Rattle.serde_json.specs.Find.{get, as_bool, as_number, as_u64, as_str, as_array, as_object}
use Rattle.gl_check.specs.declared.fields.Format.{Format}
use Rattle.gl_check.specs.declared.fields.Format.TheVariants.{One, Two, Three}
use Rattle.gl_check.specs.declared.fields.Kind.{Kind}
use Rattle.gl_check.specs.declared.fields.Kind.TheVariants.{Number, Exactly, Name, Names, Letter, Letters, Word, Flag, Array, Trim}
use Rattle.gl_filters.specs.Asked.{Asked, first_out_of_range, mode_named}
use Rattle.gl_filters.specs.declared.query.Mode.{Mode}
use Rattle.gl_filters.specs.declared.query.Mode.TheVariants.{Basic}
use Rattle.gl_findings.specs.declared.listing.Listing.{Listing}
use Rattle.gl_findings.specs.declared.listing.Listing.TheVariants.{Cycles, Findings}

-- the items of an array, one after the other
abbrev pub items_listed : Items → List Data
items_listed no_items = []
items_listed (item d ds) = d ∷ items_listed ds

-- what stands in a value: its items, where it is an array
abbrev pub items_in : Data → List Data
items_in d = unwrap_or (option_map items_listed (as_array d)) []

-- the whole number that a value is, if it is one
abbrev pub whole : Data → Option ℕ
whole d = option_and_then as_u64 (as_number d)

-- and 0 where it is none
abbrev pub number_told : Data → ℕ
number_told d = unwrap_or (whole d) 0

-- a whole number below this one
abbrev pub is_below : ℕ → Data → Bool
is_below bound d = unwrap_or (option_map (λ n. nat_lt n bound) (whole d)) false

-- the letter for the mode of a lock
abbrev pub is_letter : Data → Bool
is_letter d =
    unwrap_or (option_map (λ word. bytes_eq word (codes "x") || bytes_eq word (codes "s"))
    (as_str d)) false

-- null
abbrev pub is_null : Data → Bool
is_null null = true
is_null (boolean b) = false
is_null (number n) = false
is_null (string s) = false
is_null (array ds) = false
is_null (object ms) = false

-- a value of this kind: a number below 2 to the power 32, a certain number, a text, an array of texts, the letter for a lock's mode, an array of such letters, the word for a mode, a truth value,
-- an array, and null or an array of numbers below 2 to the power 32
abbrev pub is_of : Kind → Data → Bool
is_of Number d = is_below (2 ^ 32) d
is_of (Exactly n) d = unwrap_or (option_map (λ m. m == n) (whole d)) false
is_of Name d = is_some (as_str d)
is_of Names d = is_some (as_array d) && list_all (λ name. is_some (as_str name)) (items_in d)
is_of Letter d = is_letter d
is_of Letters d = is_some (as_array d) && list_all is_letter (items_in d)
is_of Word d = is_some (option_and_then mode_named (as_str d))
is_of Flag d = is_some (as_bool d)
is_of Array d = is_some (as_array d)
is_of Trim d = is_null d || (is_some (as_array d) && list_all (is_below (2 ^ 32)) (items_in d))

-- the members have exactly these keys, in this order, and under each a value of its kind
abbrev pub have_fields : List (List ℕ × Kind) → Members → Bool
have_fields [] no_members = true
have_fields [] (member key d rest) = false
have_fields (field ∷ fields) no_members = false
have_fields (field ∷ fields) (member key d rest) =
    bytes_eq key field.0 && (is_of field.1 d && have_fields fields rest)

-- an object with exactly these keys, which ascend, and under each a value of its kind
abbrev pub has_fields : List (List ℕ × Kind) → Data → Bool
has_fields fields d = unwrap_or (option_map (have_fields fields) (as_object d)) false

-- the keys of an edge of format 1
abbrev pub edge_fields_v1 : List (List ℕ × Kind)
edge_fields_v1 =
    (codes "first", Number) ∷ (codes "guards", Names) ∷ (codes "held", Name)
    ∷ (codes "held_at", Name) ∷ (codes "place", Number) ∷ (codes "second", Number)
    ∷ (codes "thread", Name) ∷ (codes "wanted", Name) ∷ (codes "wanted_at", Name) ∷ []

-- the keys of an edge of formats 2 and 3
abbrev pub edge_fields : List (List ℕ × Kind)
edge_fields =
    (codes "first", Number) ∷ (codes "guard_modes", Letters) ∷ (codes "guards", Names)
    ∷ (codes "held", Name) ∷ (codes "held_at", Name) ∷ (codes "held_mode", Letter)
    ∷ (codes "place", Number) ∷ (codes "second", Number) ∷ (codes "thread", Name)
    ∷ (codes "wanted", Name) ∷ (codes "wanted_at", Name) ∷ (codes "wanted_mode", Letter) ∷ []

-- the keys of a report
abbrev pub report_fields : Format → List (List ℕ × Kind)
report_fields One =
    (codes "cycles", Array) ∷ (codes "format", Exactly 1) ∷ (codes "len", Number)
    ∷ (codes "max", Number) ∷ (codes "mode", Word) ∷ (codes "more", Flag) ∷ []
report_fields Two =
    (codes "cycles", Array) ∷ (codes "edges", Array) ∷ (codes "format", Exactly 2)
    ∷ (codes "len", Number) ∷ (codes "max", Number) ∷ (codes "mode", Word)
    ∷ (codes "more", Flag) ∷ (codes "trim", Trim) ∷ []
report_fields Three =
    (codes "edges", Array) ∷ (codes "findings", Array) ∷ (codes "format", Exactly 3)
    ∷ (codes "len", Number) ∷ (codes "max", Number) ∷ (codes "mode", Word)
    ∷ (codes "more", Flag) ∷ []

-- the whole number under a key
abbrev pub number_under : List ℕ → Data → ℕ
number_under key d = unwrap_or (option_and_then whole (get key d)) 0

-- the mode whose word stands under `mode`
abbrev pub mode_under : Data → Mode
mode_under d =
    unwrap_or (option_and_then mode_named (option_and_then as_str (get (codes "mode") d))) Basic

-- what was asked
abbrev pub asked_in : Data → Asked
asked_in d =
    record {
      mode = mode_under d;
      len = number_under (codes "len") d;
      max = number_under (codes "max") d;
    }

-- the format that it says it has, where it is 1, 2 or 3
abbrev pub format_in : Data → Format
format_in d =
    if number_under (codes "format") d == 1 then One
    else (if number_under (codes "format") d == 3 then Three else Two)

-- what is listed in a format
abbrev pub listing_in : Format → Listing
listing_in One = Cycles
listing_in Two = Cycles
listing_in Three = Findings

-- what stands in the array under a key
abbrev pub items_under : List ℕ → Data → List Data
items_under key d = unwrap_or (option_map items_in (get key d)) []

-- what is listed: cycles, and for each finding the cycle that shows it
abbrev pub listings_in : Format → Data → List Data
listings_in One d = items_under (codes "cycles") d
listings_in Two d = items_under (codes "cycles") d
listings_in Three d = items_under (codes "findings") d

-- the listed cycles, each with what it lists
abbrev pub cycles_shown : Data → List (List Data)
cycles_shown d = map items_in (listings_in (format_in d) d)

-- the numbers that a value lists, where it is an array
abbrev pub order_of : Data → Option (List ℕ)
order_of d = option_map (λ ds. map number_told (items_listed ds)) (as_array d)

-- the order in which the edges go, where one is given
abbrev pub trim_in : Data → Option (List ℕ)
trim_in d = option_and_then order_of (get (codes "trim") d)

-- an edge of formats 2 and 3, with a mode for each guard
abbrev pub is_edge : Data → Bool
is_edge d =
    has_fields edge_fields d
    && (length (items_under (codes "guard_modes") d) == length (items_under (codes "guards") d))

-- what names an edge in a cycle: in format 1 the edge itself, in the others its position among so many
abbrev pub is_member : Format → ℕ → Data → Bool
is_member One size d = has_fields edge_fields_v1 d
is_member Two size d = is_below size d
is_member Three size d = is_below size d

-- an array of these
abbrev pub is_listing : Format → ℕ → Data → Bool
is_listing format size d = is_some (as_array d) && list_all (is_member format size) (items_in d)

-- a report: the keys and their kinds, what was asked in its ranges, no more cycles than asked for, edges (in formats 2 and 3), and cycles of them
unfoldable pub is_report : Data → Bool
is_report d =
    has_fields (report_fields (format_in d)) d
    && (is_none (first_out_of_range (asked_in d))
    && (nat_le (length (listings_in (format_in d) d)) (asked_in d).max
    && (list_all is_edge (items_under (codes "edges") d)
    && list_all (is_listing (format_in d) (length (items_under (codes "edges") d)))
    (listings_in (format_in d) d))))
