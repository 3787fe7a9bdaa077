-- A table of the new numbers of names, by their old ones, while names are mentioned.
use Rattle.std.proofs.Common.{◌≡◌, ◌⊎◌, inl, inr, ℕ, zero, suc, ◌+◌, ◌^◌, ◌<◌, List, [], ◌∷◌, ◌++◌, length, get_or, position, unwrap_or, All, Contains, Option, Some, None, refl, sym, ap, subst, ◌∙◌, ⊎_elim, arith}
use Rattle.std.specs.Prelude.{slice_get, slice_set}
use Rattle.std.specs.Option.{option_map_or}
use Rattle.std.specs.Str.{bytes_eq}
use Rattle.std.proofs.lemmas.List.{length-set, length_push}
use Rattle.std.proofs.lemmas.Option.{get_or_from_slice_get, slice_get-get_or, slice_get_read, slice_get_within}
use Rattle.gl_std.specs.Names.{NameLists, with_new}
use Rattle.gl_writing.specs.Written.{name_at}
use Rattle.gl_renumbering.specs.bodies.Tables.{IsTable, IsBlank, StandsFor}
use Rattle.gl_renumbering.proofs.Growing.{position_more, differ_more, among_more, no_more}

-- a name that has a number is the one with this number
pub name_is : (names : List (List ℕ)) (n : ℕ) (name : List ℕ) → slice_get names n ≡ Some name → name_at names n ≡ name
name_is names n name at = ap (λ o. unwrap_or o []) at

nothing_in : (table : List (Option ℕ)) (n number : ℕ) → All (λ entry. entry ≡ None) table → slice_get table n ≡ Some (Some number) → ⊥
nothing_in table n number none at =
    let here = none n (Some number) (slice_get_within table n (Some number) at) in
    let is : Some number ≡ None = sym (get_or_from_slice_get table n (Some number) (Some number) at) ∙ here in
    absurd cc

-- a blank table is one of no names
pub table_start : (old : List (List ℕ)) (count : ℕ) (table : List (Option ℕ)) → IsBlank count table → count ≡ length old → count < 2 ^ 32 → IsTable old [] table
table_start old count table blank counts few = record {
  size = blank.size ∙ counts;
  few = omega (arith, few, counts);
  each = λ n number name at named. absurd (nothing_in table n number blank.none at);
  differ = λ i j d low high. absurd (omega (arith, high));
  among = λ k d h. absurd (omega (arith, h));
}

-- what the table has after a number was written
written : (table : List (Option ℕ)) (n k number other : ℕ) → slice_get (slice_set table n (Some number)) k ≡ Some (Some other) → ((k ≡ n) × (number ≡ other)) ⊎ (slice_get table k ≡ Some (Some other))
written [] n k number other e = inr e
written (x ∷ xs) zero zero number other e = inl (refl, cc)
written (x ∷ xs) zero (suc k) number other e = inr e
written (x ∷ xs) (suc n) zero number other e = inr e
written (x ∷ xs) (suc n) (suc k) number other e = ⊎_elim (λ here. inl (ap suc here.0, here.1)) (λ there. inr there) (written xs n k number other e)

module _ (old new : List (List ℕ)) (table : List (Option ℕ)) (is : IsTable old new table) (n : ℕ) (name : List ℕ) (named : slice_get old n ≡ Some name) where
  -- a number that the table has is that of the name
  pub table_number : (number : ℕ) → slice_get table n ≡ Some (Some number) → position (bytes_eq (name_at old n)) new ≡ Some number
  table_number number at = ap (λ m. position (bytes_eq m) new) (name_is old n name named) ∙ is.each n number name at named

  -- there is room for one more name, where this one isn't there yet
  pub table_room : position (bytes_eq name) new ≡ None → length new + 1 < 2 ^ 32
  table_room absent =
      let in_old : Contains old name = (n, slice_get_within old n name named, get_or_from_slice_get old n name name named) in
      let more = no_more old (with_new new name) (differ_more new name is.differ) (among_more old new name is.among in_old) in
      let longer : length (with_new new name) ≡ length new + 1 = ap length (λ i. option_map_or (λ (_ : ℕ). new) (absent i) (new ++ name ∷ [])) ∙ length_push new name in
      omega (arith, more, longer, is.few)

  -- the name is mentioned, and its number is written
  pub table_next : (number : ℕ) → position (bytes_eq name) (with_new new name) ≡ Some number → IsTable old (with_new new name) (slice_set table n (Some number))
  table_next number has = record {
    size = length-set table n (Some number) ∙ is.size;
    few = is.few;
    each = λ k other kept at here. ⊎_elim
        (λ same. let names_same : Some kept ≡ Some name = sym here ∙ ap (slice_get old) same.0 ∙ named in
        let kept_is : kept ≡ name = cc in
        ap (λ m. position (bytes_eq m) (with_new new name)) kept_is ∙ has ∙ ap Some same.1)
        (λ there. position_more new name kept other (is.each k other kept there here))
        (written table n k number other at);
    differ = differ_more new name is.differ;
    among = among_more old new name is.among (n, slice_get_within old n name named, get_or_from_slice_get old n name name named);
  }

-- a number that is read from the table
pub table_read : (old new : List (List ℕ)) (table : List (Option ℕ)) → IsTable old new table → (n place number result : ℕ) (entry : Option ℕ) → n < length old → place ≡ n → entry ≡ get_or table place entry → entry ≡ Some number → result ≡ number
    → position (bytes_eq (name_at old n)) new ≡ Some result
table_read old new table is n place number result entry within same read some got =
    let here : slice_get table place ≡ Some entry = slice_get_read table (length table) place entry refl (omega (arith, same, within, is.size)) read in
    let at : slice_get table n ≡ Some (Some number) = ap (slice_get table) (sym same) ∙ here ∙ ap Some some in
    table_number old new table is n (get_or old n []) (slice_get-get_or old n [] within) number at ∙ ap Some (sym got)

-- both tables, after a lock was mentioned for the first time
pub lock_stands : (old names after : NameLists) (table locations : List (Option ℕ)) → StandsFor old names table locations → (n place number : ℕ) (name : List ℕ) → slice_get old.locks n ≡ Some name → place ≡ n
    → after ≡ record names { locks = with_new names.locks name } → position (bytes_eq name) after.locks ≡ Some number → StandsFor old after (slice_set table place (Some number)) locations
lock_stands old names after table locations stands n place number name named same is has =
    let here : position (bytes_eq name) (with_new names.locks name) ≡ Some number = ap (λ ns. position (bytes_eq name) ns.locks) (sym is) ∙ has in
    let next = table_next old.locks names.locks table stands.locks n name named number here in
    subst (λ ns. StandsFor old ns (slice_set table place (Some number)) locations) (sym is)
    (record { locks = subst (λ k. IsTable old.locks (with_new names.locks name) (slice_set table k (Some number))) (sym same) next; locations = stands.locations })

-- and after a location was
pub location_stands : (old names after : NameLists) (locks table : List (Option ℕ)) → StandsFor old names locks table → (n place number : ℕ) (name : List ℕ) → slice_get old.locs n ≡ Some name → place ≡ n
    → after ≡ record names { locs = with_new names.locs name } → position (bytes_eq name) after.locs ≡ Some number → StandsFor old after locks (slice_set table place (Some number))
location_stands old names after locks table stands n place number name named same is has =
    let here : position (bytes_eq name) (with_new names.locs name) ≡ Some number = ap (λ ns. position (bytes_eq name) ns.locs) (sym is) ∙ has in
    let next = table_next old.locs names.locs table stands.locations n name named number here in
    subst (λ ns. StandsFor old ns locks (slice_set table place (Some number))) (sym is)
    (record { locks = stands.locks; locations = subst (λ k. IsTable old.locs (with_new names.locs name) (slice_set table k (Some number))) (sym same) next })
