-- A text that grows line by line and list by list.
use Rattle.std.proofs.Common.{◌≡◌, ◌≢◌, ℕ, ◌+◌, ◌<◌, ◌≤◌, List, [], ◌∷◌, ◌++◌, length, take, get_or, map, Some, refl, sym, ap, ◌∙◌, arith}
use Rattle.std.specs.Prelude.{slice_get}
use Rattle.std.specs.List.{flat_map, zip}
use Rattle.std.specs.Option.{option_map}
use Rattle.std.proofs.lemmas.List.{append_assoc, append-nil, take_more, take_all}
use Rattle.std.proofs.lemmas.Grind.{flat_map-append}
use Rattle.std.proofs.lemmas.List.Folds.{length-flat_map-take}
use Rattle.std.proofs.lemmas.Option.{slice_get_within, get_or_from_slice_get, slice_get-map, slice_get_read}
use Rattle.std.proofs.lemmas.Slice.Zip.{length-zip}
use Rattle.indexmap.proofs.ReorderLemmas.{slice_get-zip_some}
use Rattle.gl_event.specs.declared.events.Event.{Event}
use Rattle.gl_std.specs.Names.{NameLists}
use Rattle.gl_writing.specs.Written.{written_event, written_list, written}

flat_map_push : {X : Type 0} (f : X → List ℕ) (xs : List X) (x : X) → flat_map f (xs ++ x ∷ []) ≡ flat_map f xs ++ f x
flat_map_push f xs x = flat_map-append f xs (x ∷ []) ∙ ap (λ l. flat_map f xs ++ l) (append-nil (f x))

-- the text of the first ones, and of one more
pub text_more : {X : Type 0} (f : X → List ℕ) (start now more : List ℕ) (xs : List X) (i : ℕ) (d : X) → i < length xs → now ≡ start ++ flat_map f (take i xs) → more ≡ now ++ f (get_or xs i d) → more ≡ start ++ flat_map f (take (i + 1) xs)
text_more f start now more xs i d within before put =
    put ∙ ap (λ l. l ++ f (get_or xs i d)) before ∙ append_assoc start _ _
    ∙ ap (λ l. start ++ l) (sym (flat_map_push f (take i xs) (get_or xs i d)) ∙ ap (flat_map f) (sym (take_more xs i d within)))

-- the same, where the next one is known
pub text_next : {X : Type 0} (f : X → List ℕ) (start now more : List ℕ) (xs : List X) (i : ℕ) (x : X) → slice_get xs i ≡ Some x → now ≡ start ++ flat_map f (take i xs) → more ≡ now ++ f x → more ≡ start ++ flat_map f (take (i + 1) xs)
text_next f start now more xs i x at before put =
    text_more f start now more xs i x (slice_get_within xs i x at) before (put ∙ ap (λ y. now ++ f y) (sym (get_or_from_slice_get xs i x x at)))

-- the text of the lists of the first threads, and of one more
pub lists_more : (names : NameLists) (lists : List (List Event)) (i : ℕ) (now more thread : List ℕ) (es : List Event) → slice_get names.threads i ≡ Some thread → slice_get lists i ≡ Some es → now ≡ flat_map (λ own. written_list names own.0 own.1) (take i (zip names.threads lists)) → more ≡ now ++ written_list names thread es → more ≡ flat_map (λ own. written_list names own.0 own.1) (take (i + 1) (zip names.threads lists))
lists_more names lists i now more thread es named listed before put =
    text_next (λ own. written_list names own.0 own.1) [] now more (zip names.threads lists) i (thread, es) (slice_get-zip_some names.threads lists i thread es named listed) before put

-- the list of a row
pub list_at : {R : Type 0} (items : R → List Event) (rows : List R) (lists : List (List Event)) (i : ℕ) (row : R) → map items rows ≡ lists → i < length rows → row ≡ get_or rows i row → slice_get lists i ≡ Some (items row)
list_at items rows lists i row is within at =
    ap (λ l. slice_get l i) (sym is) ∙ slice_get-map items rows i ∙ ap (λ r. option_map items r) (slice_get_read rows (length rows) i row refl within at)

-- the text of all lists
pub lists_whole : (names : NameLists) (lists : List (List Event)) (n : ℕ) (text : List ℕ) → length names.threads ≤ n → text ≡ flat_map (λ own. written_list names own.0 own.1) (take n (zip names.threads lists)) → text ≡ written names lists
lists_whole names lists n text long is =
    is ∙ ap (flat_map (λ own. written_list names own.0 own.1)) (take_all n (zip names.threads lists) (omega (arith, length-zip names.threads lists)))

-- what has no elements is empty
no_elements : (xs : List ℕ) → length xs ≡ 0 → xs ≡ []
no_elements [] none = refl
no_elements (x ∷ xs) none = cc

-- a text isn't empty where one of its parts isn't
pub some_part : {X : Type 0} (f : X → List ℕ) (xs : List X) (i : ℕ) (x : X) → slice_get xs i ≡ Some x → f x ≢ [] → flat_map f xs ≢ []
some_part f xs i x at some none =
    let part : length (f (get_or xs i x)) ≡ length (f x) = ap (λ y. length (f y)) (get_or_from_slice_get xs i x x at) in
    let whole : length (flat_map f xs) ≡ 0 = ap length none in
    some (no_elements (f x) (omega (arith, length-flat_map-take f xs i x (slice_get_within xs i x at), part, whole)))

-- the line of an event isn't empty
pub some_line : (names : NameLists) (thread : List ℕ) (event : Event) → written_event names thread event ≢ []
some_line names [] event none = cc
some_line names (b ∷ thread) event none = cc

-- the text of all lists isn't empty where that of one of them isn't
pub some_list : (names : NameLists) (lists : List (List Event)) (i : ℕ) (thread : List ℕ) (es : List Event) → slice_get names.threads i ≡ Some thread → slice_get lists i ≡ Some es → written_list names thread es ≢ [] → written names lists ≢ []
some_list names lists i thread es named listed some =
    some_part (λ own. written_list names own.0 own.1) (zip names.threads lists) i (thread, es) (slice_get-zip_some names.threads lists i thread es named listed) some
