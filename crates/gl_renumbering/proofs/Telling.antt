-- Events that are numbered by names, while more names are mentioned.
use Rattle.std.proofs.Common.{◌≡◌, ◌≢◌, ℕ, zero, suc, ◌+◌, ◌<◌, Bool, true, false, ◌&&◌, List, [], ◌∷◌, ◌++◌, length, map, take, get_or, position, Some, refl, sym, ap, ◌∙◌, arith}
use Rattle.std.specs.Prelude.{slice_get}
use Rattle.std.specs.List.{flat_map, list_all}
use Rattle.std.specs.Option.{option_map}
use Rattle.std.specs.Str.{bytes_eq}
use Rattle.std.proofs.lemmas.Bool.{false≢true}
use Rattle.std.proofs.lemmas.List.{append-nil, length-map, take_more}
use Rattle.std.proofs.lemmas.Grind.{flat_map-append}
use Rattle.std.proofs.lemmas.Option.{slice_get-map, slice_get_read}
use Rattle.gl_event.specs.declared.events.Event.{Event}
use Rattle.gl_std.specs.Names.{NameLists, number_of, with_new}
use Rattle.gl_renumbering.specs.Tales.{Tale, told, event_by, lists_by_mention, mentioned, names_by_mention, tales}
use Rattle.gl_renumbering.specs.bodies.Tables.{with_more, StaysToldBy, StayToldBy, AllStayToldBy}
use Rattle.gl_renumbering.proofs.Growing.{map_append, mentioned_adds, mentioned-append, number_stays, with_more-none, with_more-twice}

-- what stays told by names is told by more of them, too
pub stay_more : (names : NameLists) (list other : List Tale) (events : List Event) → StayToldBy names list events → StayToldBy (mentioned names other) list events
stay_more names list other events stay more =
    let adds = mentioned_adds names other in
    stay (with_more adds.0 more) ∙ ap (λ ns. map (event_by ns) list) (sym (with_more-twice names adds.0 more) ∙ ap (λ ns. with_more ns more) (sym adds.1))

pub all_stay_more : (names : NameLists) (lists : List (List Tale)) (other : List Tale) (all : List (List Event)) → AllStayToldBy names lists all → AllStayToldBy (mentioned names other) lists all
all_stay_more names lists other all stay more =
    let adds = mentioned_adds names other in
    stay (with_more adds.0 more) ∙ ap (λ ns. map (map (event_by ns)) lists) (sym (with_more-twice names adds.0 more) ∙ ap (λ ns. with_more ns more) (sym adds.1))

-- one more event of a list
pub stay_push : (names after : NameLists) (list : List Tale) (tale : Tale) (events more_events : List Event) (event : Event)
    → after ≡ mentioned names (tale ∷ []) → more_events ≡ events ++ event ∷ [] → StayToldBy names list events → StaysToldBy after tale event → StayToldBy after (list ++ tale ∷ []) more_events
stay_push names after list tale events more_events event is pushed stay one more =
    let before : events ≡ map (event_by (with_more after more)) list = stay_more names list (tale ∷ []) events stay more ∙ ap (λ ns. map (event_by (with_more ns more)) list) (sym is) in
    pushed ∙ (λ i. before i ++ one more i ∷ []) ∙ sym (map_append (event_by (with_more after more)) list (tale ∷ []))

-- one more list
pub all_stay_push : (names after : NameLists) (lists : List (List Tale)) (list : List Tale) (all more_lists : List (List Event)) (events : List Event)
    → after ≡ mentioned names list → more_lists ≡ all ++ events ∷ [] → AllStayToldBy names lists all → StayToldBy after list events → AllStayToldBy after (lists ++ list ∷ []) more_lists
all_stay_push names after lists list all more_lists events is pushed stay one more =
    let before : all ≡ map (map (event_by (with_more after more))) lists = all_stay_more names lists list all stay more ∙ ap (λ ns. map (map (event_by (with_more ns more))) lists) (sym is) in
    pushed ∙ (λ i. before i ++ one more i ∷ []) ∙ sym (map_append (map (event_by (with_more after more))) lists (list ∷ []))

-- the first so many, and one more
pub front_more : {X Y : Type 0} (f : X → Y) (xs : List X) (i : ℕ) (x : X) → i < length xs → x ≡ get_or xs i x → map f (take (i + 1) xs) ≡ map f (take i xs) ++ f x ∷ []
front_more f xs i x within is =
    ap (map f) (take_more xs i x within) ∙ map_append f (take i xs) (get_or xs i x ∷ []) ∙ ap (λ y. map f (take i xs) ++ f y ∷ []) (sym is)

-- the names after one more event
pub names_push : (names before after : NameLists) (list : List Tale) (tale : Tale) → before ≡ mentioned names list → after ≡ mentioned before (tale ∷ []) → after ≡ mentioned names (list ++ tale ∷ [])
names_push names before after list tale was is = is ∙ ap (λ ns. mentioned ns (tale ∷ [])) was ∙ sym (mentioned-append names list (tale ∷ []))

-- the names after one more list
pub lists_push : (names before after : NameLists) (lists : List (List Tale)) (list : List Tale) → before ≡ mentioned names (flat_map (λ list. list) lists) → after ≡ mentioned before list → after ≡ mentioned names (flat_map (λ list. list) (lists ++ list ∷ []))
lists_push names before after lists list was is =
    is ∙ ap (λ ns. mentioned ns list) was ∙ sym (mentioned-append names (flat_map (λ list. list) lists) list)
    ∙ ap (mentioned names) (sym (flat_map-append (λ list. list) lists (list ∷ []) ∙ ap (λ l. flat_map (λ list. list) lists ++ l) (append-nil list)))

-- the tales of the first lists, and of one more
pub tales_more : {R : Type 0} (names : NameLists) (items : R → List Event) (rows : List R) (i : ℕ) (row : R) → i < length rows → row ≡ get_or rows i row → tales names (map items (take (i + 1) rows)) ≡ tales names (map items (take i rows)) ++ map (told names) (items row) ∷ []
tales_more names items rows i row within is = ap (tales names) (front_more items rows i row within is) ∙ map_append (map (told names)) (map items (take i rows)) (items row ∷ [])

-- all lists, once all names are mentioned
pub all_told : (old names : NameLists) (lists all : List (List Event)) → names ≡ names_by_mention old lists → AllStayToldBy names (tales old lists) all → all ≡ lists_by_mention old lists
all_told old names lists all is stay = stay (record { threads = []; locks = []; locs = [] }) ∙ ap (λ ns. map (map (event_by ns)) (tales old lists)) (with_more-none names ∙ is)

-- the numbers of a lock and of a location, once more names are mentioned
module _ (before after : NameLists) (lock_name location_name : List ℕ) (lock : ℕ) (is : after ≡ record before { locs = with_new before.locs location_name }) (has_lock : position (bytes_eq lock_name) before.locks ≡ Some lock) where
  pub lock_told : (more : NameLists) → lock ≡ number_of (after.locks ++ more.locks) lock_name
  lock_told more = sym (number_stays after.locks more.locks lock_name lock (ap (λ ns. position (bytes_eq lock_name) ns.locks) is ∙ has_lock))

pub location_told : (after : NameLists) (location_name : List ℕ) (location : ℕ) → position (bytes_eq location_name) after.locs ≡ Some location → (more : NameLists) → location ≡ number_of (after.locs ++ more.locs) location_name
location_told after location_name location has more = sym (number_stays after.locs more.locs location_name location has)

-- a list of which one element fails
pub all_fails : {X : Type 0} (p : X → Bool) (xs : List X) (i : ℕ) (x : X) → slice_get xs i ≡ Some x → p x ≡ false → list_all p xs ≡ false
all_fails p [] i x at fails = absurd cc
all_fails p (y ∷ xs) zero x at fails =
    let same : y ≡ x = cc in
    ap (λ b. b && list_all p xs) (ap p same ∙ fails)
all_fails p (y ∷ xs) (suc i) x at fails = ap (λ b. p y && b) (all_fails p xs i x at fails) ∙ no_more_so (p y)
  where
    no_more_so : (b : Bool) → (b && false) ≡ false
    no_more_so true = refl
    no_more_so false = refl

-- each element of a list that passes
pub one_passes : {X : Type 0} (p : X → Bool) (xs : List X) (i : ℕ) (x : X) → slice_get xs i ≡ Some x → list_all p xs ≡ true → p x ≡ true
one_passes p xs i x at all = by (p x) refl
  where
    by : (b : Bool) → p x ≡ b → b ≡ true
    by true e = refl
    by false e = absurd (false≢true (sym (all_fails p xs i x at e) ∙ all))

-- the list in a row
pub list_at : {R : Type 0} (items : R → List Event) (rows : List R) (i : ℕ) (row : R) → i < length rows → row ≡ get_or rows i row → slice_get (map items rows) i ≡ Some (items row)
list_at items rows i row within at = slice_get-map items rows i ∙ ap (option_map items) (slice_get_read rows (length rows) i row refl within at)

-- there are lists where there are rows
pub some_lists : {R : Type 0} (items : R → List Event) (rows : List R) (i : ℕ) → i < length rows → map items rows ≢ []
some_lists items rows i within none = absurd (omega (arith, within, length-map rows items, ap length none))
