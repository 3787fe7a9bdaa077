-- What recorders have recorded of the items of a text.
use Rattle.std.proofs.Common.{◌≡◌, ◌≢◌, ◌∙◌, ◌⊎◌, inl, inr, Bool, ℕ, zero, suc, ◌+◌, ◌-◌, ◌<◌, List, [], ◌∷◌, ◌++◌, length, get_or, Some, None, Ok, Err, refl, sym, ap, subst, arith}
use Rattle.std.specs.Prelude.{slice_get, slice_index_or, slice_set}
use Rattle.std.specs.List.{All}
use Rattle.std.proofs.lemmas.Option.{slice_get_within}
use Rattle.gl_event.specs.Bounds.{Bounds}
use Rattle.gl_event.specs.declared.events.Event.{Event}
use Rattle.gl_io.specs.Positions.{Position}
use Rattle.gl_io.specs.Uses.{SourceUse, used}
use Rattle.gl_std.specs.Listed.{listed}
use Rattle.gl_std.specs.Names.{NameLists}
use Rattle.gl_std.specs.Streaming.{event_in, names_of, with_item, GoesOn, HasFault, IsNextAnswer, IsOfNamed, Stream}
use Rattle.gl_std.specs.declared.faults.LinesFault.{LinesFault}
use Rattle.gl_std.specs.declared.stream.Item.{Item}
use Rattle.gl_std.specs.declared.stream.Item.TheVariants.{Event as Told, Skipped, Stray, End}
use Rattle.gl_std.specs.declared.trace.Trace.{Trace}
use Rattle.gl_engine.specs.Recording.{Recording, Closed, next_note, recorded, recorded_whole, with_pushed, Identity, left_by, identity_of}
use Rattle.gl_world.proofs.Lists.{same_some, get_in, get_set_same, get_set_other}
use Rattle.gl_live.specs.bodies.Padded.{padded}
use Rattle.gl_live.specs.bodies.Rosters.{Roster, IsReceiptOf, IsOnRoster}
use Rattle.gl_live.specs.bodies.Streams.{AreRecorded, KeepUp, HaveKeptUp, HasTaken, IsOfThreads, Stops, StopsAfter}
use Rattle.gl_live.proofs.Rostered.{recorded_more}

same_or_not : (i j : ℕ) → (i ≡ j) ⊎ (i ≢ j)
same_or_not zero zero = inl refl
same_or_not zero (suc j) = inr (λ e. omega (arith, e))
same_or_not (suc i) zero = inr (λ e. omega (arith, e))
same_or_not (suc i) (suc j) = go (same_or_not i j)
  where
    go : (i ≡ j) ⊎ (i ≢ j) → (suc i ≡ suc j) ⊎ (suc i ≢ suc j)
    go (inl e) = inl (ap suc e)
    go (inr n) = inr (λ e. n (omega (arith, e)))

-- ---- lists with one event more

index_set_same : {X : Type 0} (xs : List X) (i : ℕ) (y d : X) → i < length xs → slice_index_or (slice_set xs i y) i d ≡ y
index_set_same [] i y d within = absurd (omega (arith, within))
index_set_same (x ∷ xs) zero y d within = refl
index_set_same (x ∷ xs) (suc i) y d within = index_set_same xs i y d (omega (arith, within))

index_set_other : {X : Type 0} (xs : List X) (i j : ℕ) (y d : X) → i ≢ j → slice_index_or (slice_set xs i y) j d ≡ slice_index_or xs j d
index_set_other [] i j y d differ = refl
index_set_other (x ∷ xs) zero zero y d differ = absurd (differ refl)
index_set_other (x ∷ xs) zero (suc j) y d differ = refl
index_set_other (x ∷ xs) (suc i) zero y d differ = refl
index_set_other (x ∷ xs) (suc i) (suc j) y d differ = index_set_other xs i j y d (λ e. differ (ap suc e))

pub long : (more : ℕ) (lists : List (List Event)) → length (padded more lists) ≡ length lists + more
long zero [] = refl
long (suc more) [] = ap suc (long more []) ∙ omega arith
long more (es ∷ lists) = ap suc (long more lists) ∙ omega arith

index_padded : (more : ℕ) (lists : List (List Event)) (at : ℕ) → slice_index_or (padded more lists) at [] ≡ slice_index_or lists at []
index_padded zero [] at = refl
index_padded (suc more) [] zero = refl
index_padded (suc more) [] (suc at) = index_padded more [] at
index_padded more (es ∷ lists) zero = refl
index_padded more (es ∷ lists) (suc at) = index_padded more lists at

module _ (threads : ℕ) (lists : List (List Event)) (thread : ℕ) (event : Event) (known : thread < threads) where
  abbrev all : List (List Event)
  all = padded (threads - length lists) lists

  within : thread < length all
  within = omega (arith, known, long (threads - length lists) lists)

  listed_own : slice_index_or (listed threads lists thread event) thread [] ≡ slice_index_or lists thread [] ++ event ∷ []
  listed_own = index_set_same all thread (slice_index_or all thread [] ++ event ∷ []) [] within ∙ ap (λ es. es ++ event ∷ []) (index_padded (threads - length lists) lists thread)

  listed_other : (at : ℕ) → thread ≢ at → slice_index_or (listed threads lists thread event) at [] ≡ slice_index_or lists at []
  listed_other at differ = index_set_other all thread at (slice_index_or all thread [] ++ event ∷ []) [] differ ∙ index_padded (threads - length lists) lists at

  pub listed_here : slice_get (listed threads lists thread event) thread ≡ Some (slice_index_or lists thread [] ++ event ∷ [])
  listed_here = get_set_same all thread (slice_index_or all thread [] ++ event ∷ []) within ∙ ap (λ es. Some (es ++ event ∷ [])) (index_padded (threads - length lists) lists thread)

  -- ---- a recorder that takes it

  module _ (s : Roster) (old : List Recording) (are : AreRecorded s lists old) (r later : Recording) (room : ℕ) (here : slice_get old thread ≡ Some r) (is : later ≡ with_pushed r (next_note r event) room) where
    abbrev pub now : List Recording
    now = slice_set old thread later

    there : slice_get now thread ≡ Some later
    there = get_set_same old thread later (slice_get_within old thread r here)

    -- what holds of each recorder: of the one that took the event, and of all others as before
    at_each : (P : ℕ → Recording → Type 0) → P thread later → ((at : ℕ) (x : Recording) → thread ≢ at → slice_get old at ≡ Some x → P at x) → (at : ℕ) (x : Recording) → slice_get now at ≡ Some x → P at x
    at_each P own other at x found = go (same_or_not thread at)
      where
        go : (thread ≡ at) ⊎ (thread ≢ at) → P at x
        go (inl same) =
            let is_x : later ≡ x = same_some later x (sym there ∙ ap (slice_get now) same ∙ found) in
            subst (λ t. P t x) same (subst (P thread) is_x own)
        go (inr differ) = other at x differ (sym (get_set_other old thread at later differ) ∙ found)

    pub records : AreRecorded s (listed threads lists thread event) now
    records = record {
      identities =
          at_each (λ at x. IsOnRoster s (identity_of x)) (subst (IsOnRoster s) (sym (ap identity_of is)) (are.identities thread r here))
          (λ at x differ found. are.identities at x found);
      threads = at_each (λ at x. x.thread ≡ at) (ap (λ (x : Recording). x.thread) is ∙ are.threads thread r here) (λ at x differ found. are.threads at x found);
      events =
          at_each (λ at x. recorded x ≡ slice_index_or (listed threads lists thread event) at [])
          (recorded_more r later event room is ∙ ap (λ es. es ++ event ∷ []) (are.events thread r here) ∙ sym listed_own)
          (λ at x differ found. are.events at x found ∙ sym (listed_other at differ));
    }

-- ---- recorders that have taken all

at_padded : (more : ℕ) (lists : List (List Event)) (at : ℕ) → at < length lists + more → slice_get (padded more lists) at ≡ Some (slice_index_or lists at [])
at_padded more lists at within = get_in (padded more lists) at [] (omega (arith, within, long more lists)) ∙ ap Some (index_padded more lists at)

pub all_taken : (s : Roster) (lists : List (List Event)) (recorders : List Recording) (more : ℕ) → length recorders ≡ length lists + more → AreRecorded s lists recorders → All (HasTaken s (padded more lists)) recorders
all_taken s lists recorders more count are thread d within =
    let r = get_or recorders thread d in
    let here = get_in recorders thread d within in record {
      identity = are.identities thread r here;
      whole = ap (slice_get (padded more lists)) (are.threads thread r here) ∙ at_padded more lists thread (omega (arith, within, count)) ∙ ap Some (sym (are.events thread r here));
    }

-- the receipt of a recorder that has taken its thread's whole list
pub receipt_taken : (s : Roster) (lists : List (List Event)) (r : Recording) (receipt : Closed) → left_by receipt ≡ identity_of r → recorded_whole receipt ≡ recorded r → HasTaken s lists r → IsReceiptOf s lists receipt
receipt_taken s lists r receipt identity whole has = record {
  identity = subst (IsOnRoster s) (sym identity) has.identity;
  whole = ap (λ (x : Identity). slice_get lists x.thread) identity ∙ has.whole ∙ ap Some (sym whole);
}

-- ---- items

-- an item that tells no event changes no list
pub same_lists : (item : Item) (names : NameLists) (told : Trace) → event_in item ≡ None → (with_item item names told).lists ≡ told.lists
same_lists (Told thread event) names told none = cc
same_lists Skipped names told none = refl
same_lists Stray names told none = refl
same_lists End names told none = refl

-- one that tells an event puts it into its thread's list
pub told_lists : (item : Item) (names : NameLists) (told : Trace) (thread : ℕ) (event : Event) → event_in item ≡ Some (thread, event) → (with_item item names told).lists ≡ listed (length names.threads) told.lists thread event
told_lists (Told t e) names told thread event is =
    let same : (t, e) ≡ (thread, event) = same_some (t, e) (thread, event) is in
    ap (λ (p : ℕ × Event). listed (length names.threads) told.lists p.0 p.1) same
told_lists Skipped names told thread event is = cc
told_lists Stray names told thread event is = cc
told_lists End names told thread event is = cc

pub is_told : (item : Item) (thread : ℕ) (event : Event) → event_in item ≡ Some (thread, event) → item ≡ Told thread event
is_told (Told t e) thread event is =
    let same : (t, e) ≡ (thread, event) = same_some (t, e) (thread, event) is in
    ap (λ (p : ℕ × Event). Told p.0 p.1) same
is_told Skipped thread event is = cc
is_told Stray thread event is = cc
is_told End thread event is = cc

-- an event that was answered is of a thread that has a name
pub of_threads : (item : Item) (names : NameLists) → IsOfNamed names (Ok item) → IsOfThreads (length names.threads) item
of_threads item names known thread event is = subst (λ x. IsOfNamed names (Ok x)) (is_told item thread event is) known

module _ (s : Roster) (limits : Bounds) (turns : ℕ) (input : SourceUse) (items : Stream) (text : List ℕ) (told : Trace) where
  -- what the items told with one more is recorded
  pub follows_more : (item : Item) (recorders : List Recording) → GoesOn limits turns input items text told (Ok item) → AreRecorded s (with_item item (names_of items) told).lists recorders → HaveKeptUp s limits turns input items recorders
  follows_more item recorders on are = record { text = text ++ on.piece; told = with_item item (names_of items) told; tells = on.tells; recorded = are }

  -- nothing more is recorded
  pub stops_at : (fault : LinesFault) → HasFault items fault → GoesOn limits turns input items text told (Err fault) → Stops limits turns input items fault
  stops_at fault has on = record { text = text ++ on.piece; told = told; tells = on.tells; why = has }

module _ (now later : Position) (failed failed2 : Bool) (items more : Stream) (recorders recorders2 : List Recording) where
  -- recorders that take the next item follow on
  pub follows_next : (item : Item) → IsNextAnswer now failed items later failed2 more (Ok item)
      → ((s : Roster) (names : NameLists) (told : Trace) → IsOfThreads (length names.threads) item → AreRecorded s told.lists recorders → AreRecorded s (with_item item names told).lists recorders2)
      → KeepUp now failed items recorders later failed2 more recorders2
  follows_next item next recorded = λ s limits turns start follows.
      follows_more s limits turns (used start later failed2) more follows.text follows.told item recorders2
      (next.tells limits turns start follows.text follows.told follows.tells)
      (recorded s (names_of more) follows.told (of_threads item (names_of more) next.known) follows.recorded)

  -- a fault stops them
  pub stops_next : (fault : LinesFault) → IsNextAnswer now failed items later failed2 more (Err fault) → StopsAfter now failed items recorders later failed2 more fault
  stops_next fault next = λ s limits turns start follows.
      stops_at s limits turns (used start later failed2) more follows.text follows.told fault next.leaves (next.tells limits turns start follows.text follows.told follows.tells)
