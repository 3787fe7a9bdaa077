-- What recorders and receipts of a session keep.
use Rattle.std.proofs.Common.{◌≡◌, ℕ, zero, suc, ◌<◌, List, [], ◌∷◌, ◌++◌, length, get_or, Option, Some, None, refl, sym, ap, ◌∙◌, subst, arith}
use Rattle.std.specs.Prelude.{slice_get}
use Rattle.std.specs.List.{All}
use Rattle.gl_event.specs.declared.events.Event.{Event}
use Rattle.gl_intake.specs.Stream.{events_of}
use Rattle.gl_intake.proofs.Streams.{events_more, events_ended}
use Rattle.std.specs.Prelude.{IfSome}
use Rattle.std.proofs.lemmas.List.Elements.{All-append}
use Rattle.gl_live.specs.bodies.Rosters.{Roster, roster_of, IsOnRoster, IsRecorderOf, IsReceiptOf}
use Rattle.gl_engine.specs.Collecting.{Collecting}
use Rattle.gl_engine.specs.Recording.{Recording, Closed, recorded, recorded_whole, with_pushed, next_note, last_note, closed_of, Identity, identity_of, left_by}

-- ---- one recorder

pub events_none : (thread : ℕ) → events_of thread [] ≡ []
unfolding events_of
events_none thread = refl

-- one event more
pub recorded_more : (r later : Recording) (event : Event) (room : ℕ) → later ≡ with_pushed r (next_note r event) room → recorded later ≡ recorded r ++ event ∷ []
recorded_more r later event room is = ap recorded is ∙ events_more r.pushed (next_note r event) event refl

-- a receipt has what its recorder took
pub recorded_closed : (r : Recording) (c : Closed) → c ≡ closed_of r → recorded_whole c ≡ recorded r
recorded_closed r c is = ap recorded_whole is ∙ events_ended r.pushed (last_note r) r.thread (length (recorded r)) refl

-- ---- all elements of a list

pub first_of_all : {X : Type 0} (P : X → Type 0) (x : X) (xs ys : List X) → ys ≡ x ∷ xs → All P ys → P x
first_of_all P x xs ys is all = subst (All P) is all 0 x (omega arith)

pub rest_of_all : {X : Type 0} (P : X → Type 0) (x : X) (xs ys : List X) → ys ≡ x ∷ xs → All P ys → All P xs
rest_of_all P x xs ys is all = λ k d within. subst (All P) is all (suc k) d (omega (arith, within))

pub all_of_one : {X : Type 0} (P : X → Type 0) (x : X) → P x → All P (x ∷ [])
all_of_one P x its zero d within = its
all_of_one P x its (suc k) d within = absurd (omega (arith, within))

-- ---- what a thread leaves

-- a receipt with the list of its thread's recorder
module _ (s : Roster) (r : Recording) (is : IsRecorderOf s r) (lists : List (List Event)) (thread : ℕ) (same : thread ≡ r.thread) (list : List Event) (there : slice_get lists thread ≡ Some list) where
  of_list : (receipt : Closed) → left_by receipt ≡ identity_of r → recorded_whole receipt ≡ recorded r ++ list → IsReceiptOf s lists receipt
  of_list receipt identity whole = record {
    identity = subst (IsOnRoster s) (sym identity) is.identity;
    whole =
        ap (λ (x : Identity). slice_get lists x.thread) identity
        ∙ ap (slice_get lists) (sym same)
        ∙ there
        ∙ ap Some (sym (whole ∙ ap (λ es. es ++ list) is.unused));
  }

  pub receipt_whole : (receipt : Option Closed) → IfSome receipt (λ x. left_by x ≡ identity_of r) → IfSome receipt (λ x. recorded_whole x ≡ recorded r ++ list) → IfSome receipt (IsReceiptOf s lists)
  receipt_whole (Some receipt) identity whole = of_list receipt identity whole
  receipt_whole None identity whole = tt

-- a receipt more among those of a session
pub receipts_more : (s : Roster) (lists : List (List Event)) (receipts : List Closed) (receipt : Closed) (later : List Closed) → later ≡ receipts ++ receipt ∷ [] → IsReceiptOf s lists receipt → All (IsReceiptOf s lists) receipts
    → All (IsReceiptOf s lists) later
receipts_more s lists receipts receipt later is its before = subst (All (IsReceiptOf s lists)) (sym is) (All-append (IsReceiptOf s lists) receipts (receipt ∷ []) before (all_of_one (IsReceiptOf s lists) receipt its))

-- one more element of which the same holds
pub all_more : {X : Type 0} (xs : List X) (x : X) (later : List X) (P : X → Type 0) → later ≡ xs ++ x ∷ [] → P x → All P xs → All P later
all_more xs x later P is its before = subst (All P) (sym is) (All-append P xs (x ∷ []) before (all_of_one P x its))

-- ---- what the threads of a session leave

pub first_all : {X : Type 0} {x : X} {xs ys : List X} → ys ≡ x ∷ xs → (P : X → Type 0) → All P ys → P x
first_all {x = x} {xs = xs} {ys = ys} is P all = first_of_all P x xs ys is all

pub rest_all : {X : Type 0} {x : X} {xs ys : List X} → ys ≡ x ∷ xs → (P : X → Type 0) → All P ys → All P xs
rest_all {x = x} {xs = xs} {ys = ys} is P all = rest_of_all P x xs ys is all

pub all_same : {X : Type 0} {xs ys : List X} → ys ≡ xs → (P : X → Type 0) → All P xs → All P ys
all_same is P all = subst (All P) (sym is) all

-- the receipts that a thread leaves, beside those before
pub left_receipts : (own c : Collecting) (its lists : List (List Event)) (left before later : List Closed) → own ≡ c → its ≡ lists → later ≡ before ++ left → All (IsReceiptOf (roster_of own) its) left → All (IsReceiptOf (roster_of c) lists) before
    → All (IsReceiptOf (roster_of c) lists) later
left_receipts own c its lists left before later same alike is new old =
    let new_ones : All (IsReceiptOf (roster_of c) lists) left = subst (λ (x : Collecting). All (IsReceiptOf (roster_of x) lists) left) same (subst (λ ls. All (IsReceiptOf (roster_of own) ls) left) alike new) in
    subst (All (IsReceiptOf (roster_of c) lists)) (sym is) (All-append (IsReceiptOf (roster_of c) lists) before left old new_ones)

pub all_at : {X : Type 0} (xs : List X) (at : ℕ) (x : X) (P : X → Type 0) → x ≡ get_or xs at x → at < length xs → All P xs → P x
all_at xs at x P is within all = subst P (sym is) (all at x within)
