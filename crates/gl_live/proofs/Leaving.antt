-- What a session's threads leave, and the lists that are settled.
use Rattle.std.proofs.Common.{◌≡◌, ℕ, suc, ◌<◌, List, [], ◌∷◌, length, ◌++◌, map, get_or, Some, refl, sym, ap, ◌∙◌, subst, append_assoc, arith}
use Rattle.std.specs.Prelude.{slice_get}
use Rattle.std.specs.List.{All}
use Rattle.std.proofs.lemmas.List.{append-nil, length-map}
use Rattle.std.proofs.lemmas.Option.{slice_get_within}
use Rattle.gl_event.specs.declared.events.Event.{Event}
use Rattle.gl_shards.specs.Feeds.{Sending, AllSent}
use Rattle.gl_world.proofs.Lists.{same_some, get_in}
use Rattle.gl_engine.specs.Collecting.{Collecting, lanes_of}
use Rattle.gl_engine.specs.Gathering.{Gathering, AreOurs}
use Rattle.gl_engine.specs.Recording.{Closed}
use Rattle.gl_engine.specs.Settling.{IsSettled}
use Rattle.gl_engine.proofs.Confirming.{receipt_of_thread}
use Rattle.gl_live.specs.bodies.Rosters.{Roster, roster_of, gathered_from, AreReceipts, IsReceiptOf}

-- what holds of all elements holds of the one at a place
pub all_get : {X : Type 0} (P : X → Type 0) (xs : List X) (at : ℕ) (x : X) → slice_get xs at ≡ Some x → All P xs → P x
all_get P xs at x here all =
    let within = slice_get_within xs at x here in
    subst P (sym (same_some x (get_or xs at x) (sym here ∙ get_in xs at x within))) (all at x within)

pub unsent_at : (outlets : List Sending) → All (λ o. o.sent ≡ []) outlets → (shard : ℕ) (o : Sending) → slice_get outlets shard ≡ Some o → o.sent ≡ []
unsent_at outlets all shard o here = all_get (λ (x : Sending). x.sent ≡ []) outlets shard o here all

pub as_long : {X Y Z : Type 0} (f : X → Z) (g : Y → Z) (xs : List X) (ys : List Y) → map f xs ≡ map g ys → length xs ≡ length ys
as_long f g xs ys same = sym (length-map xs f) ∙ ap length same ∙ length-map ys g

-- the first of two lists that are of the same, and the rest
pub first_alike : {X Y Z : Type 0} (f : X → Z) (g : Y → Z) (x : X) (y : Y) (xs left : List X) (ys rest : List Y) → xs ≡ x ∷ left → ys ≡ y ∷ rest → map f xs ≡ map g ys → (f x ≡ g y) × (map f left ≡ map g rest)
first_alike f g x y xs left ys rest of_xs of_ys same =
    let both : f x ∷ map f left ≡ g y ∷ map g rest = sym (ap (map f) of_xs) ∙ same ∙ ap (map g) of_ys in
    ((cc), (cc))

-- what is kept is what the first of the others gives
pub one_kept : {X Y : Type 0} (f : X → Y) (kept after all : List Y) (y : Y) (x : X) (xs left : List X) → after ≡ kept ++ y ∷ [] → y ≡ f x → xs ≡ x ∷ left → kept ++ map f xs ≡ all → after ++ map f left ≡ all
one_kept f kept after all y x xs left is gives first before =
    ap (λ ys. ys ++ map f left) is
    ∙ append_assoc kept (y ∷ []) (map f left)
    ∙ ap (λ z. kept ++ z ∷ map f left) gives
    ∙ sym (ap (λ zs. kept ++ map f zs) first)
    ∙ before

-- all is kept where none is left
pub all_kept : {X Y Z W : Type 0} (f : X → Y) (g : X → W) (h : Z → W) (kept all : List Y) (xs : List X) (zs : List Z) → length zs ≡ 0 → map h zs ≡ map g xs → kept ++ map f xs ≡ all → kept ≡ all
all_kept f g h kept all [] zs none same before = sym (append-nil kept) ∙ before
all_kept f g h kept all (x ∷ xs) zs none same before = absurd (omega (arith, none, as_long h g zs (x ∷ xs) same))

-- ---- receipts of what was gathered

pub roster_same : (g : Gathering) (c : Collecting) → g.session ≡ c.session → g.limits ≡ c.limits → g.lanes ≡ lanes_of c → gathered_from g ≡ roster_of c
roster_same g c session limits lanes = λ i. (let x : Roster = record { session = session i; limits = limits i; lanes = lanes i } in x)

pub receipts_gathered : (g : Gathering) (c : Collecting) (lists : List (List Event)) (receipts : List Closed) → g.session ≡ c.session → g.limits ≡ c.limits → g.lanes ≡ lanes_of c
    → All (IsReceiptOf (roster_of c) lists) receipts → All (IsReceiptOf (gathered_from g) lists) receipts
receipts_gathered g c lists receipts session limits lanes are = subst (λ s. All (IsReceiptOf s lists) receipts) (sym (roster_same g c session limits lanes)) are

-- ---- the lists that are settled

-- lists of one length that have the same at each place are the same
same_at : {X : Type 0} (xs ys : List X) → length xs ≡ length ys → ((at : ℕ) → at < length xs → slice_get xs at ≡ slice_get ys at) → xs ≡ ys
same_at [] [] count each = refl
same_at [] (y ∷ ys) count each = absurd (omega (arith, count))
same_at (x ∷ xs) [] count each = absurd (omega (arith, count))
same_at (x ∷ xs) (y ∷ ys) count each =
    let first : x ≡ y = same_some x y (each 0 (omega arith)) in
    let rest : xs ≡ ys = same_at xs ys (omega (arith, count)) (λ at within. each (suc at) (omega (arith, within))) in
    (λ i. first i ∷ rest i)

pub settled_lists : (g : Gathering) (lists : List (List Event)) (receipts : List Closed) (settled : List (List Event)) (sent : List AllSent) → IsSettled receipts settled sent → length settled ≡ length lists
    → All (IsReceiptOf (gathered_from g) lists) receipts → settled ≡ lists
settled_lists g lists receipts settled sent is count are =
    same_at settled lists count (λ thread within.
    let found = receipt_of_thread receipts thread (is.lists_are.one_each thread within) in
    let at = found.0 in
    let r : Closed = found.1 in
    let its = all_get (IsReceiptOf (gathered_from g) lists) receipts at r found.2 are in
    subst (λ t. slice_get settled t ≡ slice_get lists t) found.3 (is.lists_are.each at r found.2 ∙ sym its.whole))

-- receipts of the session that was gathered
pub ours : (g : Gathering) (receipts : List Closed) → AreReceipts (gathered_from g) receipts → AreOurs g receipts
ours g receipts are = λ at r here same lane there.
    let its = all_get (IsReceiptOf (gathered_from g) are.lists) receipts at r here are.each in
    (same_some r.lane lane (sym its.identity.lane ∙ there), its.identity.limits)

pub are_receipts : (s : Roster) (lists : List (List Event)) (receipts : List Closed) → All (IsReceiptOf s lists) receipts → AreReceipts s receipts
are_receipts s lists receipts each = record { lists = lists; each = each }
