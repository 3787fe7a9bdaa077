-- The guards of a list of events are those of the entries that stand for it.
use Rattle.std.proofs.Common.{◌≡◌, ℕ, ◌<◌, List, [], ◌∷◌, map, refl, sym, ap, subst, ◌∙◌}
use Rattle.std.specs.Prelude.{Contains, Any}
use Rattle.std.specs.FinMap as fin
use Rattle.std.specs.List.Sorted.{IsStrictlySortedBy}
use Rattle.std.specs.List.{AllByRecursion}
use Rattle.std.specs.Ordering.{nat_cmp, ordering_then}
use Rattle.std.specs.declared.cmp.Ordering.{Ordering}
use Rattle.std.specs.declared.cmp.Ordering.TheVariants.{Less}
use Rattle.std.proofs.lemmas.List.Elements.{All-contains}
use Rattle.gl_event.specs.Events.{depth, held, held_mode, entry_of}
use Rattle.gl_event.specs.Modes.{mode_cmp}
use Rattle.gl_event.specs.Standing.{StandsFor}
use Rattle.gl_event.specs.declared.events.Event.{Event}
use Rattle.gl_event.specs.declared.held.HeldEntry.{HeldEntry}
use Rattle.gl_event.proofs.HeldLemmas.{entry_of-lock, entry_of-mode}
use Rattle.gl_edges.specs.Edges.{guards}
use Rattle.gl_edges.specs.Guards.{guard_cmp, guard_of, guard_total, guards_of}
use Rattle.gl_edges.specs.declared.guards.Guard.{Guard}
use Rattle.gl_edges.proofs.Guarding.{ascending_from, same_members, sorted_stays}
use Rattle.gl_edges.proofs.Membership.{contains_map, contains_map_from, held_where_deep, deep_where_held}
use Rattle.gl_edges.proofs.Orders.{guard_cmp_exact}
use Rattle.gl_edges.proofs.Tables.{sorted_from}

-- a function that keeps the order keeps what is above
all_mapped : {A B : Type 0} (R : A → A → Ordering) (S : B → B → Ordering) (f : A → B) → ((x y : A) → R x y ≡ Less → S (f x) (f y) ≡ Less)
    → (x : A) (xs : List A) → AllByRecursion (λ y. R x y ≡ Less) xs → AllByRecursion (λ y. S (f x) y ≡ Less) (map f xs)
all_mapped R S f keeps x [] all = record {}
all_mapped R S f keeps x (y ∷ xs) all = (keeps x y all.0, all_mapped R S f keeps x xs all.1)

-- and leaves a list ascending
pub sorted_mapped : {A B : Type 0} (R : A → A → Ordering) (S : B → B → Ordering) (f : A → B) → ((x y : A) → R x y ≡ Less → S (f x) (f y) ≡ Less)
    → (xs : List A) → IsStrictlySortedBy R xs → IsStrictlySortedBy S (map f xs)
unfolding IsStrictlySortedBy
sorted_mapped R S f keeps [] sorted = record {}
sorted_mapped R S f keeps (x ∷ xs) sorted = (all_mapped R S f keeps x xs sorted.0, sorted_mapped R S f keeps xs sorted.1)

-- the held locks ascend
pub held_ascends : (es : List Event) → IsStrictlySortedBy nat_cmp (held es)
unfolding held
held_ascends es = sorted_from nat_cmp (fin.entries (fin.from_entries {R = nat_cmp} _)) (fin.entries_sorted _)

-- the guard of a held lock
abbrev guard_at : List Event → ℕ → Guard
guard_at es lock = guard_of (entry_of es lock)

guard_lock : (es : List Event) (lock : ℕ) → (guard_at es lock).lock ≡ lock
guard_lock es lock = entry_of-lock es lock

-- the guards have the held locks
pub guards-locks : (es : List Event) → map (λ g. g.lock) (guards es) ≡ held es
unfolding guards
guards-locks es = locks_of (held es)
  where
    locks_of : (locks : List ℕ) → map (λ g. g.lock) (map (guard_at es) locks) ≡ locks
    locks_of [] = refl
    locks_of (lock ∷ locks) = λ i. guard_lock es lock i ∷ locks_of locks i

-- a guard of a lesser lock is below
keeps_order : (es : List Event) (a b : ℕ) → nat_cmp a b ≡ Less → guard_cmp (guard_at es a) (guard_at es b) ≡ Less
keeps_order es a b up =
    let locks : nat_cmp (guard_at es a).lock (guard_at es b).lock ≡ Less = (λ i. nat_cmp (guard_lock es a i) (guard_lock es b i)) ∙ up in
    ap (λ r. ordering_then r (mode_cmp (guard_at es a).mode (guard_at es b).mode)) locks

-- the guards ascend
pub guards_ascend : (es : List Event) → IsStrictlySortedBy guard_cmp (guards es)
unfolding guards
guards_ascend es = sorted_mapped nat_cmp guard_cmp (guard_at es) (keeps_order es) (held es) (held_ascends es)

-- each guard is of a held lock, in its mode
pub guard_from : (es : List Event) (g : Guard) → Contains (guards es) g → (0 < depth es g.lock) × (g.mode ≡ held_mode es g.lock)
unfolding guards
guard_from es g at =
    let (lock, there, is) = contains_map_from (guard_at es) g (held es) at in
    let same : lock ≡ g.lock = sym (guard_lock es lock) ∙ ap (λ x. x.lock) is in
    (subst (λ l. 0 < depth es l) same (deep_where_held es lock there), ap (λ x. x.mode) (sym is) ∙ entry_of-mode es lock ∙ ap (held_mode es) same)

-- and each held lock in its mode is one
pub guard_has : (es : List Event) (g : Guard) → 0 < depth es g.lock → g.mode ≡ held_mode es g.lock → Contains (guards es) g
unfolding guards
guard_has es g deep mode =
    let lock = guard_lock es g.lock in
    let is : guard_at es g.lock ≡ g = λ i. record { lock = lock i; mode = (entry_of-mode es g.lock ∙ sym mode) i } in
    subst (Contains (map (guard_at es) (held es))) is (contains_map (guard_at es) g.lock (held es) (held_where_deep es g.lock deep))

-- entries that stand for a list of events have its guards
pub guards_are : (es : List Event) (entries : List HeldEntry) → StandsFor es entries → guards_of entries ≡ guards es
unfolding guards
guards_are es entries stands =
    same_members guard_cmp guard_total guard_cmp_exact (map guard_of entries) (map (guard_at es) (held es))
    (λ g at.
    let (h, there, is) = contains_map_from guard_of g entries at in
    let entry : h ≡ entry_of es h.lock = All-contains (λ h. h ≡ entry_of es h.lock) entries h stands.each there in
    let deep : 0 < depth es h.lock = All-contains (λ h. 0 < depth es h.lock) entries h stands.positive there in
    subst (Contains (map (guard_at es) (held es))) (ap guard_of (sym entry) ∙ is) (contains_map (guard_at es) h.lock (held es) (held_where_deep es h.lock deep)))
    (λ g at.
    let (lock, there, is) = contains_map_from (guard_at es) g (held es) at in
    subst (Contains (map guard_of entries)) is (contains_map guard_of (entry_of es lock) entries (stands.whole lock (deep_where_held es lock there))))
    ∙ sorted_stays guard_cmp guard_total (map (guard_at es) (held es)) (sorted_mapped nat_cmp guard_cmp (guard_at es) (keeps_order es) (held es) (held_ascends es))

-- a guard of the entries is the lock of one
pub entry_there : (hs : List HeldEntry) (g : Guard) → Contains (guards_of hs) g → Any (λ h. h.lock ≡ g.lock) hs
entry_there hs g at =
    let among = ascending_from guard_cmp guard_total guard_cmp_exact (map guard_of hs) g at in
    let (h, (k, within, is), of_guard) = contains_map_from guard_of g hs among in
    (k, h, within, is, ap (λ x. x.lock) of_guard)
