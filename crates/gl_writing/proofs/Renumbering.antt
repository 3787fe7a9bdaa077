-- Lists of events that are alike but for the numbers of locks, threads and locations let the same events come next.
use Rattle.std.proofs.Common.{◌≡◌, ℕ, zero, suc, ◌+◌, ◌-◌, Bool, true, false, ◌&&◌, ◌||◌, cond, eqb, List, [], ◌∷◌, length, map, take, filter, count_by, Some, None, refl, sym, ap, ◌∙◌}
use Rattle.std.specs.Prelude.{slice_get, nat_le, nat_lt, is_some}
use Rattle.std.specs.List.{AllZip, filter_map, list_any}
use Rattle.std.specs.Option.{option_map_or}
use Rattle.std.specs.Ordering.{nat_cmp, eq_by_cmp}
use Rattle.std.specs.Cmp.{nat_cmp_total, unsigned_tied, nat_eq_equiv}
use Rattle.std.specs.FinMap as fin
use Rattle.std.specs.FinMap.Entries.{is_some-find}
use Rattle.std.proofs.lemmas.List.{length-map}
use Rattle.std.proofs.lemmas.List.Sums.{sum_by-cons}
use Rattle.gl_event.specs.Events.{acquires, releases, acquired_lock, lock_mode, depth, opens, opened, greatest_below, ascending, held, held_mode}
use Rattle.gl_event.specs.Lawful.{lock_refusal, acquire_refusal, is_upgrade}
use Rattle.gl_event.specs.declared.events.Event.{Event}
use Rattle.gl_event.specs.declared.events.Event.TheVariants.{Acquire, Release, TryAcquire, Fork, Join}
use Rattle.gl_event.specs.declared.events.LockMode.{LockMode}
use Rattle.gl_event.specs.declared.events.LockMode.TheVariants.{Exclusive}
use Rattle.gl_event.specs.declared.events.Refusal.TheVariants.{NotHeld, HeldFull as NoRoom, DepthFull as TooDeep, Upgrade as IsUpgrade}
use Rattle.gl_event.specs.declared.held.TheConstants.{MAX_HELD, MAX_DEPTH}
use Rattle.gl_event.proofs.Depths.{same_greatest}

-- ---- as many different numbers

-- numbers as the keys of a map with nothing at each
abbrev marked : List ℕ → List (ℕ × Unit {0})
marked ns = map (λ n. (n, tt {0})) ns

marked_any : (ns : List ℕ) (q : ℕ) → list_any (eq_by_cmp nat_cmp q) (map (λ e. e.0) (marked ns)) ≡ list_any (λ l. eqb l q) ns
marked_any [] q = refl
marked_any (n ∷ ns) q = λ i. (unsigned_tied q n ∙ nat_eq_equiv.symm q n) i || marked_any ns q i

-- these numbers, each once
abbrev set_of : List ℕ → fin.FinMap nat_cmp (Unit {0})
set_of ns = fin.from_entries {R = nat_cmp} (map (λ n. (n, tt {0})) ns)

set_has : (ns : List ℕ) (q : ℕ) → fin.contains_key (set_of ns) q ≡ list_any (λ l. eqb l q) ns
set_has ns q = ap is_some (fin.get-from_entries nat_cmp_total (marked ns) q) ∙ is_some-find nat_cmp q (marked ns) ∙ marked_any ns q

length-ascending : (ns : List ℕ) → length (ascending ns) ≡ fin.len (set_of ns)
length-ascending ns = length-map (fin.entries (set_of ns)) (λ e. e.0) ∙ sym (fin.len-entries (set_of ns))

-- ---- lists that are alike

module _ {X Y : Type 0} (R : X → Y → Type 0) where
  pub same_length : (xs : List X) (ys : List Y) → AllZip R xs ys → length xs ≡ length ys
  same_length [] [] all = refl
  same_length [] (y ∷ ys) all = absurd all
  same_length (x ∷ xs) [] all = absurd all
  same_length (x ∷ xs) (y ∷ ys) all = ap suc (same_length xs ys all.1)

  pub alike_by : (S : X → Y → Type 0) → ((x : X) (y : Y) → R x y → S x y) → (xs : List X) (ys : List Y) → AllZip R xs ys → AllZip S xs ys
  alike_by S each [] [] all = tt
  alike_by S each [] (y ∷ ys) all = absurd all
  alike_by S each (x ∷ xs) [] all = absurd all
  alike_by S each (x ∷ xs) (y ∷ ys) all = (each x y all.0, alike_by S each xs ys all.1)

  same_count : (p : X → Bool) (q : Y → Bool) → ((x : X) (y : Y) → R x y → p x ≡ q y) → (xs : List X) (ys : List Y) → AllZip R xs ys → count_by p xs ≡ count_by q ys
  same_count p q same [] [] all = refl
  same_count p q same [] (y ∷ ys) all = absurd all
  same_count p q same (x ∷ xs) [] all = absurd all
  same_count p q same (x ∷ xs) (y ∷ ys) all =
      sum_by-cons (λ z. cond (p z) 1 0) x xs ∙ (λ i. cond (same x y all.0 i) 1 0 + same_count p q same xs ys all.1 i) ∙ sym (sum_by-cons (λ z. cond (q z) 1 0) y ys)

  same_any : (p : X → Bool) (q : Y → Bool) → ((x : X) (y : Y) → R x y → p x ≡ q y) → (xs : List X) (ys : List Y) → AllZip R xs ys → list_any p xs ≡ list_any q ys
  same_any p q same [] [] all = refl
  same_any p q same [] (y ∷ ys) all = absurd all
  same_any p q same (x ∷ xs) [] all = absurd all
  same_any p q same (x ∷ xs) (y ∷ ys) all = λ i. same x y all.0 i || same_any p q same xs ys all.1 i

  alike_fronts : (n : ℕ) (xs : List X) (ys : List Y) → AllZip R xs ys → AllZip R (take n xs) (take n ys)
  alike_fronts zero xs ys all = tt
  alike_fronts (suc n) [] [] all = tt
  alike_fronts (suc n) [] (y ∷ ys) all = absurd all
  alike_fronts (suc n) (x ∷ xs) [] all = absurd all
  alike_fronts (suc n) (x ∷ xs) (y ∷ ys) all = (all.0, alike_fronts n xs ys all.1)

  same_at : {Z : Type 0} (f : X → Z) (g : Y → Z) (z : Z) → ((x : X) (y : Y) → R x y → f x ≡ g y) → (n : ℕ) (xs : List X) (ys : List Y) → AllZip R xs ys → option_map_or f (slice_get xs n) z ≡ option_map_or g (slice_get ys n) z
  same_at f g z same n [] [] all = refl
  same_at f g z same n [] (y ∷ ys) all = absurd all
  same_at f g z same n (x ∷ xs) [] all = absurd all
  same_at f g z same zero (x ∷ xs) (y ∷ ys) all = same x y all.0
  same_at f g z same (suc n) (x ∷ xs) (y ∷ ys) all = same_at f g z same n xs ys all.1

  alike_filtered : (p : X → Bool) (q : Y → Bool) → ((x : X) (y : Y) → R x y → p x ≡ q y) → (xs : List X) (ys : List Y) → AllZip R xs ys → AllZip R (filter p xs) (filter q ys)
  alike_filtered p q same [] [] all = tt
  alike_filtered p q same [] (y ∷ ys) all = absurd all
  alike_filtered p q same (x ∷ xs) [] all = absurd all
  alike_filtered p q same (x ∷ xs) (y ∷ ys) all = by (p x) (q y) (same x y all.0) (alike_filtered p q same xs ys all.1)
    where
      by : (a b : Bool) → a ≡ b → AllZip R (filter p xs) (filter q ys) → AllZip R (cond a (x ∷ filter p xs) (filter p xs)) (cond b (y ∷ filter q ys) (filter q ys))
      by true true e later = (all.0, later)
      by true false e later = absurd cc
      by false true e later = absurd cc
      by false false e later = later

-- ---- events

-- the same event but for its numbers, where these numbers of locks are the same lock
pub data Renumbered (R : ℕ → ℕ → Type 0) : Event → Event → Type 0 where
  acquire : (a b : ℕ) (mode : LockMode) (m n : ℕ) → R a b → Renumbered R (Acquire mode a m) (Acquire mode b n)
  release : (a b : ℕ) (mode : LockMode) (m n : ℕ) → R a b → Renumbered R (Release mode a m) (Release mode b n)
  try_acquire : (a b : ℕ) (mode : LockMode) (m n : ℕ) → R a b → Renumbered R (TryAcquire mode a m) (TryAcquire mode b n)
  fork : (s t m n : ℕ) → Renumbered R (Fork s m) (Fork t n)
  join : (s t m n : ℕ) → Renumbered R (Join s m) (Join t n)

-- numbers are the same lock in one list of events and in another
module _ (R : ℕ → ℕ → Type 0) (one : (a b k l : ℕ) → R a b → R k l → eqb a k ≡ eqb b l) where
  same_acquires : (k l : ℕ) → R k l → (e f : Event) → Renumbered R e f → acquires k e ≡ acquires l f
  same_acquires k l here _ _ (acquire a b mode m n r) = one a b k l r here
  same_acquires k l here _ _ (release a b mode m n r) = refl
  same_acquires k l here _ _ (try_acquire a b mode m n r) = one a b k l r here
  same_acquires k l here _ _ (fork s t m n) = refl
  same_acquires k l here _ _ (join s t m n) = refl

  same_releases : (k l : ℕ) → R k l → (e f : Event) → Renumbered R e f → releases k e ≡ releases l f
  same_releases k l here _ _ (acquire a b mode m n r) = refl
  same_releases k l here _ _ (release a b mode m n r) = one a b k l r here
  same_releases k l here _ _ (try_acquire a b mode m n r) = refl
  same_releases k l here _ _ (fork s t m n) = refl
  same_releases k l here _ _ (join s t m n) = refl

  same_mode : (e f : Event) → Renumbered R e f → lock_mode e ≡ lock_mode f
  same_mode _ _ (acquire a b mode m n r) = refl
  same_mode _ _ (release a b mode m n r) = refl
  same_mode _ _ (try_acquire a b mode m n r) = refl
  same_mode _ _ (fork s t m n) = refl
  same_mode _ _ (join s t m n) = refl

  same_depth : (es fs : List Event) → AllZip (Renumbered R) es fs → (k l : ℕ) → R k l → depth es k ≡ depth fs l
  unfolding depth
  same_depth es fs all k l here =
      λ i. same_count (Renumbered R) (acquires k) (acquires l) (same_acquires k l here) es fs all i - same_count (Renumbered R) (releases k) (releases l) (same_releases k l here) es fs all i

  same_opens : (es fs : List Event) → AllZip (Renumbered R) es fs → (k l : ℕ) → R k l → (place : ℕ) → opens es k place ≡ opens fs l place
  same_opens es fs all k l here place =
      λ i. same_at (Renumbered R) (acquires k) (acquires l) false (same_acquires k l here) place es fs all i && eqb (same_depth (take place es) (take place fs) (alike_fronts (Renumbered R) place es fs all) k l here i) 0

  same_opened : (es fs : List Event) → AllZip (Renumbered R) es fs → (k l : ℕ) → R k l → opened es k ≡ opened fs l
  unfolding opened
  same_opened es fs all k l here =
      same_greatest (opens es k) (opens fs l) (length es) (λ place within. same_opens es fs all k l here place) ∙ ap (greatest_below (opens fs l)) (same_length (Renumbered R) es fs all)

  same_held_mode : (es fs : List Event) → AllZip (Renumbered R) es fs → (k l : ℕ) → R k l → held_mode es k ≡ held_mode fs l
  unfolding held_mode
  same_held_mode es fs all k l here =
      same_at (Renumbered R) lock_mode lock_mode Exclusive same_mode (opened es k) es fs all ∙ ap (λ n. option_map_or lock_mode (slice_get fs n) Exclusive) (same_opened es fs all k l here)

  alike_acquired : (es fs : List Event) → AllZip (Renumbered R) es fs → AllZip R (filter_map acquired_lock es) (filter_map acquired_lock fs)
  alike_acquired [] [] all = tt
  alike_acquired [] (f ∷ fs) all = absurd all
  alike_acquired (e ∷ es) [] all = absurd all
  alike_acquired (e ∷ es) (f ∷ fs) all = by e f all.0 (alike_acquired es fs all.1)
    where
      by : (e f : Event) → Renumbered R e f → AllZip R (filter_map acquired_lock es) (filter_map acquired_lock fs) → AllZip R (filter_map acquired_lock (e ∷ es)) (filter_map acquired_lock (f ∷ fs))
      by _ _ (acquire a b mode m n r) later = (r, later)
      by _ _ (release a b mode m n r) later = later
      by _ _ (try_acquire a b mode m n r) later = (r, later)
      by _ _ (fork s t m n) later = later
      by _ _ (join s t m n) later = later

  same_size : (ns ms : List ℕ) → AllZip R ns ms → fin.len (set_of ns) ≡ fin.len (set_of ms)
  same_size [] [] all = refl
  same_size [] (m ∷ ms) all = absurd all
  same_size (n ∷ ns) [] all = absurd all
  same_size (n ∷ ns) (m ∷ ms) all =
      let again : fin.contains_key (set_of ns) n ≡ fin.contains_key (set_of ms) m =
      set_has ns n ∙ same_any R (λ k. eqb k n) (λ l. eqb l m) (λ k l r. one k l n m r all.0) ns ms all.1 ∙ sym (set_has ms m) in
      let before = same_size ns ms all.1 in
      fin.len-insert nat_cmp_total (set_of ns) n tt ∙ rw (again, before) (sym (fin.len-insert nat_cmp_total (set_of ms) m tt))

  -- as many locks are held
  same_held : (es fs : List Event) → AllZip (Renumbered R) es fs → length (held es) ≡ length (held fs)
  unfolding held
  same_held es fs all =
      let ns = filter (λ k. nat_lt 0 (depth es k)) (filter_map acquired_lock es) in
      let ms = filter (λ l. nat_lt 0 (depth fs l)) (filter_map acquired_lock fs) in
      length-ascending ns
      ∙ same_size ns ms (alike_filtered R (λ k. nat_lt 0 (depth es k)) (λ l. nat_lt 0 (depth fs l)) (λ k l r. ap (nat_lt 0) (same_depth es fs all k l r)) (filter_map acquired_lock es) (filter_map acquired_lock fs) (alike_acquired es fs all))
      ∙ sym (length-ascending ms)

  same_acquire_refusal : (es fs : List Event) → AllZip (Renumbered R) es fs → (k l : ℕ) → R k l → (mode : LockMode) → acquire_refusal es k mode ≡ acquire_refusal fs l mode
  unfolding acquire_refusal
  same_acquire_refusal es fs all k l here mode =
      let depths = same_depth es fs all k l here in
      let modes = same_held_mode es fs all k l here in
      let sizes = same_held es fs all in
      λ i. cond (eqb (depths i) 0) (cond (nat_le MAX_HELD (sizes i)) (Some NoRoom) None) (cond (nat_le MAX_DEPTH (depths i)) (Some TooDeep) (cond (is_upgrade (modes i) mode) (Some IsUpgrade) None))

  -- the locks allow the same events, or refuse them for the same reason
  pub same_refusal : (es fs : List Event) (e f : Event) → AllZip (Renumbered R) es fs → Renumbered R e f → lock_refusal es e ≡ lock_refusal fs f
  unfolding lock_refusal
  same_refusal es fs _ _ all (acquire a b mode m n r) = same_acquire_refusal es fs all a b r mode
  same_refusal es fs _ _ all (release a b mode m n r) = ap (λ d. cond (eqb d 0) (Some NotHeld) None) (same_depth es fs all a b r)
  same_refusal es fs _ _ all (try_acquire a b mode m n r) = same_acquire_refusal es fs all a b r mode
  same_refusal es fs _ _ all (fork s t m n) = refl
  same_refusal es fs _ _ all (join s t m n) = refl
