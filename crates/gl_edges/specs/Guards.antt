-- Sets of locks that a thread holds, each in its mode.
use Rattle.std.specs.Prelude.{◌≡◌, Bool, ◌&&◌, List, map, nat_eq}
use Rattle.std.specs.Cmp.{IsTotalOrder, IsEquivalence, nat_cmp_total, nat_eq_equiv, on_total, on_equiv, and_equiv, then_total, both_tied, unsigned_ties}
use Rattle.std.specs.FinMap.{from_entries, keys}
use Rattle.std.specs.Ordering.{nat_cmp, on, then_cmp, eq_by_cmp}
use Rattle.std.specs.declared.cmp.Ordering.{Ordering}
use Rattle.gl_event.specs.Modes.{rank, mode_cmp}
use Rattle.gl_event.specs.declared.held.HeldEntry.{HeldEntry}
use Rattle.gl_edges.specs.declared.guards.Guard.{Guard}

-- guards by lock, and then by mode
abbrev pub guard_cmp : Guard → Guard → Ordering
guard_cmp = then_cmp (on (λ g. g.lock) nat_cmp) (on (λ g. g.mode) mode_cmp)

-- these guards, each once, ascending
abbrev pub ascending_guards : List Guard → List Guard
ascending_guards gs = keys (from_entries {R = guard_cmp} (map (λ g. (g, tt {0})) gs))

-- a held lock as a guard
abbrev pub guard_of : HeldEntry → Guard
guard_of h = record { lock = h.lock; mode = h.mode }

-- the guards that these held locks are
abbrev pub guards_of : List HeldEntry → List Guard
guards_of hs = ascending_guards (map guard_of hs)

-- ---- that the order is total, and what ties is equal

abbrev pub guard_eq : Guard → Guard → Bool
guard_eq a b = nat_eq a.lock b.lock && nat_eq (rank a.mode) (rank b.mode)

pub guard_total : IsTotalOrder guard_cmp
guard_total =
    then_total (on_total (λ g. g.lock) nat_cmp_total)
    (on_total (λ g. g.mode) (on_total rank nat_cmp_total))

pub guard_equiv : IsEquivalence guard_eq
guard_equiv =
    and_equiv (on_equiv (λ (g : Guard). g.lock) nat_eq_equiv)
    (on_equiv (λ (g : Guard). g.mode) (on_equiv rank nat_eq_equiv))

pub guard_ties : (a b : Guard) → guard_eq a b ≡ eq_by_cmp guard_cmp a b
guard_ties a b =
    both_tied _ _ (nat_cmp a.lock b.lock) (mode_cmp a.mode b.mode) (unsigned_ties a.lock b.lock)
    (unsigned_ties (rank a.mode) (rank b.mode))
