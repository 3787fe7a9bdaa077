-- The orders of edges and of samples are total, and only equal ones tie.
use Rattle.std.proofs.Common.{◌≡◌, true, eqb, List, [], ◌∷◌, refl, rules, arith}
use Rattle.std.proofs.lemmas.Bool.{and_parts, eqb-true}
use Rattle.std.specs.Cmp.{IsTotalOrder, nat_cmp_total, on_total, then_total}
use Rattle.std.specs.Cmp.Lexicographic.{pointwise, lists_total}
use Rattle.std.specs.Cmp.Rules.{comparing}
use Rattle.std.specs.FinMap.{IsAntisymmetric, nat_cmp-IsAntisymmetric, slice_cmp-IsAntisymmetric}
use Rattle.std.specs.Ordering.{nat_cmp, ordering_then}
use Rattle.gl_event.specs.Modes.{rank, mode_cmp}
use Rattle.gl_event.specs.declared.events.LockMode.{LockMode}
use Rattle.gl_event.specs.declared.events.LockMode.TheVariants.{Exclusive, Shared}
use Rattle.gl_edges.specs.Guards.{guard_cmp, guard_eq, guard_total}
use Rattle.gl_edges.specs.declared.guards.Guard.{Guard}
use Rattle.gl_edges.specs.declared.edge.Edge.{Edge}
use Rattle.std.specs.declared.cmp.Ordering.{Ordering}
use Rattle.std.specs.declared.cmp.Ordering.TheVariants.{Less, Equal, Greater}
use Rattle.gl_edges.specs.Order.{edge_cmp, sample_cmp}

-- the order of modes is total
mode_total : IsTotalOrder mode_cmp
mode_total = on_total rank nat_cmp_total

-- the order of edges is total
pub edge_cmp_total : IsTotalOrder edge_cmp
edge_cmp_total =
    then_total (on_total (λ (e : Edge). e.thread) nat_cmp_total)
    (then_total (on_total (λ (e : Edge). e.held) nat_cmp_total)
    (then_total (on_total (λ (e : Edge). e.held_mode) mode_total)
    (then_total (on_total (λ (e : Edge). e.wanted) nat_cmp_total)
    (then_total (on_total (λ (e : Edge). e.wanted_mode) mode_total)
    (then_total (on_total (λ (e : Edge). e.first) nat_cmp_total)
    (then_total (on_total (λ (e : Edge). e.second) nat_cmp_total) (on_total (λ (e : Edge). e.guards) (lists_total guard_total))))))))

-- the order of samples is total
pub sample_cmp_total : IsTotalOrder sample_cmp
sample_cmp_total = search (comparing, rules) depth 9

-- a chain of two orders ties exactly where both do
pub ties_first : (a b : Ordering) → ordering_then a b ≡ Equal → a ≡ Equal
ties_first Less b e = e
ties_first Equal b e = refl
ties_first Greater b e = e

-- and the second one too
pub ties_second : (a b : Ordering) → ordering_then a b ≡ Equal → b ≡ Equal
ties_second Less b e = cc
ties_second Equal b e = e
ties_second Greater b e = cc

-- modes that tie are equal
pub mode_cmp_exact : IsAntisymmetric mode_cmp
mode_cmp_exact Exclusive Exclusive e = refl
mode_cmp_exact Exclusive Shared e = let never = nat_cmp-IsAntisymmetric 0 1 e in absurd (omega arith)
mode_cmp_exact Shared Exclusive e = let never = nat_cmp-IsAntisymmetric 1 0 e in absurd (omega arith)
mode_cmp_exact Shared Shared e = refl

-- guards that tie are equal
pub guard_cmp_exact : IsAntisymmetric guard_cmp
guard_cmp_exact a b e =
    let lock : a.lock ≡ b.lock = nat_cmp-IsAntisymmetric _ _ (ties_first _ _ e) in
    let mode : a.mode ≡ b.mode = mode_cmp_exact _ _ (ties_second (nat_cmp a.lock b.lock) _ e) in
    λ i. record { lock = lock i; mode = mode i }

-- samples that tie are equal
pub sample_cmp_exact : IsAntisymmetric sample_cmp
sample_cmp_exact a b e =
    let place : a.place ≡ b.place = nat_cmp-IsAntisymmetric _ _ (ties_first _ _ e) in
    let rest = ties_second (nat_cmp a.place b.place) _ e in
    let held : a.held_loc ≡ b.held_loc = nat_cmp-IsAntisymmetric _ _ (ties_first _ _ rest) in
    let wanted : a.wanted_loc ≡ b.wanted_loc = nat_cmp-IsAntisymmetric _ _ (ties_second (nat_cmp a.held_loc b.held_loc) _ rest) in
    λ i. record { place = place i; held_loc = held i; wanted_loc = wanted i }

-- edges that tie are equal
pub edge_cmp_exact : IsAntisymmetric edge_cmp
edge_cmp_exact a b e =
    let thread : a.thread ≡ b.thread = nat_cmp-IsAntisymmetric _ _ (ties_first _ _ e) in
    let e1 = ties_second (nat_cmp a.thread b.thread) _ e in
    let held : a.held ≡ b.held = nat_cmp-IsAntisymmetric _ _ (ties_first _ _ e1) in
    let e2 = ties_second (nat_cmp a.held b.held) _ e1 in
    let held_mode : a.held_mode ≡ b.held_mode = mode_cmp_exact _ _ (ties_first _ _ e2) in
    let e2m = ties_second (mode_cmp a.held_mode b.held_mode) _ e2 in
    let wanted : a.wanted ≡ b.wanted = nat_cmp-IsAntisymmetric _ _ (ties_first _ _ e2m) in
    let e3w = ties_second (nat_cmp a.wanted b.wanted) _ e2m in
    let wanted_mode : a.wanted_mode ≡ b.wanted_mode = mode_cmp_exact _ _ (ties_first _ _ e3w) in
    let e3 = ties_second (mode_cmp a.wanted_mode b.wanted_mode) _ e3w in
    let first : a.first ≡ b.first = nat_cmp-IsAntisymmetric _ _ (ties_first _ _ e3) in
    let e4 = ties_second (nat_cmp a.first b.first) _ e3 in
    let second : a.second ≡ b.second = nat_cmp-IsAntisymmetric _ _ (ties_first _ _ e4) in
    let guards : a.guards ≡ b.guards =
    slice_cmp-IsAntisymmetric guard_cmp_exact _ _ (ties_second (nat_cmp a.second b.second) _ e4) in
    λ i. record { thread = thread i; held = held i; held_mode = held_mode i; wanted = wanted i; wanted_mode = wanted_mode i; first = first i; second = second i; guards = guards i }

-- modes of one rank are equal
pub modes_same : (a b : LockMode) → eqb (rank a) (rank b) ≡ true → a ≡ b
modes_same Exclusive Exclusive e = refl
modes_same Exclusive Shared e = let never = eqb-true 0 1 e in absurd (omega arith)
modes_same Shared Exclusive e = let never = eqb-true 1 0 e in absurd (omega arith)
modes_same Shared Shared e = refl

-- guards that pass the test of equality are equal
guard_same : (a b : Guard) → guard_eq a b ≡ true → a ≡ b
guard_same a b e =
    let parts = and_parts (eqb a.lock b.lock) _ e in
    let lock = eqb-true a.lock b.lock parts.0 in
    let mode = modes_same a.mode b.mode parts.1 in
    λ i. record { lock = lock i; mode = mode i }

-- and so are lists of guards
pub guards_same : (gs hs : List Guard) → pointwise guard_eq gs hs ≡ true → gs ≡ hs
guards_same [] [] e = refl
guards_same [] (h ∷ hs) e = absurd (cc)
guards_same (g ∷ gs) [] e = absurd (cc)
guards_same (g ∷ gs) (h ∷ hs) e =
    let parts = and_parts (guard_eq g h) _ e in
    let head = guard_same g h parts.0 in
    let tail = guards_same gs hs parts.1 in
    λ i. head i ∷ tail i
