-- The least gate of two guard sets.
use Rattle.std.proofs.Common.{◌≡◌, ℕ, ◌≤◌, List, leb, get_or, arith, sym, ap, ◌∙◌, inl, inr}
use Rattle.std.specs.List.{list_any}
use Rattle.std.specs.List.Sorted.{IsStrictlySortedBy}
use Rattle.std.proofs.lemmas.Bool.{false≢true, cases_Bool, leb-true, leb-false}
use Rattle.std.proofs.lemmas.List.{get_or_default}
use Rattle.gl_edges.specs.Clashes.{clash_on}
use Rattle.gl_edges.specs.Guards.{guard_cmp}
use Rattle.gl_edges.specs.declared.guards.Guard.{Guard}
use Rattle.gl_edges.proofs.Clashing.{NoneBelow, not_below}
use Rattle.gl_filters.specs.Cycle.{HasGate}
use Rattle.gl_filters.proofs.Cycling.{gate_found}

-- the lock is a gate, and no lesser one is
abbrev pub IsLeastGate : List Guard → List Guard → ℕ → Type 0
IsLeastGate gs hs lock = HasGate gs hs lock × ((other : ℕ) → HasGate gs hs other → lock ≤ other)

-- the first guard that clashes has the least gate
pub first_is_least : (gs hs : List Guard) → IsStrictlySortedBy guard_cmp gs → (i : ℕ) (g : Guard) → g ≡ get_or gs i g → NoneBelow gs hs i → (lock : ℕ) → HasGate gs hs lock → g.lock ≤ lock
first_is_least gs hs sorted i g item none lock gate =
    let (k, k_in, k_is) = gate.in_one in
    let one : Guard = record { lock = lock; mode = gate.one } in
    elim (cases_Bool (leb i k)) [
      | inl here ↦
          let up = not_below gs sorted i k one (leb-true _ _ here) k_in in
          let at_k : (get_or gs k one).lock ≡ lock = ap (λ x. x.lock) k_is in
          let low = leb-true i k here in
          let at_i : (get_or gs i one).lock ≡ g.lock = ap (λ x. x.lock) (get_or_default gs i one g (omega arith) ∙ sym item) in
          omega arith
      | inr before ↦ absurd (false≢true (sym (none k one (leb-false _ _ before)) ∙ ap (λ x. list_any (clash_on x) hs) k_is ∙ gate_found gs hs lock gate))
    ]
