-- Two ascending lists of guards, walked through together.
use Rattle.std.proofs.Common.{◌≡◌, ℕ, suc, ◌<◌, ◌≤◌, true, false, eqb, leb, List, length, get_or, arith, refl, sym, ap, ◌∙◌, inl, inr}
use Rattle.std.specs.List.{list_any}
use Rattle.std.specs.List.Sorted.{IsStrictlySortedBy}
use Rattle.std.specs.Ordering.{nat_cmp, ordering_then, MatchOrdering}
use Rattle.std.specs.declared.cmp.Ordering.{Ordering}
use Rattle.std.specs.declared.cmp.Ordering.TheVariants.{Less, Equal, Greater}
use Rattle.std.proofs.lemmas.Bool.{false≢true, cases_Bool, and_left, eqb-true, leb-true, leb-false}
use Rattle.std.proofs.lemmas.Cmp.{ranked}
use Rattle.std.proofs.lemmas.List.{get_or_default}
use Rattle.std.proofs.lemmas.List.Folds.{Any-from_list_any}
use Rattle.std.proofs.lemmas.Map.Keys.{Less-from_sorted}
use Rattle.gl_event.specs.Modes.{conflict, mode_cmp}
use Rattle.gl_edges.specs.Clashes.{clash_on, guards_clash}
use Rattle.gl_edges.specs.bodies.Clashing.{AreBelow}
use Rattle.gl_edges.specs.Guards.{guard_cmp}
use Rattle.gl_edges.specs.declared.guards.Guard.{Guard}

-- a guard that is below another has no greater lock
by_lock : (x y : ℕ) (r rest : Ordering) → MatchOrdering r (x < y) (x ≡ y) (y < x) → ordering_then r rest ≡ Less → x ≤ y
by_lock x y Less rest is less = omega (arith, is)
by_lock x y Equal rest is less = omega (arith, is)
by_lock x y Greater rest is less = absurd (cc)

lock_up : (a b : Guard) → guard_cmp a b ≡ Less → a.lock ≤ b.lock
lock_up a b less = by_lock a.lock b.lock (nat_cmp a.lock b.lock) (mode_cmp a.mode b.mode) (ranked a.lock b.lock _ refl) less

-- later guards have no lesser locks
pub not_below : (gs : List Guard) → IsStrictlySortedBy guard_cmp gs → (i k : ℕ) (d : Guard) → i ≤ k → k < length gs → (get_or gs i d).lock ≤ (get_or gs k d).lock
not_below gs sorted i k d lower within =
    elim (cases_Bool (leb (suc i) k)) [
      | inl below ↦ lock_up (get_or gs i d) (get_or gs k d) (Less-from_sorted guard_cmp gs i k d sorted (leb-true (suc i) k below) within)
      | inr not ↦
          let same : i ≡ k = omega (arith, leb-false (suc i) k not) in
          omega (arith, ap (λ n. (get_or gs n d).lock) same)
    ]

-- none of the guards so far clashes
abbrev pub NoneBelow : List Guard → List Guard → ℕ → Type 0
NoneBelow gs hs n = (k : ℕ) (d : Guard) → k < n → list_any (clash_on (get_or gs k d)) hs ≡ false

-- sets that clash have a guard that does
pub some_clashes : (gs hs : List Guard) → guards_clash gs hs ≡ true → (n : ℕ) → length gs ≤ n → NoneBelow gs hs n → ⊥
some_clashes gs hs clash n all none =
    let (k, g, k_in, k_is, any) = Any-from_list_any (λ g. list_any (clash_on g) hs) gs clash in
    false≢true (sym (none k g (omega arith)) ∙ ap (λ x. list_any (clash_on x) hs) k_is ∙ any)

-- numbers that differ don't pass the test
differ : (x y : ℕ) → (x ≡ y → ⊥) → eqb x y ≡ false
differ x y apart = elim (cases_Bool (eqb x y)) [
  | inl same ↦ absurd (apart (eqb-true x y same))
  | inr not ↦ not
]

-- guards of different locks don't clash
pub apart_below : (g h : Guard) → h.lock < g.lock → clash_on g h ≡ false
apart_below g h below = and_left (eqb g.lock h.lock) (conflict g.mode h.mode) (differ g.lock h.lock (λ same. omega (arith, same, below)))

pub apart_above : (g h : Guard) → g.lock < h.lock → clash_on g h ≡ false
apart_above g h above = and_left (eqb g.lock h.lock) (conflict g.mode h.mode) (differ g.lock h.lock (λ same. omega (arith, same, above)))

-- none of the guards before this place clashes with the guard
abbrev pub NoClash : Guard → List Guard → ℕ → Type 0
NoClash g hs n = (k : ℕ) (d : Guard) → k < n → k < length hs → clash_on g (get_or hs k d) ≡ false

-- where none of all clashes, none does
pub none_any : (g : Guard) (hs : List Guard) → NoClash g hs (length hs) → list_any (clash_on g) hs ≡ false
none_any g hs none =
    elim (cases_Bool (list_any (clash_on g) hs)) [
      | inl some ↦
          let (k, h, k_in, k_is, clash) = Any-from_list_any (clash_on g) hs some in
          absurd (false≢true (sym (none k h k_in k_in) ∙ ap (clash_on g) k_is ∙ clash))
      | inr not ↦ not
    ]

-- behind a guard with a greater lock none clashes
pub none_behind : (g : Guard) (hs : List Guard) → IsStrictlySortedBy guard_cmp hs → (here : ℕ) (h : Guard) → h ≡ get_or hs here h → g.lock < h.lock → NoClash g hs here → NoClash g hs (length hs)
none_behind g hs sorted here h item above none k d below within =
    elim (cases_Bool (leb (suc k) here)) [
      | inl early ↦ none k d (leb-true (suc k) here early) within
      | inr late ↦
          let after = leb-false (suc k) here late in
          let up = not_below hs sorted here k d (omega (arith, after)) within in
          let at_here : (get_or hs here d).lock ≡ h.lock = ap (λ x. x.lock) (get_or_default hs here d h (omega (arith, after, within)) ∙ sym item) in
          apart_above g (get_or hs k d) (omega (arith, up, at_here, above))
    ]

-- none of the guards so far clashes with the others, and those of the others before the place are below all that come
pub record IsWalked (gs hs : List Guard) (i place : ℕ) : Type 0 where
  pub none : NoneBelow gs hs i
  pub passed : (j : ℕ) (e : Guard) → i ≤ j → j < length gs → AreBelow hs place (get_or gs j e).lock
  pub within : place ≤ length hs
