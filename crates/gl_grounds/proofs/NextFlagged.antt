-- The next class of which an edge is flagged, from the last class back to the first.
use Rattle.std.proofs.Common.{◌≡◌, ℕ, ◌+◌, ◌<◌, ◌≤◌, Bool, true, false, cond, ◌≢◌, List, length, get_or, set, replicate, Some, sym, ap, subst, ◌∙◌, arith, inl, inr}
use Rattle.std.specs.Prelude.{slice_get}
use Rattle.std.proofs.lemmas.Bool.{cases_eq, true≢false}
use Rattle.std.proofs.lemmas.List.{length-set, length-replicate, get_or-replicate}
use Rattle.std.proofs.lemmas.Option.{get_or_from_slice_get, slice_get_within, same_Some}
use Rattle.gl_index.proofs.Lists.{set_here, set_elsewhere}
use Rattle.gl_grounds.specs.bodies.Classing.{AreFlaggedBefore, AreNextFrom}
use Rattle.gl_grounds.specs.Models.{IsNextClass}

-- the flags of one edge more
pub flagged_more : (classes : List ℕ) (flags occurs more : List Bool) (n c : ℕ) (b : Bool) → AreFlaggedBefore n classes flags occurs → length more ≡ length occurs → slice_get flags n ≡ Some b → slice_get classes n ≡ Some c
    → ((j : ℕ) → slice_get occurs j ≡ Some true → slice_get more j ≡ Some true) → (b ≡ true → c < length occurs → slice_get more c ≡ Some true) → AreFlaggedBefore (n + 1) classes flags more
flagged_more classes flags occurs more n c b had long flag_at class_at stay here i class below within flag at =
    elim (cases_eq i n) [
      | inl same ↦
          let is : c ≡ class = same_Some c class (sym class_at ∙ sym (ap (slice_get classes) same) ∙ at) in
          let flagged : b ≡ true = same_Some b true (sym flag_at ∙ sym (ap (slice_get flags) same) ∙ flag) in
          subst (λ k. slice_get more k ≡ Some true) is (here flagged (omega (arith, is, within, long)))
      | inr other ↦ stay class (had i class (omega arith) (omega (arith, within, long)) flag at)
    ]

-- at the end there is nothing more
pub next_at_end : (size : ℕ) (occurs : List Bool) (nexts : List ℕ) → nexts ≡ replicate (size + 1) size → AreNextFrom size size occurs nexts
next_at_end size occurs nexts is = record {
  long = long;
  from = λ k next late at. let same = last k next at in (omega (arith, same, slice_get_within nexts k next at, long), omega (arith, same));
  skipped = λ k next place late at from below. absurd (let same = last k next at in omega (arith, same, late, from, below));
}
  where
    long : length nexts ≡ size + 1
    long = ap length is ∙ length-replicate (size + 1) size

    last : (k next : ℕ) → slice_get nexts k ≡ Some next → size ≡ next
    last k next at =
        let within = slice_get_within nexts k next at in
        sym (get_or-replicate (size + 1) k size size (omega (arith, within, long))) ∙ sym (ap (λ l. get_or l k size) is) ∙ get_or_from_slice_get nexts k next size at

module _ (m size : ℕ) (occurs : List Bool) (nexts : List ℕ) (b : Bool) (after : ℕ) (had : AreNextFrom (m + 1) size occurs nexts) (within : m < size) (flag : slice_get occurs m ≡ Some b) (at_after : slice_get nexts (m + 1) ≡ Some after) where
  here : (next : ℕ) → cond b m after ≡ next → (m ≤ next) × (next ≤ size) × ((place : ℕ) → m ≤ place → place < next → slice_get occurs place ≡ Some false)
  here next is = by b flag is
    where
      by : (f : Bool) → slice_get occurs m ≡ Some f → cond f m after ≡ next → (m ≤ next) × (next ≤ size) × ((place : ℕ) → m ≤ place → place < next → slice_get occurs place ≡ Some false)
      by true set_here is_m = (omega (arith, is_m), omega (arith, is_m, within), λ place from below. absurd (omega (arith, is_m, from, below)))
      by false unset is_after =
          let bounds = had.from (m + 1) after (omega arith) at_after in (
            omega (arith, is_after, bounds.0),
            omega (arith, is_after, bounds.1),
            λ place from below.
                elim (cases_eq place m) [
                  | inl same ↦ ap (slice_get occurs) same ∙ unset
                  | inr other ↦ had.skipped (m + 1) after place (omega arith) at_after (omega arith) (omega (arith, is_after, below))
                ],
          )

  long : length nexts ≡ size + 1
  long = had.long

  pub next_more : AreNextFrom m size occurs (set nexts m (cond b m after))
  next_more = record {
    long = length-set nexts m (cond b m after) ∙ long;
    from = λ k next from at.
        elim (cases_eq k m) [
          | inl same ↦ let h = here next (is_here k next same at) in (omega (arith, same, h.0), h.1)
          | inr other ↦ had.from k next (omega arith) (elsewhere k next other at)
        ];
    skipped = λ k next place from at low below.
        elim (cases_eq k m) [
          | inl same ↦ (here next (is_here k next same at)).2 place (omega (arith, same, low)) below
          | inr other ↦ had.skipped k next place (omega arith) (elsewhere k next other at) low below
        ];
  }
    where
      is_here : (k next : ℕ) → k ≡ m → slice_get (set nexts m (cond b m after)) k ≡ Some next → cond b m after ≡ next
      is_here k next same at = same_Some (cond b m after) next (sym (set_here nexts m (cond b m after) (omega (arith, long, within))) ∙ sym (ap (slice_get (set nexts m (cond b m after))) same) ∙ at)

      elsewhere : (k next : ℕ) → k ≢ m → slice_get (set nexts m (cond b m after)) k ≡ Some next → slice_get nexts k ≡ Some next
      elsewhere k next other at =
          let in_set = slice_get_within (set nexts m (cond b m after)) k next at in
          sym (set_elsewhere nexts m k (cond b m after) other (omega (arith, in_set, length-set nexts m (cond b m after)))) ∙ at

-- classes that don't occur are empty
pub next_of_classes : (classes nexts : List ℕ) (flags occurs : List Bool) → length occurs ≡ length classes → AreFlaggedBefore (length classes) classes flags occurs → AreNextFrom 0 (length occurs) occurs nexts → IsNextClass (length classes) classes flags nexts
next_of_classes classes nexts flags occurs long flagged next = record {
  long = next.long ∙ ap (λ n. n + 1) long;
  from = λ m n at. let bounds = next.from m n (omega arith) at in (bounds.0, omega (arith, bounds.1, long));
  skipped = λ m n class at low below i flag has.
      let bounds = next.from m n (omega arith) at in
      let on : slice_get occurs class ≡ Some true = flagged i class (slice_get_within classes i class has) (omega (arith, bounds.1, below)) flag has in
      true≢false (same_Some true false (sym on ∙ next.skipped m n class (omega arith) at low below));
}
