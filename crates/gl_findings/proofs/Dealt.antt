-- What is found class by class, joined.
use Rattle.std.proofs.Common.{◌≡◌, ℕ, zero, suc, ◌+◌, ◌-◌, ◌<◌, ◌≤◌, List, [], ◌∷◌, ◌++◌, length, get_or, Some, refl, sym, ap, ◌∙◌, arith}
use Rattle.std.specs.Prelude.{slice_get, All}
use Rattle.std.specs.List.{flat_map, range_with_len}
use Rattle.std.proofs.lemmas.List.{append-nil}
use Rattle.std.proofs.lemmas.List.Elements.{All-push}
use Rattle.std.proofs.lemmas.Grind.{flat_map-append}
use Rattle.gl_segments.specs.Clocks.{is_before}
use Rattle.gl_cycles.proofs.ListsOfPositions.{upto-more, upto-until}
use Rattle.gl_findings.specs.Findings.{findings}
use Rattle.gl_findings.specs.bodies.Finding.{IsReady, block_of, below_of, all_of_root}
use Rattle.gl_findings.specs.declared.finder.Finder.{Finder}
use Rattle.gl_findings.proofs.Below.{findings-from}
use Rattle.gl_findings.proofs.Prepared.{skipped}

-- numbers that are one more
one_on : {Y : Type 0} (g : ℕ → List Y) (a n : ℕ) → flat_map g (range_with_len (a + 1) n) ≡ flat_map (λ i. g (suc i)) (range_with_len a n)
one_on g a zero = refl
one_on g a (suc n) = let e : a + 1 ≡ suc a = omega arith in (λ i. g (e i) ++ one_on g (a + 1) n i)

-- what each of some numbers gives, by their places
by_places : {Y : Type 0} (f : ℕ → List Y) (xs : List ℕ) → flat_map (λ i. f (get_or xs i 0)) (range_with_len 0 (length xs)) ≡ flat_map f xs
by_places f [] = refl
by_places f (x ∷ xs) = ap (λ l. f x ++ l) (one_on (λ i. f (get_or (x ∷ xs) i 0)) 0 (length xs) ∙ by_places f xs)

module _ (s : Finder) where
  -- what the classes before the next one lead to, for each number of further classes
  pub record AreRoots (roots : List ℕ) (next : ℕ) : Type 0 where
    pub reached : next ≤ length s.table.now
    pub within : All (λ class. class < length s.table.now) roots
    pub joined : (n : ℕ) → flat_map (λ class. block_of s n (class ∷ [])) roots ≡ below_of s n [] next

module _ (s : Finder) (ready : IsReady s) where
  abbrev from_class : ℕ → ℕ → List (List ℕ)
  from_class n class = block_of s n (class ∷ [])

  pub roots_begin : (next : ℕ) → slice_get s.next.now 0 ≡ Some next → AreRoots s [] next
  roots_begin next at =
      record {
        reached = (ready.next.from 0 next at).1;
        within = λ k d below. absurd (omega (arith, below));
        joined = λ n. sym (upto-until (from_class n) 0 next (omega arith) (λ i low below. skipped s ready n [] 0 next i at low below));
      }

  pub roots_more : (roots : List ℕ) (class next : ℕ) → AreRoots s roots class → class < length s.table.now → slice_get s.next.now (class + 1) ≡ Some next → AreRoots s (roots ++ class ∷ []) next
  roots_more roots class next are there at =
      let along = ready.next.from (class + 1) next at in
      record {
        reached = along.1;
        within = All-push (λ class. class < length s.table.now) roots class are.within there;
        joined = λ n.
            flat_map-append (from_class n) roots (class ∷ []) ∙ (λ i. are.joined n i ++ append-nil (from_class n class) i)
            ∙ sym (upto-until (from_class n) (class + 1) next along.0 (λ i low below. skipped s ready n [] (class + 1) next i at low below) ∙ upto-more (from_class n) class);
      }

  pub roots_all : (roots : List ℕ) (next : ℕ) → AreRoots s roots next → length s.table.now ≤ next → (n : ℕ) → flat_map (λ class. block_of s n (class ∷ [])) roots ≡ below_of s n [] (length s.table.now)
  roots_all roots next are end n = let reached = are.reached in let is : next ≡ length s.table.now = omega arith in are.joined n ∙ ap (below_of s n []) is

  -- what they lead to is all
  pub of_roots : (roots : List ℕ) → flat_map (λ class. block_of s (s.len - 1) (class ∷ [])) roots ≡ below_of s (s.len - 1) [] (length s.table.now)
      → flat_map (all_of_root s roots) (range_with_len 0 (length roots)) ≡ findings (is_before s.order.now) s.mode s.len s.table.now
  of_roots roots all =
      let some = ready.some in
      by_places (from_class (s.len - 1)) roots ∙ all ∙ sym (findings-from (is_before s.order.now) s.mode s.len s.table.now (s.len - 1) (omega arith))
