-- The order of lists of positions that begin alike.
use Rattle.std.proofs.Common.{ℕ, ◌<◌, List, [], ◌∷◌, ◌++◌, refl, subst}
use Rattle.std.specs.declared.cmp.Ordering.TheVariants.{Less, Equal}
use Rattle.std.specs.Prelude.{IsTrue}
use Rattle.std.specs.Ordering.{nat_cmp, ordering_then, is_le}
use Rattle.std.specs.Cmp.{nat_cmp_is}
use Rattle.std.specs.Cmp.Lexicographic.{slice_cmp}

-- after a common front the rests decide
pub le_behind : (front xs ys : List ℕ) → IsTrue (is_le (slice_cmp nat_cmp xs ys)) → IsTrue (is_le (slice_cmp nat_cmp (front ++ xs) (front ++ ys)))
le_behind [] xs ys le = le
le_behind (i ∷ front) xs ys le = subst (λ o. IsTrue (is_le (ordering_then o (slice_cmp nat_cmp (front ++ xs) (front ++ ys))))) (nat_cmp_is i i Equal refl) (le_behind front xs ys le)

-- and there a lesser position does
pub lesser_behind : (front : List ℕ) (i j : ℕ) (xs ys : List ℕ) → i < j → IsTrue (is_le (slice_cmp nat_cmp (front ++ i ∷ xs) (front ++ j ∷ ys)))
lesser_behind front i j xs ys lesser =
    le_behind front (i ∷ xs) (j ∷ ys) (subst (λ o. IsTrue (is_le (ordering_then o (slice_cmp nat_cmp xs ys)))) (nat_cmp_is i j Less lesser) refl)
