-- What holds of answers that came one by one.
use Rattle.std.proofs.Common.{ℕ, zero, suc, List, [], ◌∷◌, map, arith}
use Rattle.std.specs.Prelude.{All, IfOk, MatchResult}
use Rattle.std.specs.List.{AllZip}
use Rattle.std.specs.declared.result.Result.{Result}
use Rattle.std.specs.declared.result.Result.TheVariants.{Ok, Err}

-- what holds of each answer that is one holds of each piece
pub all_pieces : {V : Type 0} (E : Type 0) (P : V → Type 0) (roots : List ℕ) (ys : List V) → AllZip (λ (root : ℕ) (r : Result V E). IfOk r P) roots (map Ok ys) → All P ys
all_pieces E P [] [] all = λ i d below. absurd (omega (arith, below))
all_pieces E P [] (y ∷ ys) all = absurd all
all_pieces E P (x ∷ roots) [] all = absurd all
all_pieces E P (x ∷ roots) (y ∷ ys) all = by (all_pieces E P roots ys all.1)
  where
    by : All P ys → All P (y ∷ ys)
    by rest zero d below = all.0
    by rest (suc i) d below = rest i d (omega (arith, below))

-- of an answer that is one
pub if_ok : {V E : Type 0} (r : Result V E) (P R : V → Type 0) (Q : E → Type 0) → MatchResult r P Q → ((v : V) → P v → R v) → IfOk r R
if_ok (Ok v) P R Q is then = then v is
if_ok (Err e) P R Q is then = tt

-- what holds of an answer that is one tells more of it
pub ok_then : {V E : Type 0} (r : Result V E) (P R : V → Type 0) → IfOk r P → ((v : V) → P v → R v) → IfOk r R
ok_then (Ok v) P R is then = then v is
ok_then (Err e) P R is then = tt
