-- Cycles that vectors of positions hold.
use Rattle.std.specs.Prelude.{ℕ, List, map}
use Rattle.std.specs.Global.{Vec}

-- the cycles, each as the positions of its edges
abbrev pub cycles_in : List (Vec ℕ) → List (List ℕ)
cycles_in vecs = map (λ cycle. cycle.items) vecs
