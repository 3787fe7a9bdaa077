-- What is known on the walk through two guard sets.
use Rattle.std.specs.Prelude.{ℕ, ◌<◌, List, get_or}
use Rattle.gl_edges.specs.declared.guards.Guard.{Guard}

-- the guards before this place have lesser locks
abbrev pub AreBelow : List Guard → ℕ → ℕ → Type 0
AreBelow guards place lock = (k : ℕ) (d : Guard) → k < place → (get_or guards k d).lock < lock
