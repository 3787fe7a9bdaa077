-- What a walker looks at.
use Rattle.std.specs.Prelude.{Bool}
use Rattle.gl_walks.specs.declared.ground.Ground.{Ground}

-- through what it walks, and whether it stops where its steps are taken
pub record Walking : Type 0 where
  pub ground : Ground
  pub is_bound : Bool

-- a walker of this ground
abbrev pub walking : Ground → Bool → Walking
walking area is_bound = record { ground = area; is_bound = is_bound }
