-- What a caller sees of a source or a sink over some calls.
use Rattle.std.specs.Prelude.{ℕ, Bool, List, Option}
use Rattle.gl_io.specs.Positions.{Position}

-- where it stood before these calls and where it stands after them, and whether it has failed since
pub record Use (Place : Type 0) : Type 0 where
  pub before : Place
  pub after : Place
  pub failed : Bool

abbrev pub used : {Place : Type 0} → Place → Place → Bool → Use Place
used before after failed = record { before = before; after = after; failed = failed }

-- that of a source, by its positions
abbrev pub SourceUse : Type 0
SourceUse = Use Position

-- that of a sink, by the bytes that it was given, where they are told
abbrev pub SinkUse : Type 0
SinkUse = Use (Option (List ℕ))
