-- Where a source stands between two reads.
use Rattle.std.specs.Prelude.{◌≡◌, ℕ, ◌+◌, List, Option, None}
use Rattle.std.specs.Option.{option_map}

-- the bytes that reads will give from here on, and how many reads were made before, each where the type tells it
pub record Position : Type 0 where
  pub left : Option (List ℕ)
  pub reads : Option ℕ

-- that of a source that tells what is left, and doesn't count its reads
abbrev pub uncounted : Option (List ℕ) → Position
uncounted left = record { left = left; reads = None }

-- that of a source that tells neither
abbrev pub untold : Position
untold = uncounted None

-- so many reads were made from the one to the other, where they are counted
abbrev pub LieBetween : ℕ → Position → Position → Type 0
LieBetween count old new = new.reads ≡ option_map (λ reads. reads + count) old.reads
