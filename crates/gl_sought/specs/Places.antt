-- Places of a cycle, round.
use Rattle.std.specs.Prelude.{ℕ, ◌+◌, ◌-◌, if◌then◌else◌, nat_lt}

-- the place m steps after place k of a cycle of n edges, round
abbrev pub place_after : ℕ → ℕ → ℕ → ℕ
place_after n k m = if nat_lt (k + m) n then k + m else k + m - n
