-- What one turn of reading does to the text that is gathered.
use Rattle.std.specs.Prelude.{◌≡◌, ◌+◌, ◌<◌, ◌≤◌, ℕ, Bool, true, false, List, Option, length}
use Rattle.std.specs.Io.KnownBytes.{IsAtEnd}
use Rattle.gl_io.specs.declared.source.TheConstants.{CHUNK}
use Rattle.gl_io.specs.declared.whole.Turn.{Turn}
use Rattle.gl_io.specs.declared.whole.Turn.TheVariants.{Gave, End, Broke}

-- the turn gave at least one byte and at most a chunk, met the end, or broke off; `left` and `failed` tell of the source after it
abbrev pub TurnDid : Turn → Option (List ℕ) → Bool → List ℕ → List ℕ → Type 0
TurnDid Gave left failed before after =
    (failed ≡ false) × (length before < length after) × (length after ≤ length before + CHUNK)
TurnDid End left failed before after = (failed ≡ false) × IsAtEnd left × (after ≡ before)
TurnDid Broke left failed before after = (failed ≡ true) × (after ≡ before)
