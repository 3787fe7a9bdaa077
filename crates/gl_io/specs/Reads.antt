-- What was read of a source.
use Rattle.std.specs.Prelude.{◌≡◌, ◌⊎◌, ℕ, ◌+◌, ◌*◌, ◌≤◌, Bool, true, false, List, IfSome, length, if◌then◌else◌}
use Rattle.std.specs.Io.KnownBytes.{Consumes, IsAtEnd}
use Rattle.gl_io.specs.Positions.{Position, LieBetween}
use Rattle.gl_io.specs.declared.source.TheConstants.{CHUNK}

-- in at most so many turns, each of which was one read of a chunk at most, the reads gave this text. They took the source from
-- one position to the other
pub record HasRead (turns : ℕ) (old new : Position) (failed : Bool) (text : List ℕ)
    (whole : Bool) : Type 0 where
  -- the text was taken off the front of what was left
  pub bytes : Consumes old.left new.left text
  -- a text that was read whole is all that was left; then the source is at its end, and no read has failed
  pub all : whole ≡ true → IfSome old.left (λ everything. text ≡ everything)
  pub ended : whole ≡ true → IsAtEnd new.left
  pub sound : whole ≡ true → failed ≡ false
  -- so many reads were made, no more than there were turns
  pub reads : ℕ
  pub counted : LieBetween reads old new
  pub few : reads ≤ turns
  -- a text wasn't read whole only where a read failed, or each of the turns was a read that gave a byte
  pub cut : whole ≡ false → (failed ≡ true) ⊎ ((reads ≡ turns) × (turns ≤ length text))
  -- each read gave some bytes, a chunk at most, but for one that met the end or failed
  pub some : reads ≤ length text + 1
  pub within : length text + (if whole then CHUNK else 0) ≤ reads * CHUNK
