-- What a command asks of its reader, of its writer and of its bound on reads.
use Rattle.std.specs.Prelude.{◌≡◌, ◌≤◌, ◌^◌, ℕ, Bool, false}

-- neither the reader nor the writer has failed, and the turns are at most 2 ^ 40
pub record AreReady (turns : ℕ) (reader_failed writer_failed : Bool) : Type 0 where
  pub readable : reader_failed ≡ false
  pub writable : writer_failed ≡ false
  pub few_turns : turns ≤ 2 ^ 40
