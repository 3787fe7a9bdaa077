-- Numbers of locks.
use Rattle.std.specs.Prelude.{ℕ, unwrap_or}
use Rattle.gl_index.specs.ByLock.{value_at}
use Rattle.gl_sought.specs.declared.numbers.Numbers.{Numbers}

-- the number of a lock; locks that aren't there have number 0
abbrev pub number_in : Numbers → ℕ → ℕ
number_in numbers lock = unwrap_or (value_at numbers.by_lock lock) 0
