-- Ranks of those who hold locks.
use Rattle.std.specs.Prelude.{ℕ, List, Option, Some, None, slice_get}
use Rattle.gl_event.specs.declared.events.LockMode.{LockMode}
use Rattle.gl_event.specs.declared.events.LockMode.TheVariants.{Exclusive, Shared}
use Rattle.gl_sought.specs.declared.numbers.Numbers.{Numbers}
use Rattle.gl_loops.specs.declared.ranks.Ranks.{Ranks}
use Rattle.gl_sought.specs.Numbers.{number_in}

-- the number of a lock by the first numbers, or by the others where there are none
abbrev pub number_in_either : Option Numbers → Numbers → ℕ → ℕ
number_in_either (Some numbers) others lock = number_in numbers lock
number_in_either None others lock = number_in others lock

-- the rank of those who hold the lock as readers
abbrev pub shared_rank_in : Ranks → ℕ → ℕ
shared_rank_in ranks lock = number_in_either ranks.shared ranks.exclusive lock

-- the rank of those who hold the lock in this mode
abbrev pub rank_in : Ranks → ℕ → LockMode → ℕ
rank_in ranks lock Exclusive = number_in ranks.exclusive lock
rank_in ranks lock Shared = shared_rank_in ranks lock

-- the same by the ranks of an epoch, if it has some
abbrev pub rank_by : Option Ranks → ℕ → LockMode → ℕ
rank_by (Some ranks) lock mode = rank_in ranks lock mode
rank_by None lock mode = 0

abbrev pub rank_of_epoch : List Ranks → ℕ → ℕ → LockMode → ℕ
rank_of_epoch ranks epoch lock mode = rank_by (slice_get ranks epoch) lock mode
