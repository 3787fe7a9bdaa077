-- Values by lock.
use Rattle.std.specs.Prelude.{ℕ, Option, nat_eq, slice_get}
use Rattle.std.specs.HashMap.{get}
use Rattle.std.specs.Option.{option_flatten, option_or}
use Rattle.gl_index.specs.declared.by_lock.ByLock.{ByLock}

-- the value of a lock, where it has one
abbrev pub value_at : {V : Type 0} → ByLock V → ℕ → Option V
value_at map lock =
    option_or (option_flatten (slice_get map.near.items lock)) (get nat_eq map.far lock)
