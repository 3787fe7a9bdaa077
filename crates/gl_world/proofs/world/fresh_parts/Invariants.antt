use Rattle.std.proofs.Common.{◌≡◌, ℕ, ◌<◌, ◌++◌, length, map, get_or}
use Rattle.std.specs.Vec.Iter.{into_iter_items, into_iter_len}
use Rattle.gl_world.specs.Machine.{fresh_lane}
use Rattle.gl_world.specs.Keeping.{Keeper, lanes_kept}
use Rattle.gl_world.proofs.Worlds.{IsFreshPart}
use Rattle.gl_world.proofs.world.fresh_parts.Given as goal

-- there is a part with its wishes for each thread so far
abbrev pub invariant-loop-list : goal.invariant-loop-list
invariant-loop-list l = record {
  all : l.yielded ++ into_iter_items l.list-iterator ≡ l.fn.wishes.items;
  counted : into_iter_len l.list-iterator ≡ length (into_iter_items l.list-iterator);
  so_far : l.thread ≡ length l.yielded;
  count : length l.parts.items ≡ length l.yielded;
  lanes : lanes_kept l.parts.items ≡ map (λ w. fresh_lane w.items) l.yielded;
  each : (i : ℕ) (d : Keeper) → i < length l.parts.items → IsFreshPart l.limits i (get_or l.parts.items i d);
}
