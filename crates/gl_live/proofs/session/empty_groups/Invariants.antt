use Rattle.std.proofs.Common.{◌≡◌, [], length}
use Rattle.std.specs.List.{All}
use Rattle.gl_live.proofs.session.empty_groups.Given as goal

-- there are as many groups as turns, without recorders
abbrev pub invariant-loop : goal.invariant-loop
invariant-loop l = record {
  count : length l.groups.items ≡ l.counter;
  empty : All (λ group. group.items ≡ []) l.groups.items;
}
