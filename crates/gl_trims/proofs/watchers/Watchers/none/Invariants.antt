use Rattle.std.proofs.Common.{◌≡◌, [], map, replicate}
use Rattle.gl_trims.proofs.watchers.Watchers.none.Given as goal

-- an empty list for each position so far
abbrev pub invariant-loop : goal.invariant-loop
invariant-loop l = map (λ list. list.items) l.lists.items ≡ replicate l.counter []
