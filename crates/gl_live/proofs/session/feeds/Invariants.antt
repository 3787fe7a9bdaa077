use Rattle.std.proofs.Common.{◌≡◌, [], length, map}
use Rattle.std.specs.List.{All}
use Rattle.gl_live.proofs.session.feeds.Given as goal

-- there are as many feeds as turns
abbrev pub invariant-loop : goal.invariant-loop
invariant-loop l = record {
  count : length l.outlets.items ≡ l.counter;
  feeds : map (λ i. i.feed) l.inlets.items ≡ map (λ o. o.feed) l.outlets.items;
  unsent : All (λ o. o.sent ≡ []) l.outlets.items;
  room : All (λ o. o.capacity ≡ l.capacity) l.outlets.items;
}
