use Rattle.std.proofs.Common.{rules}
use Rattle.std.proofs.lemmas.List.Sorted.{answers_always}
use Rattle.std.specs.Ordering.{nat_cmp}
use Rattle.std.specs.List.Sorted.{IsSortedByKey, IsStableByKey}
use Rattle.gl_segments.specs.declared.growths.Growth.{Growth}
use Rattle.gl_segments.proofs.Sorting.{sort_orders, told_clocks}
use Rattle.gl_segments.proofs.history.Growing.finish.Goals as goal

pub invariant_of-result : goal.invariant_of-result
invariant_of-result c =
    let xs = c.args.self.growths.items in
    let ys = c.sort_by_key.new.self.items in
    let sorted : IsSortedByKey (λ (g : Growth). g.thread) nat_cmp ys = c.in_ok-sort_by_key.ensures.sorted (λ g. g.thread) (answers_always _ _ _ (λ f a r g h. search rules)) in
    let stable : IsStableByKey (λ (g : Growth). g.thread) nat_cmp xs ys = c.sort_by_key.ensures.stable (λ g. g.thread) (answers_always _ _ _ (λ f a r g h. search rules)) in
    rw c.in_ok-growths.ensures (sort_orders xs ys c.requires.rising sorted stable)

pub returns : goal.returns
returns c = λ clocks noted.
    let xs = c.args.self.growths.items in
    let ys = c.sort_by_key.new.self.items in
    let stable : IsStableByKey (λ (g : Growth). g.thread) nat_cmp xs ys = c.sort_by_key.ensures.stable (λ g. g.thread) (answers_always _ _ _ (λ f a r g h. search rules)) in
    rw (c.in_ok-growths.ensures, c.threads.ensures) (told_clocks c.args.self.thread c.args.self.first.items xs ys c.args.self.latest clocks c.args.self.segments noted.size noted.tells stable)
