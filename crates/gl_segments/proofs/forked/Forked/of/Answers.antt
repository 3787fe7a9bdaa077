use Rattle.std.proofs.Common.{rules}
use Rattle.std.specs.Ordering.{nat_cmp}
use Rattle.std.specs.List.Sorted.{IsSortedByKey}
use Rattle.std.proofs.lemmas.List.Sorted.{answers_always, Contains-permutation, IsPermutation-sym, IsNonDecreasingBy-from_sort}
use Rattle.gl_segments.specs.declared.forked.Spawn.{Spawn}
use Rattle.gl_segments.proofs.Forking.{forks_reordered}
use Rattle.gl_segments.proofs.forked.Forked.of.Goals as goal

pub invariant_of-result : goal.invariant_of-result
invariant_of-result c =
    let ys = c.sort_by_key.new.self.items in
    let sorted : IsSortedByKey (λ (s : Spawn). s.thread) nat_cmp ys = c.in_ok-sort_by_key.ensures.sorted (λ s. s.thread) (answers_always _ _ _ (λ f a r g h. search rules)) in
    IsNonDecreasingBy-from_sort (λ (s : Spawn). s.thread) ys sorted

pub returns : goal.returns
returns c =
    let xs = c.in_ok-forks.forks.items in
    let ys = c.sort_by_key.new.self.items in
    let moved = c.sort_by_key.ensures.permutation in
    forks_reordered _ xs ys (λ s. Contains-permutation xs ys s moved) (λ s. Contains-permutation ys xs s (IsPermutation-sym xs ys moved)) c.in_ok-forks.ensures
