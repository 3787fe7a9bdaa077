use Rattle.std.proofs.Common.{length, map, take, ap, subst, ◌∙◌, rules, arith}
use Rattle.std.specs.List.{dedup}
use Rattle.std.specs.List.Sorted.{IsPermutation}
use Rattle.std.proofs.lemmas.List.{length-map, length-take-le, take_all}
use Rattle.smallvec.proofs.SmallVecLemmas.{items-with_items}
use Rattle.gl_edges.specs.Guards.{guard_eq, guard_of}
use Rattle.gl_edges.proofs.Guarding.{dedup_ascends, dedup_is_ascending}
use Rattle.gl_edges.proofs.guards.fill.Goals as goal

pub push_reserved-requires : goal.push_reserved-requires
push_reserved-requires c =
    let known = ap length c.loop-entry.invariant.known in
    let listed = length-map (take c.loop-entry.entry-index c.args.entries.now) guard_of in
    let taken = length-take-le c.loop-entry.entry-index c.args.entries.now (omega (arith, c.loop-entry-test.true)) in
    omega (arith, known, listed, taken, c.loop-entry.invariant.fits, c.loop-entry-test.true)

pub returns-clause-ascending : goal.returns-clause-ascending
returns-clause-ascending c =
    let once = c.dedup.ensures.items ∙ ap (dedup guard_eq) (items-with_items c.loop-entry.locks c.sort_unstable.new.self (search rules)) in
    rw once (dedup_ascends c.sort_unstable.new.self c.sort_unstable.ensures.sorted)

pub returns-clause-guards : goal.returns-clause-guards
returns-clause-guards c =
    let once = c.dedup.ensures.items ∙ ap (dedup guard_eq) (items-with_items c.loop-entry.locks c.sort_unstable.new.self (search rules)) in
    let all = c.deref_mut.ensures.value ∙ c.loop-entry.invariant.known ∙ ap (map guard_of) (take_all c.loop-entry.entry-index c.args.entries.now c.loop-entry-test.false) in
    once ∙ dedup_is_ascending _ c.sort_unstable.new.self (subst (λ gs. IsPermutation gs c.sort_unstable.new.self) all c.sort_unstable.ensures.permutation) c.sort_unstable.ensures.sorted
