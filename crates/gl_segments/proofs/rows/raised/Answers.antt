use Rattle.std.proofs.Common.{◌+◌, ◌<◌, length, refl, arith}
use Rattle.std.proofs.lemmas.List.{length-set}
use Rattle.gl_segments.proofs.Merging.{merged_none, merged_more}
use Rattle.gl_segments.proofs.rows.raised.Goals as goal

pub loop-thread-init : goal.loop-thread-init
loop-thread-init c = rw (c.set.ensures, c.in_ok-raised.ensures) (merged_none _ _)

pub raise-requires : goal.raise-requires
raise-requires c =
    let width = c.loop-thread.invariant.width in
    let same = length-set c.args.clock.now c.args.from.thread (c.args.from.index + 1) in
    let few = c.requires.few in
    let new = c.new.ensures in
    let below = c.loop-thread-test.true in
    omega arith

pub loop-thread-preserved : goal.loop-thread-preserved
loop-thread-preserved c =
    let within : c.loop-thread.thread < length c.loop-thread.raised = let width = c.loop-thread.invariant.width in
    let same = length-set c.args.clock.now c.args.from.thread (c.args.from.index + 1) in
    let few = c.requires.few in
    let below = c.loop-thread-test.true in
    omega arith in
    rw (c.raise.ensures, c.new.ensures) (merged_more _ _ _ c.loop-thread.thread _ within refl c.loop-thread.invariant)
