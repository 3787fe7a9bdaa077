use Rattle.std.proofs.Common.{arith}
use Rattle.std.proofs.lemmas.List.{length-map}
use Rattle.gl_event.specs.Lawful.{lists_of}
use Rattle.gl_segments.specs.bodies.Forked.{AddsForks}
use Rattle.gl_segments.proofs.Tabling.{items_at}
use Rattle.gl_segments.proofs.Forking.{forks_more, forks_all, forks_none}
use Rattle.gl_segments.proofs.forked.all_forks.Goals as goal

pub loop-from-init : goal.loop-from-init
loop-from-init c = rw c.new-forks.ensures.items (forks_none _)

pub add_forks-requires : goal.add_forks-requires
add_forks-requires c =
    let at = items_at c.args.cuts.now c.loop-from.from c.index-cuts-from.result c.loop-from-test.true c.index-cuts-from.is in
    let small = c.requires.small _ _ at in
    rw c.deref.ensures.value (omega arith)

pub loop-from-preserved : goal.loop-from-preserved
loop-from-preserved c =
    let at = items_at c.args.cuts.now c.loop-from.from c.index-cuts-from.result c.loop-from-test.true c.index-cuts-from.is in
    let adds : AddsForks c.loop-from.forks.items c.add_forks.new.forks.items c.loop-from.from c.index-cuts-from.result.items = rw (c.new.ensures, c.deref.ensures.value) at c.in_ok-add_forks.ensures in
    forks_more (lists_of c.args.cuts.now) c.loop-from.forks.items c.add_forks.new.forks.items c.loop-from.from c.index-cuts-from.result.items at adds c.loop-from.invariant

pub returns : goal.returns
returns c = forks_all (lists_of c.args.cuts.now) c.loop-from.forks.items c.loop-from.from (let e = length-map c.args.cuts.now (λ v. v.items) in omega (arith, c.loop-from-test.false)) c.loop-from.invariant
