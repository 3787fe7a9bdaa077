use Rattle.std.proofs.Common.{◌+◌, get_or, subst, sym, arith}
use Rattle.gl_findings.proofs.Dealt.{AreRoots, roots_begin, roots_more, roots_all}
use Rattle.gl_findings.proofs.Prepared.{later, next_at}
use Rattle.gl_findings.proofs.roots.roots_of.Goals as goal

pub loop-next-init : goal.loop-next-init
loop-next-init c =
    let s = c.args.finder.now in
    subst (λ l. AreRoots s l (get_or s.next.now 0 0)) (sym c.new-roots.ensures.items) (roots_begin s c.requires _ (next_at s c.requires 0 (omega arith)))

pub loop-next-smaller : goal.loop-next-smaller
loop-next-smaller c =
    let s = c.args.finder.now in
    let along = later s c.requires c.loop-next.next (omega arith) in
    omega (arith, along.0, along.1)

-- one class more
pub loop-next-preserved : goal.loop-next-preserved
loop-next-preserved c =
    let s = c.args.finder.now in
    subst (λ l. AreRoots s l (get_or s.next.now (c.loop-next.next + 1) 0)) (sym c.in_ok-push.ensures.items)
    (roots_more s c.requires c.loop-next.roots.items c.loop-next.next _ c.loop-next.invariant (omega arith) (next_at s c.requires (c.loop-next.next + 1) (omega arith)))

pub returns-clause-within : goal.returns-clause-within
returns-clause-within c = c.loop-next.invariant.within

pub returns-clause-all : goal.returns-clause-all
returns-clause-all c = roots_all c.args.finder.now c.requires c.loop-next.roots.items c.loop-next.next c.loop-next.invariant (omega arith)
