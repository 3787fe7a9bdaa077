use Rattle.std.proofs.Common.{◌≡◌, length, subst, arith}
use Rattle.std.proofs.lemmas.Result.{err_from_is_err_and}
use Rattle.gl_segments.specs.bodies.Rows.{AreClocksOf, AreClocksTo, IsThreadFault}
use Rattle.gl_segments.proofs.Ordering.{threads_more, fault_of, consistent, orders}
use Rattle.gl_segments.proofs.order.searched.Goals as goal

pub loop-thread-preserved : goal.loop-thread-preserved
loop-thread-preserved c =
    let new : AreClocksOf c.args.steps.now c.loop-thread.thread c.in_ok-history.field-0 = rw c.new-thread.ensures at c.in_ok-history.ensures.ok in
    rw c.in_ok-push.ensures.items (threads_more c.args.steps.now c.loop-thread.histories.items c.loop-thread.thread c.in_ok-history.field-0 new c.loop-thread.invariant)

pub returns-in_err-history-clause-fault : goal.returns-in_err-history-clause-fault
returns-in_err-history-clause-fault c =
    let p = err_from_is_err_and c.from_residual.result c.from_residual.ensures.1 in
    let fault : IsThreadFault c.args.steps.now c.loop-thread.thread c.in_err-history.field-0.0 = rw c.new-thread.ensures at c.in_err-history.ensures.fault in
    rw (p.1, p.2) (λ lists shows. fault_of lists c.args.steps.now shows c.requires _ c.loop-thread.thread c.in_err-history.field-0.0 c.loop-thread.invariant fault)

pub returns-clause-ok : goal.returns-clause-ok
returns-clause-ok c =
    let all : c.loop-thread.thread ≡ length c.args.steps.now = let e = c.threads-thread-end.ensures in omega arith in
    let clocks = subst (AreClocksTo c.args.steps.now c.loop-thread.histories.items) all c.loop-thread.invariant in
    λ lists shows. orders lists c.args.steps.now shows c.requires _ clocks

pub returns-clause-consistent : goal.returns-clause-consistent
returns-clause-consistent c =
    let all : c.loop-thread.thread ≡ length c.args.steps.now = let e = c.threads-thread-end.ensures in omega arith in
    let clocks = subst (AreClocksTo c.args.steps.now c.loop-thread.histories.items) all c.loop-thread.invariant in
    λ lists shows. consistent lists c.args.steps.now shows c.requires _ clocks
