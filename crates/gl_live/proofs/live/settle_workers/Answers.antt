use Rattle.std.proofs.Common.{sym, ◌∙◌, length, ap, arith}
use Rattle.gl_edges.specs.Edges.{once}
use Rattle.gl_live.proofs.Leaving.{all_kept, first_alike, one_kept}
use Rattle.gl_live.proofs.live.settle_workers.Goals as goal

pub settle-requires : goal.settle-requires
settle-requires c = record {
  one_feed = (first_alike (λ s. s.feed) (λ s. s.feed) c.in-Some.worker c.in-Some-next.feed _ _ _ _ c.in-Some.ensures.steps.0 c.in-Some-next.ensures.items c.loop-worker.invariant.feeds).0;
}

pub keep-requires : goal.keep-requires
keep-requires c = record { room = omega (arith, c.loop-worker.invariant.room, ap length c.in-Some.ensures.steps.0) }

pub loop-worker-preserved : goal.loop-worker-preserved
loop-worker-preserved c =
    let was = c.loop-worker.invariant in
    let steps = c.in-Some.ensures.steps in record {
      counted = omega (arith, was.counted, steps.1, ap length steps.0);
      room = omega (arith, was.room, ap length steps.0, c.keep.ensures.len, c.keep.ensures.capacity);
      feeds = (first_alike (λ s. s.feed) (λ s. s.feed) c.in-Some.worker c.in-Some-next.feed _ _ _ _ steps.0 c.in-Some-next.ensures.items was.feeds).1;
      tables = one_kept (λ s. once s.sent) _ _ _ c.in-Ok.table c.in-Some-next.feed _ _ c.keep.ensures.items c.in-Ok.ensures.table c.in-Some-next.ensures.items was.tables;
    }

pub returns-clause-tables : goal.returns-clause-tables
returns-clause-tables c =
    let was = c.loop-worker.invariant in
    all_kept (λ s. once s.sent) (λ s. s.feed) (λ s. s.feed) _ _ _ _ (sym was.counted ∙ c.in-None.ensures.steps.0) was.feeds was.tables

pub returns-clause-fault : goal.returns-clause-fault
returns-clause-fault c = λ lists. tt

pub returns-in-Err-clause-fault : goal.returns-in-Err-clause-fault
returns-in-Err-clause-fault c = c.unserved.ensures.fault
