use Rattle.std.proofs.Common.{◌≡◌, length, arith, rules}
use Rattle.gl_segments.proofs.Searching.{reach_more}
use Rattle.gl_segments.proofs.search.Search.reach.Goals as goal

pub loop-index-preserved : goal.loop-index-preserved
loop-index-preserved c =
    let this : c.len-this.result ≡ length c.loop-index.self.found.items = search rules in
    record {
      low = omega arith;
      same_target = c.loop-index.invariant.same_target;
      same_clock = c.loop-index.invariant.same_clock;
      rest = rw (c.in_ok-push.ensures.items, this) (reach_more _ _ _ _ _ _ c.loop-index-test.true c.loop-index.invariant.rest);
    }
