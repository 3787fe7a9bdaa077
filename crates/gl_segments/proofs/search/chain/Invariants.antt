use Rattle.std.proofs.Common.{◌<◌, List, ◌++◌, length}
use Rattle.gl_event.specs.declared.events.Segment.{Segment}
use Rattle.gl_segments.specs.bodies.Search.{FollowsLinks}
use Rattle.gl_segments.proofs.search.chain.Given as goal

-- what follows the links from here on comes after the segments so far
abbrev pub invariant-loop-at : goal.invariant-loop-at
invariant-loop-at l = record {
  within : l.at < length l.found;
  follows : (rest : List Segment) → FollowsLinks l.found l.at rest → FollowsLinks l.found l.from (l.segments.items ++ rest);
}

abbrev pub decreases-loop-at : goal.decreases-loop-at
decreases-loop-at l = l.at
