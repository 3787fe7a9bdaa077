use Rattle.gl_filters.specs.Picked.{edges_of_table}
use Rattle.gl_index.specs.declared.sides.Side.TheVariants.{Follower, Leader}
use Rattle.gl_sought.specs.Sought.{GoesOnSeeking}
use Rattle.gl_exclusions.specs.bodies.Partners.{LeadsThrough}
use Rattle.gl_exclusions.proofs.partners.leave_out_stuck.Given as goal

-- so far only edges that are in no cycle were left out, none came back, and the chains lead through those that are kept
abbrev pub invariant-loop-pass : goal.invariant-loop-pass
invariant-loop-pass l = record {
  goes_on : GoesOnSeeking l.sought l.fn.kept.items l.kept.items;
  followers : LeadsThrough Follower (edges_of_table l.sought.table.now) l.kept.items l.followers.chain;
  leaders : LeadsThrough Leader (edges_of_table l.sought.table.now) l.kept.items l.leaders.chain;
}
