use Rattle.std.proofs.Common.{◌-◌, false, length}
use Rattle.std.specs.Prelude.{unwrap_or}
use Rattle.gl_filters.specs.Picked.{edges_of_table}
use Rattle.gl_index.specs.Sides.{lock_towards}
use Rattle.gl_index.specs.declared.sides.Side.TheVariants.{Leader}
use Rattle.gl_grounds.specs.Classes.{classes_of}
use Rattle.gl_grounds.specs.Spanning.{GoesOnAt, KeepSpans}
use Rattle.gl_grounds.proofs.SpanSteps.{ArePassed}
use Rattle.gl_findings.proofs.finder.Finder.add_followers.Given as goal

-- chains that go on with one of those so far have their spans, and none is lost
abbrev pub invariant-loop-next : goal.invariant-loop-next
invariant-loop-next l =
    ArePassed (lock_towards Leader) (edges_of_table l.self.table.now) l.self.among_models.ground.flags.now l.span.wanted (GoesOnAt l.self.mode (edges_of_table l.self.table.now) (classes_of l.self.table.now) l.self.among_models.ground.flags.now false l.span l.reached) l.next
    × KeepSpans l.initial.reached l.reached

-- how many positions are left to look at
abbrev pub decreases-loop-next : goal.decreases-loop-next
decreases-loop-next l = length l.self.table.now - unwrap_or l.next (length l.self.table.now)
