use Rattle.gl_filters.specs.Picked.{edges_of_table}
use Rattle.gl_grounds.specs.Classes.{classes_of}
use Rattle.gl_grounds.proofs.SpanSteps.{AreFollowed}
use Rattle.gl_findings.proofs.finder.Finder.reached.Given as goal

-- chains that go on from one of the spans so far have their own
abbrev pub invariant-loop-i : goal.invariant-loop-i
invariant-loop-i l = AreFollowed l.self.mode (edges_of_table l.self.table.now) (classes_of l.self.table.now) l.self.among_models.ground.flags.now l.is_last l.spans l.i l.reached
