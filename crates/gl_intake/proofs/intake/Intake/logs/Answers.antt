use Rattle.std.proofs.Common.{arith}
use Rattle.std.proofs.lemmas.List.{length-map}
use Rattle.gl_intake.proofs.Kept.{lawful_events}
use Rattle.gl_intake.proofs.Streams.{logs_listed}
use Rattle.gl_intake.proofs.Lawful.{lists_lawful}
use Rattle.gl_intake.proofs.intake.Intake.logs.Goals as goal

pub returns-clause-value : goal.returns-clause-value
returns-clause-value c = rw (c.as_slice.ensures.value, ← c.self.view_is) (logs_listed _ _ _ c.self.invariant.logs_are)

pub returns-clause-lawful : goal.returns-clause-lawful
returns-clause-lawful c = rw (← c.self.view_is) (lawful_events _ _ _ c.self.invariant.cursors_are)

pub returns-clause-lawful_lists : goal.returns-clause-lawful_lists
returns-clause-lawful_lists c =
    rw c.as_slice.ensures.value
    record {
      few = omega (arith, c.self.invariant.logs_are.count, c.self.invariant.range.threads_fit, length-map c.self.inside.logs.items (λ v. v.items));
      each = lists_lawful _ _ _ (logs_listed _ _ _ c.self.invariant.logs_are) c.self.invariant.range (lawful_events _ _ _ c.self.invariant.cursors_are);
    }
