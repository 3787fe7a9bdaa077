-- What is said of a report of a trace.
use Rattle.std.specs.Prelude.{◌≡◌, ◌≢◌, ◌++◌, ℕ, List, codes}
use Rattle.gl_std.specs.declared.trace.Trace.{Trace}
use Rattle.gl_check.specs.Checked.{IsChecked, IsCheckFault}
use Rattle.gl_check.specs.Faults.{checked_text}
use Rattle.gl_check.specs.declared.faults.CheckFault.{CheckFault}
use Rattle.gl_check.specs.declared.faults.CheckFault.TheVariants.{Memory}
use Rattle.gl_check.specs.declared.reports.Checked.{Checked}
use Rattle.gl_commands.specs.Checking.{said_line}
use Rattle.gl_commands.specs.declared.ended.Outcome.{Outcome}
use Rattle.gl_commands.specs.declared.ended.Outcome.TheVariants.{Done}

-- the line says the first fault of a report
pub record SaysRefused (trace : Trace) (report line : List ℕ) : Type 0 where
  pub fault : CheckFault
  pub first : IsCheckFault trace report fault
  pub found : fault ≢ Memory
  pub said : line ≡ said_line trace.names fault

-- the text says that a report is accepted
pub record SaysAccepted (trace : Trace) (report text : List ℕ) (outcome : Outcome) : Type 0 where
  pub checked : Checked
  pub is : IsChecked trace report checked
  pub said : text ≡ checked_text checked ++ codes "\n"
  pub done : outcome ≡ Done
