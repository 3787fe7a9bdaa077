-- How what the words of the command line ask for ends.
use Rattle.std.specs.Prelude.{ℕ}
use Rattle.gl_commands.specs.Answer.{IsAnswer, IsPlainAnswer, counts, prediction, replay}
use Rattle.gl_commands.specs.Checking.{HasChecked}
use Rattle.gl_io.specs.Uses.{SinkUse, SourceUse}
use Rattle.gl_commands.specs.Ending.{HasEnded}
use Rattle.gl_commands.specs.Sessions.{HasEndedSession}
use Rattle.gl_commands.specs.declared.ended.Ended.{Ended}
use Rattle.gl_findings.specs.declared.listing.Listing.TheVariants as lists
use Rattle.gl_options.specs.declared.options.Command.{Command}
use Rattle.gl_options.specs.declared.options.Command.TheVariants.{Predict, Findings, Live, Stats, Replay, Check}

-- each command ends with its own answer, after at most so many turns over this reader and this writer, however many threads read
abbrev pub HasPerformed : Command → ℕ → SourceUse → SinkUse → Ended → Type 0
HasPerformed (Predict query form jobs) turns input output ended =
    HasEnded (IsAnswer (prediction lists.Cycles query form)) turns input output ended
HasPerformed (Findings query form jobs) turns input output ended =
    HasEnded (IsAnswer (prediction lists.Findings query form)) turns input output ended
HasPerformed (Live options) turns input output ended =
    HasEndedSession options turns input output ended
HasPerformed (Stats query jobs) turns input output ended =
    HasEnded (IsAnswer (counts query)) turns input output ended
HasPerformed (Replay jobs) turns input output ended =
    HasEnded (IsPlainAnswer replay) turns input output ended
HasPerformed (Check jobs) turns input output ended = HasChecked turns input output ended
