-- How a session ends, and what it lists.
use Rattle.std.specs.Prelude.{◌≡◌, ℕ, Bool, true, false, if◌then◌else◌}
use Rattle.gl_event.specs.declared.events.Segment.{Segment}
use Rattle.gl_std.specs.declared.trace.Trace.{Trace}
use Rattle.gl_findings.specs.declared.listing.Listing.{Listing}
use Rattle.gl_findings.specs.declared.listing.Listing.TheVariants.{Cycles, Findings}
use Rattle.gl_options.specs.Sessions.{with_threads}
use Rattle.gl_options.specs.declared.live_options.LiveOptions.{LiveOptions}
use Rattle.gl_commands.specs.Answer.{Answer, IsAnswer, IsAnswerUnder, prediction}
use Rattle.gl_io.specs.Uses.{SinkUse, SourceUse}
use Rattle.gl_commands.specs.Ending.{HasEndedLive, HasEndedStreamed}
use Rattle.gl_commands.specs.declared.ended.Ended.{Ended}

-- what the options ask to be listed
abbrev pub listing_asked : LiveOptions → Listing
listing_asked options = if options.findings then Findings else Cycles

-- what a session prints of a trace: what `predict` prints that lists the same
abbrev pub session_prediction : LiveOptions → (Segment → Segment → Bool) → Trace → Answer
session_prediction options = prediction (listing_asked options) options.query options.form

-- the end of a session that predicts, after at most so many turns over this reader and this writer: the text is read whole first, or, where
-- the options say so, recorded as it comes, under a limit of threads
pub record HasEndedSession (options : LiveOptions) (turns : ℕ) (input : SourceUse)
    (output : SinkUse) (ended : Ended) : Type 0 where
  pub read_first : options.stream ≡ false
      → HasEndedLive (IsAnswer (session_prediction options)) turns input output ended
  pub as_it_comes : options.stream ≡ true
      → HasEndedStreamed (with_threads options.threads)
      (IsAnswerUnder (with_threads options.threads) (session_prediction options)) turns input
      output ended
