use Rattle.std.proofs.Common.{sym, ◌∙◌}
use Rattle.std.proofs.KnownBytes.{Keeps-refl}
use Rattle.std.proofs.lemmas.Bool.{false≢true}
use Rattle.gl_commands.specs.Answer.{IsAnswer, IsAnswerUnder}
use Rattle.gl_commands.specs.Sessions.{session_prediction}
use Rattle.gl_commands.specs.Ending.HasEndedUnder.{early}
use Rattle.gl_commands.specs.Ending.HasEndedLive.{confirmed}
use Rattle.gl_options.specs.Sessions.{with_threads}
use Rattle.gl_commands.proofs.Answering.{ends_live, ends_streamed}
use Rattle.gl_commands.proofs.commands.live_gated.Goals as goal

pub returns-then-options : goal.returns-then-options
returns-then-options g c =
    let limits = with_threads c.args.options.now.threads in
    record {
      read_first = λ off. absurd (false≢true (sym off ∙ c.if-options.true));
      as_it_comes = λ _. ends_streamed limits (IsAnswerUnder limits (session_prediction c.args.options.now)) _ _ c.streamed.result _ c.end.result c.streamed.ensures.printed c.streamed.ensures.stopped c.end.ensures;
    }

pub returns-in-Ok : goal.returns-in-Ok
returns-in-Ok g c =
    record {
      read_first = λ _. ends_live (IsAnswer (session_prediction c.args.options.now)) _ _ c.in-Ok.read c.recorded.result _ c.end-in-Ok.result c.in-Ok.ensures.heard c.recorded.ensures c.end-in-Ok.ensures;
      as_it_comes = λ on. absurd (false≢true (sym c.if-options.false ∙ on));
    }

-- nothing was written
pub returns-in-Err : goal.returns-in-Err
returns-in-Err g c =
    record {
      read_first = λ _. confirmed c.in-Err.ended (early c.in-Err.ended c.in-Err.ensures.early (Keeps-refl _) c.requires.ready.writable);
      as_it_comes = λ on. absurd (false≢true (sym c.if-options.false ∙ on));
    }
