use Rattle.std.proofs.KnownBytes.{Keeps-refl}
use Rattle.gl_commands.specs.Answer.{IsAnswer, prediction}
use Rattle.gl_commands.specs.Ending.HasEndedUnder.{early}
use Rattle.gl_commands.proofs.Answering.{ends}
use Rattle.gl_commands.proofs.commands.predict_listing.Goals as goal

pub returns-in-Ok : goal.returns-in-Ok
returns-in-Ok g c =
    ends (IsAnswer (prediction c.args.listing c.args.query.now c.args.form)) _ _ c.in-Ok.read c.predicted.result _ c.end.result c.in-Ok.ensures.heard c.predicted.ensures c.end.ensures

-- nothing was written
pub returns-in-Err : goal.returns-in-Err
returns-in-Err g c = early c.in-Err.ended c.in-Err.ensures.early (Keeps-refl _) c.requires.ready.writable
