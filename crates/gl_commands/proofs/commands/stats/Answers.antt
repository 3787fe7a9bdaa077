use Rattle.std.proofs.KnownBytes.{Keeps-refl}
use Rattle.gl_commands.specs.Answer.{IsAnswer, counts}
use Rattle.gl_commands.specs.Ending.HasEndedUnder.{early}
use Rattle.gl_commands.proofs.Answering.{ends}
use Rattle.gl_commands.proofs.commands.stats.Goals as goal

pub returns-in-Ok : goal.returns-in-Ok
returns-in-Ok g c =
    ends (IsAnswer (counts c.args.query.now)) _ _ c.in-Ok.read c.counted.result _ c.end.result c.in-Ok.ensures.heard c.counted.ensures c.end.ensures

-- nothing was written
pub returns-in-Err : goal.returns-in-Err
returns-in-Err g c = early c.in-Err.ended c.in-Err.ensures.early (Keeps-refl _) c.requires.ready.writable
