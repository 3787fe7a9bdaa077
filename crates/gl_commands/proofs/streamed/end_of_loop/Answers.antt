use Rattle.gl_commands.specs.Sessions.{session_prediction}
use Rattle.gl_commands.proofs.AsItComes.{names_of_parts, refused_whole}
use Rattle.gl_commands.proofs.streamed.end_of_loop.Goals as goal

pub returns : goal.returns
returns c = λ limits turns input became.
    refused_whole (session_prediction c.args.options.now) limits turns input c.args.items became.text became.told c.args.at c.args.ring.items c.parts-names.result.0 c.end_at-ended.result
    (names_of_parts c.args.items c.parts-names.result.0 _ _ c.parts-names.ensures.parts) c.end_at-ended.ensures became.reports.0 became.reports.1 became.tells
