use Rattle.gl_commands.proofs.Uniqueness.{plain_unique}
use Rattle.gl_commands.proofs.laws.plain_answers_are_unique.Goals as goal

pub returns : goal.returns
returns c = plain_unique
