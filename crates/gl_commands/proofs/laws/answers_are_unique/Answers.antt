use Rattle.gl_commands.proofs.Uniqueness.{unique}
use Rattle.gl_commands.proofs.laws.answers_are_unique.Goals as goal

pub returns : goal.returns
returns c = unique
