use Rattle.gl_renumbering.proofs.Alike.{told_again}
use Rattle.gl_renumbering.proofs.laws.lists_by_mention_tell_the_same.Goals as goal

pub returns : goal.returns
returns c = told_again
