use Rattle.gl_renumbering.proofs.Alike.{same_lists}
use Rattle.gl_renumbering.proofs.laws.same_tales_same_lists.Goals as goal

pub returns : goal.returns
returns c = same_lists
