use Rattle.gl_writing.proofs.ReadAgain.{written_read_again}
use Rattle.gl_writing.proofs.laws.written_texts_are_read_again.Goals as goal

pub returns : goal.returns
returns c = written_read_again
