use Rattle.gl_writing.proofs.ToldAgain.{written_tells}
use Rattle.gl_writing.proofs.laws.written_texts_say_traces.Goals as goal

pub returns : goal.returns
returns c = written_tells
