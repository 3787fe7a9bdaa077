use Rattle.gl_writing.proofs.Saying.{written_says}
use Rattle.gl_writing.proofs.laws.written_lines_say_events.Goals as goal

pub returns : goal.returns
returns c = written_says
