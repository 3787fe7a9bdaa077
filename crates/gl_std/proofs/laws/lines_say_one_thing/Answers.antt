use Rattle.gl_std.proofs.Shapes.{line_says, says_shape}
use Rattle.gl_std.proofs.laws.lines_say_one_thing.Goals as goal

pub returns : goal.returns
returns c = (line_says, says_shape)
