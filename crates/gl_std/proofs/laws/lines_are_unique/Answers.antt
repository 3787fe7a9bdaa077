use Rattle.gl_std.proofs.LinesOfTexts.{text_has_lines, lines_are_those}
use Rattle.gl_std.proofs.laws.lines_are_unique.Goals as goal

pub returns : goal.returns
returns c = (text_has_lines, lines_are_those)
