use Rattle.gl_std.proofs.LinesOfTexts.{lines-after_line}
use Rattle.gl_std.proofs.laws.lines_follow_lines.Goals as goal

pub returns : goal.returns
returns c = lines-after_line
