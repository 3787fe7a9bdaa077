use Rattle.std.proofs.Common.{refl}
use Rattle.gl_std.proofs.LineByLine.{begun}
use Rattle.gl_std.proofs.line_reader.LineReader.new.Goals as goal

pub returns-clause-begun : goal.returns-clause-begun
returns-clause-begun c = λ start.
    begun c.args.limits.now c.args.turns start _ c.new.ensures.limits c.new.ensures.line c.new.ensures.judged c.new-2.ensures.items refl refl
