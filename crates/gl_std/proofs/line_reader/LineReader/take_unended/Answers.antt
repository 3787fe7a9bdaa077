use Rattle.std.proofs.Common.{refl, arith}
use Rattle.gl_std.specs.declared.line_reader.TheConstants.{KEPT}
use Rattle.gl_std.proofs.LineByLine.{few_kept}
use Rattle.gl_std.proofs.NumberedLines.{go_on_itself}
use Rattle.gl_std.proofs.PiecesAhead.{taken_rest}
use Rattle.gl_std.proofs.line_reader.LineReader.take_unended.Goals as goal

pub returns : goal.returns
returns c = λ lists. record {
  tells = taken_rest c.args.self.now _ lists c.args.more.now c.requires.none refl c.in_ok-keep.ensures.kept;
  fault = λ number kind is. cc;
  only = record {
    sound = c.requires.sound;
    few = few_kept KEPT _ _ c.in_ok-keep.ensures.kept;
    same_limits = refl;
    lines = omega arith;
    grows = go_on_itself c.args.self.now.judge.names;
  };
}
