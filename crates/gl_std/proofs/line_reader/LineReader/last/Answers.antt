use Rattle.std.proofs.Common.{◌≡◌, ◌≢◌, length, arith}
use Rattle.std.proofs.lemmas.Bool.Decides.{nat_tests}
use Rattle.gl_std.proofs.LineByLine.{whole_over, last_taken}
use Rattle.gl_std.proofs.PieceByPiece.{nil_of, some_of}
use Rattle.gl_std.proofs.line_reader.LineReader.last.Goals as goal

pub returns-then-is_empty : goal.returns-then-is_empty
returns-then-is_empty c =
    let old = c.args.self.now in
    let none : length old.unfinished.items ≡ 0 = grind (arith, nat_tests, c.is_empty.ensures, c.if-is_empty.true) in
    record {
      takes = record {
        trace = λ text told over. whole_over old text told (nil_of old.unfinished.items none) over;
        has_judged = λ text told over. over.judged;
        known = tt;
      };
    }

pub returns : goal.returns
returns c =
    let old = c.args.self.now in
    let some : length old.unfinished.items ≢ 0 = grind (arith, nat_tests, c.is_empty.ensures, c.if-is_empty.false) in
    record {
      takes =
          last_taken old _ c.as_slice.result.now c.take.result (some_of old.unfinished.items some) c.as_slice.ensures.value c.take.ensures.judges;
    }
