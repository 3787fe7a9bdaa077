use Rattle.std.proofs.Common.{◌≡◌, [], ◌++◌, length, take, Err, sym, ap, ◌∙◌, arith}
use Rattle.std.proofs.lemmas.Bool.Decides.{nat_tests}
use Rattle.std.proofs.lemmas.Grind.{common_steps}
use Rattle.std.proofs.lemmas.List.{take-take}
use Rattle.gl_std.specs.Lines.{without_cr}
use Rattle.gl_std.specs.Trace.{after_line}
use Rattle.gl_std.specs.declared.faults.ReadFault.TheVariants.{Line}
use Rattle.gl_std.specs.declared.line_reader.TheConstants.{KEPT}
use Rattle.gl_std.proofs.LineByLine.{line_ended, line_faulty, on_ok, reached_fault, reached_line}
use Rattle.gl_std.proofs.PieceByPiece.{nil_of}
use Rattle.gl_std.proofs.line_reader.end_line.Goals as goal

-- nothing was unfinished
pub returns-then-is_empty-clause-ends : goal.returns-then-is_empty-clause-ends
returns-then-is_empty-clause-ends c =
    let kept = c.args.unfinished.now.items in
    let none : length kept ≡ 0 = grind (arith, nat_tests, c.is_empty.ensures, c.if-is_empty.true) in
    let nil = nil_of kept none in
    line_ended c.args.judge.now c.take.new.self kept kept c.args.end.now c.args.end.now c.without_cr.result.now c.take.result c.requires.one_line
    (ap (λ k. take KEPT (k ++ c.args.end.now)) (sym nil)) c.without_cr.ensures c.take.ensures.judges c.take.ensures.sound c.take.ensures.line (on_ok c.take.result (kept ≡ []) nil)

-- the line began in a read before
pub returns-in_err-judged-clause-ends : goal.returns-in_err-judged-clause-ends
returns-in_err-judged-clause-ends c =
    let old = c.args.judge.now in
    let kept = c.args.unfinished.now.items in
    let raw = c.keep.new.unfinished.items in
    line_faulty old c.take-2.new.self kept raw c.args.end.now c.from_residual-in_err-judged.result c.from_residual-in_err-judged.ensures.0 (λ number kind is seen told reaches.
    let failed : c.take-2.result ≡ Err (Line number kind) = let was = c.in_err-judged.was in let of = c.from_residual-in_err-judged.ensures in grind (arith, common_steps, was, of, is) in
    reached_fault old kept c.args.end.now raw seen told number kind reaches c.requires.one_line
    (ap (take KEPT) c.in_ok-keep.ensures.kept ∙ take-take KEPT KEPT (kept ++ c.args.end.now) (omega arith))
    (ap (after_line old.limits old.line told) (sym (c.without_cr-2.ensures ∙ ap without_cr c.as_slice.ensures.value)) ∙ c.take-2.ensures.judges.fault number kind failed told reaches.judged))

pub returns-clause-ends : goal.returns-clause-ends
returns-clause-ends c =
    let old = c.args.judge.now in
    let new = c.take-2.new.self in
    let kept = c.args.unfinished.now.items in
    let raw = c.keep.new.unfinished.items in
    let judges = c.in_ok-judged.ensures.judges in
    record {
      reaches = λ seen told reaches.
          reached_line old new kept c.clear.new.self.items c.args.end.now raw seen told c.in_ok-judged.judged reaches c.requires.one_line
          (ap (take KEPT) c.in_ok-keep.ensures.kept ∙ take-take KEPT KEPT (kept ++ c.args.end.now) (omega arith))
          (ap (after_line old.limits old.line told) (sym (c.without_cr-2.ensures ∙ ap without_cr c.as_slice.ensures.value)) ∙ judges.tells told reaches.judged)
          (judges.judged told reaches.judged) judges.same_limits c.in_ok-judged.ensures.line c.clear.ensures.items;
      known = judges.known;
      sound = c.in_ok-judged.ensures.sound;
      empty = c.clear.ensures.items;
      line = c.in_ok-judged.ensures.line;
    }
