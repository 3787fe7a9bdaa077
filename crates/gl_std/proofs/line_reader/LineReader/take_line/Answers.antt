use Rattle.std.proofs.Common.{◌≡◌, ◌++◌, length, take, drop, Err, refl, ap, ◌∙◌, arith}
use Rattle.std.proofs.lemmas.Grind.{common_steps}
use Rattle.gl_std.specs.bodies.States.{reader_of, left_of}
use Rattle.gl_std.specs.Line.{cut_at}
use Rattle.gl_std.specs.Lines.{LF}
use Rattle.gl_std.specs.declared.faults.ReadFault.TheVariants.{Line}
use Rattle.gl_std.specs.declared.line_reader.TheConstants.{KEPT}
use Rattle.gl_std.proofs.LineByLine.{reached_more, left_after, left_none, at_line, at_end, fault_at, fault_ended, few_kept, line_fits, slice_rest, take_faulty}
use Rattle.gl_std.proofs.PieceByPiece.{first_end, no_end}
use Rattle.gl_std.proofs.line_reader.LineReader.take_line.Goals as goal

pub end_line-requires-clause-one_line : goal.end_line-requires-clause-one_line
end_line-requires-clause-one_line c =
    let old = c.args.self.now in
    (first_end (left_of old) c.in-Some.end.now c.in-Some.field-0-1.now (c.in-Some.ensures ∙ ap (cut_at LF) (slice_rest (take old.end c.deref.result.now) old.start ∙ ap (λ xs. drop old.start (take old.end xs)) c.deref.ensures.value))).1

-- LF ends a line at fault
pub returns-in_err-judged-in-Some-clause-takes : goal.returns-in_err-judged-in-Some-clause-takes
returns-in_err-judged-in-Some-clause-takes c =
    let old = c.args.self.now in
    let cut = first_end (left_of old) c.in-Some.end.now c.in-Some.field-0-1.now (c.in-Some.ensures ∙ ap (cut_at LF) (slice_rest (take old.end c.deref.result.now) old.start ∙ ap (λ xs. drop old.start (take old.end xs)) c.deref.ensures.value)) in
    take_faulty old _ c.from_residual.result c.from_residual.ensures.0 (λ number kind is text told at.
    let failed : c.end_line.result ≡ Err (Line number kind) = let was = c.in_err-judged-in-Some.was in let of = c.from_residual.ensures in grind (arith, common_steps, was, of, is) in
    fault_at old.judge.limits old c.in-Some.end.now c.in-Some.field-0-1.now text told number kind at cut.0
    (fault_ended old.judge _ old.unfinished.items _ c.in-Some.end.now at.seen told c.end_line.result number kind failed c.end_line.ensures.ends at.reaches))

-- LF ends a line
pub returns-in_ok-judged-in-Some-clause-takes : goal.returns-in_ok-judged-in-Some-clause-takes
returns-in_ok-judged-in-Some-clause-takes c =
    let old = c.args.self.now in
    let cut = first_end (left_of old) c.in-Some.end.now c.in-Some.field-0-1.now (c.in-Some.ensures ∙ ap (cut_at LF) (slice_rest (take old.end c.deref.result.now) old.start ∙ ap (λ xs. drop old.start (take old.end xs)) c.deref.ensures.value)) in
    let ended = c.in_ok-judged-in-Some.ensures.ends in
    record {
      at = λ text told at.
          at_line (reader_of old) _ c.in-Some.end.now c.in-Some.field-0-1.now text told _ at cut.0
          (left_after old.buffer.items c.in-Some.end.now c.in-Some.field-0-1.now old.start old.end cut.0)
          (ended.reaches at.seen told at.reaches);
      known = ended.known;
      further = omega arith;
      line = ended.line;
      ready = record {
        sound = ended.sound;
        order = line_fits old.buffer.items c.in-Some.end.now c.in-Some.field-0-1.now old.start old.end cut.0 c.requires.ready.order;
        within = c.requires.ready.within;
        few = omega (arith, ap length ended.empty);
      };
    }

-- LF ends none
pub returns-in_ok-keep-in-None-clause-takes : goal.returns-in_ok-keep-in-None-clause-takes
returns-in_ok-keep-in-None-clause-takes c =
    let old = c.args.self.now in
    record {
      at = λ text told at.
          at_end (reader_of old) _ text told at (left_none old.buffer.items old.end)
          (reached_more old.judge old.unfinished.items c.keep.new.unfinished.items (left_of old) at.seen told at.reaches (no_end (left_of old) (c.in-None.ensures ∙ ap (cut_at LF) (slice_rest (take old.end c.deref.result.now) old.start ∙ ap (λ xs. drop old.start (take old.end xs)) c.deref.ensures.value)))
          (c.in_ok-keep-in-None.ensures.kept ∙ ap (λ xs. take KEPT (old.unfinished.items ++ xs)) (slice_rest (take old.end c.deref-in-None.result.now) old.start ∙ ap (λ xs. drop old.start (take old.end xs)) c.deref-in-None.ensures.value)));
      spent = refl;
      same_line = refl;
      ready = record {
        sound = c.requires.ready.sound;
        order = omega arith;
        within = c.requires.ready.within;
        few = few_kept KEPT _ _ c.in_ok-keep-in-None.ensures.kept;
      };
    }
