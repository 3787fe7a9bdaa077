use Rattle.std.proofs.Common.{◌++◌, ◌∷◌, [], length, length-append, refl, sym, ap, arith}
use Rattle.std.proofs.lemmas.Grind.{common_steps}
use Rattle.std.proofs.lemmas.Result.{err_from_is_err_and}
use Rattle.gl_std.specs.Lines.{LF}
use Rattle.gl_std.proofs.NumberedLines.{go_on_itself}
use Rattle.gl_std.proofs.PieceByPiece.{first_end, no_end}
use Rattle.gl_std.proofs.PiecesAhead.{failed_next, judged_last, only_next, parts_next, taken_next, taken_no_piece}
use Rattle.gl_std.proofs.line_reader.LineReader.take_text.Goals as goal

pub loop-end-init : goal.loop-end-init
loop-end-init c = record {
  front = [];
  parts = refl;
  taken = taken_no_piece c.args.self.now c.args.lists.now;
  only = record { sound = c.requires.can.sound; few = c.requires.can.few; same_limits = refl; lines = omega arith; grows = go_on_itself c.args.self.now.judge.names };
}

pub take_ended-requires-clause-one_line : goal.take_ended-requires-clause-one_line
take_ended-requires-clause-one_line c = (first_end c.loop-end.rest.now c.in-Some.end.now c.in-Some.after.now c.in-Some.ensures).1

pub take_ended-requires-clause-can : goal.take_ended-requires-clause-can
take_ended-requires-clause-can c =
    let so_far = c.loop-end.invariant in
    let cut = ap length (first_end c.loop-end.rest.now c.in-Some.end.now c.in-Some.after.now c.in-Some.ensures).0 in
    record {
      sound = so_far.only.sound;
      countable = omega (arith, cut, length-append c.in-Some.end.now (LF ∷ c.in-Some.after.now), ap length so_far.parts, length-append so_far.front c.loop-end.rest.now, so_far.only.lines, c.requires.can.countable);
    }

pub loop-end-preserved : goal.loop-end-preserved
loop-end-preserved c =
    let so_far = c.loop-end.invariant in
    let end = c.in-Some.end.now in
    let after = c.in-Some.after.now in
    let cut = (first_end c.loop-end.rest.now end after c.in-Some.ensures).0 in
    let line = end ++ LF ∷ [] in
    record {
      front = so_far.front ++ line;
      parts = parts_next so_far.front c.loop-end.rest.now end after c.args.text.now so_far.parts cut;
      taken = taken_next c.args.self.now c.loop-end.self c.take_ended.new.self c.args.lists.now c.loop-end.lists c.take_ended.new.lists so_far.front line _ refl so_far.taken c.in_ok-take_ended.ensures.tells;
      only = only_next c.args.self.now c.loop-end.self c.take_ended.new.self (length so_far.front) (length line) _ (sym (length-append so_far.front line)) so_far.only c.in_ok-take_ended.ensures.only;
    }

-- a line is at fault
pub returns-in_err-take_ended : goal.returns-in_err-take_ended
returns-in_err-take_ended c =
    let so_far = c.loop-end.invariant in
    let end = c.in-Some.end.now in
    let after = c.in-Some.after.now in
    let cut = (first_end c.loop-end.rest.now end after c.in-Some.ensures).0 in
    let p = err_from_is_err_and c.from_residual.result c.from_residual.ensures.1 in
    record {
      tells = rw p.1 tt;
      fault = failed_next c.args.self.now c.loop-end.self c.args.lists.now c.loop-end.lists so_far.front (end ++ LF ∷ []) after c.args.text.now c.take_ended.result _
          (parts_next so_far.front c.loop-end.rest.now end after c.args.text.now so_far.parts cut) so_far.taken so_far.only.same_limits c.take_ended.ensures.fault
          (λ number kind is. let was = c.in_err-take_ended.was in let of = c.from_residual.ensures in grind (arith, common_steps, was, of, is));
      only = rw p.1 tt;
    }

-- LF ends no more
pub take_unended-requires-clause-none : goal.take_unended-requires-clause-none
take_unended-requires-clause-none c = no_end c.loop-end.rest.now c.in_default.ensures

pub returns : goal.returns
returns c =
    let so_far = c.loop-end.invariant in
    judged_last c.args.self.now c.loop-end.self c.take_unended.new.self c.args.lists.now c.loop-end.lists c.loop-end.lists so_far.front c.loop-end.rest.now c.args.text.now c.take_unended.result so_far.parts so_far.taken so_far.only (c.take_unended.ensures c.loop-end.lists)

-- each line is shorter than what is left
pub loop-end-smaller : goal.loop-end-smaller
loop-end-smaller c =
    let cut = ap length (first_end c.loop-end.rest.now c.in-Some.end.now c.in-Some.after.now c.in-Some.ensures).0 in
    omega (arith, cut, length-append c.in-Some.end.now (LF ∷ c.in-Some.after.now))
