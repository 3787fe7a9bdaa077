use Rattle.std.proofs.Common.{ℕ, List, ◌∷◌, [], length, length-append, map, sym, ap, ◌∙◌, arith}
use Rattle.std.specs.Option.{option_map_or}
use Rattle.gl_std.specs.Line.{shape_of}
use Rattle.gl_std.specs.Lines.{LF, ended_lines, lines}
use Rattle.gl_std.proofs.PieceByPiece.{ended-part, first_end}
use Rattle.gl_std.proofs.block.Block.of.Goals as goal

pub add_lines-requires-clause-room : goal.add_lines-requires-clause-room
add_lines-requires-clause-room c =
    let piece = c.args.piece.now in
    let after = c.in-Some.after.now in
    let parts = ap length (first_end piece c.in-Some.field-0-0.now after c.in-Some.ensures).0 in
    let ended = ended-part after in
    let whole = ap length ended.1 in
    let lines = ap length c.ended_lines.ensures in
    omega (arith, parts, length-append c.in-Some.field-0-0.now (LF ∷ after), whole, length-append (ended_lines after) ended.0, lines, c.requires.short, c.empty-block.ensures.count)

-- it has no LF
pub returns-in-None-clause-says : goal.returns-in-None-clause-says
returns-in-None-clause-says c = record {
  numbered = c.empty-block.ensures.numbered;
  says = c.empty-block.ensures.none ∙ sym (ap (λ cut. map shape_of (lines (option_map_or (λ (p : List ℕ × List ℕ). ended_lines p.1) cut []))) (sym c.in-None.ensures));
  count = c.empty-block.ensures.count ∙ sym (ap (λ cut. length (lines (option_map_or (λ (p : List ℕ × List ℕ). ended_lines p.1) cut []))) (sym c.in-None.ensures));
}

pub returns-in_ok-add_lines-in-Some-clause-right : goal.returns-in_ok-add_lines-in-Some-clause-right
returns-in_ok-add_lines-in-Some-clause-right c = λ names right. c.in_ok-add_lines-in-Some.ensures.right names (c.empty-block.ensures.right names right)
