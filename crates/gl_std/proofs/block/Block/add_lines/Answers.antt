use Rattle.std.proofs.Common.{◌≡◌, ◌++◌, ◌∷◌, [], map, rules, sym, ap, ◌∙◌, append_assoc}
use Rattle.gl_std.specs.Line.{shape_of}
use Rattle.gl_std.specs.Lines.{lines}
use Rattle.gl_std.specs.bodies.Blocks.{shapes_of}
use Rattle.gl_std.proofs.block.Block.add_lines.Goals as goal

pub loop-line-preserved : goal.loop-line-preserved
loop-line-preserved c =
    let so_far = c.loop-line.invariant in
    let was = shapes_of c.loop-line.self in
    let after = map shape_of (lines c.in-Some.after.now) in
    let next : lines c.loop-line.rest.now ≡ c.in-Some.line.now ∷ lines c.in-Some.after.now = search rules in
    record {
      numbered = search rules;
      few = search rules;
      room = search rules;
      says = ap (λ shapes. shapes ++ after) c.in_ok-add.ensures.line ∙ append_assoc was (shape_of c.in-Some.line.now ∷ []) after ∙ ap (λ ls. was ++ map shape_of ls) (sym next) ∙ so_far.says;
      right = λ names right. c.in_ok-add.ensures.right names (so_far.right names right);
      count = search rules;
    }
