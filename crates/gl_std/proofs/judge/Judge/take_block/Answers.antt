use Rattle.std.proofs.Common.{map, subst}
use Rattle.gl_std.specs.bodies.Blocks.{shape_in, FailsShapes, IsKnownOf}
use Rattle.gl_std.proofs.NumberedLines.{if_ok_then}
use Rattle.gl_std.proofs.judge.Judge.take_block.Goals as goal

pub returns-clause-fault : goal.returns-clause-fault
returns-clause-fault c =
    subst (λ lines. FailsShapes c.args.self.now c.args.lists.now (map (shape_in c.args.block.now.names) lines) c.take_lines.result) c.as_slice.ensures.value c.take_lines.ensures.fault

pub returns-clause-right : goal.returns-clause-right
returns-clause-right c =
    let names = c.args.block.now.names in
    if_ok_then c.take_lines.result (IsKnownOf names c.take_lines.new.self.names c.take_lines.new.known) _ (λ are. are.so_far) c.take_lines.ensures.known
