use Rattle.gl_std.specs.bodies.Blocks.{named}
use Rattle.gl_std.specs.Trace.{operands}
use Rattle.gl_std.specs.bodies.Shown.{shown_operation}
use Rattle.gl_std.proofs.judge.Judge.judge_call.Goals as goal

-- each name has a number that is known
pub returns-in-Some-clause-judges : goal.returns-in-Some-clause-judges
returns-in-Some-clause-judges c =
    let names = c.args.names.now in
    let o = shown_operation c.args.operation in
    c.take_known.ensures.judges (named names.threads c.args.thread) (named (operands o names) c.args.operand) (named names.locs c.args.location) c.in-Some.ensures
