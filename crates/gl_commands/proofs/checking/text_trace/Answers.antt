use Rattle.gl_commands.proofs.FirstFaults.{told_fault, told_over, told_whole}
use Rattle.gl_event.specs.Bounds.{greatest}
use Rattle.std.proofs.Common.{refl}
use Rattle.gl_commands.proofs.checking.text_trace.Goals as goal

pub returns-clause-trace : goal.returns-clause-trace
returns-clause-trace g c =
    told_whole greatest c.args.text.now c.read_text-read.result c.trace_or_line.result refl c.read_text-read.ensures.trace c.trace_or_line.ensures.trace

pub returns-clause-over : goal.returns-clause-over
returns-clause-over g c =
    told_over greatest c.read_text-read.result c.trace_or_line.result refl c.read_text-read.ensures.over c.trace_or_line.ensures.trace

pub returns-clause-refused : goal.returns-clause-refused
returns-clause-refused g c =
    told_fault greatest c.args.text.now c.read_text-read.result c.trace_or_line.result refl c.read_text-read.ensures.fault c.trace_or_line.ensures.refused
