use Rattle.std.proofs.Common.{◌∙◌, ap, sym}
use Rattle.gl_event.specs.Bounds.{greatest}
use Rattle.gl_std.specs.Lines.{ended_lines}
use Rattle.gl_std.specs.Trace.{trace_of}
use Rattle.gl_commands.specs.Checking.{trace_in}
use Rattle.gl_commands.proofs.FirstFaults.{ends_early, no_fault_before}
use Rattle.gl_commands.proofs.checking.end_cut.Goals as goal

pub returns-in-Ok : goal.returns-in-Ok
returns-in-Ok g c =
    let lines = c.ended_lines.ensures ∙ ap ended_lines c.split_input.ensures.trace in
    no_fault_before greatest (trace_in c.args.input.now) c.in-Ok.trace (ap (trace_of greatest) (sym lines) ∙ c.in-Ok.ensures.trace)

pub returns-in-Err : goal.returns-in-Err
returns-in-Err g c =
    let lines = c.ended_lines.ensures ∙ ap ended_lines c.split_input.ensures.trace in
    ends_early greatest (trace_in c.args.input.now) (trace_of greatest c.ended_lines.result.now) c.in-Err.ended (ap (trace_of greatest) (sym lines)) c.in-Err.ensures.refused
