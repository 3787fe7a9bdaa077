use Rattle.std.proofs.Common.{◌≡◌, ◌∙◌, ap, sym, subst}
use Rattle.gl_event.specs.Bounds.{greatest}
use Rattle.gl_io.specs.Reads.{HasRead}
use Rattle.gl_std.specs.Lines.{ended_lines}
use Rattle.gl_std.specs.Pieces.{judged}
use Rattle.gl_std.specs.Trace.{trace_of}
use Rattle.gl_commands.specs.Ending.HasEndedEarly.{out_of_memory, cut_short}
use Rattle.gl_commands.proofs.commands.hear.Goals as goal

pub returns-in_default-clause-early : goal.returns-in_default-clause-early
returns-in_default-clause-early g c = out_of_memory

-- it wasn't read whole
pub returns-clause-early : goal.returns-clause-early
returns-clause-early g c =
    let heard = c.in-Ok.heard in
    let was = c.in-Ok.ensures.heard in
    let trace : trace_of greatest (ended_lines was.text) ≡ heard.trace =
    ap (λ limits. trace_of limits (ended_lines was.text)) (sym c.greatest-limits.ensures) ∙ ap (λ whole. trace_of c.greatest-limits.result (judged whole was.text)) (sym c.if-heard.false) ∙ was.trace in
    cut_short was.text c.end_early.result
    (subst (HasRead c.args.reading.now.turns (g.I.Source.position c.args.input.now) (g.I.Source.position c.read_source_parallel.new.input) (g.I.Source.failed c.read_source_parallel.new.input) was.text) c.if-heard.false was.read) (c.end_early.ensures was.text trace)
