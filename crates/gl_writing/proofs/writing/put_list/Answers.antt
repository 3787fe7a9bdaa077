use Rattle.std.proofs.Common.{◌++◌, length, refl, ap, ◌∙◌}
use Rattle.std.proofs.lemmas.Option.{slice_get_read}
use Rattle.std.proofs.lemmas.Result.{err_from_is_err_and}
use Rattle.gl_writing.specs.Written.{written_event}
use Rattle.gl_writing.proofs.WrittenTexts.{some_line, some_part, text_more}
use Rattle.gl_writing.proofs.writing.put_list.Goals as goal

pub loop-event-preserved : goal.loop-event-preserved
loop-event-preserved c =
    let line = written_event c.args.names.now c.args.thread.now in
    text_more line _ _ _ c.args.events.now c.loop-event.event-index c.event-item.result c.loop-event-test.true c.loop-event.invariant
    (c.in_ok-put_event.ensures ∙ ap (λ e. c.loop-event.text.items ++ line e) c.event-item.is)

pub returns-in_err-put_event-clause-memory : goal.returns-in_err-put_event-clause-memory
returns-in_err-put_event-clause-memory c =
    let names = c.args.names.now in
    let thread = c.args.thread.now in
    let es = c.args.events.now in
    let i = c.loop-event.event-index in
    let e = c.event-item.result in
    let at = slice_get_read es (length es) i e refl c.loop-event-test.true c.event-item.is in
    let p = err_from_is_err_and c.from_residual.result c.from_residual.ensures.1 in
    rw p.1 (some_part (written_event names thread) es i e at (some_line names thread e))
