use Rattle.std.proofs.Common.{◌≡◌, sym, ◌∙◌, subst}
use Rattle.std.specs.Prelude.{IfOk}
use Rattle.gl_io.specs.Uses.{used}
use Rattle.gl_live.specs.bodies.Streams.{HasStreamed}
use Rattle.gl_live.proofs.stream.stream_report_with.Goals as goal

pub returns-clause-becomes : goal.returns-clause-becomes
returns-clause-becomes g c = λ limits turns start threads told.
    let many = c.in-Ok.ensures.threads ∙ sym threads in
    let ran = c.read_session-ran.result.0 in
    let now = g.S.Source.position c.read_session-ran.new.input in
    let failed = g.S.Source.failed c.read_session-ran.new.input in
    c.report_streamed.ensures.becomes limits turns (used start now failed) c.read_session-ran.result.1 (subst (λ n. IfOk ran (λ r. r.gathered.limits.threads ≡ n)) many c.read_session-ran.ensures.threads)
    (subst (λ n. HasStreamed limits turns (used start now failed) n c.read_session-ran.result.1 ran) many (c.read_session-ran.ensures.streamed limits turns start told))

pub returns-clause-in_time : goal.returns-clause-in_time
returns-clause-in_time g c = c.report_streamed.ensures.in_time _ _ c.read_session-ran.result.1 c.read_session-ran.ensures.done c.read_session-ran.ensures.in_time
