use Rattle.std.proofs.Common.{◌≡◌, inr, subst}
use Rattle.std.specs.Prelude.{IfOk, OnOk}
use Rattle.gl_cycles.specs.declared.found.Report.{Report}
use Rattle.gl_std.specs.Streaming.{IsDone}
use Rattle.gl_live.specs.Streamed.{FailsInTime}
use Rattle.gl_live.specs.bodies.Streams.{HasStreamed}
use Rattle.gl_live.specs.declared.run.Ran.{Ran}
use Rattle.gl_live.proofs.Streamings.{becomes_report, becomes_fault, becomes_stopped, still_in_time}
use Rattle.gl_live.proofs.stream.report_streamed.Goals as goal

pub returns-in-Ok-conclude-clause-becomes : goal.returns-in-Ok-conclude-clause-becomes
returns-in-Ok-conclude-clause-becomes g c = λ limits turns input items threads of.
    becomes_report limits turns input items c.in-Ok.ran
    (subst (λ ran. IfOk ran (λ r. r.gathered.limits.threads ≡ limits.threads)) c.in-Ok.is threads)
    (subst (HasStreamed limits turns input limits.threads items) c.in-Ok.is of) c.args.contents c.args.query.now c.in-Ok-conclude.report c.in-Ok-conclude.ensures.report

pub returns-in-Err-conclude-clause-becomes : goal.returns-in-Err-conclude-clause-becomes
returns-in-Err-conclude-clause-becomes g c = λ limits turns input items threads of.
    becomes_fault limits turns input items c.in-Ok.ran
    (subst (λ ran. IfOk ran (λ r. r.gathered.limits.threads ≡ limits.threads)) c.in-Ok.is threads)
    (subst (HasStreamed limits turns input limits.threads items) c.in-Ok.is of) c.args.contents c.args.query.now c.in-Err-conclude.fault c.in-Err-conclude.ensures.fault

pub returns-in-Err-conclude-clause-in_time : goal.returns-in-Err-conclude-clause-in_time
returns-in-Err-conclude-clause-in_time g c = λ old new items done before. inr (subst (λ ran. OnOk ran (IsDone items)) c.in-Ok.is done)

pub returns-in-Err-clause-becomes : goal.returns-in-Err-clause-becomes
returns-in-Err-clause-becomes g c = λ limits turns input items threads of.
    becomes_stopped limits turns input items c.args.contents c.args.query.now _ c.in-Err.fault (subst (HasStreamed limits turns input limits.threads items) c.in-Err.is of)

pub returns-in-Err-clause-in_time : goal.returns-in-Err-clause-in_time
returns-in-Err-clause-in_time g c = λ old new items done before. still_in_time Ran Report old new items c.in-Err.fault (subst (FailsInTime old new items) c.in-Err.is before)
