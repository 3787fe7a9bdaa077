use Rattle.std.proofs.Common.{sym, ◌∙◌}
use Rattle.std.proofs.lemmas.List.{length-map}
use Rattle.gl_event.specs.Lawful.{lists_of}
use Rattle.gl_live.specs.bodies.Rosters.{gathered_from, roster_of}
use Rattle.gl_live.proofs.Leaving.{are_receipts}
use Rattle.gl_live.proofs.Opened.{all_unused}
use Rattle.gl_live.proofs.live.live_report_with.Goals as goal

pub returns-in-Ok-run_session-clause-report : goal.returns-in-Ok-run_session-clause-report
returns-in-Ok-run_session-clause-report g c =
    c.conclude.ensures.report (lists_of c.args.lists.now) (c.in-Ok-run_session.ensures.threads ∙ sym (length-map c.args.lists.now (λ v. v.items))) c.in-Ok-run_session.ensures.receipts

pub returns-in-Ok-run_session-clause-fault : goal.returns-in-Ok-run_session-clause-fault
returns-in-Ok-run_session-clause-fault g c =
    c.conclude.ensures.fault (lists_of c.args.lists.now) (c.in-Ok-run_session.ensures.threads ∙ sym (length-map c.args.lists.now (λ v. v.items))) c.in-Ok-run_session.ensures.receipts

pub returns-in-Err-clause-fault : goal.returns-in-Err-clause-fault
returns-in-Err-clause-fault g c = c.in-Err.ensures.fault (lists_of c.args.lists.now)

pub conclude-requires-clause-ours : goal.conclude-requires-clause-ours
conclude-requires-clause-ours g c κs within = are_receipts (gathered_from c.in-Ok-run_session.ran.gathered) (lists_of c.args.lists.now) c.in-Ok-run_session.ran.receipts.items c.in-Ok-run_session.ensures.receipts

pub run_session-requires-clause-workloads : goal.run_session-requires-clause-workloads
run_session-requires-clause-workloads g c κs within =
    let roster = roster_of c.in-Ok.session.collector in
    c.in-Ok-workloads.ensures.ours roster (all_unused roster c.in-Ok.recorders.items c.in-Ok.ensures.unused)

pub run_session-requires-clause-recorders : goal.run_session-requires-clause-recorders
run_session-requires-clause-recorders g c κs within =
    sym (length-map c.in-Ok-workloads.workloads.items (λ w. w.recorders.items)) ∙ c.in-Ok-workloads.ensures.dealt.as_many
