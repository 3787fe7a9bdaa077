use Rattle.gl_segments.specs.Clocks.{is_before}
use Rattle.gl_event.specs.Lawful.{lists_of}
use Rattle.gl_live.proofs.reports.report_with_contents.Goals as goal

pub returns-clause-report : goal.returns-clause-report
returns-clause-report g c =
    record {
      consistent = c.in-Ok.ensures.consistent;
      before = is_before c.in-Ok.order;
      decides = c.in-Ok.ensures.ok;
      is = c.in-Ok-report_with_parallel.ensures;
    }

pub returns-in-Err-clause-fault : goal.returns-in-Err-clause-fault
returns-in-Err-clause-fault g c = c.unordered.ensures.fault (lists_of c.args.lists.now) c.in-Err.ensures.fault
