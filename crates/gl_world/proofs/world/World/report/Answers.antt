use Rattle.std.proofs.Common.{◌≡◌, ap, ◌∙◌, subst}
use Rattle.gl_event.specs.Bounds.{Bounds}
use Rattle.gl_event.specs.Lawful.{lists_of}
use Rattle.gl_shards.specs.Tables.{union}
use Rattle.gl_intake.specs.Stream.{logs_of}
use Rattle.gl_world.specs.Dispatch.{worked_edges}
use Rattle.gl_world.specs.Keeping.{IsSound}
use Rattle.gl_world.specs.Headline.{collected_lists, worked_table}
use Rattle.gl_world.proofs.Dispatching.{union_is}
use Rattle.gl_world.proofs.Reporting.{reported, faulted, report_if, fault_if}
use Rattle.gl_world.proofs.world.World.report.Goals as goal

pub returns-clause-report : goal.returns-clause-report
returns-clause-report c =
    let pairs : c.in_ok-edges.edges ≡ worked_table c.args.self.now =
    c.in_ok-edges.ensures ∙ ap union c.in_ok-tables.ensures ∙ union_is worked_edges c.self.inside.dispatcher.shards ∙ ap worked_table c.self.view_is in
    let lists : lists_of c.logs.result.now ≡ collected_lists c.args.self.now =
    c.logs.ensures.value ∙ ap (λ (b : Bounds). logs_of b.threads c.self.inside.intake.stream) c.self.invariant.same_limits ∙ ap collected_lists c.self.view_is in
    reported c.args.self.now c.in_ok-edges.edges (lists_of c.logs.result.now) pairs lists c.args.query.now c.report_over.result c.report_over.ensures.report

pub returns-clause-fault : goal.returns-clause-fault
returns-clause-fault c =
    let pairs : c.in_ok-edges.edges ≡ worked_table c.args.self.now =
    c.in_ok-edges.ensures ∙ ap union c.in_ok-tables.ensures ∙ union_is worked_edges c.self.inside.dispatcher.shards ∙ ap worked_table c.self.view_is in
    let lists : lists_of c.logs.result.now ≡ collected_lists c.args.self.now =
    c.logs.ensures.value ∙ ap (λ (b : Bounds). logs_of b.threads c.self.inside.intake.stream) c.self.invariant.same_limits ∙ ap collected_lists c.self.view_is in
    faulted c.args.self.now c.in_ok-edges.edges (lists_of c.logs.result.now) pairs lists c.report_over.result c.report_over.ensures.fault

pub returns-clause-drained : goal.returns-clause-drained
returns-clause-drained c = λ drained.
    let pairs : c.in_ok-edges.edges ≡ worked_table c.args.self.now =
    c.in_ok-edges.ensures ∙ ap union c.in_ok-tables.ensures ∙ union_is worked_edges c.self.inside.dispatcher.shards ∙ ap worked_table c.self.view_is in
    let lists : lists_of c.logs.result.now ≡ collected_lists c.args.self.now =
    c.logs.ensures.value ∙ ap (λ (b : Bounds). logs_of b.threads c.self.inside.intake.stream) c.self.invariant.same_limits ∙ ap collected_lists c.self.view_is in
    report_if c.args.self.now (subst IsSound c.self.view_is c.self.invariant.sound) drained c.args.query.now c.report_over.result
    (reported c.args.self.now c.in_ok-edges.edges (lists_of c.logs.result.now) pairs lists c.args.query.now c.report_over.result c.report_over.ensures.report)

pub returns-clause-drained_fault : goal.returns-clause-drained_fault
returns-clause-drained_fault c = λ drained.
    let pairs : c.in_ok-edges.edges ≡ worked_table c.args.self.now =
    c.in_ok-edges.ensures ∙ ap union c.in_ok-tables.ensures ∙ union_is worked_edges c.self.inside.dispatcher.shards ∙ ap worked_table c.self.view_is in
    let lists : lists_of c.logs.result.now ≡ collected_lists c.args.self.now =
    c.logs.ensures.value ∙ ap (λ (b : Bounds). logs_of b.threads c.self.inside.intake.stream) c.self.invariant.same_limits ∙ ap collected_lists c.self.view_is in
    fault_if c.args.self.now (subst IsSound c.self.view_is c.self.invariant.sound) drained c.report_over.result
    (faulted c.args.self.now c.in_ok-edges.edges (lists_of c.logs.result.now) pairs lists c.report_over.result c.report_over.ensures.fault)
