use Rattle.std.proofs.Common.{◌≤◌, length, true, cond, sym, ap, ◌∙◌, subst, arith}
use Rattle.gl_world.specs.Dispatch.{Dispatch, Handled, work_edge}
use Rattle.gl_world.specs.Enabled.{grows}
use Rattle.gl_world.specs.declared.steps.Did.TheVariants.{Nothing, Worked}
use Rattle.gl_world.proofs.Errors.{on_err}
use Rattle.gl_world.proofs.Dispatching.{work_unknown, work_is}
use Rattle.gl_world.proofs.dispatcher.Dispatcher.work.Goals as goal

pub returns-then-index-len-clause-moved : goal.returns-then-index-len-clause-moved
returns-then-index-len-clause-moved c =
    let strange : length c.args.self.now.shards ≤ c.args.shard = subst (λ (d : Dispatch). length d.shards ≤ c.args.shard) c.self.view_is (omega (arith, c.if-index-len.true, c.len.ensures)) in
    ap (λ (h : Handled). h.dispatch) (sym (work_unknown c.args.self.now c.args.shard strange))

pub returns-then-index-len-clause-answer : goal.returns-then-index-len-clause-answer
returns-then-index-len-clause-answer c =
    let strange : length c.args.self.now.shards ≤ c.args.shard = subst (λ (d : Dispatch). length d.shards ≤ c.args.shard) c.self.view_is (omega (arith, c.if-index-len.true, c.len.ensures)) in
    ap (λ (h : Handled). h.did) (sym (work_unknown c.args.self.now c.args.shard strange))

pub returns-then-branch-clause-moved : goal.returns-then-branch-clause-moved
returns-then-branch-clause-moved c =
    rw (← c.self.view_is)
    (ap (λ (h : Handled). h.dispatch)
    (work_is (record { made = c.self.inside.made.items; sent = c.self.inside.sent; shards = c.self.inside.parts.items }) c.args.shard c.index_mut.result.now (omega (arith, c.if-index-len.false, c.len.ensures))
    c.index_mut.ensures.value c.in_ok-work.field-0 c.in_ok-work.ensures.had c.work.new.self c.in_ok-work.ensures.worked))

pub returns-then-branch-clause-answer : goal.returns-then-branch-clause-answer
returns-then-branch-clause-answer c =
    rw (← c.self.view_is)
    (sym (ap (λ b. cond b Worked Nothing) c.if-branch.true)
    ∙ ap (λ (h : Handled). h.did)
    (work_is (record { made = c.self.inside.made.items; sent = c.self.inside.sent; shards = c.self.inside.parts.items }) c.args.shard c.index_mut.result.now (omega (arith, c.if-index-len.false, c.len.ensures))
    c.index_mut.ensures.value c.in_ok-work.field-0 c.in_ok-work.ensures.had c.work.new.self c.in_ok-work.ensures.worked))

pub returns-clause-moved : goal.returns-clause-moved
returns-clause-moved c =
    rw (← c.self.view_is)
    (ap (λ (h : Handled). h.dispatch)
    (work_is (record { made = c.self.inside.made.items; sent = c.self.inside.sent; shards = c.self.inside.parts.items }) c.args.shard c.index_mut.result.now (omega (arith, c.if-index-len.false, c.len.ensures))
    c.index_mut.ensures.value c.in_ok-work.field-0 c.in_ok-work.ensures.had c.work.new.self c.in_ok-work.ensures.worked))

pub returns-clause-answer : goal.returns-clause-answer
returns-clause-answer c =
    rw (← c.self.view_is)
    (sym (ap (λ b. cond b Worked Nothing) c.if-branch.false)
    ∙ ap (λ (h : Handled). h.did)
    (work_is (record { made = c.self.inside.made.items; sent = c.self.inside.sent; shards = c.self.inside.parts.items }) c.args.shard c.index_mut.result.now (omega (arith, c.if-index-len.false, c.len.ensures))
    c.index_mut.ensures.value c.in_ok-work.field-0 c.in_ok-work.ensures.had c.work.new.self c.in_ok-work.ensures.worked))

pub returns-in_err-work-clause-memory : goal.returns-in_err-work-clause-memory
returns-in_err-work-clause-memory c =
    let shard = c.index_mut.result.now in
    on_err c.from_residual.result _
    (rw (← c.self.view_is)
    (ap (λ (h : Handled). grows h.did)
    (sym
    (work_is (record { made = c.self.inside.made.items; sent = c.self.inside.sent; shards = c.self.inside.parts.items }) c.args.shard shard (omega (arith, c.if-index-len.false, c.len.ensures)) c.index_mut.ensures.value
    true (sym c.in_err-work.ensures.memory) (work_edge shard) (sym (ap (λ b. cond b (work_edge shard) shard) c.in_err-work.ensures.memory))))))
