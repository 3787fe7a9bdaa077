use Rattle.std.proofs.Common.{ℕ, get_or, sym, ◌∙◌, arith, subst}
use Rattle.std.specs.Prelude.{slice_get}
use Rattle.std.proofs.lemmas.Bool.{true≢false}
use Rattle.std.proofs.lemmas.Option.{get_or_from_slice_get}
use Rattle.gl_edges.specs.declared.edge.Edge.{Edge}
use Rattle.gl_filters.specs.Picked.{edges_of_table}
use Rattle.gl_sought.proofs.Places.{edge_is}
use Rattle.gl_grounds.specs.Running.{IsRunBy}
use Rattle.gl_grounds.proofs.RunnerSteps.{runners_more, runners_of_all}
use Rattle.std.proofs.lemmas.Result.{err_from_is_err_and}
use Rattle.gl_grounds.proofs.runners.runners_of.Goals as goal

pub returns-in_err-runners : goal.returns-in_err-runners
returns-in_err-runners c =
    let p = err_from_is_err_and c.from_residual.result c.from_residual.ensures.1 in
    rw p.1 tt

-- an edge that is left out runs nothing
pub loop-i-preserved-then-not-kept-i : goal.loop-i-preserved-then-not-kept-i
loop-i-preserved-then-not-kept-i c =
    runners_more (edges_of_table c.args.table.now) c.args.classes.now c.args.kept.now c.loop-i.runners.items c.loop-i.runners.items c.loop-i.i c.loop-i.invariant (λ other t run. run)
    (λ class e keep of_class at. absurd (true≢false (sym (get_or_from_slice_get c.args.kept.now c.loop-i.i _ _ keep) ∙ c.if-not-kept-i.true)))

pub loop-i-preserved : goal.loop-i-preserved
loop-i-preserved c =
    let table = c.args.table.now in
    let classes = c.args.classes.now in
    let now = c.add_runner.new.runners.items in
    runners_more (edges_of_table table) classes c.args.kept.now c.loop-i.runners.items now c.loop-i.i c.loop-i.invariant c.add_runner.ensures.stay
    (λ class e keep of_class at.
    subst (λ (k : ℕ). IsRunBy e.thread (slice_get now k)) (get_or_from_slice_get classes c.loop-i.i class 0 of_class)
    (subst (λ (x : Edge). IsRunBy x.thread (slice_get now (get_or classes c.loop-i.i 0))) (sym (edge_is table c.index-table-i.result c.loop-i.i e c.loop-i-test.true at)) c.add_runner.ensures.run))

pub returns : goal.returns
returns c =
    runners_of_all (edges_of_table c.args.table.now) c.args.classes.now c.args.kept.now c.loop-i.runners.items c.loop-i.i (omega (arith, c.loop-i-test.false, c.requires.kept)) c.loop-i.invariant
