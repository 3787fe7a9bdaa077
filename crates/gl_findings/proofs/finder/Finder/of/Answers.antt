use Rattle.std.proofs.Common.{◌≡◌, [], length, rules, sym, ap, subst, ◌∙◌}
use Rattle.std.proofs.lemmas.Result.{err_from_is_err_and}
use Rattle.gl_segments.specs.Clocks.{is_before}
use Rattle.gl_filters.specs.Picked.{edges_of_table}
use Rattle.gl_index.specs.Indexes.{AreChainedKept, AreClosers}
use Rattle.gl_index.specs.declared.sides.Side.TheVariants.{Leader}
use Rattle.gl_sought.specs.OffCycles.{KeepsCycles}
use Rattle.gl_walks.specs.declared.ground.Ground.{Ground}
use Rattle.gl_grounds.specs.Classes.{classes_of}
use Rattle.gl_grounds.specs.Grounds.{AreGrounds}
use Rattle.gl_grounds.specs.Models.{AreModels, IsNextClass}
use Rattle.gl_grounds.specs.Passing.{ArePassages}
use Rattle.gl_grounds.specs.Running.{AreRunners}
use Rattle.gl_grounds.specs.Spanning.{AreReached}
use Rattle.gl_findings.specs.bodies.Lengths.{AreLongest}
use Rattle.gl_findings.proofs.finder.Finder.of.Goals as goal

pub returns-in_err-walkers-clause-ready : goal.returns-in_err-walkers-clause-ready
returns-in_err-walkers-clause-ready c =
    let p = err_from_is_err_and c.from_residual.result c.from_residual.ensures.1 in
    rw p.1 tt

pub returns-in_err-walkers-clause-table : goal.returns-in_err-walkers-clause-table
returns-in_err-walkers-clause-table c =
    let p = err_from_is_err_and c.from_residual.result c.from_residual.ensures.1 in
    rw p.1 tt

pub returns-in_err-walkers-clause-order : goal.returns-in_err-walkers-clause-order
returns-in_err-walkers-clause-order c =
    let p = err_from_is_err_and c.from_residual.result c.from_residual.ensures.1 in
    rw p.1 tt

pub returns-in_err-walkers-clause-mode : goal.returns-in_err-walkers-clause-mode
returns-in_err-walkers-clause-mode c =
    let p = err_from_is_err_and c.from_residual.result c.from_residual.ensures.1 in
    rw p.1 tt

pub returns-in_err-walkers-clause-len : goal.returns-in_err-walkers-clause-len
returns-in_err-walkers-clause-len c =
    let p = err_from_is_err_and c.from_residual.result c.from_residual.ensures.1 in
    rw p.1 tt

pub returns-in_err-walkers-clause-cap : goal.returns-in_err-walkers-clause-cap
returns-in_err-walkers-clause-cap c =
    let p = err_from_is_err_and c.from_residual.result c.from_residual.ensures.1 in
    rw p.1 tt

pub returns-in_err-walkers-clause-unbound : goal.returns-in_err-walkers-clause-unbound
returns-in_err-walkers-clause-unbound c =
    let p = err_from_is_err_and c.from_residual.result c.from_residual.ensures.1 in
    rw p.1 tt

pub returns-clause-table : goal.returns-clause-table
returns-clause-table c = c.entries-table.ensures.pairs

pub returns-clause-unbound : goal.returns-clause-unbound
returns-clause-unbound c = λ not. (not, c.in_ok-walkers.ensures.kept_bound ∙ not, c.in_ok-walkers.ensures.models_bound ∙ not)

pub returns-clause-ready : goal.returns-clause-ready
returns-clause-ready c =
    let before = is_before c.args.order.now in
    let mode = c.mode-mode.result in
    let len = c.len.result in
    let table = c.entries-table.result.now in
    let edges = edges_of_table table in
    let classes = classes_of table in
    let grounds = c.args.grounds.now in
    let walkers = c.in_ok-walkers.ensures in
    let given = subst (λ t. AreGrounds before mode len t grounds × AreLongest before mode len (edges_of_table t) (classes_of t) c.args.longest.now) (sym c.entries-table.ensures.pairs)
    (subst (λ m. AreGrounds before m len c.args.edges.now grounds × AreLongest before m len (edges_of_table c.args.edges.now) (classes_of c.args.edges.now) c.args.longest.now) (sym c.mode-mode.ensures.value)
    (subst (λ l. AreGrounds before c.args.query.now.mode l c.args.edges.now grounds × AreLongest before c.args.query.now.mode l (edges_of_table c.args.edges.now) (classes_of c.args.edges.now) c.args.longest.now) (sym c.len.ensures.value)
    (c.requires.grounds, c.requires.longest))) in
    let kept : c.in_ok-walkers.walkers.kept.ground.flags.now ≡ grounds.kept.items = ap (λ (ground : Ground). ground.flags.now) walkers.kept ∙ c.as_slice.ensures.value in
    let models : c.in_ok-walkers.walkers.models.ground.flags.now ≡ grounds.models.items = ap (λ (ground : Ground). ground.flags.now) walkers.models ∙ c.as_slice-2.ensures.value in
    let told = c.as_slice-classes.ensures.value ∙ given.0.same_classes in
    record {
      some = search rules;
      fits = search rules;
      over_kept = record { same_table = ap (λ (ground : Ground). ground.table.now) walkers.kept; same_order = ap (λ (ground : Ground). ground.order.now) walkers.kept; same_mode = ap (λ (ground : Ground). ground.mode) walkers.kept; same_classes = ap (λ (ground : Ground). ground.classes.now) walkers.kept ∙ told };
      over_models = record { same_table = ap (λ (ground : Ground). ground.table.now) walkers.models; same_order = ap (λ (ground : Ground). ground.order.now) walkers.models; same_mode = ap (λ (ground : Ground). ground.mode) walkers.models; same_classes = ap (λ (ground : Ground). ground.classes.now) walkers.models ∙ told };
      kept = subst (KeepsCycles before mode len edges) (sym kept) given.0.keeps;
      models = subst (λ flags. AreModels edges classes flags c.in_ok-walkers.walkers.models.ground.flags.now) (sym kept) (subst (AreModels edges classes grounds.kept.items) (sym models) given.0.have);
      next = subst (IsNextClass (length table) classes c.in_ok-walkers.walkers.models.ground.flags.now) (sym c.as_slice-3.ensures.value) (subst (λ flags. IsNextClass (length table) classes flags grounds.next.items) (sym models) given.0.follow);
      run = subst (AreRunners edges classes c.in_ok-walkers.walkers.kept.ground.flags.now) (sym c.as_slice-4.ensures.value) (subst (λ flags. AreRunners edges classes flags grounds.runners.items) (sym kept) given.0.run);
      pass = subst (λ flags. ArePassages edges classes flags grounds.passages) (sym models) given.0.pass;
      told = told;
      held_by = subst (λ flags. AreChainedKept Leader edges flags 0 grounds.holders) (sym models) given.0.held_by;
      closed_by = subst (λ flags. AreClosers edges flags 0 grounds.closers) (sym models) given.0.closed_by;
      longest = given.1;
      begin = subst (λ flags. AreReached mode edges classes flags len [] grounds.begins) (sym models) given.0.begin;
    }
