use Rattle.std.proofs.Common.{length, sym, ap, subst, ◌∙◌, arith}
use Rattle.std.proofs.lemmas.Bool.{true≢false}
use Rattle.std.proofs.lemmas.Option.{get_or_from_slice_get}
use Rattle.std.proofs.lemmas.Result.{err_from_is_err_and}
use Rattle.gl_filters.specs.Picked.{edges_of_table}
use Rattle.gl_grounds.specs.Models.{AreModels}
use Rattle.gl_grounds.proofs.ModelSteps.{models_more, models_of_all}
use Rattle.gl_grounds.proofs.models.models_of.Goals as goal

pub returns-in_err-guards-clause-long : goal.returns-in_err-guards-clause-long
returns-in_err-guards-clause-long c =
    let p = err_from_is_err_and c.from_residual.result c.from_residual.ensures.1 in
    rw p.1 tt

pub returns-in_err-guards-clause-models : goal.returns-in_err-guards-clause-models
returns-in_err-guards-clause-models c =
    let p = err_from_is_err_and c.from_residual.result c.from_residual.ensures.1 in
    rw p.1 tt

pub returns-in_err-models-clause-long : goal.returns-in_err-models-clause-long
returns-in_err-models-clause-long c =
    let p = err_from_is_err_and c.from_residual-in_err-models.result c.from_residual-in_err-models.ensures.1 in
    rw p.1 tt

pub returns-in_err-models-clause-models : goal.returns-in_err-models-clause-models
returns-in_err-models-clause-models c =
    let p = err_from_is_err_and c.from_residual-in_err-models.result c.from_residual-in_err-models.ensures.1 in
    rw p.1 tt

pub returns-in_err-candidate-clause-long : goal.returns-in_err-candidate-clause-long
returns-in_err-candidate-clause-long c =
    let p = err_from_is_err_and c.from_residual-in_err-candidate.result c.from_residual-in_err-candidate.ensures.1 in
    rw p.1 tt

pub returns-in_err-candidate-clause-models : goal.returns-in_err-candidate-clause-models
returns-in_err-candidate-clause-models c =
    let p = err_from_is_err_and c.from_residual-in_err-candidate.result c.from_residual-in_err-candidate.ensures.1 in
    rw p.1 tt

-- an edge that is left out needs no model
pub loop-i-preserved-then-not-kept-i : goal.loop-i-preserved-then-not-kept-i
loop-i-preserved-then-not-kept-i c = record {
  long = c.loop-i.invariant.long;
  models = models_more (edges_of_table c.entries-table.result.now) c.args.classes.now c.args.kept.now c.loop-i.models.items c.loop-i.models.items c.loop-i.i c.loop-i.invariant.models (λ j at. at)
      (λ keep. absurd (true≢false (sym (get_or_from_slice_get c.args.kept.now c.loop-i.i _ _ keep) ∙ c.if-not-kept-i.true)));
}

pub loop-i-preserved : goal.loop-i-preserved
loop-i-preserved c = record {
  long = c.flag_model.ensures.long;
  models = models_more (edges_of_table c.entries-table.result.now) c.args.classes.now c.args.kept.now c.loop-i.models.items c.flag_model.new.models.items c.loop-i.i c.loop-i.invariant.models c.flag_model.ensures.stay
      (λ keep. c.flag_model.ensures.model);
}

pub returns-clause-models : goal.returns-clause-models
returns-clause-models c =
    let same = c.entries-table.ensures.pairs in
    subst (λ table. AreModels (edges_of_table table) c.args.classes.now c.args.kept.now c.loop-i.models.items) same
    (models_of_all (edges_of_table c.entries-table.result.now) c.args.classes.now c.args.kept.now c.loop-i.models.items c.loop-i.i (omega (arith, c.loop-i-test.false, c.requires.kept, ap length same)) c.loop-i.invariant.models)

pub flag_model-requires-clause-there : goal.flag_model-requires-clause-there
flag_model-requires-clause-there c = c.loop-i-test.true

pub flag_model-requires-clause-classes : goal.flag_model-requires-clause-classes
flag_model-requires-clause-classes c = c.requires.classes ∙ sym (ap length c.entries-table.ensures.pairs)

pub flag_model-requires-clause-long : goal.flag_model-requires-clause-long
flag_model-requires-clause-long c = c.loop-i.invariant.long

pub returns-clause-long : goal.returns-clause-long
returns-clause-long c = c.loop-i.invariant.long ∙ ap length c.entries-table.ensures.pairs
