use Rattle.gl_grounds.proofs.ModelSteps.{model_here}
use Rattle.gl_grounds.proofs.models.flag_model.Goals as goal

pub returns-clause-model : goal.returns-clause-model
returns-clause-model c =
    model_here c.args.table.now c.args.classes.now c.args.models.now.items c.model_of-model.result c.args.i c.requires.there c.requires.long c.model_of-model.ensures.within c.model_of-model.ensures.same c.model_of-model.ensures.alike
