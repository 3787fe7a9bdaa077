use Rattle.gl_kinds.proofs.ByKinds.{model_here}
use Rattle.gl_kinds.proofs.kinds.flag_model.Goals as goal

pub returns-clause-model : goal.returns-clause-model
returns-clause-model c = λ e kept at.
    model_here c.args.grain c.args.sought.now.table.now c.args.flags.now.items c.model_of-model.result e c.requires.long c.model_of-model.ensures.within (λ d there. c.model_of-model.ensures.alike d e there at)
