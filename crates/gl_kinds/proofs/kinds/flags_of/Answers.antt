use Rattle.std.proofs.Common.{arith}
use Rattle.std.proofs.lemmas.Option.{get_or_from_slice_get}
use Rattle.gl_filters.specs.Picked.{edges_of_table}
use Rattle.gl_kinds.proofs.ByKinds.{models_more, models_of_all}
use Rattle.gl_kinds.proofs.kinds.flags_of.Goals as goal

pub loop-i-preserved : goal.loop-i-preserved
loop-i-preserved c = (
  c.flag_model.ensures.long,
  models_more c.args.grain (edges_of_table c.args.sought.now.table.now) c.args.kept.now c.loop-i.flags.items c.flag_model.new.flags.items c.loop-i.i c.loop-i.invariant.1 c.flag_model.ensures.stay
      (λ e at keep. c.flag_model.ensures.model e (get_or_from_slice_get c.args.kept.now c.loop-i.i _ _ keep) at),
)

pub returns-clause-models : goal.returns-clause-models
returns-clause-models c = models_of_all c.args.grain c.args.sought.now.table.now c.args.kept.now c.loop-i.flags.items c.loop-i.i (omega arith) c.loop-i.invariant.1
