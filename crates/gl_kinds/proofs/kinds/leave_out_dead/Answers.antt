use Rattle.std.proofs.Common.{◌<◌, false, Some, length, ap, ◌∙◌, arith}
use Rattle.std.proofs.lemmas.Option.{slice_get-get_or}
use Rattle.gl_index.proofs.Lists.{element_at}
use Rattle.std.proofs.lemmas.List.{length-map}
use Rattle.gl_segments.specs.Clocks.{is_before}
use Rattle.gl_filters.specs.Picked.{edges_of_table}
use Rattle.gl_sought.proofs.Back.{keeps_more}
use Rattle.gl_kinds.proofs.ByKinds.{off_by_model}
use Rattle.gl_sought.proofs.Fewer.{stay_out_at}
use Rattle.gl_kinds.proofs.kinds.leave_out_dead.Goals as goal

pub returns-then-dead-model : goal.returns-then-dead-model
returns-then-dead-model c =
    let s = c.args.sought.now in
    let before = is_before s.order.now in
    let edges = edges_of_table s.table.now in
    let long = length-map s.table.now (λ pair. pair.0) in
    let model = c.model_of-model.result in
    let here = element_at edges model (omega (arith, c.model_of-model.ensures.within, long)) in
    let flag = slice_get-get_or c.args.dead.now model false (omega (arith, c.model_of-model.ensures.within, c.requires.dead.long, long)) ∙ ap Some c.if-dead-model.true in
    let within : c.args.i < length c.args.kept.now.items = omega (arith, c.requires.there, c.requires.kept.long, long) in
    let keeps = keeps_more before s.mode s.len edges c.args.kept.now.items c.requires.kept c.args.i within
    (λ e at. off_by_model before s.mode c.args.grain s.len edges c.args.kept.now.items model here.0 e here.1 (c.model_of-model.ensures.alike here.0 e here.1 at) (c.requires.dead.each model flag))
    in record { keeps = keeps; stay = stay_out_at c.args.kept.now.items c.args.i within }
