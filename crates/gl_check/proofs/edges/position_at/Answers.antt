use Rattle.std.proofs.Common.{sym, refl, ◌∙◌}
use Rattle.std.proofs.lemmas.Bool.{false≢true}
use Rattle.std.proofs.lemmas.Option.{slice_get_read}
use Rattle.serde_json.specs.View.{view}
use Rattle.gl_check.proofs.Places.{none_more, none_at_all}
use Rattle.gl_check.proofs.edges.position_at.Goals as goal

pub loop-i-preserved : goal.loop-i-preserved
loop-i-preserved c =
    none_more c.args.names.now c.args.table.now (view c.args.value.now) c.loop-i.i c.index-table-i.result
    (slice_get_read c.args.table.now _ c.loop-i.i c.index-table-i.result refl c.loop-i-test.true c.index-table-i.is)
    (λ prints. absurd (false≢true (sym c.if-branch.false ∙ c.in_ok-has_json.ensures.1 prints)))
    c.loop-i.invariant

pub returns : goal.returns
returns c = none_at_all c.args.names.now c.args.table.now (view c.args.value.now) c.loop-i.i c.loop-i-test.false c.loop-i.invariant
