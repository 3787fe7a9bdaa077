use Rattle.std.proofs.Common.{false, get_or, subst, sym, arith}
use Rattle.std.proofs.lemmas.List.{length-map}
use Rattle.std.proofs.lemmas.Option.{slice_get-get_or}
use Rattle.std.specs.Prelude.{Contains}
use Rattle.gl_edges.specs.declared.edge.Edge.{Edge}
use Rattle.gl_filters.specs.Picked.{edges_of_table}
use Rattle.gl_index.proofs.Lists.{element_at}
use Rattle.gl_sought.proofs.Places.{edge_is}
use Rattle.gl_grounds.specs.Spanning.{span_of}
use Rattle.gl_grounds.proofs.SpanSteps.{models_more}
use Rattle.gl_grounds.proofs.spans.spans_of_models.Goals as goal

pub loop-i-preserved : goal.loop-i-preserved
loop-i-preserved c =
    let table = c.args.table.now in
    let n = c.loop-i.i in
    let within = c.loop-i-test.true in
    let here = element_at (edges_of_table table) n (omega (arith, within, length-map table (λ pair. pair.0))) in
    let is = edge_is table c.index-table-i.result n here.0 within here.1 in
    let class = get_or c.args.classes.now n 0 in
    models_more (edges_of_table table) c.args.classes.now c.args.flags.now n class here.0 (get_or c.args.flags.now n false) c.loop-i.list.items c.add_model.new.list.items here.1
    (slice_get-get_or c.args.classes.now n 0 (omega (arith, within, c.requires.classes)))
    (slice_get-get_or c.args.flags.now n false (omega (arith, within, c.requires.flags)))
    c.in_ok-add_model.ensures.keep
    (λ flag. subst (λ (e : Edge). Contains c.add_model.new.list.items (span_of n n e e class)) (sym is) (c.in_ok-add_model.ensures.added flag))
    c.loop-i.invariant

pub returns : goal.returns
returns c = λ class place e below one. c.loop-i.invariant class place e (omega (arith, below, c.loop-i-test.false)) one
