use Rattle.std.proofs.Common.{ℕ, subst, arith}
use Rattle.std.specs.Prelude.{Contains}
use Rattle.std.proofs.lemmas.List.{length-map}
use Rattle.std.proofs.lemmas.Option.{slice_get_within}
use Rattle.gl_edges.specs.declared.edge.Edge.{Edge}
use Rattle.gl_filters.specs.Picked.{edges_of_table}
use Rattle.gl_grounds.specs.Spanning.{span_of}
use Rattle.gl_grounds.proofs.spans.Spans.of_models.Goals as goal

pub returns : goal.returns
returns c = λ mode len. record {
  ordered = c.sort.ensures.ordered;
  each = λ all class i j e f (one, same) due.
      let within = slice_get_within (edges_of_table c.args.table.now) i e one.at in
      c.sort.ensures.keep (span_of i j e f class)
      (subst (λ (n : ℕ). Contains c.in_ok-list.list.items (span_of i n e f class)) same.0 (subst (λ (f : Edge). Contains c.in_ok-list.list.items (span_of i i e f class)) same.1 (c.in_ok-list.ensures class i e (omega (arith, within, length-map c.args.table.now (λ pair. pair.0))) one)));
}
