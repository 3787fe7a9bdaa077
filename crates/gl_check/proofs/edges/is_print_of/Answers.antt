use Rattle.std.proofs.Common.{◌≤◌, ap, sym, subst, ◌∙◌}
use Rattle.serde_json.specs.Data.{depth}
use Rattle.serde_json.specs.View.{view}
use Rattle.serde_json.specs.Written.{has_float}
use Rattle.gl_report.proofs.Trees.{edge_v1_without_float}
use Rattle.gl_check.proofs.Flat.{edge_v1_is_flat, tree_v1_is_low}
use Rattle.gl_check.proofs.edges.is_print_of.Goals as goal

pub are_same-requires-clause-plain : goal.are_same-requires-clause-plain
are_same-requires-clause-plain c = (edge_v1_is_flat (view c.args.value.now) c.requires).0

pub are_same-requires-clause-low : goal.are_same-requires-clause-low
are_same-requires-clause-low c = (edge_v1_is_flat (view c.args.value.now) c.requires).1

pub are_same-requires-clause-other_plain : goal.are_same-requires-clause-other_plain
are_same-requires-clause-other_plain c = ap has_float c.in_ok-printed.ensures ∙ edge_v1_without_float c.args.names.now (c.args.edge.now, c.args.sample.now)

pub are_same-requires-clause-other_low : goal.are_same-requires-clause-other_low
are_same-requires-clause-other_low c = subst (λ d. depth d ≤ 127) (sym c.in_ok-printed.ensures) (tree_v1_is_low c.args.names.now (c.args.edge.now, c.args.sample.now))
