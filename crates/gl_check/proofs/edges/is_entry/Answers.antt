use Rattle.std.proofs.Common.{◌≡◌, ◌≤◌, IfOk, ap, sym, subst, ◌∙◌}
use Rattle.std.specs.Bool.{Decides}
use Rattle.serde_json.specs.Data.{depth}
use Rattle.serde_json.specs.View.{view}
use Rattle.serde_json.specs.Written.{has_float}
use Rattle.gl_report.proofs.Trees.{edge_without_float}
use Rattle.gl_check.proofs.Flat.{edge_is_flat, tree_is_low}
use Rattle.gl_check.proofs.edges.is_entry.Goals as goal

pub are_same-requires-clause-plain : goal.are_same-requires-clause-plain
are_same-requires-clause-plain c = (edge_is_flat (view c.args.value.now) c.requires).0

pub are_same-requires-clause-low : goal.are_same-requires-clause-low
are_same-requires-clause-low c = (edge_is_flat (view c.args.value.now) c.requires).1

pub are_same-requires-clause-other_plain : goal.are_same-requires-clause-other_plain
are_same-requires-clause-other_plain c = ap has_float c.in_ok-entry.ensures ∙ edge_without_float c.args.names.now c.args.pair.now

pub are_same-requires-clause-other_low : goal.are_same-requires-clause-other_low
are_same-requires-clause-other_low c = subst (λ d. depth d ≤ 127) (sym c.in_ok-entry.ensures) (tree_is_low c.args.names.now c.args.pair.now)

pub returns : goal.returns
returns c = subst (λ d. IfOk c.are_same.result (λ same. Decides same (view c.args.value.now ≡ d))) c.in_ok-entry.ensures c.are_same.ensures
