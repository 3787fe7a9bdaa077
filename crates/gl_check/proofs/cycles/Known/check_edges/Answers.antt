use Rattle.std.proofs.Common.{◌≡◌, true, sym, subst}
use Rattle.std.specs.List.{list_all}
use Rattle.serde_json.specs.View.{view}
use Rattle.gl_check.specs.Shape.{is_edge}
use Rattle.gl_check.proofs.Truth.{entries_are}
use Rattle.gl_check.proofs.cycles.Known.check_edges.Goals as goal

pub check_table-requires : goal.check_table-requires
check_table-requires c = subst (λ ds. list_all is_edge ds ≡ true) (sym c.items_under-entries.ensures) (entries_are (view c.args.value.now) c.requires.shaped)
