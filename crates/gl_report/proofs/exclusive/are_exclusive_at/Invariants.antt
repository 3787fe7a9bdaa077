use Rattle.std.proofs.Common.{◌≡◌, true, take}
use Rattle.std.specs.Prelude.{slice_get}
use Rattle.std.specs.List.{list_all}
use Rattle.std.specs.Option.{option_map_or}
use Rattle.gl_filters.specs.Picked.{edges_of_table}
use Rattle.gl_report.specs.Exclusive.{is_exclusive}
use Rattle.gl_report.proofs.exclusive.are_exclusive_at.Given as goal

-- those so far are
abbrev pub invariant-loop-position : goal.invariant-loop-position
invariant-loop-position l = list_all (λ position. option_map_or is_exclusive (slice_get (edges_of_table l.table) position) true) (take l.position-index l.positions) ≡ true
