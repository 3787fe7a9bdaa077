use Rattle.std.proofs.Common.{◌≡◌, ◌++◌, length, take}
use Rattle.std.specs.Prelude.{slice_get}
use Rattle.std.specs.List.{filter_map, flat_map}
use Rattle.gl_report.specs.Text.{cycle_line, edge_text}
use Rattle.gl_report.proofs.printing.put_cycle.Given as goal

-- the edges so far
abbrev pub invariant-loop-position : goal.invariant-loop-position
invariant-loop-position l =
    l.out.items ≡ (l.fn.out.items ++ cycle_line l.fn.listing l.number (length l.cycle)) ++ flat_map (edge_text l.fn.listing l.names l.table) (filter_map (slice_get l.table) (take l.position-index l.cycle))
