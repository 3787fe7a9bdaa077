use Rattle.std.proofs.Common.{◌≡◌, take, true}
use Rattle.std.specs.List.{list_all}
use Rattle.gl_segments.specs.Clocks.{is_before}
use Rattle.gl_filters.specs.Test.{goes_with}
use Rattle.gl_filters.specs.Picked.{edges_of_table, picked}
use Rattle.gl_cycles.proofs.paths.Searcher.goes_with_all.Given as goal

-- each edge so far goes with the one
abbrev pub invariant-loop-i : goal.invariant-loop-i
invariant-loop-i l = list_all (λ e. goes_with (is_before l.self.order.now) l.self.mode e l.edge) (picked (edges_of_table l.self.table.now) (take l.i-index l.path)) ≡ true
