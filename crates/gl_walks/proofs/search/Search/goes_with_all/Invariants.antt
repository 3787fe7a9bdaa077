use Rattle.std.proofs.Common.{◌≡◌, take, true}
use Rattle.std.specs.List.{list_all}
use Rattle.gl_segments.specs.Clocks.{is_before}
use Rattle.gl_filters.specs.Picked.{edges_of_table, picked}
use Rattle.gl_walks.specs.bodies.Fronts.{goes_by}
use Rattle.gl_walks.proofs.search.Search.goes_with_all.Given as goal

-- each edge so far may stand in one walk with the one
abbrev pub invariant-loop-i : goal.invariant-loop-i
invariant-loop-i l = list_all (λ e. goes_by l.purpose (is_before l.self.area.order.now) l.self.area.mode e l.edge) (picked (edges_of_table l.self.area.table.now) (take l.i-index l.path)) ≡ true
