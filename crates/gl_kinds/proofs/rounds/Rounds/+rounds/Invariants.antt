use Rattle.std.proofs.Common.{◌≡◌, ◌+◌, ◌-◌, ◌*◌, ◌≤◌, Some, length, get_or}
use Rattle.std.specs.Prelude.{slice_get, unwrap_or}
use Rattle.gl_edges.specs.declared.edge.Edge.{Edge}
use Rattle.gl_segments.specs.Clocks.{is_before}
use Rattle.gl_filters.specs.declared.lengths.TheConstants.{LONGEST}
use Rattle.gl_filters.specs.Picked.{edges_of_table}
use Rattle.gl_kinds.specs.bodies.Kinds.{AreTried}
use Rattle.gl_kinds.proofs.rounds.Rounds.+rounds.Given as goal

-- how many more models the path may have; a call for one of them comes between two lengths
abbrev pub decreases-may_close : goal.decreases-may_close
decreases-may_close l = 2 * (LONGEST - length l.path.now) + 1

abbrev pub decreases-may_close_by : goal.decreases-may_close_by
decreases-may_close_by l = 2 * (LONGEST - length l.path.now)

-- the models before the next one were tried
abbrev pub invariant-may_close-loop-next : goal.invariant-may_close-loop-next
invariant-may_close-loop-next l =
    record {
      tried : (e : Edge) → slice_get (edges_of_table l.self.sought.table.now) (get_or l.path (length l.path - 1) 0) ≡ Some e
          → AreTried (is_before l.self.sought.order.now) l.self.sought.mode l.self.grain l.self.sought.len (edges_of_table l.self.sought.table.now) l.self.flags.items l.path e.wanted l.next;
      spent : l.tries ≤ l.fn.tries;
    }

-- how many positions are left
abbrev pub decreases-may_close-loop-next : goal.decreases-may_close-loop-next
decreases-may_close-loop-next l = length l.self.sought.table.now - unwrap_or l.next (length l.self.sought.table.now)
