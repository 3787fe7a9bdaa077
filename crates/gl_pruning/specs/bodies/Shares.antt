-- Shares: the edges of some components of the lock-order graph.
use Rattle.std.specs.Prelude.{◌≡◌, ℕ, ◌<◌, Bool, true, false, List, length, slice_get, Some, Contains}
use Rattle.gl_edges.specs.declared.edge.Edge.{Edge}
use Rattle.gl_filters.specs.Picked.{edges_of_table}
use Rattle.gl_segments.specs.Clocks.{is_before}
use Rattle.gl_sought.specs.OffCycles.{IsOffCycles}
use Rattle.gl_pruning.specs.declared.shares.Share.{Share}
use Rattle.gl_pruning.specs.declared.shares.Shares.{Shares}
use Rattle.gl_sought.specs.declared.numbers.Ends.{Ends}
use Rattle.gl_sought.specs.declared.sought.Sought.{Sought}
use Rattle.gl_sought.specs.Components.{AreComponents}
use Rattle.gl_sought.specs.Walks.{label_at}

-- the number of the share in which a lock lies, by that of its component
abbrev pub share_in : Shares → ℕ → ℕ
share_in shares lock = label_at shares.by_component.items (label_at shares.labels.items lock)

-- what was checked of components
abbrev pub AreShares : Sought → Shares → Type 0
AreShares sought shares =
    AreComponents sought shares.labels.items shares.ends.items shares.kept.items

-- the edge at a position lies in the share with this number
abbrev pub IsInShare : Shares → ℕ → ℕ → Type 0
IsInShare shares number position =
    (d : Ends) → slice_get shares.ends.items position ≡ Some d → share_in shares d.held ≡ number

-- the edges of a share are those of the first positions which are kept and lie in it
pub record HasEdgesBelow (edges : List Edge) (shares : Shares) (number below : ℕ)
    (share : Share) : Type 0 where
  pub long : length share.table.items ≡ length share.positions.items
  pub own : (place position : ℕ) (e : Edge)
      → slice_get share.positions.items place ≡ Some position
      → slice_get (edges_of_table share.table.items) place ≡ Some e
      → (slice_get edges position ≡ Some e) × IsInShare shares number position
  pub whole : (position : ℕ) (e : Edge) (d : Ends) → position < below
      → slice_get edges position ≡ Some e → slice_get shares.kept.items position ≡ Some true
      → slice_get shares.ends.items position ≡ Some d → share_in shares d.held ≡ number
      → Contains (edges_of_table share.table.items) e

-- the edges of a share that don't stay are in no cycle
pub record AreOff (sought : Sought) (share : Share) (stay : List Bool) : Type 0 where
  pub long : length stay ≡ length share.positions.items
  pub there : (place position : ℕ) → slice_get share.positions.items place ≡ Some position
      → position < length sought.table.now
  pub off : (place position : ℕ) (e : Edge)
      → slice_get share.positions.items place ≡ Some position → slice_get stay place ≡ Some false
      → slice_get (edges_of_table sought.table.now) position ≡ Some e
      → IsOffCycles (is_before sought.order.now) sought.mode sought.len
      (edges_of_table sought.table.now) e
