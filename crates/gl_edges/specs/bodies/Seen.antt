-- Acquires that were made before, by their edges.
use Rattle.std.specs.Prelude.{◌≡◌, ℕ, ◌+◌, ◌<◌, Bool, List, [], ◌∷◌, ◌++◌, map, Some, slice_get, slice_index_or, if◌then◌else◌}
use Rattle.gl_event.specs.States.{State}
use Rattle.gl_event.specs.declared.events.LockMode.{LockMode}
use Rattle.gl_event.specs.declared.held.HeldEntry.{HeldEntry}
use Rattle.gl_edges.specs.Guards.{ascending_guards, guards_of}
use Rattle.gl_edges.specs.declared.edge.Edge.{Edge}
use Rattle.gl_edges.specs.declared.guards.Guard.{Guard}
use Rattle.gl_edges.specs.declared.seen.Node.{Node}
use Rattle.gl_edges.specs.declared.seen.Opened.{Opened}
use Rattle.gl_edges.specs.declared.seen.Branch.{Branch}

-- what an edge needs of a held lock
abbrev pub opened_of : HeldEntry → Opened
opened_of h = record { lock = h.lock; mode = h.mode; first = h.seg }

-- a held lock as a guard
abbrev pub guard_from : Opened → Guard
guard_from o = record { lock = o.lock; mode = o.mode }

-- the edge that the acquire of a lock makes from one of the locks that are held
abbrev pub edge_inside : ℕ → List Opened → Opened → Opened → Edge
edge_inside thread held wanted opened =
    record {
      thread = thread;
      held = opened.lock;
      held_mode = opened.mode;
      wanted = wanted.lock;
      wanted_mode = wanted.mode;
      first = opened.first;
      second = wanted.first;
      guards = ascending_guards (map guard_from held);
    }

-- the edges that the acquire of a lock makes where these are held
abbrev pub edges_inside : ℕ → List Opened → Opened → List Edge
edges_inside thread held wanted = map (edge_inside thread held wanted) held

-- ---- the tree of held locks

-- a node that ends this branch
abbrev pub with_node : Branch → Bool → Node
with_node branch is_noted = record { branch = branch; is_noted = is_noted }

-- the locks that lead to the node's parent, where these lead to the root and to the nodes before
abbrev pub around : List (List Opened) → Node → List Opened
around ways node = slice_index_or ways node.branch.parent []

-- the locks that lead to the node
abbrev pub way_to : List (List Opened) → Node → List Opened
way_to ways node = around ways node ++ node.branch.opened ∷ []

-- the locks that lead to each of these nodes, after those that lead to the nodes before
unfoldable pub ways_after : List (List Opened) → List Node → List (List Opened)
ways_after ways [] = ways
ways_after ways (node ∷ nodes) = ways_after (ways ++ way_to ways node ∷ []) nodes

-- the locks that lead to the root and to each node, by number
abbrev pub ways : List Node → List (List Opened)
ways nodes = ways_after ([] ∷ []) nodes

-- these held locks lead to the node of this number
abbrev pub LeadsTo : List Node → ℕ → List Opened → Type 0
LeadsTo nodes number held = slice_get (ways nodes) number ≡ Some held

-- the node of this number ends this branch, and was noted or not
pub record IsNode (nodes : List Node) (branch : Branch) (is_noted : Bool)
    (number : ℕ) : Type 0 where
  pub at : ℕ
  pub counts : number ≡ at + 1
  pub stands : slice_get nodes at ≡ Some (with_node branch is_noted)
  pub above : branch.parent < number

-- where locks lead to the branch's parent, they lead with that of the branch to the node of this number
abbrev pub IsEndOf : Branch → List Node → List Node → ℕ → Type 0
IsEndOf branch before after number =
    (held : List Opened) → LeadsTo before branch.parent held
    → LeadsTo after number (held ++ branch.opened ∷ [])

-- ---- the acquires that were noted

-- the edges of a node's acquire, if that was noted
abbrev pub edges_at_node : ℕ → List (List Opened) → Node → List Edge
edges_at_node thread ways node =
    if node.is_noted then edges_inside thread (around ways node) node.branch.opened else []

-- the edges of these nodes' acquires, where these locks lead to the nodes before
unfoldable pub noted_after : ℕ → List (List Opened) → List Node → List Edge
noted_after thread ways [] = []
noted_after thread ways (node ∷ nodes) =
    edges_at_node thread ways node ++ noted_after thread (ways ++ way_to ways node ∷ []) nodes

-- the edges of the acquires that were noted
abbrev pub noted : ℕ → List Node → List Edge
noted thread nodes = noted_after thread ([] ∷ []) nodes

-- the acquires that were noted have the same edges as before
abbrev pub HasNotedAlike : List Node → List Node → Type 0
HasNotedAlike before after = (thread : ℕ) → noted thread after ≡ noted thread before

-- the edges of the acquire of a lock that the thread of which this is known doesn't hold
abbrev pub edges_now : ℕ → State → ℕ → LockMode → List Edge
edges_now thread s wanted mode =
    map
    (λ h.
    record {
      thread = thread;
      held = h.lock;
      held_mode = h.mode;
      wanted = wanted;
      wanted_mode = mode;
      first = h.seg;
      second = s.segments;
      guards = guards_of s.held;
    })
    s.held
