-- The test of a cycle: what of a list of edges is looked at, in the order in which it grows.
use Rattle.std.specs.Prelude.{ℕ, Bool, true, false, not, ◌&&◌, List, [], ◌∷◌, length, ◌==◌, nat_le}
use Rattle.std.specs.List.{list_all}
use Rattle.gl_event.specs.declared.events.Segment.{Segment}
use Rattle.gl_event.specs.Modes.{conflict}
use Rattle.gl_event.specs.declared.events.LockMode.{LockMode}
use Rattle.gl_edges.specs.Clashes.{guards_clash}
use Rattle.gl_edges.specs.declared.edge.Edge.{Edge}
use Rattle.gl_filters.specs.Cycle.{asks_guards, asks_order, is_ordered}
use Rattle.gl_filters.specs.declared.query.Mode.{Mode}

-- who wants a lock in this mode waits for who holds one in that mode: the locks are the same, and the two aren't both readers
abbrev pub waits_for : ℕ → LockMode → ℕ → LockMode → Bool
waits_for wanted wanted_mode held held_mode = (wanted == held) && conflict wanted_mode held_mode

-- the first edge wants the lock that the second one holds, and not both as readers
abbrev pub leads_to : Edge → Edge → Bool
leads_to e f = waits_for e.wanted e.wanted_mode f.held f.held_mode

-- guards and order let the two edges stand in one cycle of this mode
unfoldable pub is_clear : (Segment → Segment → Bool) → Mode → Edge → Edge → Bool
is_clear before mode e f =
    not (asks_guards mode && guards_clash e.guards f.guards)
    && not (asks_order mode && is_ordered before e f)

-- the two edges may stand in one cycle of this mode
unfoldable pub goes_with : (Segment → Segment → Bool) → Mode → Edge → Edge → Bool
goes_with before mode e f =
    (not (e.held == f.held) && not (e.thread == f.thread)) && is_clear before mode e f

-- held locks and guards let edges of the kinds of these two stand in one cycle of this mode
unfoldable pub kinds_go_together : Mode → Edge → Edge → Bool
kinds_go_together mode e f =
    not (e.held == f.held) && not (asks_guards mode && guards_clash e.guards f.guards)

-- each edge goes with each later one
abbrev pub go_together : (Segment → Segment → Bool) → Mode → List Edge → Bool
go_together before mode [] = true
go_together before mode (e ∷ es) =
    list_all (goes_with before mode e) es && go_together before mode es

-- each edge leads on to the next
abbrev pub lead_on : List Edge → Bool
lead_on [] = true
lead_on (e ∷ []) = true
lead_on (e ∷ f ∷ es) = leads_to e f && lead_on (f ∷ es)

-- no edge has a lesser thread than the first
abbrev pub begins_least : List Edge → Bool
begins_least [] = true
begins_least (e ∷ es) = list_all (λ f. nat_le e.thread f.thread) es

-- a front of a cycle, as far as its edges alone tell
unfoldable pub is_path : (Segment → Segment → Bool) → Mode → List Edge → Bool
is_path before mode es = lead_on es && (go_together before mode es && begins_least es)

-- the last of these edges, the first of which is e
abbrev pub last_of : Edge → List Edge → Edge
last_of e [] = e
last_of e (f ∷ es) = last_of f es

-- the last edge leads on to the first
abbrev pub leads_back : List Edge → Bool
leads_back [] = false
leads_back (e ∷ es) = leads_to (last_of e es) e

-- a cycle of this mode, of any length
unfoldable pub is_cycle : (Segment → Segment → Bool) → Mode → List Edge → Bool
is_cycle before mode es = nat_le 2 (length es) && (is_path before mode es && leads_back es)

-- the edge may come next in a path: the last edge leads on to it, it goes with each, and has no lesser thread than the first
unfoldable pub can_follow : (Segment → Segment → Bool) → Mode → List Edge → Edge → Bool
can_follow before mode [] f = true
can_follow before mode (e ∷ es) f =
    leads_to (last_of e es) f
    && (list_all (λ d. goes_with before mode d f) (e ∷ es) && nat_le e.thread f.thread)

-- the second edge may follow the first one in a cycle of this mode
unfoldable pub is_compatible : (Segment → Segment → Bool) → Mode → Edge → Edge → Bool
is_compatible before mode e f =
    (leads_to e f && not (e.thread == f.thread)) && is_clear before mode e f
