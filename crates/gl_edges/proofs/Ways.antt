-- The tree of held locks, and the acquires that were noted in it.
use Rattle.std.proofs.Common.{◌≡◌, ℕ, zero, suc, ◌+◌, ◌<◌, ◌⊎◌, Bool, true, false, List, [], ◌∷◌, ◌++◌, get_or, length, map, take, Some, refl, sym, ap, subst, ◌∙◌, arith}
use Rattle.std.specs.Prelude.{Contains, slice_get, if◌then◌else◌}
use Rattle.std.proofs.lemmas.Option.{get_or_from_slice_get, slice_get_within}
use Rattle.std.proofs.lemmas.List.{append-nil, append_assoc, length-append, map_more}
use Rattle.std.proofs.lemmas.Simd.{map-map}
use Rattle.std.proofs.lemmas.List.Elements.{Contains-append_cases, Contains-append_left, Contains-append_right}
use Rattle.gl_event.proofs.Depths.{slice_get_last, slice_get_before}
use Rattle.gl_event.specs.declared.events.LockMode.{LockMode}
use Rattle.gl_event.specs.declared.held.HeldEntry.{HeldEntry}
use Rattle.gl_edges.specs.Guards.{ascending_guards}
use Rattle.gl_edges.specs.bodies.Seen.{around, edge_inside, edges_at_node, edges_inside, edges_now, guard_from, noted, noted_after, opened_of, way_to, ways, ways_after, with_node, IsNode, LeadsTo}
use Rattle.gl_edges.specs.declared.edge.Edge.{Edge}
use Rattle.gl_edges.specs.declared.seen.Node.{Node}
use Rattle.gl_edges.specs.declared.seen.Opened.{Opened}
use Rattle.gl_edges.specs.declared.seen.Branch.{Branch}
use Rattle.gl_edges.specs.declared.tracker.Tracker.{Tracker}

-- ---- ways

-- the way to one node more comes last
pub ways_append : (ways : List (List Opened)) (nodes : List Node) (node : Node)
    → ways_after ways (nodes ++ node ∷ []) ≡ ways_after ways nodes ++ way_to (ways_after ways nodes) node ∷ []
unfolding ways_after
ways_append ways [] node = refl
ways_append ways (n ∷ nodes) node = ways_append (ways ++ way_to ways n ∷ []) nodes node

-- as many ways come as nodes
pub ways_length : (ways : List (List Opened)) (nodes : List Node) → length (ways_after ways nodes) ≡ length ways + length nodes
unfolding ways_after
ways_length ways [] = omega arith
ways_length ways (n ∷ nodes) =
    let rest = ways_length (ways ++ way_to ways n ∷ []) nodes in
    let more = length-append ways (way_to ways n ∷ []) in
    omega (arith, rest, more)

-- a way stays as nodes come
pub way_stays : (ways : List (List Opened)) (nodes : List Node) (i : ℕ) (held : List Opened) → slice_get ways i ≡ Some held → slice_get (ways_after ways nodes) i ≡ Some held
unfolding ways_after
way_stays ways [] i held is = is
way_stays ways (n ∷ nodes) i held is =
    way_stays (ways ++ way_to ways n ∷ []) nodes i held (slice_get_before ways (way_to ways n ∷ []) i (slice_get_within ways i held is) ∙ is)

-- a way that is there in the end, and was there at first, was the same
way_was : (ways : List (List Opened)) (nodes : List Node) (i : ℕ) (held : List Opened) → i < length ways → slice_get (ways_after ways nodes) i ≡ Some held → slice_get ways i ≡ Some held
unfolding ways_after
way_was ways [] i held within is = is
way_was ways (n ∷ nodes) i held within is =
    sym (slice_get_before ways (way_to ways n ∷ []) i within)
    ∙ way_was (ways ++ way_to ways n ∷ []) nodes i held (let more = length-append ways (way_to ways n ∷ []) in omega (arith, within, more)) is

-- the way to a node goes on from the way to its parent
pub way_of_node : (ways : List (List Opened)) (nodes : List Node) (at : ℕ) (node : Node) (held : List Opened) → slice_get nodes at ≡ Some node → node.branch.parent < length ways + at
    → slice_get (ways_after ways nodes) node.branch.parent ≡ Some held → slice_get (ways_after ways nodes) (length ways + at) ≡ Some (held ++ node.branch.opened ∷ [])
unfolding ways_after
way_of_node ways [] at node held is above parent = absurd (omega (arith, slice_get_within [] at node is))
way_of_node ways (n ∷ nodes) zero node held is above parent =
    let same : n ≡ node = get_or_from_slice_get (n ∷ nodes) zero node n is in
    let was : slice_get ways node.branch.parent ≡ Some held = way_was ways (n ∷ nodes) node.branch.parent held (omega (arith, above)) parent in
    let there : way_to ways n ≡ held ++ node.branch.opened ∷ [] =
    subst (λ m. way_to ways m ≡ held ++ node.branch.opened ∷ []) (sym same)
    (ap (λ hs. hs ++ node.branch.opened ∷ []) (get_or_from_slice_get ways node.branch.parent held [] was)) in
    let last : slice_get (ways ++ way_to ways n ∷ []) (length ways + zero) ≡ Some (held ++ node.branch.opened ∷ []) =
    subst (λ i. slice_get (ways ++ way_to ways n ∷ []) i ≡ Some (held ++ node.branch.opened ∷ [])) (omega arith) (slice_get_last ways (way_to ways n) ∙ ap Some there) in
    way_stays (ways ++ way_to ways n ∷ []) nodes (length ways + zero) (held ++ node.branch.opened ∷ []) last
way_of_node ways (n ∷ nodes) (suc at) node held is above parent =
    let more = length-append ways (way_to ways n ∷ []) in
    subst (λ i. slice_get (ways_after ways (n ∷ nodes)) i ≡ Some (held ++ node.branch.opened ∷ [])) (omega (arith, more))
    (way_of_node (ways ++ way_to ways n ∷ []) nodes at node held is (omega (arith, more, above)) parent)

-- ---- edges

-- without nodes there are none
pub noted_none : (thread : ℕ) (ways : List (List Opened)) → noted_after thread ways [] ≡ []
unfolding noted_after
noted_none thread ways = refl

-- the edges of one node more come last
pub noted_append : (thread : ℕ) (ways : List (List Opened)) (nodes : List Node) (node : Node)
    → noted_after thread ways (nodes ++ node ∷ []) ≡ noted_after thread ways nodes ++ edges_at_node thread (ways_after ways nodes) node
unfolding noted_after ways_after
noted_append thread ways [] node = append-nil (edges_at_node thread ways node)
noted_append thread ways (n ∷ nodes) node =
    ap (λ es. edges_at_node thread ways n ++ es) (noted_append thread (ways ++ way_to ways n ∷ []) nodes node)
    ∙ sym (append_assoc (edges_at_node thread ways n) (noted_after thread (ways ++ way_to ways n ∷ []) nodes) (edges_at_node thread (ways_after (ways ++ way_to ways n ∷ []) nodes) node))

-- the edges of a node that was noted are there
pub noted_has : (thread : ℕ) (ways : List (List Opened)) (nodes : List Node) (at : ℕ) (node : Node) (held : List Opened) → slice_get nodes at ≡ Some node → node.is_noted ≡ true
    → node.branch.parent < length ways + at → slice_get (ways_after ways nodes) node.branch.parent ≡ Some held
    → (edge : Edge) → Contains (edges_inside thread held node.branch.opened) edge → Contains (noted_after thread ways nodes) edge
unfolding noted_after ways_after
noted_has thread ways [] at node held is noted above parent edge there = absurd (omega (arith, slice_get_within [] at node is))
noted_has thread ways (n ∷ nodes) zero node held is noted above parent edge there =
    let same : n ≡ node = get_or_from_slice_get (n ∷ nodes) zero node n is in
    let was : slice_get ways node.branch.parent ≡ Some held = way_was ways (n ∷ nodes) node.branch.parent held (omega (arith, above)) parent in
    let around_is : around ways node ≡ held = get_or_from_slice_get ways node.branch.parent held [] was in
    let all : edges_at_node thread ways node ≡ edges_inside thread held node.branch.opened =
    ap (λ b. if b then edges_inside thread (around ways node) node.branch.opened else []) noted ∙ ap (λ hs. edges_inside thread hs node.branch.opened) around_is in
    Contains-append_left (edges_at_node thread ways n) (noted_after thread (ways ++ way_to ways n ∷ []) nodes) edge
    (subst (λ m. Contains (edges_at_node thread ways m) edge) (sym same) (subst (λ es. Contains es edge) (sym all) there))
noted_has thread ways (n ∷ nodes) (suc at) node held is noted above parent edge there =
    let more = length-append ways (way_to ways n ∷ []) in
    Contains-append_right (edges_at_node thread ways n) (noted_after thread (ways ++ way_to ways n ∷ []) nodes) edge
    (noted_has thread (ways ++ way_to ways n ∷ []) nodes at node held is noted (omega (arith, more, above)) parent edge there)

-- ---- the tree as it grows

-- no held lock leads to the root
pub root_leads : (nodes : List Node) → LeadsTo nodes 0 []
root_leads nodes = way_stays ([] ∷ []) nodes 0 [] refl

-- what leads to the parent leads on to the node
pub leads_found : (nodes : List Node) (branch : Branch) (is_noted : Bool) (number : ℕ) → IsNode nodes branch is_noted number → (held : List Opened) → LeadsTo nodes branch.parent held
    → LeadsTo nodes number (held ++ branch.opened ∷ [])
leads_found nodes branch is_noted number is held leads =
    subst (λ n. LeadsTo nodes n (held ++ branch.opened ∷ [])) (omega (arith, is.counts))
    (way_of_node ([] ∷ []) nodes is.at (with_node branch is_noted) held is.stands (omega (arith, is.counts, is.above)) leads)

-- and to one that is added
pub leads_added : (old new : List Node) (branch : Branch) (is_noted : Bool) (number : ℕ) → new ≡ old ++ with_node branch is_noted ∷ [] → number ≡ length old + 1
    → (held : List Opened) → LeadsTo old branch.parent held → LeadsTo new number (held ++ branch.opened ∷ [])
leads_added old new branch is_noted number added counts held leads =
    let last : slice_get (ways old ++ way_to (ways old) (with_node branch is_noted) ∷ []) (length (ways old)) ≡ Some (held ++ branch.opened ∷ []) =
    slice_get_last (ways old) (way_to (ways old) (with_node branch is_noted))
    ∙ ap (λ hs. Some (hs ++ branch.opened ∷ [])) (get_or_from_slice_get (ways old) branch.parent held [] leads) in
    let many = ways_length ([] ∷ []) old in
    subst (λ nodes. LeadsTo nodes number (held ++ branch.opened ∷ [])) (sym added)
    (subst (λ ws. slice_get ws number ≡ Some (held ++ branch.opened ∷ [])) (sym (ways_append ([] ∷ []) old (with_node branch is_noted)))
    (subst (λ n. slice_get (ways old ++ way_to (ways old) (with_node branch is_noted) ∷ []) n ≡ Some (held ++ branch.opened ∷ [])) (omega (arith, many, counts)) last))

-- a node that isn't noted adds no edge
pub noted_stays : (old new : List Node) (branch : Branch) → new ≡ old ++ with_node branch false ∷ [] → (thread : ℕ) → noted thread new ≡ noted thread old
noted_stays old new branch added thread = ap (noted thread) added ∙ noted_append thread ([] ∷ []) old (with_node branch false) ∙ append-nil (noted thread old)

-- one that is adds those of its acquire
pub noted_grows : (old new : List Node) (branch : Branch) → new ≡ old ++ with_node branch true ∷ [] → (thread : ℕ) (held : List Opened) → LeadsTo old branch.parent held
    → (edge : Edge) → Contains (noted thread new) edge → Contains (noted thread old) edge ⊎ Contains (edges_inside thread held branch.opened) edge
noted_grows old new branch added thread held leads edge there =
    Contains-append_cases (noted thread old) (edges_inside thread held branch.opened) edge
    (subst (λ es. Contains es edge)
    (ap (noted thread) added
    ∙ noted_append thread ([] ∷ []) old (with_node branch true)
    ∙ ap (λ hs. noted thread old ++ edges_inside thread hs branch.opened) (get_or_from_slice_get (ways old) branch.parent held [] leads))
    there)

-- the edges of a noted acquire are there
pub noted_found : (nodes : List Node) (branch : Branch) (number : ℕ) → IsNode nodes branch true number → (thread : ℕ) (held : List Opened) → LeadsTo nodes branch.parent held
    → (edge : Edge) → Contains (edges_inside thread held branch.opened) edge → Contains (noted thread nodes) edge
noted_found nodes branch number is thread held leads edge there =
    noted_has thread ([] ∷ []) nodes is.at (with_node branch true) held is.stands refl (omega (arith, is.counts, is.above)) leads edge there

-- ---- the next acquire

-- one held lock more
pub held_more : (entries : List HeldEntry) (i : ℕ) (entry : HeldEntry) → i < length entries → entry ≡ get_or entries i entry
    → map opened_of (take i entries) ++ opened_of entry ∷ [] ≡ map opened_of (take (i + 1) entries)
held_more entries i entry within is = ap (λ e. map opened_of (take i entries) ++ opened_of e ∷ []) is ∙ sym (map_more opened_of entries i entry within)

-- the edges that an acquire makes now are those inside the locks that are held
pub edges_are_now : (tracker : Tracker) (wanted : ℕ) (mode : LockMode)
    → edges_inside tracker.thread (map opened_of tracker.state.held) (record { lock = wanted; mode = mode; first = tracker.state.segments }) ≡ edges_now tracker.thread tracker.state wanted mode
edges_are_now tracker wanted mode =
    let opened : Opened = record { lock = wanted; mode = mode; first = tracker.state.segments } in
    map-map (edge_inside tracker.thread (map opened_of tracker.state.held) opened) opened_of tracker.state.held
    ∙ ap (λ guards.
    map
    (λ h.
    record {
      thread = tracker.thread;
      held = h.lock;
      held_mode = h.mode;
      wanted = wanted;
      wanted_mode = mode;
      first = h.seg;
      second = tracker.state.segments;
      guards = guards;
    })
    tracker.state.held)
    (ap ascending_guards (map-map guard_from opened_of tracker.state.held))

-- the same, from what was asked of the tracked thread
pub edges_now_inside : (tracker : Tracker) (wanted : ℕ) (mode : LockMode) (thread : ℕ) (entries : List HeldEntry) (segment : ℕ)
    → thread ≡ tracker.thread → entries ≡ tracker.state.held → segment ≡ tracker.state.segments
    → edges_inside thread (map opened_of entries) (record { lock = wanted; mode = mode; first = segment }) ≡ edges_now tracker.thread tracker.state wanted mode
edges_now_inside tracker wanted mode thread entries segment of_thread are in_segment =
    ap (λ t. edges_inside t (map opened_of entries) (record { lock = wanted; mode = mode; first = segment })) of_thread
    ∙ ap (λ es. edges_inside tracker.thread (map opened_of es) (record { lock = wanted; mode = mode; first = segment })) are
    ∙ ap (λ s. edges_inside tracker.thread (map opened_of tracker.state.held) (record { lock = wanted; mode = mode; first = s })) in_segment
    ∙ edges_are_now tracker wanted mode
