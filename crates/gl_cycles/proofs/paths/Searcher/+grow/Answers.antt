use Rattle.std.proofs.Common.{◌≡◌, ℕ, suc, ◌+◌, ◌-◌, ◌<◌, ◌≤◌, List, length, map, get_or, Some, sym, ap, subst, ◌∙◌, arith, rules}
use Rattle.std.specs.Prelude.{All, slice_get, unwrap_or}
use Rattle.std.proofs.lemmas.List.{length-map, length_push}
use Rattle.std.proofs.lemmas.List.Elements.{All-push}
use Rattle.std.proofs.Common.{Option, None, take, [], ◌∷◌, ◌++◌}
use Rattle.gl_cycles.specs.bodies.Blocks.{block}
use Rattle.gl_cycles.specs.declared.paths.Searcher.{Searcher}
use Rattle.gl_segments.specs.Clocks.{is_before}
use Rattle.gl_edges.specs.declared.edge.Edge.{Edge}
use Rattle.gl_filters.specs.Picked.{edges_of_table, picked}
use Rattle.gl_filters.specs.Test.{can_follow, leads_back}
use Rattle.gl_cycles.proofs.BelowFronts.{picked-push}
use Rattle.gl_index.specs.Listed.{IsNextWith}
use Rattle.gl_index.specs.Indexes.{held_lock, both_locks}
use Rattle.gl_index.proofs.Lists.{element_at}
use Rattle.gl_index.proofs.Tables.{within_edges}
use Rattle.gl_cycles.proofs.EdgesOfPaths.{wanted_after, wanted_last, held_first, wanted_by_table, held_by_table, some_picked}
use Rattle.gl_cycles.specs.bodies.Searching.{IsReady, all_from, limited}
use Rattle.gl_cycles.proofs.EdgesOffCycles.{block-off}
use Rattle.gl_cycles.proofs.PathsGrow.{HasGrownTo, OthersAreStray, LeftOutAreStray, other_lock, other_locks, grow_begin, grow_step, grow_end, grow_short, grow_none, grow_closed, grown_room, goes_on, grow_stray, joined_path}
use Rattle.gl_cycles.proofs.paths.Searcher.+grow.Goals as goal

-- the path is closed
pub grow-returns-then-is_closed : goal.grow-returns-then-is_closed
grow-returns-then-is_closed t c =
    let s = limited c.args.self.now c.args.limit in
    record {
      added = grow_closed (is_before s.order.now) s.mode (edges_of_table s.table.now) c.args.path.now s.cap _ (s.len - length c.args.path.now) _
          (omega (arith, c.args.found.now.ok.0, c.len.ensures, length-map c.args.found.now.items (λ cycle. cycle.items)))
          (within_edges s.table.now c.args.path.now c.requires.within) c.requires.is_path (sym c.if-is_closed.ensures) c.in_ok-keep_closed.ensures;
      stopped = tt;
    }

-- the path may not be longer
pub grow-returns-then-path-limit : goal.grow-returns-then-path-limit
grow-returns-then-path-limit t c =
    let s = limited c.args.self.now c.args.limit in
    let none : s.len - length c.args.path.now ≡ 0 = omega arith in
    record {
      added = rw none (grow_short (is_before s.order.now) s.mode (edges_of_table s.table.now) c.args.path.now s.cap _
          (omega (arith, c.requires.room, length-map c.args.found.now.items (λ cycle. cycle.items))) (sym c.if-is_closed.ensures));
      stopped = tt;
    }

-- the index gives the first edge that may follow the path
first_follower : (s : Searcher) (path : List ℕ) → All (λ i. i < length s.table.now) path → 0 < length path → (first : Option ℕ)
    → ((e : Edge) → slice_get (edges_of_table s.table.now) (get_or path (length path - 1) 0) ≡ Some e → IsNextWith held_lock (edges_of_table s.table.now) s.kept.items e.wanted 0 first)
    → IsNextWith held_lock (edges_of_table s.table.now) s.kept.items (wanted_after (picked (edges_of_table s.table.now) path)) 0 first
first_follower s path within some first is =
    let last = element_at (edges_of_table s.table.now) (get_or path (length path - 1) 0) (within_edges s.table.now path within (length path - 1) 0 (omega arith)) in
    subst (λ lock. IsNextWith held_lock (edges_of_table s.table.now) s.kept.items lock 0 first) (wanted_last (edges_of_table s.table.now) path last.0 (within_edges s.table.now path within) some last.1) (is last.0 last.1)

-- the path's last edge is in the index
pub grow-begin-next-requires : goal.grow-begin-next-requires
grow-begin-next-requires t c =
    let s = limited c.args.self.now c.args.limit in
    let within = c.requires.within (length c.args.path.now - 1) 0 (omega (arith, c.requires.some)) in
    omega (arith, within, c.requires.ready.indexed.long, length-map s.table.now (λ pair. pair.0), s.index.first.ok.0)

-- what is left out leads to no cycle
left_outs : (s : Searcher) (path : List ℕ) → IsReady s → length path < s.len → LeftOutAreStray (is_before s.order.now) s.mode (edges_of_table s.table.now) (s.len - length path - 1) path s.cap s.kept.items
left_outs s path ready short = λ i f at out.
    block-off (is_before s.order.now) s.mode (edges_of_table s.table.now) s.len (s.len - length path - 1) path i f (omega (arith, short)) at (ready.kept.left_out i f at out)

-- before the first follower
pub grow-loop-next-init : goal.grow-loop-next-init
grow-loop-next-init t c =
    let s = limited c.args.self.now c.args.limit in
    grow_begin (is_before s.order.now) s.mode (edges_of_table s.table.now) (s.len - length c.args.path.now - 1) c.args.path.now s.cap held_lock s.kept.items _
    (other_lock (is_before s.order.now) s.mode (edges_of_table s.table.now) (s.len - length c.args.path.now - 1) c.args.path.now s.cap (some_picked s.table.now c.args.path.now c.requires.within c.requires.some)) (left_outs s c.args.path.now c.requires.ready (omega (arith, c.requires.short, c.if-path-limit.false))) _ _
    (omega (arith, c.requires.room, length-map c.args.found.now.items (λ cycle. cycle.items)))
    (first_follower s c.args.path.now c.requires.within c.requires.some c.begin-next.result (λ e at. c.begin-next.ensures (edges_of_table s.table.now) s.kept.items e c.requires.ready.indexed at))

-- what has grown where the next follower is known
abbrev Grown : (s : Searcher) → List ℕ → List (List ℕ) → List (List ℕ) → Option ℕ → Type 0
Grown s path old now next =
    HasGrownTo (is_before s.order.now) s.mode (edges_of_table s.table.now) (s.len - length path - 1) path s.cap held_lock (wanted_after (picked (edges_of_table s.table.now) path)) old now next

-- fewer positions are left behind a later follower
closer : (n m i : ℕ) (now next : Option ℕ) → m ≡ n → now ≡ Some i → i < unwrap_or next m → unwrap_or next m ≤ m → n - unwrap_or next n < n - unwrap_or now n
closer n m i now next same is before within =
    let here : unwrap_or now n ≡ i = ap (λ o. unwrap_or o n) is in
    let there : unwrap_or next m ≡ unwrap_or next n = ap (unwrap_or next) same in
    omega arith

-- what one follower adds, with as many edges left as behind it
grown_by : (s : Searcher) (path : List ℕ) (i : ℕ) (before after : List (List ℕ)) → after ≡ take s.cap (before ++ all_from s (path ++ i ∷ []))
    → after ≡ take s.cap (before ++ block (is_before s.order.now) s.mode (edges_of_table s.table.now) (s.len - length path - 1) (path ++ i ∷ []))
grown_by s path i before after added =
    let left : s.len - length (path ++ i ∷ []) ≡ s.len - length path - 1 = omega (arith, length_push path i) in
    subst (λ n. after ≡ take s.cap (before ++ block (is_before s.order.now) s.mode (edges_of_table s.table.now) n (path ++ i ∷ []))) left added

-- the call for one follower
pub grow-grow_by-requires : goal.grow-grow_by-requires
grow-grow_by-requires t c =
    let s = limited c.args.self.now c.args.limit in
    let had : Grown s c.args.path.now (map (λ cycle. cycle.items) c.args.found.now.items) (map (λ cycle. cycle.items) c.loop-next.found.items) (Some c.in-Some.i) =
    subst (Grown s c.args.path.now (map (λ cycle. cycle.items) c.args.found.now.items) (map (λ cycle. cycle.items) c.loop-next.found.items)) c.in-Some.is c.loop-next.invariant in
    let room = grown_room _ _ _ _ _ _ _ _ _ _ _ had in
    let short = c.requires.short in (
      search rules,
      (
        c.requires.some,
        (
          omega arith,
          (
            c.requires.within,
            (
              omega (arith, had.holds.0, length-map s.table.now (λ pair. pair.0)),
              (
                c.requires.is_path,
                (
                  c.requires.ready,
                  omega (arith, room, length-map c.loop-next.found.items (λ cycle. cycle.items)),
                ),
              ),
            ),
          ),
        ),
      ),
    )

-- the follower is in the index
pub grow-after-next-requires : goal.grow-after-next-requires
grow-after-next-requires t c =
    let s = limited c.args.self.now c.args.limit in
    let had : Grown s c.args.path.now (map (λ cycle. cycle.items) c.args.found.now.items) (map (λ cycle. cycle.items) c.loop-next.found.items) (Some c.in-Some.i) =
    subst (Grown s c.args.path.now (map (λ cycle. cycle.items) c.args.found.now.items) (map (λ cycle. cycle.items) c.loop-next.found.items)) c.in-Some.is c.loop-next.invariant in
    omega (arith, had.holds.0, c.requires.ready.indexed.as_long, s.index.next.ok.0)

pub grow-loop-next-smaller : goal.grow-loop-next-smaller
grow-loop-next-smaller t c =
    let s = limited c.args.self.now c.args.limit in
    let had : Grown s c.args.path.now (map (λ cycle. cycle.items) c.args.found.now.items) (map (λ cycle. cycle.items) c.loop-next.found.items) (Some c.in-Some.i) =
    subst (Grown s c.args.path.now (map (λ cycle. cycle.items) c.args.found.now.items) (map (λ cycle. cycle.items) c.loop-next.found.items)) c.in-Some.is c.loop-next.invariant in
    let here = element_at (edges_of_table s.table.now) c.in-Some.i had.holds.0 in
    let later = goes_on held_lock (edges_of_table s.table.now) s.kept.items c.in-Some.i here.0.held c.after-next.result (c.after-next.ensures (edges_of_table s.table.now) s.kept.items here.0 c.requires.ready.indexed here.1) in
    let long = length-map s.table.now (λ pair. pair.0) in
    closer (length s.table.now) (length (edges_of_table s.table.now)) c.in-Some.i c.loop-next.next c.after-next.result long c.in-Some.is later.0 later.1

-- one follower more
pub grow-loop-next-preserved : goal.grow-loop-next-preserved
grow-loop-next-preserved t c =
    let s = limited c.args.self.now c.args.limit in
    let had : Grown s c.args.path.now (map (λ cycle. cycle.items) c.args.found.now.items) (map (λ cycle. cycle.items) c.loop-next.found.items) (Some c.in-Some.i) =
    subst (Grown s c.args.path.now (map (λ cycle. cycle.items) c.args.found.now.items) (map (λ cycle. cycle.items) c.loop-next.found.items)) c.in-Some.is c.loop-next.invariant in
    let here = element_at (edges_of_table s.table.now) c.in-Some.i had.holds.0 in
    grow_step (is_before s.order.now) s.mode (edges_of_table s.table.now) (s.len - length c.args.path.now - 1) c.args.path.now s.cap held_lock s.kept.items _
    (other_lock (is_before s.order.now) s.mode (edges_of_table s.table.now) (s.len - length c.args.path.now - 1) c.args.path.now s.cap (some_picked s.table.now c.args.path.now c.requires.within c.requires.some)) (left_outs s c.args.path.now c.requires.ready (omega (arith, c.requires.short, c.if-path-limit.false))) _ _ _ c.in-Some.i _ had (grown_by s c.args.path.now c.in-Some.i _ _ c.in_ok-grow_by.ensures.added)
    (subst (λ lock. IsNextWith held_lock (edges_of_table s.table.now) s.kept.items lock (c.in-Some.i + 1) c.after-next.result) (had.holds.1 here.0 here.1) (c.after-next.ensures (edges_of_table s.table.now) s.kept.items here.0 c.requires.ready.indexed here.1))

-- all followers are done
pub grow-returns : goal.grow-returns
grow-returns t c =
    let s = limited c.args.self.now c.args.limit in
    let had : Grown s c.args.path.now (map (λ cycle. cycle.items) c.args.found.now.items) (map (λ cycle. cycle.items) c.loop-next.found.items) None =
    subst (Grown s c.args.path.now (map (λ cycle. cycle.items) c.args.found.now.items) (map (λ cycle. cycle.items) c.loop-next.found.items)) c.in_default.is c.loop-next.invariant in
    let left : suc (s.len - length c.args.path.now - 1) ≡ s.len - length c.args.path.now = omega (arith, c.requires.short) in
    record {
      added = subst (λ n. map (λ cycle. cycle.items) c.loop-next.found.items ≡ take s.cap (map (λ cycle. cycle.items) c.args.found.now.items ++ block (is_before s.order.now) s.mode (edges_of_table s.table.now) n c.args.path.now)) left
          (grow_end (is_before s.order.now) s.mode (edges_of_table s.table.now) (s.len - length c.args.path.now - 1) c.args.path.now s.cap held_lock _ _ _ had (sym c.if-is_closed.ensures));
      stopped = tt;
    }

-- the edge has a lesser thread
pub grow_by-returns-then-comes_before : goal.grow_by-returns-then-comes_before
grow_by-returns-then-comes_before t c =
    let s = limited c.args.self.now c.args.limit in
    let here = element_at (edges_of_table s.table.now) c.args.next (omega (arith, c.requires.there, length-map s.table.now (λ pair. pair.0))) in
    record {
      added = grow_stray (is_before s.order.now) s.mode (edges_of_table s.table.now) (s.len - length (c.args.path.now ++ c.args.next ∷ [])) c.args.path.now s.cap _ c.args.next here.0
          (omega (arith, c.requires.room, length-map c.args.found.now.items (λ cycle. cycle.items))) here.1 (c.comes_before.ensures c.if-comes_before.true here.0 here.1);
      stopped = tt;
    }

-- the edge leads nowhere
pub grow_by-returns-then-leads_astray : goal.grow_by-returns-then-leads_astray
grow_by-returns-then-leads_astray t c =
    let s = limited c.args.self.now c.args.limit in
    let here = element_at (edges_of_table s.table.now) c.args.next (omega (arith, c.requires.there, length-map s.table.now (λ pair. pair.0))) in
    let longer = picked-push (edges_of_table s.table.now) c.args.path.now c.args.next here.0 here.1 in
    record {
      added = grow_none (is_before s.order.now) s.mode (edges_of_table s.table.now) (c.args.path.now ++ c.args.next ∷ []) s.cap _ (s.len - length (c.args.path.now ++ c.args.next ∷ []))
          (omega (arith, c.requires.room, length-map c.args.found.now.items (λ cycle. cycle.items)))
          (ap leads_back longer ∙ c.leads_astray.ensures.unclosed c.if-leads_astray.true here.0 here.1)
          (λ g. ap (λ es. can_follow (is_before s.order.now) s.mode es g) longer ∙ c.leads_astray.ensures.none c.if-leads_astray.true here.0 g here.1);
      stopped = tt;
    }

-- the edge can't follow
pub grow_by-returns-then-not-can_join : goal.grow_by-returns-then-not-can_join
grow_by-returns-then-not-can_join t c =
    let s = limited c.args.self.now c.args.limit in
    let here = element_at (edges_of_table s.table.now) c.args.next (omega (arith, c.requires.there, length-map s.table.now (λ pair. pair.0))) in
    record {
      added = grow_stray (is_before s.order.now) s.mode (edges_of_table s.table.now) (s.len - length (c.args.path.now ++ c.args.next ∷ [])) c.args.path.now s.cap _ c.args.next here.0
          (omega (arith, c.requires.room, length-map c.args.found.now.items (λ cycle. cycle.items))) here.1 (sym (c.if-not-can_join.ensures here.0 here.1));
      stopped = tt;
    }

pub grow_by-grow-requires : goal.grow_by-grow-requires
grow_by-grow-requires t c =
    let s = limited c.args.self.now c.args.limit in
    let longer = c.as_slice.ensures.value ∙ c.longer_path-longer.ensures in
    let long : length c.as_slice.result.now ≡ length c.args.path.now + 1 = ap length longer ∙ length_push c.args.path.now c.args.next in
    let here = element_at (edges_of_table s.table.now) c.args.next (omega (arith, c.requires.there, length-map s.table.now (λ pair. pair.0))) in
    let joins = sym (c.if-not-can_join.ensures here.0 here.1) in (
      omega (arith, long, c.requires.short),
      (
        omega arith,
        (
          omega (arith, c.requires.short),
          (
            rw longer (All-push (λ i. i < length s.table.now) c.args.path.now c.args.next c.requires.within c.requires.there),
            (rw longer (joined_path (is_before s.order.now) s.mode (edges_of_table s.table.now) c.args.path.now c.args.next here.0 here.1 c.requires.is_path joins), (c.requires.ready, c.requires.room)),
          ),
        ),
      ),
    )

-- the locks that an edge which closes the path holds and wants
abbrev closing : (s : Searcher) → List ℕ → ℕ × ℕ
closing s path = (wanted_after (picked (edges_of_table s.table.now) path), held_first (picked (edges_of_table s.table.now) path))

abbrev Closed : (s : Searcher) → List ℕ → List (List ℕ) → List (List ℕ) → Option ℕ → Type 0
Closed s path old now next = HasGrownTo (is_before s.order.now) s.mode (edges_of_table s.table.now) (s.len - length path - 1) path s.cap both_locks (closing s path) old now next

-- other edges don't close it
others : (s : Searcher) (path : List ℕ) → All (λ i. i < length s.table.now) path → 0 < length path → length path + 1 ≡ s.len
    → OthersAreStray (is_before s.order.now) s.mode (edges_of_table s.table.now) (s.len - length path - 1) path s.cap both_locks (closing s path)
others s path within some one_left =
    let none : s.len - length path - 1 ≡ 0 = omega arith in
    subst (λ n. OthersAreStray (is_before s.order.now) s.mode (edges_of_table s.table.now) n path s.cap both_locks (closing s path)) (sym none)
    (other_locks (is_before s.order.now) s.mode (edges_of_table s.table.now) path s.cap (some_picked s.table.now path within some))

-- before the first edge that closes the path
pub close-loop-next-init : goal.close-loop-next-init
close-loop-next-init t c =
    let s = limited c.args.self.now c.args.limit in
    let path = c.args.path.now in
    grow_begin (is_before s.order.now) s.mode (edges_of_table s.table.now) (s.len - length path - 1) path s.cap both_locks s.kept.items (closing s path) (others s path c.requires.within c.requires.some c.requires.one_left) (left_outs s path c.requires.ready (omega (arith, c.requires.one_left))) _ _
    (omega (arith, c.requires.room, length-map c.args.found.now.items (λ cycle. cycle.items)))
    (subst (λ locks. IsNextWith both_locks (edges_of_table s.table.now) s.kept.items locks 0 c.begin-next.result)
    (λ i. (wanted_by_table s.table.now path c.requires.within c.index-self-last.result c.requires.some i, held_by_table s.table.now path c.requires.within c.index-self-first.result c.requires.some i))
    (c.begin-next.ensures (edges_of_table s.table.now) s.kept.items c.requires.ready.indexed.closers))

pub close-grow_by-requires : goal.close-grow_by-requires
close-grow_by-requires t c =
    let s = limited c.args.self.now c.args.limit in
    let had : Closed s c.args.path.now (map (λ cycle. cycle.items) c.args.found.now.items) (map (λ cycle. cycle.items) c.loop-next.found.items) (Some c.in-Some.i) =
    subst (Closed s c.args.path.now (map (λ cycle. cycle.items) c.args.found.now.items) (map (λ cycle. cycle.items) c.loop-next.found.items)) c.in-Some.is c.loop-next.invariant in
    let room = grown_room _ _ _ _ _ _ _ _ _ _ _ had in
    let one_left = c.requires.one_left in (
      search rules,
      (
        c.requires.some,
        (
          omega arith,
          (
            c.requires.within,
            (
              omega (arith, had.holds.0, length-map s.table.now (λ pair. pair.0)),
              (
                c.requires.is_path,
                (
                  c.requires.ready,
                  omega (arith, room, length-map c.loop-next.found.items (λ cycle. cycle.items)),
                ),
              ),
            ),
          ),
        ),
      ),
    )

pub close-after-next-requires : goal.close-after-next-requires
close-after-next-requires t c =
    let s = limited c.args.self.now c.args.limit in
    let had : Closed s c.args.path.now (map (λ cycle. cycle.items) c.args.found.now.items) (map (λ cycle. cycle.items) c.loop-next.found.items) (Some c.in-Some.i) =
    subst (Closed s c.args.path.now (map (λ cycle. cycle.items) c.args.found.now.items) (map (λ cycle. cycle.items) c.loop-next.found.items)) c.in-Some.is c.loop-next.invariant in
    omega (arith, had.holds.0, c.requires.ready.indexed.closers.long, s.index.closers.next.ok.0)

pub close-loop-next-smaller : goal.close-loop-next-smaller
close-loop-next-smaller t c =
    let s = limited c.args.self.now c.args.limit in
    let had : Closed s c.args.path.now (map (λ cycle. cycle.items) c.args.found.now.items) (map (λ cycle. cycle.items) c.loop-next.found.items) (Some c.in-Some.i) =
    subst (Closed s c.args.path.now (map (λ cycle. cycle.items) c.args.found.now.items) (map (λ cycle. cycle.items) c.loop-next.found.items)) c.in-Some.is c.loop-next.invariant in
    let here = element_at (edges_of_table s.table.now) c.in-Some.i had.holds.0 in
    let later = goes_on both_locks (edges_of_table s.table.now) s.kept.items c.in-Some.i (both_locks here.0) c.after-next.result (c.after-next.ensures (edges_of_table s.table.now) s.kept.items here.0 c.requires.ready.indexed.closers here.1) in
    let long = length-map s.table.now (λ pair. pair.0) in
    closer (length s.table.now) (length (edges_of_table s.table.now)) c.in-Some.i c.loop-next.next c.after-next.result long c.in-Some.is later.0 later.1

-- one edge more that closes it
pub close-loop-next-preserved : goal.close-loop-next-preserved
close-loop-next-preserved t c =
    let s = limited c.args.self.now c.args.limit in
    let path = c.args.path.now in
    let had : Closed s path (map (λ cycle. cycle.items) c.args.found.now.items) (map (λ cycle. cycle.items) c.loop-next.found.items) (Some c.in-Some.i) =
    subst (Closed s path (map (λ cycle. cycle.items) c.args.found.now.items) (map (λ cycle. cycle.items) c.loop-next.found.items)) c.in-Some.is c.loop-next.invariant in
    let here = element_at (edges_of_table s.table.now) c.in-Some.i had.holds.0 in
    grow_step (is_before s.order.now) s.mode (edges_of_table s.table.now) (s.len - length path - 1) path s.cap both_locks s.kept.items (closing s path) (others s path c.requires.within c.requires.some c.requires.one_left) (left_outs s path c.requires.ready (omega (arith, c.requires.one_left))) _ _ _ c.in-Some.i _ had (grown_by s path c.in-Some.i _ _ c.in_ok-grow_by.ensures.added)
    (subst (λ locks. IsNextWith both_locks (edges_of_table s.table.now) s.kept.items locks (c.in-Some.i + 1) c.after-next.result) (had.holds.1 here.0 here.1) (c.after-next.ensures (edges_of_table s.table.now) s.kept.items here.0 c.requires.ready.indexed.closers here.1))

-- all edges that close it are done
pub close-returns : goal.close-returns
close-returns t c =
    let s = limited c.args.self.now c.args.limit in
    let path = c.args.path.now in
    let had : Closed s path (map (λ cycle. cycle.items) c.args.found.now.items) (map (λ cycle. cycle.items) c.loop-next.found.items) None =
    subst (Closed s path (map (λ cycle. cycle.items) c.args.found.now.items) (map (λ cycle. cycle.items) c.loop-next.found.items)) c.in_default.is c.loop-next.invariant in
    let one_left = c.requires.one_left in
    let left : suc (s.len - length path - 1) ≡ s.len - length path = omega arith in
    record {
      added = subst (λ n. map (λ cycle. cycle.items) c.loop-next.found.items ≡ take s.cap (map (λ cycle. cycle.items) c.args.found.now.items ++ block (is_before s.order.now) s.mode (edges_of_table s.table.now) n path)) left
          (grow_end (is_before s.order.now) s.mode (edges_of_table s.table.now) (s.len - length path - 1) path s.cap both_locks (closing s path) _ _ had c.requires.unclosed);
      stopped = tt;
    }
