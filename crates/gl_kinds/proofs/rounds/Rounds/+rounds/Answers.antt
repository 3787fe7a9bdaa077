use Rattle.std.proofs.Common.{◌≡◌, ℕ, ◌+◌, ◌-◌, ◌<◌, ◌≤◌, List, length, get_or, Option, Some, ap, subst, ◌∙◌, arith, rules}
use Rattle.std.specs.Prelude.{All, slice_get, unwrap_or}
use Rattle.std.proofs.lemmas.List.{length-map}
use Rattle.std.proofs.lemmas.Option.{slice_get-get_or}
use Rattle.gl_segments.specs.Clocks.{is_before}
use Rattle.gl_edges.specs.declared.edge.Edge.{Edge}
use Rattle.gl_filters.specs.Picked.{edges_of_table}
use Rattle.gl_index.specs.Listed.{IsNextWith}
use Rattle.gl_index.specs.Indexes.{held_lock}
use Rattle.gl_kinds.specs.bodies.Kinds.{AreTried, NoCycleThrough}
use Rattle.gl_kinds.specs.declared.rounds.Rounds.{Rounds}
use Rattle.gl_index.proofs.Lists.{element_at}
use Rattle.gl_index.proofs.Tables.{within_edges}
use Rattle.gl_kinds.proofs.ByKinds.{tried_begin, tried_more, none_after, none_longer, none_joins}
use Rattle.gl_kinds.proofs.rounds.Rounds.+rounds.Goals as goal

-- the path may not be longer
pub may_close-returns-then-path-self-clause-none : goal.may_close-returns-then-path-self-clause-none
may_close-returns-then-path-self-clause-none t c = λ no.
    let s = c.args.self.now.sought in
    none_longer (is_before s.order.now) s.mode c.args.self.now.grain s.len (edges_of_table s.table.now) c.args.self.now.flags.items c.args.path.now (within_edges s.table.now c.args.path.now c.requires.within) c.requires.some c.if-path-self.true (c.is_closed.ensures c.if-is_closed.false)

pub may_close-loop-next-init : goal.may_close-loop-next-init
may_close-loop-next-init t c = record {
  tried = λ e at.
      let s = c.args.self.now.sought in
      tried_begin (is_before s.order.now) s.mode c.args.self.now.grain s.len (edges_of_table s.table.now) c.args.self.now.flags.items c.args.path.now e.wanted c.begin-next.result
      (c.begin-next.ensures (edges_of_table s.table.now) c.args.self.now.flags.items e c.requires.models.indexed at);
  spent = omega arith;
}

-- the last edge of a path
last_edge : (r : Rounds) (path : List ℕ) → All (λ i. i < length r.sought.table.now) path → 0 < length path → (e : Edge) × (slice_get (edges_of_table r.sought.table.now) (get_or path (length path - 1) 0) ≡ Some e)
last_edge r path within some = element_at (edges_of_table r.sought.table.now) (get_or path (length path - 1) 0) (within_edges r.sought.table.now path within (length path - 1) 0 (omega (arith, some)))

-- what is known at a next model
abbrev Tried : (r : Rounds) → List ℕ → ℕ → Option ℕ → Type 0
Tried r path lock next = AreTried (is_before r.sought.order.now) r.sought.mode r.grain r.sought.len (edges_of_table r.sought.table.now) r.flags.items path lock next

-- the model at the next position is there
pub may_close-may_close_by-requires : goal.may_close-may_close_by-requires
may_close-may_close_by-requires t c =
    let r = c.args.self.now in
    let last = last_edge r c.args.path.now c.requires.within c.requires.some in
    let had : Tried r c.args.path.now last.0.wanted (Some c.in-Some.i) = subst (Tried r c.args.path.now last.0.wanted) c.in-Some.is (c.loop-next.invariant.tried last.0 last.1) in
    let long = length-map r.sought.table.now (λ pair. pair.0) in
    let short = c.if-path-ge-LONGEST.false in (
      search rules,
      (
        c.requires.some,
        (
          omega (arith, short),
          (
            c.requires.within,
            (
              omega (arith, had.holds.0, long),
              c.requires.models,
            ),
          ),
        ),
      ),
    )

pub may_close-after-next-requires : goal.may_close-after-next-requires
may_close-after-next-requires t c =
    let r = c.args.self.now in
    let last = last_edge r c.args.path.now c.requires.within c.requires.some in
    let had : Tried r c.args.path.now last.0.wanted (Some c.in-Some.i) = subst (Tried r c.args.path.now last.0.wanted) c.in-Some.is (c.loop-next.invariant.tried last.0 last.1) in
    omega (arith, had.holds.0, c.requires.models.indexed.as_long, r.index.next.ok.0)

-- fewer positions are left behind a later model
closer : (n m i : ℕ) (now next : Option ℕ) → m ≡ n → now ≡ Some i → i < unwrap_or next m → unwrap_or next m ≤ m → n - unwrap_or next n < n - unwrap_or now n
closer n m i now next same is before within =
    let here : unwrap_or now n ≡ i = ap (λ o. unwrap_or o n) is in
    let there : unwrap_or next m ≡ unwrap_or next n = ap (unwrap_or next) same in
    omega arith

pub may_close-loop-next-smaller : goal.may_close-loop-next-smaller
may_close-loop-next-smaller t c =
    let r = c.args.self.now in
    let edges = edges_of_table r.sought.table.now in
    let last = last_edge r c.args.path.now c.requires.within c.requires.some in
    let had : Tried r c.args.path.now last.0.wanted (Some c.in-Some.i) = subst (Tried r c.args.path.now last.0.wanted) c.in-Some.is (c.loop-next.invariant.tried last.0 last.1) in
    let here = element_at edges c.in-Some.i had.holds.0 in
    let is = c.after-next.ensures edges r.flags.items here.0 c.requires.models.indexed here.1 in
    closer (length r.sought.table.now) (length edges) c.in-Some.i c.loop-next.next c.after-next.result (length-map r.sought.table.now (λ pair. pair.0)) c.in-Some.is (let later = is.from in omega arith) is.within

pub may_close-loop-next-preserved : goal.may_close-loop-next-preserved
may_close-loop-next-preserved t c = record {
  tried = λ e at.
      let r = c.args.self.now in
      let s = r.sought in
      let edges = edges_of_table s.table.now in
      let had : Tried r c.args.path.now e.wanted (Some c.in-Some.i) = subst (Tried r c.args.path.now e.wanted) c.in-Some.is (c.loop-next.invariant.tried e at) in
      let here = element_at edges c.in-Some.i had.holds.0 in
      tried_more (is_before s.order.now) s.mode c.args.self.now.grain s.len edges r.flags.items c.args.path.now e.wanted c.in-Some.i c.after-next.result had (c.may_close_by.ensures.none c.if-may_close_by.false)
      (subst (λ lock. IsNextWith held_lock edges r.flags.items lock (c.in-Some.i + 1) c.after-next.result) (had.holds.1 here.0 here.1) (c.after-next.ensures edges r.flags.items here.0 c.requires.models.indexed here.1));
  spent = omega (arith, c.loop-next.invariant.spent, c.may_close_by.ensures.spent);
}

pub may_close-returns-clause-none : goal.may_close-returns-clause-none
may_close-returns-clause-none t c = λ no.
    let s = c.args.self.now.sought in
    let last = element_at (edges_of_table s.table.now) (get_or c.args.path.now (length c.args.path.now - 1) 0) (within_edges s.table.now c.args.path.now c.requires.within (length c.args.path.now - 1) 0 (omega (arith, c.requires.some))) in
    none_after (is_before s.order.now) s.mode c.args.self.now.grain s.len (edges_of_table s.table.now) c.args.self.now.flags.items c.args.path.now (get_or c.args.path.now (length c.args.path.now - 1) 0) last.0 c.requires.some
    (within_edges s.table.now c.args.path.now c.requires.within) (slice_get-get_or c.args.path.now (length c.args.path.now - 1) 0 (omega (arith, c.requires.some))) last.1 c.requires.models.models
    (c.is_closed.ensures c.if-is_closed.false)
    (subst (AreTried (is_before s.order.now) s.mode c.args.self.now.grain s.len (edges_of_table s.table.now) c.args.self.now.flags.items c.args.path.now last.0.wanted) c.in_default.is (c.loop-next.invariant.tried last.0 last.1))

pub may_close_by-returns-then-not-can_join-clause-none : goal.may_close_by-returns-then-not-can_join-clause-none
may_close_by-returns-then-not-can_join-clause-none t c = λ no.
    let s = c.args.self.now.sought in
    let here = element_at (edges_of_table s.table.now) c.args.next (omega (arith, c.requires.there, length-map s.table.now (λ pair. pair.0))) in
    none_joins (is_before s.order.now) s.mode c.args.self.now.grain s.len (edges_of_table s.table.now) c.args.self.now.flags.items c.args.path.now c.args.next here.0 c.requires.some here.1 (c.can_join.ensures c.if-not-can_join.true here.0 here.1)

pub may_close_by-returns-clause-none : goal.may_close_by-returns-clause-none
may_close_by-returns-clause-none t c = λ no.
    let s = c.args.self.now.sought in
    subst (NoCycleThrough (is_before s.order.now) s.mode c.args.self.now.grain s.len (edges_of_table s.table.now)) (c.as_slice.ensures.value ∙ c.longer_path-longer.ensures) (c.may_close.ensures.none no)
