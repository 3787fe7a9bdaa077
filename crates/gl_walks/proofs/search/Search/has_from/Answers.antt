use Rattle.std.proofs.Common.{ℕ, List, length, Some, sym, subst, arith}
use Rattle.std.proofs.lemmas.List.{length-map}
use Rattle.std.proofs.lemmas.Option.{unwrap_or-slice_get}
use Rattle.gl_filters.specs.Picked.{edges_of_table}
use Rattle.gl_walks.specs.declared.keys.Keyed.TheVariants.{ByLock}
use Rattle.gl_walks.specs.declared.purpose.Purpose.{Purpose}
use Rattle.gl_walks.specs.declared.search.Search.{Search}
use Rattle.gl_walks.specs.bodies.Listing.{IsNext, key_at}
use Rattle.gl_walks.specs.bodies.Fronts.{Sought, sought_by, HasPassedFrom, start_key}
use Rattle.gl_walks.proofs.Ends.{even_by}
use Rattle.gl_walks.proofs.Steps.{front_none, starts, passed_none, passed_one, passed_each, begins_from, closer, where_none, where_some}
use Rattle.gl_walks.proofs.search.Search.has_from.Goals as goal

-- what is looked for
abbrev sought : Search → Purpose → List ℕ → Sought
sought search purpose pattern = sought_by search.area purpose pattern

-- before the first edge
pub loop-next-init : goal.loop-next-init
loop-next-init c =
    let s = c.args.self.now in
    let edges = edges_of_table s.area.table.now in
    let keys = key_at ByLock edges s.area.classes.now s.area.flags.now in
    let first = c.begin-next.ensures keys (length edges) s.indexed.through_locks in
    (passed_none (sought s c.args.purpose c.args.pattern.now) c.args.lock _ (subst (λ (n : ℕ). IsNext keys (length edges) (n, Some c.args.lock) 0 c.begin-next.result) (sym (unwrap_or-slice_get c.args.pattern.now 0 0)) first), omega arith)

-- the call for one edge
pub grow_by-requires-clause-front : goal.grow_by-requires-clause-front
grow_by-requires-clause-front c = front_none (sought c.args.self.now c.args.purpose c.args.pattern.now)

pub grow_by-requires-clause-there : goal.grow_by-requires-clause-there
grow_by-requires-clause-there c =
    let has = c.loop-next.invariant.0.has c.in-Some.i c.in-Some.is in
    omega (arith, has.0, length-map c.args.self.now.area.table.now (λ pair. pair.0))

pub grow_by-requires-clause-has : goal.grow_by-requires-clause-has
grow_by-requires-clause-has c =
    let has = c.loop-next.invariant.0.has c.in-Some.i c.in-Some.is in
    starts (sought c.args.self.now c.args.purpose c.args.pattern.now) c.args.lock c.in-Some.i has.1

-- a walk was found
pub returns-then-is_some-clause-has : goal.returns-then-is_some-clause-has
returns-then-is_some-clause-has c = λ same.
    let has = c.loop-next.invariant.0.has c.in-Some.i c.in-Some.is in
    let found = where_some _ _ _ c.in_ok-grow_by.ensures.found (sym c.if-is_some.ensures) in
    begins_from (sought c.args.self.now c.args.purpose c.args.pattern.now) c.args.lock c.in-Some.i _ has.1 found.1

-- the edge is in the index
pub after-next-requires : goal.after-next-requires
after-next-requires c =
    let has = c.loop-next.invariant.0.has c.in-Some.i c.in-Some.is in
    let long = c.args.self.now.indexed.through_locks.long in
    omega (arith, has.0, long, length-map c.args.self.now.area.table.now (λ pair. pair.0))

-- fewer positions are left behind a later one
pub loop-next-smaller : goal.loop-next-smaller
loop-next-smaller c =
    let s = c.args.self.now in
    let table = s.area.table.now in
    let edges = edges_of_table table in
    let has = c.loop-next.invariant.0.has c.in-Some.i c.in-Some.is in
    let later = c.after-next.ensures (key_at ByLock edges s.area.classes.now s.area.flags.now) (length edges) (start_key (sought s c.args.purpose c.args.pattern.now) c.args.lock) s.indexed.through_locks has.1 in
    let from = later.from in
    closer (length table) (length edges) c.in-Some.i c.loop-next.next c.after-next.result (length-map table (λ pair. pair.0)) c.in-Some.is (omega arith) later.within

-- no walk begins with the edge
pub loop-next-preserved : goal.loop-next-preserved
loop-next-preserved c =
    let s = c.args.self.now in
    let w = sought s c.args.purpose c.args.pattern.now in
    let edges = edges_of_table s.area.table.now in
    let i = c.in-Some.i in
    let has = c.loop-next.invariant.0.has i c.in-Some.is in
    let none = where_none _ _ _ c.in_ok-grow_by.ensures.found (sym c.if-is_some.ensures) in
    let fewer = c.grow_by.ensures.fewer in
    let before = c.loop-next.invariant.1 in (
      passed_one w c.args.lock i _ (subst (HasPassedFrom w c.args.lock) c.in-Some.is c.loop-next.invariant.0) none
          (c.after-next.ensures (key_at ByLock edges s.area.classes.now s.area.flags.now) (length edges) (start_key w c.args.lock) s.indexed.through_locks has.1),
      omega (arith, before, fewer),
    )

-- none begins with any
pub returns-clause-none : goal.returns-clause-none
returns-clause-none c = λ same.
    let s = c.args.self.now in
    let w = sought s c.args.purpose c.args.pattern.now in
    passed_each w c.args.lock (even_by s.area c.args.purpose c.args.pattern.now s.by_class s.by_lock s.indexed) (subst (HasPassedFrom w c.args.lock) c.in_default.is c.loop-next.invariant.0) c.requires.some
