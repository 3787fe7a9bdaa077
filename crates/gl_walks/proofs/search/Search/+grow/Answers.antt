use Rattle.std.proofs.Common.{◌≡◌, refl, ℕ, ◌+◌, ◌<◌, List, [], ◌∷◌, ◌++◌, length, sym, ap, subst, ◌∙◌, arith, rules}
use Rattle.std.specs.Prelude.{MatchOption}
use Rattle.std.proofs.lemmas.List.{length-map, length_push}
use Rattle.gl_filters.specs.Picked.{edges_of_table, picked}
use Rattle.gl_walks.specs.declared.purpose.Purpose.{Purpose}
use Rattle.gl_walks.specs.declared.search.Search.{Search}
use Rattle.gl_walks.specs.bodies.Fronts.{Sought, sought_by, IsEven, NoneFrom, IsLeastFrom, HasPassed, IsFront, key_after, may_follow}
use Rattle.gl_walks.proofs.Ends.{even_by}
use Rattle.gl_walks.proofs.Places.{element_at}
use Rattle.gl_walks.proofs.Steps.{none_stray, none_closed, passed_first, passed_more, passed_all, least_here, longer_front, whole_walk, whole_none, closer}
use Rattle.gl_walks.proofs.search.Search.+grow.Goals as goal

-- what is looked for
abbrev sought : Search → Purpose → List ℕ → Sought
sought search purpose pattern = sought_by search.area purpose pattern

even : (search : Search) (purpose : Purpose) (pattern : List ℕ) → IsEven (sought search purpose pattern)
even search purpose pattern = even_by search.area purpose pattern search.by_class search.by_lock search.indexed

-- the path is as long as the pattern, but no walk
pub grow-returns-then-not-may_end-clause-found : goal.grow-returns-then-not-may_end-clause-found
grow-returns-then-not-may_end-clause-found t c = whole_none (sought c.args.self.now c.args.purpose c.args.pattern.now) c.args.path.now (omega (arith, c.requires.front.short)) (sym c.if-not-may_end.ensures)

-- it is the walk
pub grow-returns-then-path-pattern-clause-found : goal.grow-returns-then-path-pattern-clause-found
grow-returns-then-path-pattern-clause-found t c =
    let s = sought c.args.self.now c.args.purpose c.args.pattern.now in
    subst (IsLeastFrom s c.args.path.now) (sym c.in_ok-walk.ensures.items) (whole_walk s c.args.path.now (omega (arith, c.requires.front.short)) c.requires.front (sym c.if-not-may_end.ensures))

-- the path is closed too early
pub grow-returns-then-is_closed-clause-found : goal.grow-returns-then-is_closed-clause-found
grow-returns-then-is_closed-clause-found t c =
    none_closed (sought c.args.self.now c.args.purpose c.args.pattern.now) (even c.args.self.now c.args.purpose c.args.pattern.now) c.args.path.now (omega (arith, c.requires.front.short)) (sym c.if-is_closed.ensures)

-- before the first edge
pub grow-loop-next-init : goal.grow-loop-next-init
grow-loop-next-init t c = (passed_first (sought c.args.self.now c.args.purpose c.args.pattern.now) (even c.args.self.now c.args.purpose c.args.pattern.now) c.args.path.now _ c.requires.front (c.begin-next.ensures c.args.purpose), omega arith)

-- the call for one edge
pub grow-grow_by-requires : goal.grow-grow_by-requires
grow-grow_by-requires t c =
    let has = c.loop-next.invariant.0.has c.in-Some.i c.in-Some.is in (
      search rules,
      (c.requires.fits, (omega (arith, c.requires.front.short), (c.requires.front, (omega (arith, has.0, length-map c.args.self.now.area.table.now (λ pair. pair.0)), has.1)))),
    )

-- a walk was found
pub grow-returns-in-Some-2-clause-found : goal.grow-returns-in-Some-2-clause-found
grow-returns-in-Some-2-clause-found t c =
    let s = sought c.args.self.now c.args.purpose c.args.pattern.now in
    let path = c.args.path.now in
    let i = c.in-Some.i in
    least_here s (even c.args.self.now c.args.purpose c.args.pattern.now) path i _ (omega (arith, c.requires.front.short)) (subst (HasPassed s path) c.in-Some.is c.loop-next.invariant.0)
    (subst (λ o. MatchOption o (NoneFrom s (path ++ i ∷ [])) (λ walk. IsLeastFrom s (path ++ i ∷ []) walk.items)) c.in-Some-2.is c.in_ok-walk-2.ensures.found)

-- the edge is in the index
pub grow-after-next-requires : goal.grow-after-next-requires
grow-after-next-requires t c =
    let has = c.loop-next.invariant.0.has c.in-Some.i c.in-Some.is in
    omega (arith, has.0, length-map c.args.self.now.area.table.now (λ pair. pair.0))

-- fewer positions are left behind a later one
pub grow-loop-next-smaller : goal.grow-loop-next-smaller
grow-loop-next-smaller t c =
    let table = c.args.self.now.area.table.now in
    let has = c.loop-next.invariant.0.has c.in-Some.i c.in-Some.is in
    let later = c.after-next.ensures c.args.purpose c.args.pattern.now (key_after (sought c.args.self.now c.args.purpose c.args.pattern.now) c.args.path.now) has.1 in
    let from = later.from in
    closer (length table) (length (edges_of_table table)) c.in-Some.i c.loop-next.next c.after-next.result (length-map table (λ pair. pair.0)) c.in-Some.is (omega arith) later.within

-- no walk goes on with the edge
pub grow-loop-next-preserved : goal.grow-loop-next-preserved
grow-loop-next-preserved t c =
    let s = sought c.args.self.now c.args.purpose c.args.pattern.now in
    let path = c.args.path.now in
    let i = c.in-Some.i in
    let has = c.loop-next.invariant.0.has i c.in-Some.is in
    let fewer = c.grow_by.ensures.fewer in
    let before = c.loop-next.invariant.1 in (
      passed_more s (even c.args.self.now c.args.purpose c.args.pattern.now) path i _ c.requires.front (subst (HasPassed s path) c.in-Some.is c.loop-next.invariant.0)
          (subst (λ o. MatchOption o (NoneFrom s (path ++ i ∷ [])) (λ walk. IsLeastFrom s (path ++ i ∷ []) walk.items)) c.in_default-2.is c.in_ok-walk-2.ensures.found)
          (c.after-next.ensures c.args.purpose c.args.pattern.now (key_after s path) has.1),
      omega (arith, before, fewer),
    )

-- none goes on with any
pub grow-returns-clause-found : goal.grow-returns-clause-found
grow-returns-clause-found t c =
    let s = sought c.args.self.now c.args.purpose c.args.pattern.now in
    passed_all s (even c.args.self.now c.args.purpose c.args.pattern.now) c.args.path.now (subst (HasPassed s c.args.path.now) c.in_default.is c.loop-next.invariant.0) (omega (arith, c.requires.front.short))

-- the edge may not follow
pub grow_by-returns-then-not-may_follow-clause-found : goal.grow_by-returns-then-not-may_follow-clause-found
grow_by-returns-then-not-may_follow-clause-found t c =
    let s = sought c.args.self.now c.args.purpose c.args.pattern.now in
    let here = element_at s.edges c.args.next (omega (arith, c.requires.there, length-map c.args.self.now.area.table.now (λ pair. pair.0))) in
    let stray = sym {b = may_follow s.purpose s.before s.mode (picked s.edges c.args.path.now) here.0} (c.if-not-may_follow.ensures here.0 here.1) in
    none_stray s (even c.args.self.now c.args.purpose c.args.pattern.now) c.args.path.now c.args.next here.0 here.1 stray

-- the call for the longer path
pub grow_by-grow-requires : goal.grow_by-grow-requires
grow_by-grow-requires t c =
    let s = sought c.args.self.now c.args.purpose c.args.pattern.now in
    let longer = c.as_slice.ensures.value ∙ c.longer_path-longer.ensures in
    let long : length c.as_slice.result.now ≡ length c.args.path.now + 1 = ap length longer ∙ length_push c.args.path.now c.args.next in
    let within : c.args.next < length s.edges = omega (arith, c.requires.there, length-map c.args.self.now.area.table.now (λ pair. pair.0)) in
    let here = element_at s.edges c.args.next within in
    let follows = sym {b = may_follow s.purpose s.before s.mode (picked s.edges c.args.path.now) here.0} (c.if-not-may_follow.ensures here.0 here.1) in (
      omega (arith, long, c.requires.short),
      (
        c.requires.fits,
        subst (IsFront s) (sym longer)
            (longer_front s (even c.args.self.now c.args.purpose c.args.pattern.now) c.args.path.now c.args.next here.0 c.requires.short c.requires.front within c.requires.has here.1 follows),
      ),
    )

-- the edge would be the last one, and doesn't lead back
pub grow_by-returns-then-not-may_be_last-clause-found : goal.grow_by-returns-then-not-may_be_last-clause-found
grow_by-returns-then-not-may_be_last-clause-found t c =
    whole_none (sought c.args.self.now c.args.purpose c.args.pattern.now) (c.args.path.now ++ c.args.next ∷ []) (omega (arith, length_push c.args.path.now c.args.next)) (c.if-not-may_be_last.ensures refl)
