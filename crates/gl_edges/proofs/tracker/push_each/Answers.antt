use Rattle.std.proofs.Common.{[], ◌∷◌, ◌++◌, length, map, refl, sym, ap, ◌∙◌, subst, arith}
use Rattle.std.specs.Prelude.{Contains, ◌==◌}
use Rattle.std.proofs.lemmas.Bool.{false≢true}
use Rattle.std.proofs.lemmas.List.{append-nil, length_push, take_all}
use Rattle.std.proofs.lemmas.List.Elements.{Contains-append_left, Contains-push}
use Rattle.gl_edges.specs.Edges.{pair_at}
use Rattle.gl_edges.specs.declared.guards.Guard.{Guard}
use Rattle.gl_edges.proofs.Holding.{entry_there}
use Rattle.gl_edges.proofs.Steps.{nothing_there, pairs_more, pairs_all, pairs_last, kept_more}
use Rattle.gl_edges.proofs.tracker.push_each.Goals as goal

pub returns-in_default-clause-pushed : goal.returns-in_default-clause-pushed
returns-in_default-clause-pushed c = λ es stands.
    let guarded = c.as_slice.ensures.locks ∙ c.requires.guarded in
    let none = nothing_there c.as_slice.result.now (ap (λ n. n == 0) c.in_default.ensures.cases) in
    sym (append-nil c.args.made.now.items)
    ∙ ap (λ ps. c.args.made.now.items ++ ps) (ap (map (λ (g : Guard). pair_at c.args.thread es c.args.wanted c.args.mode c.args.loc g.lock)) (sym none)
    ∙ pairs_all c.args.thread es (record { thread = c.args.thread; state = c.args.state.now }) (record { of_thread = refl; stands = stands }) c.args.wanted c.args.mode c.args.loc c.as_slice.result.now guarded)

pub pair_to-requires : goal.pair_to-requires
pair_to-requires c =
    let whole = sym c.in-Some.ensures.cases.0 ∙ c.as_slice.ensures.locks ∙ c.requires.guarded in
    let there = Contains-append_left c.in-Some.others.now (c.in-Some.last.now ∷ []) c.guard-item.result (c.loop-guard.guard-index, c.loop-guard-test.true, sym c.guard-item.is) in
    entry_there c.args.state.now.held c.guard-item.result (subst (λ locks. Contains locks c.guard-item.result) whole there)

pub pair_to-requires-2 : goal.pair_to-requires-2
pair_to-requires-2 c =
    let whole = sym c.in-Some.ensures.cases.0 ∙ c.as_slice.ensures.locks ∙ c.requires.guarded in
    let there = Contains-push c.in-Some.others.now c.in-Some.last.now in
    entry_there c.args.state.now.held c.in-Some.last.now (subst (λ locks. Contains locks c.in-Some.last.now) whole there)

-- what was reserved is enough for an edge of each guard
pub loop-guard-init : goal.loop-guard-init
loop-guard-init c =
    let parts = ap length (sym c.as_slice.ensures.locks ∙ c.in-Some.ensures.cases.0) in
    let whole = length_push c.in-Some.others.now c.in-Some.last.now in (
      λ es stands. sym (append-nil c.args.made.now.items),
      take_all (length c.args.made.now.items) c.args.made.now.items (omega arith),
      omega (arith, parts, whole, c.requires.reserved),
    )

pub returns-in_err-copy-clause-in_place : goal.returns-in_err-copy-clause-in_place
returns-in_err-copy-clause-in_place c = λ few. absurd (false≢true (c.in_err-copy.ensures.in_place few))

pub push_reserved-requires : goal.push_reserved-requires
push_reserved-requires c = omega (arith, c.loop-guard.invariant.2, c.loop-guard-test.true)

pub push_reserved-requires-2 : goal.push_reserved-requires-2
push_reserved-requires-2 c = omega (arith, c.loop-guard.invariant.2, c.loop-guard-test.false)

pub loop-guard-preserved : goal.loop-guard-preserved
loop-guard-preserved c = (
  λ es stands.
      let guarded = c.in_ok-copy.ensures.same ∙ c.requires.guarded in
      c.push_reserved.ensures.items
      ∙ pairs_more c.args.thread es (record { thread = c.args.thread; state = c.args.state.now }) (record { of_thread = refl; stands = stands }) c.args.wanted c.args.mode c.args.loc c.args.made.now.items c.loop-guard.made.items c.in-Some.others.now c.loop-guard.guard-index c.guard-item.result c.pair_to.result
      c.loop-guard-test.true c.guard-item.is (c.pair_to.ensures es stands guarded) (c.loop-guard.invariant.0 es stands),
  rw c.push_reserved.ensures.items (kept_more c.args.made.now.items c.loop-guard.made.items c.pair_to.result c.loop-guard.invariant.1),
  omega (arith, c.push_reserved.ensures.len, c.push_reserved.ensures.capacity, c.loop-guard.invariant.2),
)

pub returns-clause-pushed : goal.returns-clause-pushed
returns-clause-pushed c = λ es stands.
    c.push_reserved-2.ensures.items
    ∙ pairs_last c.args.thread es (record { thread = c.args.thread; state = c.args.state.now }) (record { of_thread = refl; stands = stands }) c.args.wanted c.args.mode c.args.loc c.args.made.now.items c.loop-guard.made.items c.as_slice.result.now c.in-Some.others.now c.loop-guard.guard-index c.in-Some.last.now c.pair_to-2.result
    (c.as_slice.ensures.locks ∙ c.requires.guarded) c.in-Some.ensures.cases.0 c.loop-guard-test.false (c.loop-guard.invariant.0 es stands) (c.pair_to-2.ensures es stands c.requires.guarded)
