use Rattle.std.proofs.Common.{◌≤◌, ◌++◌, length, map, refl, subst, sym, ap, ◌∙◌, arith}
use Rattle.std.proofs.lemmas.List.{append-nil}
use Rattle.gl_event.specs.Events.{held}
use Rattle.gl_event.specs.Standing.{StandsFor}
use Rattle.gl_edges.specs.Edges.{pair_at}
use Rattle.gl_edges.proofs.Guarding.{guards_few}
use Rattle.gl_edges.proofs.Steps.{nothing_there, none_held}
use Rattle.gl_edges.proofs.tracker.push_edges.Goals as goal

pub returns-then-is_empty-clause-pushed : goal.returns-then-is_empty-clause-pushed
returns-then-is_empty-clause-pushed c = λ es stands.
    let none = sym c.entries-entries.ensures ∙ nothing_there c.entries-entries.result.now (sym c.is_empty.ensures ∙ c.if-is_empty.true) in
    sym (append-nil c.args.made.now.items)
    ∙ ap (λ locks. c.args.made.now.items ++ map (pair_at c.args.thread es c.args.wanted c.args.mode c.args.loc) locks) (sym (none_held es (held es) refl (subst (StandsFor es) none stands.held)))

-- a lock has one guard at most
pub push_each-requires-clause-reserved : goal.push_each-requires-clause-reserved
push_each-requires-clause-reserved c =
    let few = subst (λ gs. length gs ≤ length c.entries-entries.result.now) (sym c.in_ok-refill.ensures.guards) (guards_few c.entries-entries.result.now) in
    omega (arith, few, c.in_ok-reserve.ensures.ok)

pub returns-clause-in_place : goal.returns-clause-in_place
returns-clause-in_place c = λ room.
    let few = subst (λ gs. length gs ≤ length c.entries-entries.result.now) (sym c.in_ok-refill.ensures.guards) (guards_few c.entries-entries.result.now) in
    let held = ap length c.entries-entries.ensures in
    c.push_each.ensures.in_place (omega (arith, few, held, room.0))
