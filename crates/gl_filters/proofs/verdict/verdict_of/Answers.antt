use Rattle.std.proofs.Common.{◌≤◌, length, arith, ap, sym, ◌∙◌}
use Rattle.gl_filters.specs.Picked.{edges_of_table, picked}
use Rattle.gl_filters.specs.Cycle.{asks_guards, asks_order}
use Rattle.gl_filters.proofs.Judged.{picked_length}
use Rattle.gl_filters.proofs.verdict.verdict_of.Goals as goal

pub returns-then-cycle-len : goal.returns-then-cycle-len
returns-then-cycle-len c =
    let same = picked_length c.args.table.now c.args.cycle.now c.requires in
    let two : 2 ≤ length (picked (edges_of_table c.args.table.now) c.args.cycle.now) = omega (arith, same, c.if-cycle-lt2.false) in
    (two, omega (arith, same, c.if-cycle-len.true, c.len.ensures.value))

pub returns-in-Some : goal.returns-in-Some
returns-in-Some c =
    let same = picked_length c.args.table.now c.args.cycle.now c.requires in
    let two : 2 ≤ length (picked (edges_of_table c.args.table.now) c.args.cycle.now) = omega (arith, same, c.if-cycle-lt2.false) in
    let short : length (picked (edges_of_table c.args.table.now) c.args.cycle.now) ≤ c.args.query.now.len = omega (arith, same, c.if-cycle-len.false, c.len.ensures.value) in
    ((two, short), c.in-Some.ensures)

pub returns-in-Some-first_pair : goal.returns-in-Some-first_pair
returns-in-Some-first_pair c =
    let same = picked_length c.args.table.now c.args.cycle.now c.requires in
    let two : 2 ≤ length (picked (edges_of_table c.args.table.now) c.args.cycle.now) = omega (arith, same, c.if-cycle-lt2.false) in
    let short : length (picked (edges_of_table c.args.table.now) c.args.cycle.now) ≤ c.args.query.now.len = omega (arith, same, c.if-cycle-len.false, c.len.ensures.value) in
    (((two, short), c.in_default.ensures), c.in-Some-first_pair.ensures)

pub returns-in-Some-first_pair-2 : goal.returns-in-Some-first_pair-2
returns-in-Some-first_pair-2 c =
    let same = picked_length c.args.table.now c.args.cycle.now c.requires in
    let two : 2 ≤ length (picked (edges_of_table c.args.table.now) c.args.cycle.now) = omega (arith, same, c.if-cycle-lt2.false) in
    let short : length (picked (edges_of_table c.args.table.now) c.args.cycle.now) ≤ c.args.query.now.len = omega (arith, same, c.if-cycle-len.false, c.len.ensures.value) in
    ((((two, short), c.in_default.ensures), c.in_default-first_pair.ensures), c.in-Some-first_pair-2.ensures)

pub returns-in-Some-first_lesser : goal.returns-in-Some-first_lesser
returns-in-Some-first_lesser c =
    let same = picked_length c.args.table.now c.args.cycle.now c.requires in
    let two : 2 ≤ length (picked (edges_of_table c.args.table.now) c.args.cycle.now) = omega (arith, same, c.if-cycle-lt2.false) in
    let short : length (picked (edges_of_table c.args.table.now) c.args.cycle.now) ≤ c.args.query.now.len = omega (arith, same, c.if-cycle-len.false, c.len.ensures.value) in
    (((((two, short), c.in_default.ensures), c.in_default-first_pair.ensures), c.in_default-first_pair-2.ensures), c.in-Some-first_lesser.ensures)

pub returns-in-Some-first_pair_where : goal.returns-in-Some-first_pair_where
returns-in-Some-first_pair_where c =
    let same = picked_length c.args.table.now c.args.cycle.now c.requires in
    let two : 2 ≤ length (picked (edges_of_table c.args.table.now) c.args.cycle.now) = omega (arith, same, c.if-cycle-lt2.false) in
    let short : length (picked (edges_of_table c.args.table.now) c.args.cycle.now) ≤ c.args.query.now.len = omega (arith, same, c.if-cycle-len.false, c.len.ensures.value) in
    let asked = c.asks_guards-guards.ensures ∙ ap asks_guards c.mode-mode.ensures.value in
    ((((((two, short), c.in_default.ensures), c.in_default-first_pair.ensures), c.in_default-first_pair-2.ensures), c.in_default-first_lesser.ensures), sym asked ∙ c.in-Some-first_pair_where.ensures.0, c.in-Some-first_pair_where.ensures.1, c.guard_at.ensures)

pub returns-in-Some-first_pair_where-2 : goal.returns-in-Some-first_pair_where-2
returns-in-Some-first_pair_where-2 c =
    let same = picked_length c.args.table.now c.args.cycle.now c.requires in
    let two : 2 ≤ length (picked (edges_of_table c.args.table.now) c.args.cycle.now) = omega (arith, same, c.if-cycle-lt2.false) in
    let short : length (picked (edges_of_table c.args.table.now) c.args.cycle.now) ≤ c.args.query.now.len = omega (arith, same, c.if-cycle-len.false, c.len.ensures.value) in
    let asked = c.asks_guards-guards.ensures ∙ ap asks_guards c.mode-mode.ensures.value in
    let asked_order = c.asks_order-ordered.ensures ∙ ap asks_order c.mode-mode.ensures.value in
    (((((((two, short), c.in_default.ensures), c.in_default-first_pair.ensures), c.in_default-first_pair-2.ensures), c.in_default-first_lesser.ensures), (λ is. c.in_default-first_pair_where.ensures (asked ∙ is))), sym asked_order ∙ c.in-Some-first_pair_where-2.ensures.0, c.in-Some-first_pair_where-2.ensures.1)

pub returns : goal.returns
returns c =
    let same = picked_length c.args.table.now c.args.cycle.now c.requires in
    let two : 2 ≤ length (picked (edges_of_table c.args.table.now) c.args.cycle.now) = omega (arith, same, c.if-cycle-lt2.false) in
    let short : length (picked (edges_of_table c.args.table.now) c.args.cycle.now) ≤ c.args.query.now.len = omega (arith, same, c.if-cycle-len.false, c.len.ensures.value) in
    let asked = c.asks_guards-guards.ensures ∙ ap asks_guards c.mode-mode.ensures.value in
    let asked_order = c.asks_order-ordered.ensures ∙ ap asks_order c.mode-mode.ensures.value in
    (((((((two, short), c.in_default.ensures), c.in_default-first_pair.ensures), c.in_default-first_pair-2.ensures), c.in_default-first_lesser.ensures), (λ is. c.in_default-first_pair_where.ensures (asked ∙ is))), (λ is. c.in_default-first_pair_where-2.ensures (asked_order ∙ is)))
