use Rattle.std.proofs.Common.{[], ◌∷◌, ◌++◌, length, take, get_or, ap, subst, ◌∙◌, arith}
use Rattle.std.specs.HashSet.{contains}
use Rattle.std.proofs.lemmas.List.{length-map, length-take-le, length_push, take_all}
use Rattle.gl_grounds.specs.Classes.{class_of, are_places}
use Rattle.gl_findings.specs.bodies.Tallies.{AreCounted, noted_by, locks_of}
use Rattle.gl_findings.proofs.ClassNumbers.{class_below, few_noted, locks_noted}
use Rattle.gl_findings.proofs.Tallied.{tally_few}
use Rattle.std.proofs.lemmas.Result.{err_from_is_err_and}
use Rattle.gl_findings.proofs.counts.locks_by_class.Goals as goal

pub returns-in_err-counts-clause-long : goal.returns-in_err-counts-clause-long
returns-in_err-counts-clause-long c =
    let p = err_from_is_err_and c.from_residual.result c.from_residual.ensures.1 in
    rw p.1 tt

pub returns-in_err-counts-clause-counted : goal.returns-in_err-counts-clause-counted
returns-in_err-counts-clause-counted c =
    let p = err_from_is_err_and c.from_residual.result c.from_residual.ensures.1 in
    rw p.1 tt

pub returns-in_err-note-clause-long : goal.returns-in_err-note-clause-long
returns-in_err-note-clause-long c =
    let p = err_from_is_err_and c.from_residual-in_err-note.result c.from_residual-in_err-note.ensures.1 in
    rw p.1 tt

pub returns-in_err-note-clause-counted : goal.returns-in_err-note-clause-counted
returns-in_err-note-clause-counted c =
    let p = err_from_is_err_and c.from_residual-in_err-note.result c.from_residual-in_err-note.ensures.1 in
    rw p.1 tt

pub returns-in_err-note-2-clause-long : goal.returns-in_err-note-2-clause-long
returns-in_err-note-2-clause-long c =
    let p = err_from_is_err_and c.from_residual-in_err-note-2.result c.from_residual-in_err-note-2.ensures.1 in
    rw p.1 tt

pub returns-in_err-note-2-clause-counted : goal.returns-in_err-note-2-clause-counted
returns-in_err-note-2-clause-counted c =
    let p = err_from_is_err_and c.from_residual-in_err-note-2.result c.from_residual-in_err-note-2.ensures.1 in
    rw p.1 tt

pub bounds-classes-i : goal.bounds-classes-i
bounds-classes-i c = omega (arith, c.loop-i-test.true, ap length c.requires, length-map c.args.table.now (class_of c.args.table.now))

pub bounds-classes-i-in-loop-i : goal.bounds-classes-i-in-loop-i
bounds-classes-i-in-loop-i c = omega (arith, c.loop-i-test.true, ap length c.requires, length-map c.args.table.now (class_of c.args.table.now))

pub note-requires-clause-there : goal.note-requires-clause-there
note-requires-clause-there c = omega (arith, c.loop-i.invariant.long, class_below c.args.table.now c.args.classes.now c.requires c.loop-i.i c.loop-i-test.true)

pub note-requires-clause-small : goal.note-requires-clause-small
note-requires-clause-small c = λ count at.
    let table = c.args.table.now in
    let noted = noted_by locks_of table (take c.loop-i.i table) in
    let few = few_noted locks_of table (take c.loop-i.i table) (λ pair. omega arith) in
    let most = tally_few noted (contains are_places c.loop-i.seen) c.loop-i.counts.items (get_or c.args.classes.now c.loop-i.i 0) count c.loop-i.invariant.tally at in
    omega (arith, most, few, length-take-le c.loop-i.i table (omega arith), c.loop-i-test.true, c.loop-i.invariant.long, c.loop-i.counts.ok, c.loop-i.counts.small)

pub note-requires-in-loop-i-clause-there : goal.note-requires-in-loop-i-clause-there
note-requires-in-loop-i-clause-there c =
    omega (arith, c.in_ok-note.ensures.long, c.loop-i.invariant.long, class_below c.args.table.now c.args.classes.now c.requires c.loop-i.i c.loop-i-test.true)

pub note-requires-in-loop-i-clause-small : goal.note-requires-in-loop-i-clause-small
note-requires-in-loop-i-clause-small c = λ count at.
    let table = c.args.table.now in
    let class = get_or c.args.classes.now c.loop-i.i 0 in
    let noted = noted_by locks_of table (take c.loop-i.i table) in
    let few = few_noted locks_of table (take c.loop-i.i table) (λ pair. omega arith) in
    let tally = c.in_ok-note.ensures.tally noted c.loop-i.invariant.tally in
    let most = tally_few (noted ++ (class, c.number.result) ∷ []) (contains are_places c.note.new.seen) c.note.new.counts.items class count tally at in
    omega (arith, most, few, length_push noted (class, c.number.result), length-take-le c.loop-i.i table (omega arith), c.loop-i-test.true, c.loop-i.invariant.long, c.loop-i.counts.ok, c.loop-i.counts.small)

pub loop-i-preserved : goal.loop-i-preserved
loop-i-preserved c =
    let table = c.args.table.now in
    let class = get_or c.args.classes.now c.loop-i.i 0 in
    let noted = noted_by locks_of table (take c.loop-i.i table) in
    let first = c.in_ok-note.ensures.tally noted c.loop-i.invariant.tally in
    record {
      long = c.in_ok-note-2.ensures.long ∙ c.in_ok-note.ensures.long ∙ c.loop-i.invariant.long;
      tally = locks_noted table c.args.classes.now c.requires c.loop-i.i c.loop-i-test.true (contains are_places c.note-in-loop-i.new.seen) c.note-in-loop-i.new.counts.items c.index-table-i.result _ _
          c.number.ensures c.number-in-loop-i.ensures
          (c.in_ok-note-2.ensures.tally (noted ++ (class, c.number.result) ∷ []) first);
    }

pub returns-clause-long : goal.returns-clause-long
returns-clause-long c = c.loop-i.invariant.long

pub returns-clause-counted : goal.returns-clause-counted
returns-clause-counted c =
    let table = c.args.table.now in
    subst (λ pairs. AreCounted (noted_by locks_of table pairs) c.loop-i.counts.items) (take_all c.loop-i.i table (omega (arith, c.loop-i-test.false))) c.loop-i.invariant.tally.counted
