use Rattle.std.proofs.Common.{arith, refl}
use Rattle.gl_filters.specs.Picked.{edges_of_table}
use Rattle.gl_exclusions.proofs.NotLonger.{not_longer}
use Rattle.gl_exclusions.proofs.exclusions.longest_by.Goals as goal

pub returns-clause-all : goal.returns-clause-all
returns-clause-all c = λ cycle among is.
    let sought = c.args.sought.now in
    let short = not_longer sought.order.now sought.mode sought.len (edges_of_table sought.table.now) c.args.kept.now c.requires.kept c.args.turns.now c.args.exclusions.now (c.if-not-have_all.ensures refl) (c.if-not-take_turns.ensures refl) cycle among is in
    omega (arith, short, c.max.ensures)
