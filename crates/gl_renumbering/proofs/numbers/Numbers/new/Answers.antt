use Rattle.std.proofs.Common.{sym, subst, arith}
use Rattle.gl_renumbering.specs.bodies.Tables.{StandsFor}
use Rattle.gl_renumbering.proofs.Tabled.{table_start}
use Rattle.gl_renumbering.proofs.numbers.Numbers.new.Goals as goal

pub returns-clause-stands : goal.returns-clause-stands
returns-clause-stands c =
    let names = c.args.names.now in
    let locks = c.in_ok-blank_table.field-0.items in
    let locations = c.in_ok-blank_table-2.field-0.items in
    subst (λ ns. StandsFor names ns locks locations) (sym c.in_ok-alone.ensures.names)
    (record {
      locks = table_start names.locks c.locks.result locks c.in_ok-blank_table.ensures.blank c.locks.ensures.count (omega (arith, c.locks.type_inv));
      locations = table_start names.locs c.locs.result locations c.in_ok-blank_table-2.ensures.blank c.locs.ensures.count (omega (arith, c.locs.type_inv));
    })
