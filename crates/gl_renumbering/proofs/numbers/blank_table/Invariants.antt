use Rattle.gl_renumbering.specs.bodies.Tables.{IsBlank}
use Rattle.gl_renumbering.proofs.numbers.blank_table.Given as goal

-- so many numbers aren't known yet
abbrev pub invariant-loop : goal.invariant-loop
invariant-loop l = IsBlank l.counter l.table.items
