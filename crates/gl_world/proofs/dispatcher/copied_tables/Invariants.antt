use Rattle.std.proofs.Common.{◌≡◌, map, take}
use Rattle.gl_world.specs.Dispatch.{table_of}
use Rattle.gl_world.proofs.dispatcher.copied_tables.Given as goal

-- the tables so far are copied
abbrev pub invariant-loop-part : goal.invariant-loop-part
invariant-loop-part l = l.tables.items ≡ map table_of (take l.part-index l.parts)
