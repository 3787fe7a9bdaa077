use Rattle.std.proofs.Common.{◌≡◌, take, string_bytes}
use Rattle.gl_report.specs.Escapes.{escaped}
use Rattle.gl_report.proofs.escapes.escaped_name.Given as goal

-- the bytes so far
abbrev pub invariant-loop-byte : goal.invariant-loop-byte
invariant-loop-byte l = string_bytes l.text ≡ escaped (take l.byte-index l.name)
