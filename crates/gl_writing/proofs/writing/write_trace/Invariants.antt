use Rattle.std.proofs.Common.{◌≡◌, take}
use Rattle.std.specs.List.{flat_map, zip}
use Rattle.gl_writing.specs.Written.{written_list}
use Rattle.gl_writing.proofs.writing.write_trace.Given as goal

-- the lists so far
abbrev pub invariant-loop-number : goal.invariant-loop-number
invariant-loop-number l = l.text.items ≡ flat_map (λ own. written_list l.trace.names own.0 own.1) (take l.number (zip l.trace.names.threads l.trace.lists))
