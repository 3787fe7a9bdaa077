use Rattle.std.proofs.Common.{◌≡◌, take}
use Rattle.std.specs.Prelude.{slice_get}
use Rattle.std.specs.List.{filter_map}
use Rattle.gl_check.proofs.signatures.signature_of.Given as goal

-- the classes so far
abbrev pub invariant-loop-i : goal.invariant-loop-i
invariant-loop-i l = l.signature.items ≡ filter_map (slice_get l.classes) (take l.i l.positions)
