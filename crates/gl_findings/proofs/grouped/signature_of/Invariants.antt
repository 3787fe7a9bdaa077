use Rattle.std.proofs.Common.{◌≡◌, ◌≤◌, length, take}
use Rattle.std.specs.Prelude.{slice_get}
use Rattle.std.specs.List.{filter_map}
use Rattle.gl_filters.specs.declared.lengths.TheConstants.{LONGEST}
use Rattle.gl_findings.proofs.grouped.signature_of.Given as goal

-- the classes so far
abbrev pub invariant-loop-position : goal.invariant-loop-position
invariant-loop-position l = record {
  fits : length l.signature.items ≤ LONGEST;
  classes : l.signature.items ≡ filter_map (slice_get l.classes) (take l.position-index l.positions);
}
