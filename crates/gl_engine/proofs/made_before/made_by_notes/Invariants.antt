use Rattle.std.proofs.Common.{◌≡◌, take}
use Rattle.gl_engine.specs.bodies.Sparing.{IsMadeOf}
use Rattle.gl_engine.proofs.made_before.made_by_notes.Given as goal

-- the notes so far were taken once more, and these are their edges
abbrev pub invariant-loop-note : goal.invariant-loop-note
invariant-loop-note l = record {
  limits : l.intake.limits ≡ l.fn.limits;
  stream : l.intake.stream ≡ take l.note-index l.notes;
  made : IsMadeOf l.intake.stream l.making;
  spares : l.making.spares ≡ l.fn.spares;
}
