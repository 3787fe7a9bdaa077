use Rattle.std.proofs.Common.{◌≡◌, ℕ, ◌<◌, map, Some}
use Rattle.std.specs.Prelude.{slice_get}
use Rattle.gl_engine.specs.bodies.Breaking.{handed, HandOver}
use Rattle.gl_engine.specs.Keeping.{pulling_of}
use Rattle.gl_engine.specs.Recording.{Closed}
use Rattle.gl_engine.specs.bodies.Whole.{IsConfirmed}
use Rattle.gl_engine.specs.declared.lane_input.LaneInput.{LaneInput}
use Rattle.gl_engine.proofs.receipts.confirm_all.Given as goal

-- the receipts so far are confirmed, and nothing changed
abbrev pub invariant-loop-at : goal.invariant-loop-at
invariant-loop-at l = record {
  inputs : map pulling_of l.inputs.items ≡ map pulling_of l.fn.inputs.items;
  receipts : l.receipts ≡ l.fn.receipts;
  more : HandOver l.fn.inputs.items l.inputs.items;
  confirmed : (at : ℕ) (r : Closed) (input : LaneInput) → at < l.at → slice_get l.fn.receipts at ≡ Some r → slice_get l.fn.inputs.items r.thread ≡ Some input → IsConfirmed (handed input.lane) r;
}
