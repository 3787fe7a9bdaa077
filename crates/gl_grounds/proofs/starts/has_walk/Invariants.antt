use Rattle.std.proofs.Common.{◌≡◌, ◌<◌, ℕ, Some}
use Rattle.std.specs.Prelude.{slice_get, IfSome}
use Rattle.gl_grounds.specs.Starting.{NoneAt, NoneHolding}
use Rattle.gl_grounds.specs.declared.spans.Span.{Span}
use Rattle.gl_grounds.proofs.starts.has_walk.Given as goal

-- none begins as those before do, nor from the lock that was the last one
abbrev pub invariant-loop-i : goal.invariant-loop-i
invariant-loop-i l =
    ((k : ℕ) (span : Span) → k < l.i → slice_get l.spans.list.items k ≡ Some span → NoneAt l.walker l.purpose l.signature span)
    × IfSome l.last (NoneHolding l.walker l.purpose l.signature)
