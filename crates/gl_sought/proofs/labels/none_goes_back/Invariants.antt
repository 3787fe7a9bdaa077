use Rattle.std.proofs.Common.{◌≡◌, ℕ, ◌<◌, ◌≤◌, true, Some}
use Rattle.std.specs.Prelude.{slice_get}
use Rattle.gl_sought.specs.Walks.{label_at}
use Rattle.gl_sought.specs.declared.numbers.Ends.{Ends}
use Rattle.gl_sought.proofs.labels.none_goes_back.Given as goal

-- so far the number falls along none that is kept
abbrev pub invariant-loop-i : goal.invariant-loop-i
invariant-loop-i l =
    (i : ℕ) (d : Ends) → i < l.i → slice_get l.kept i ≡ Some true → slice_get l.ends i ≡ Some d → label_at l.labels d.held ≤ label_at l.labels d.wanted
