use Rattle.std.proofs.Common.{◌≡◌, ◌≢◌, ℕ, ◌<◌, Some}
use Rattle.std.specs.Prelude.{slice_get}
use Rattle.gl_segments.specs.declared.search.Link.{Link}
use Rattle.gl_segments.proofs.search.Search.ring.Given as goal

-- no later entry so far is the target
abbrev pub invariant-loop-k : goal.invariant-loop-k
invariant-loop-k l = (i : ℕ) (x : Link) → i < l.k → 0 < i → slice_get l.self.found.items i ≡ Some x → x.segment ≢ l.self.target
