use Rattle.std.proofs.Common.{◌≡◌, take}
use Rattle.gl_filters.proofs.lengths.longer_path.Given as goal

-- the path so far
abbrev pub invariant-loop-i : goal.invariant-loop-i
invariant-loop-i l = l.longer.items ≡ take l.i-index l.path
