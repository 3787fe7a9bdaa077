use Rattle.std.proofs.Common.{◌≡◌, map, take}
use Rattle.gl_report.specs.Text.{cycles_text}
use Rattle.gl_report.proofs.printing.listing_text.Given as goal

-- the cycles so far
abbrev pub invariant-loop-i : goal.invariant-loop-i
invariant-loop-i l = l.out.items ≡ cycles_text l.listing l.names l.table 1 (map (λ cycle. cycle.items) (take l.i l.cycles))
