use Rattle.std.proofs.Common.{map, arith}
use Rattle.gl_findings.proofs.Prepared.{too_short}
use Rattle.gl_findings.proofs.finder.Finder.add_shown.Goals as goal

-- no cycle has fewer than two edges
pub returns-then-signature-lt2-clause-grown : goal.returns-then-signature-lt2-clause-grown
returns-then-signature-lt2-clause-grown c = too_short c.args.self.now c.args.signature.now (map (λ cycle. cycle.items) c.args.found.now.items) (omega arith)
