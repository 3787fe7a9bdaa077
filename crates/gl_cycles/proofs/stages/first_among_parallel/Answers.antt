use Rattle.std.proofs.Common.{arith}
use Rattle.gl_cycles.proofs.RootByRoot.{all_found}
use Rattle.gl_cycles.proofs.stages.first_among_parallel.Goals as goal

-- the search is through
pub returns-then-root-sought : goal.returns-then-root-sought
returns-then-root-sought g c = all_found c.args.sought.now c.args.cap c.in_ok-root.root _ c.requires.some (omega arith) c.in_ok-root.ensures.found
