use Rattle.std.proofs.Common.{arith}
use Rattle.gl_cycles.specs.bodies.Searching.{sought_by}
use Rattle.gl_cycles.proofs.RootByRoot.{found_more, all_found}
use Rattle.gl_cycles.proofs.paths.Searcher.first_cycles.Goals as goal

pub loop-root-preserved : goal.loop-root-preserved
loop-root-preserved c =
    let s = c.args.self.now in
    found_more (sought_by s) s.cap c.loop-root.root _ _ c.loop-root.invariant (omega arith) c.in_ok-add_from.ensures

pub returns : goal.returns
returns c =
    let s = c.args.self.now in
    let had = c.loop-root.invariant in
    let within = had.within in
    all_found (sought_by s) s.cap c.loop-root.root _ c.requires.finishes.some (omega arith) c.loop-root.invariant
