use Rattle.std.specs.Option.{option_map}
use Rattle.gl_segments.specs.Clocks.{is_before}
use Rattle.gl_walks.specs.declared.purpose.Purpose.TheVariants.{Cycle}
use Rattle.gl_findings.proofs.Choosing.{IsBest}
use Rattle.gl_findings.proofs.shown.first_with.Given as goal

-- the least walk for the turns so far
abbrev pub invariant-loop-k : goal.invariant-loop-k
invariant-loop-k l =
    IsBest (is_before l.walker.ground.order.now) l.walker.ground.mode l.walker.ground.table.now l.walker.ground.flags.now l.signature Cycle l.walker.ground.classes.now
    l.k (option_map (λ cycle. cycle.items) l.first)
