use Rattle.std.proofs.Common.{map, take}
use Rattle.serde_json.specs.View.{view}
use Rattle.gl_segments.specs.Clocks.{is_before}
use Rattle.gl_check.specs.Shape.{items_in}
use Rattle.gl_check.proofs.Finding.{AreKept}
use Rattle.gl_check.proofs.cycles.Known.check_cycles.Given as goal

-- the cycles so far
abbrev pub invariant-loop-i : goal.invariant-loop-i
invariant-loop-i l =
    AreKept l.self.format l.self.names.now l.self.edges.now (is_before l.self.order.now) l.self.query (map (λ cycle. items_in (view cycle)) (take l.i l.cycles)) (map (λ v. v.items) l.lists.items)
