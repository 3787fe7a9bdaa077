use Rattle.std.proofs.Common.{◌-◌, ◌++◌, [], length, map, take, sym, ap, ◌∙◌, arith}
use Rattle.gl_segments.specs.Clocks.{is_before}
use Rattle.gl_findings.specs.bodies.Finding.{below_of}
use Rattle.gl_findings.proofs.Below.{findings-from}
use Rattle.gl_findings.proofs.finder.Finder.first_findings.Goals as goal

-- all findings are those that begin with each class in turn
pub returns-in-Ok : goal.returns-in-Ok
returns-in-Ok c =
    let s = c.args.self.now in
    let some = c.requires.ready.some in
    c.in-Ok.ensures.grown ∙ ap (λ l. take s.cap (map (λ cycle. cycle.items) l ++ below_of s (s.len - 0 - 1) [] (length s.table.now))) c.new-found.ensures.items
    ∙ ap (take s.cap) (sym (findings-from (is_before s.order.now) s.mode s.len s.table.now (s.len - 0 - 1) (omega arith)))
