use Rattle.std.proofs.Common.{sym, ◌∙◌}
use Rattle.gl_findings.proofs.FirstsAdded.{add_known, add_new}
use Rattle.gl_findings.proofs.grouped.add.Goals as goal

pub returns-then-contains_key : goal.returns-then-contains_key
returns-then-contains_key c = λ told cycles had. add_known c.args.classes.now cycles c.args.firsts.now had c.in-Some.key c.args.cycle.now c.in-Some.ensures (sym c.contains_key.ensures ∙ c.if-contains_key.true)

pub returns : goal.returns
returns c = λ told cycles had.
    add_new c.args.classes.now cycles c.args.firsts.now had c.in-Some.key c.args.cycle.now c.in-Some.ensures c.insert.new.self c.in_ok-first.first (sym c.contains_key.ensures ∙ c.if-contains_key.false) c.in_ok-first.ensures.items
    c.in_ok-insert.ensures.ordered c.in_ok-insert.ensures.updates.0
