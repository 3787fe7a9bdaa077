use Rattle.std.proofs.Common.{sym, ap, ◌∙◌, arith}
use Rattle.gl_findings.specs.Findings.{begins_least, turned}
use Rattle.gl_findings.proofs.FirstsAdded.{told_from}
use Rattle.gl_findings.proofs.grouped.key_of.Goals as goal

pub returns-then-begins_least : goal.returns-then-begins_least
returns-then-begins_least c =
    told_from c.args.classes.now c.args.cycle.now c.in-Some.signature.items c.turned-turn.result.items c.in-Some.ensures.classes
    (ap begins_least (sym c.as_slice-in-loop-k.ensures.value) ∙ sym c.begins_least.ensures ∙ c.if-begins_least.true)
    (c.loop-k.k, omega arith, sym (c.turned-turn.ensures ∙ ap (turned c.loop-k.k) c.as_slice.ensures.value))
