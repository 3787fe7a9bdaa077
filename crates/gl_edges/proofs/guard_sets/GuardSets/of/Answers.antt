use Rattle.std.proofs.Common.{take, sym, ap, subst, ◌∙◌, arith}
use Rattle.std.proofs.lemmas.List.{length-map, take_all}
use Rattle.gl_edges.specs.Numbered.{guards_in, AreNumbered}
use Rattle.gl_edges.specs.bodies.Numberers.{IsNumbering}
use Rattle.gl_edges.proofs.Numbering.{guards_more}
use Rattle.gl_edges.proofs.guard_sets.GuardSets.of.Goals as goal

pub loop-i-preserved : goal.loop-i-preserved
loop-i-preserved c =
    let pairs = c.entries-pairs.result.now in
    subst (λ all. IsNumbering all c.add.new.self) (sym (guards_more pairs c.loop-i.i c.index-pairs-i.result c.loop-i-test.true)) (c.in_ok-add.ensures (take c.loop-i.i (guards_in pairs)) c.loop-i.invariant)

pub returns : goal.returns
returns c =
    let pairs = c.entries-pairs.result.now in
    let whole = take_all c.loop-i.i (guards_in pairs) (omega (arith, c.loop-i-test.false, length-map pairs (λ pair. pair.0.guards))) ∙ ap guards_in c.entries-pairs.ensures.pairs in
    subst (λ all. AreNumbered all (record { ids = c.loop-i.numberer.ids.items; sets = c.loop-i.numberer.sets.items })) whole c.loop-i.invariant.numbered
