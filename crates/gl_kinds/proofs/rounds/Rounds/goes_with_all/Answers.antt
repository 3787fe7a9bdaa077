use Rattle.std.proofs.Common.{sym, ◌∙◌}
use Rattle.std.proofs.lemmas.Bool.{false≢true}
use Rattle.gl_segments.specs.Clocks.{is_before}
use Rattle.gl_kinds.proofs.ByKinds.{meets_tell}
use Rattle.gl_kinds.proofs.rounds.Rounds.goes_with_all.Goals as goal

pub returns-then-not-may_meet : goal.returns-then-not-may_meet
returns-then-not-may_meet c = λ no all.
    let s = c.args.self.now.sought in
    false≢true (sym c.if-not-may_meet.true ∙ c.may_meet.ensures
    ∙ meets_tell (is_before s.order.now) s.mode c.args.self.now.grain s.table.now c.args.path.now c.loop-place.place c.index-self-i.result c.args.edge.now c.requires.within c.loop-place-test.true all)
