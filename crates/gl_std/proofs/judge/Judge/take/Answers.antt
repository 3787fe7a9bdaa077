use Rattle.std.proofs.Common.{sym, ap, subst, ◌∙◌, arith}
use Rattle.gl_event.specs.Bounds.{AreWithinRange}
use Rattle.gl_std.specs.bodies.Telling.{with_judged}
use Rattle.gl_std.specs.Trace.{after_shape, IsTraceOver}
use Rattle.gl_std.specs.Line.{shape_of}
use Rattle.gl_std.proofs.Growth.{after_shape_grows}
use Rattle.gl_std.proofs.NumberedLines.{grown_names}
use Rattle.gl_std.proofs.JudgedLines.{sound_of}
use Rattle.gl_std.proofs.WithinLimits.{after_line_over}
use Rattle.gl_std.proofs.judge.Judge.take.Goals as goal

pub returns-clause-sound : goal.returns-clause-sound
returns-clause-sound c =
    let old = c.args.self.now in
    let new = c.take_shape.new.self in
    let was = c.requires.sound in
    let judges = c.in_ok-judged.ensures.judges in
    let told = with_judged c.in_ok-judged.judged new.names was.told in
    let is = ap (after_shape old.limits old.line was.told) (sym c.shape_of.ensures) ∙ judges.tells was.told was.judged in
    let over = after_line_over old.limits old.line was.told told c.args.line.now was.sound is in
    let judged = judges.judged was.told was.judged in
    sound_of _ told (record { names = judged.names; states = judged.states; skipped = judged.skipped; stray = judged.stray })
    (subst (λ limits. IsTraceOver limits told) (sym judges.same_limits) over)
    (subst AreWithinRange (sym judges.same_limits) was.in_range)
    (omega (arith, was.few_skipped, c.take_shape.ensures.counts.few_skipped, c.take_shape.ensures.counts.line))
    (omega (arith, was.few_stray, c.take_shape.ensures.counts.few_stray, c.take_shape.ensures.counts.line))

-- names keep their numbers
pub returns-clause-grows : goal.returns-clause-grows
returns-clause-grows c =
    let old = c.args.self.now in
    let new = c.take_shape.new.self in
    let was = c.requires.sound in
    let judges = c.in_ok-judged.ensures.judges in
    let told = with_judged c.in_ok-judged.judged new.names was.told in
    let is = ap (after_shape old.limits old.line was.told) (sym c.shape_of.ensures) ∙ judges.tells was.told was.judged in
    grown_names old.names new.names was.told told was.judged.names (judges.judged was.told was.judged).names (after_shape_grows old.limits old.line was.told told (shape_of c.args.line.now) is)
