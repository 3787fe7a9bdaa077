use Rattle.std.proofs.Common.{◌≡◌, Ok, Err, sym, ap, subst, arith}
use Rattle.std.proofs.lemmas.Grind.{common_steps}
use Rattle.gl_event.specs.Bounds.{AreWithinRange}
use Rattle.gl_std.specs.Trace.{and_then, IsTraceOver}
use Rattle.gl_std.specs.bodies.Blocks.{shape_in}
use Rattle.gl_std.specs.bodies.Telling.{with_judged}
use Rattle.gl_std.specs.declared.faults.ReadFault.TheVariants.{Line}
use Rattle.gl_std.proofs.Growth.{after_shape_grows}
use Rattle.gl_std.proofs.JudgedLines.{sound_of}
use Rattle.gl_std.proofs.NumberedLines.{grown_names, known_of_later}
use Rattle.gl_std.proofs.WithinLimits.{after_shape_over}
use Rattle.gl_std.proofs.judge.Judge.take_numbered.Goals as goal

-- the line is at fault
pub returns-in_err-judged-clause-fault : goal.returns-in_err-judged-clause-fault
returns-in_err-judged-clause-fault c = λ number kind is told judged listed.
    let failed : c.judge_numbered.result ≡ Err (Line number kind) = let was = c.in_err-judged.was in let of = c.from_residual.ensures in grind (arith, common_steps, was, of, is) in
    ap (λ r. and_then r (λ more. Ok more)) (c.judge_numbered.ensures.judges.fault number kind failed told judged)

-- names keep their numbers where the line added some
pub returns-clause-grows : goal.returns-clause-grows
returns-clause-grows c =
    let old = c.args.self.now in
    let new = c.judge_numbered.new.self in
    let was = c.requires.can.sound in
    let judges = c.in_ok-judged.ensures.judges in
    let told = with_judged c.in_ok-judged.judged new.names was.told in
    grown_names old.names new.names was.told told was.judged.names (judges.judged was.told was.judged).names
    (after_shape_grows old.limits old.line was.told told (shape_in c.args.names.now c.args.line) (judges.tells was.told was.judged))

-- and what was known of a block's names still is
pub returns-clause-known : goal.returns-clause-known
returns-clause-known c =
    let old = c.args.self.now in
    let new = c.judge_numbered.new.self in
    let was = c.requires.can.sound in
    let judges = c.in_ok-judged.ensures.judges in
    let shape = shape_in c.args.names.now c.args.line in
    let told = with_judged c.in_ok-judged.judged new.names was.told in
    let judged = judges.judged was.told was.judged in
    known_of_later c.args.names.now old.names new.names c.judge_numbered.new.known
    (grown_names old.names new.names was.told told was.judged.names judged.names
    (after_shape_grows old.limits old.line was.told told shape (judges.tells was.told was.judged)))
    c.judge_numbered.ensures.known

pub returns-clause-sound : goal.returns-clause-sound
returns-clause-sound c =
    let old = c.args.self.now in
    let new = c.judge_numbered.new.self in
    let was = c.requires.can.sound in
    let judges = c.in_ok-judged.ensures.judges in
    let shape = shape_in c.args.names.now c.args.line in
    let told = with_judged c.in_ok-judged.judged new.names was.told in
    let over = after_shape_over old.limits old.line was.told told shape c.requires.apart was.sound (judges.tells was.told was.judged) in
    let judged = judges.judged was.told was.judged in
    sound_of _ told (record { names = judged.names; states = judged.states; skipped = judged.skipped; stray = judged.stray })
    (subst (λ limits. IsTraceOver limits told) (sym judges.same_limits) over)
    (subst AreWithinRange (sym judges.same_limits) was.in_range)
    (omega (arith, was.few_skipped, c.judge_numbered.ensures.counts.few_skipped, c.judge_numbered.ensures.counts.line))
    (omega (arith, was.few_stray, c.judge_numbered.ensures.counts.few_stray, c.judge_numbered.ensures.counts.line))
