use Rattle.std.proofs.Common.{Ok, sym, subst, ◌∙◌}
use Rattle.gl_std.specs.LineReading.{HasGiven}
use Rattle.gl_std.specs.bodies.Taking.{TakesLine}
use Rattle.gl_std.proofs.LineByLine.{line_fit, line_less, no_step, rest_fit, rest_less, stepped_here}
use Rattle.gl_std.proofs.line_reader.LineReader.step.Goals as goal

-- a whole line was left
pub returns-in-Ok-Some-clause-steps : goal.returns-in-Ok-Some-clause-steps
returns-in-Ok-Some-clause-steps g c =
    let old = c.args.self.now in
    let new = c.take_line.new.self in
    let same = c.take_line.ensures.same in
    let taken = subst (λ line. TakesLine old new (Ok line)) c.in-Ok-Some.field-0-is c.in-Ok-Some.ensures.takes in
    record {
      tells = λ limits turns start text told is.
          stepped_here limits turns start _ _ new text told _
          (record {
            given = subst (λ left. HasGiven turns start (g.R.Source.position c.args.input.now) left text) (sym same.same_turns) is.given;
            same = same.same_limits ∙ is.same;
            at = taken.at text told is.at;
          });
      known = taken.known;
      leaves = (c.requires.not_failed, line_fit old new c.in-Ok-Some.judged c.requires.fit taken same);
      same_size = same.same_size;
    }

pub returns-in-Ok-Some-clause-smaller : goal.returns-in-Ok-Some-clause-smaller
returns-in-Ok-Some-clause-smaller g c =
    let old = c.args.self.now in
    let new = c.take_line.new.self in
    let taken = subst (λ line. TakesLine old new (Ok line)) c.in-Ok-Some.field-0-is c.in-Ok-Some.ensures.takes in
    line_less old new c.in-Ok-Some.judged taken c.take_line.ensures.same

-- none was left
pub read_on-requires-clause-can : goal.read_on-requires-clause-can
read_on-requires-clause-can g c =
    let old = c.args.self.now in
    let new = c.take_line.new.self in
    record {
      fit = rest_fit old new c.requires.fit (subst (λ line. TakesLine old new (Ok line)) c.in-Ok-None.field-0-is c.in-Ok-None.ensures.takes) c.take_line.ensures.same;
      not_failed = c.requires.not_failed;
    }

pub read_on-requires-clause-spent : goal.read_on-requires-clause-spent
read_on-requires-clause-spent g c =
    let old = c.args.self.now in
    let new = c.take_line.new.self in
    (subst (λ line. TakesLine old new (Ok line)) c.in-Ok-None.field-0-is c.in-Ok-None.ensures.takes).spent

pub returns-in-Ok-None-clause-steps : goal.returns-in-Ok-None-clause-steps
returns-in-Ok-None-clause-steps g c =
    let old = c.args.self.now in
    let new = c.take_line.new.self in
    let same = c.take_line.ensures.same in
    let taken = subst (λ line. TakesLine old new (Ok line)) c.in-Ok-None.field-0-is c.in-Ok-None.ensures.takes in
    let step = c.read_on.ensures.steps in
    record {
      tells = λ limits turns start text told is.
          step.tells limits turns start text told (record {
            given = subst (λ left. HasGiven turns start (g.R.Source.position c.args.input.now) left text) (sym same.same_turns) is.given;
            same = same.same_limits ∙ is.same;
            at = taken.at text told is.at;
          });
      known = step.known;
      leaves = step.leaves;
      same_size = step.same_size ∙ same.same_size;
    }

pub returns-in-Ok-None-clause-smaller : goal.returns-in-Ok-None-clause-smaller
returns-in-Ok-None-clause-smaller g c =
    let old = c.args.self.now in
    let new = c.take_line.new.self in
    rest_less old new c.read_on.new.self c.read_on.result (subst (λ line. TakesLine old new (Ok line)) c.in-Ok-None.field-0-is c.in-Ok-None.ensures.takes) c.take_line.ensures.same c.read_on.ensures.smaller

-- the next line is at fault, or memory was refused
pub returns-in-Err-clause-steps : goal.returns-in-Err-clause-steps
returns-in-Err-clause-steps g c =
    no_step (g.R.Source.position c.args.input.now) (g.R.Source.failed c.args.input.now) c.args.self.now c.take_line.new.self c.in-Err.fault c.from.result c.from.ensures c.in-Err.ensures.takes c.take_line.ensures.same c.requires.not_failed
