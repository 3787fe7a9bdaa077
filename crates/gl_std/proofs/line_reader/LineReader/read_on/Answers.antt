use Rattle.std.proofs.Common.{◌≡◌, [], take, drop, Ok, refl, sym, ap, subst, ◌∙◌, arith}
use Rattle.std.proofs.lemmas.Bool.Decides.{nat_tests}
use Rattle.gl_std.specs.bodies.States.{left_of, HasJudged}
use Rattle.gl_std.specs.bodies.Stepping.{IsRead}
use Rattle.gl_std.proofs.LineByLine.{front_of, left_none, over_of, read_fit, read_less, read_more, stepped_here, used_up}
use Rattle.gl_std.proofs.line_reader.LineReader.read_on.Goals as goal

-- no turn is left
pub returns-then-self-eq0-clause-steps : goal.returns-then-self-eq0-clause-steps
returns-then-self-eq0-clause-steps g c =
    let old = c.args.self.now in
    let none : old.turns ≡ 0 = grind (arith, nat_tests, c.if-self-eq0.true) in
    let left : left_of old ≡ [] = ap (λ n. drop n (take old.end old.buffer.items)) c.requires.spent ∙ left_none old.buffer.items old.end in
    record {
      tells = λ limits turns start text told is.
          stepped_here limits turns start _ _ old text told _
          (used_up turns old.turns start _ _ text none is.given, front_of limits old text told is.at left is.same, is.at.reaches.judged);
      known = tt;
      leaves = tt;
      same_size = refl;
    }

-- a read gave some bytes
pub returns-in-Ok-true-clause-steps : goal.returns-in-Ok-true-clause-steps
returns-in-Ok-true-clause-steps g c =
    let old = c.args.self.now in
    let new = c.fill.new.self in
    let same = c.fill.ensures.same in
    let left : left_of old ≡ [] = ap (λ n. drop n (take old.end old.buffer.items)) c.requires.spent ∙ left_none old.buffer.items old.end in
    let read = subst (λ more. IsRead (g.R.Source.position c.args.input.now) old (g.R.Source.position c.fill.new.input) (g.R.Source.failed c.fill.new.input) new (Ok more)) c.in-Ok-true.field-0-test c.in-Ok-true.ensures.read in
    record {
      tells = λ limits turns start text told is.
          record { piece = left_of new; stepped = read_more limits turns start _ _ old new text told is left same.same_judge (ap (λ u. u.items) same.same_beginning) (read.filled turns start text is.given) };
      known = tt;
      leaves = (read.sound, read_fit _ _ _ _ old new c.requires.can.fit read same);
      same_size = same.same_size;
    }

-- it met the end
pub returns-in-Ok-false-clause-steps : goal.returns-in-Ok-false-clause-steps
returns-in-Ok-false-clause-steps g c =
    let old = c.args.self.now in
    let new = c.fill.new.self in
    let same = c.fill.ensures.same in
    let left : left_of old ≡ [] = ap (λ n. drop n (take old.end old.buffer.items)) c.requires.spent ∙ left_none old.buffer.items old.end in
    let read = subst (λ more. IsRead (g.R.Source.position c.args.input.now) old (g.R.Source.position c.fill.new.input) (g.R.Source.failed c.fill.new.input) new (Ok more)) c.in-Ok-false.field-0-test c.in-Ok-false.ensures.read in
    record {
      tells = λ limits turns start text told is.
          stepped_here limits turns start _ _ new text told _
          (read.filled turns start text is.given, ap (λ j. j.limits) same.same_judge ∙ is.same, over_of old new text told is.at left same.same_judge (ap (λ u. u.items) same.same_beginning));
      known = tt;
      leaves = (read.sound, read_fit _ _ _ _ old new c.requires.can.fit read same);
      same_size = same.same_size;
    }

-- it failed
pub returns-in-Err-clause-steps : goal.returns-in-Err-clause-steps
returns-in-Err-clause-steps g c =
    let old = c.args.self.now in
    let new = c.fill.new.self in
    let same = c.fill.ensures.same in
    let left : left_of old ≡ [] = ap (λ n. drop n (take old.end old.buffer.items)) c.requires.spent ∙ left_none old.buffer.items old.end in
    record {
      tells = λ limits turns start text told is.
          stepped_here limits turns start _ _ new text told _
          (c.in-Err.ensures.read turns start text is.given, front_of limits old text told is.at left is.same, subst (λ j. HasJudged j told) (sym same.same_judge) is.at.reaches.judged);
      known = tt;
      leaves = tt;
      same_size = same.same_size;
    }

pub returns-in-Ok-true-clause-smaller : goal.returns-in-Ok-true-clause-smaller
returns-in-Ok-true-clause-smaller g c =
    let old = c.args.self.now in
    let new = c.fill.new.self in
    read_less _ _ _ old new _ c.in-Ok-true.ensures.read

pub returns-in-Ok-false-clause-smaller : goal.returns-in-Ok-false-clause-smaller
returns-in-Ok-false-clause-smaller g c =
    let old = c.args.self.now in
    let new = c.fill.new.self in
    read_less _ _ _ old new _ c.in-Ok-false.ensures.read
