use Rattle.std.proofs.Common.{◌≡◌, ◌++◌, [], Ok, sym, subst, ◌∙◌, append_assoc, arith}
use Rattle.std.proofs.lemmas.Bool.Decides.{nat_tests}
use Rattle.gl_std.specs.LineReading.{HasGiven}
use Rattle.gl_std.specs.bodies.States.{left_of}
use Rattle.gl_std.specs.bodies.Stepping.{IsRead}
use Rattle.gl_std.proofs.LineByLine.{append_nil, used_up}
use Rattle.gl_std.proofs.line_reader.LineReader.drain.Goals as goal

pub loop-self-init : goal.loop-self-init
loop-self-init g c = record {
  piece = [];
  given = λ turns start text given. subst (HasGiven turns start _ c.args.self.now.turns) (sym (append_nil text)) given;
  room = c.requires.room;
  sound = c.requires.not_failed;
}

pub loop-self-preserved : goal.loop-self-preserved
loop-self-preserved g c =
    let so_far = c.loop-self.invariant in
    let new = c.fill.new.self in
    let read = subst (λ more. IsRead (g.R.Source.position c.loop-self.input) c.loop-self.self (g.R.Source.position c.fill.new.input) (g.R.Source.failed c.fill.new.input) new (Ok more)) c.in-Ok-true.field-0-test c.in-Ok-true.ensures.read in
    record {
      piece = so_far.piece ++ left_of new;
      given = λ turns start text given.
          subst (HasGiven turns start (g.R.Source.position c.fill.new.input) new.turns) (append_assoc text so_far.piece (left_of new))
          (read.filled turns start (text ++ so_far.piece) (so_far.given turns start text given));
      room = c.fill.ensures.same.same_size ∙ so_far.room;
      sound = read.sound;
    }

pub returns-in-Ok-false : goal.returns-in-Ok-false
returns-in-Ok-false g c = λ turns start text given.
    let so_far = c.loop-self.invariant in
    let read = subst (λ more. IsRead (g.R.Source.position c.loop-self.input) c.loop-self.self (g.R.Source.position c.fill.new.input) (g.R.Source.failed c.fill.new.input) c.fill.new.self (Ok more)) c.in-Ok-false.field-0-test c.in-Ok-false.ensures.read in
    record { piece = so_far.piece; read = read.filled turns start (text ++ so_far.piece) (so_far.given turns start text given) }

pub returns-in-Err : goal.returns-in-Err
returns-in-Err g c = λ turns start text given.
    let so_far = c.loop-self.invariant in
    record { piece = so_far.piece; read = c.in-Err.ensures.read turns start (text ++ so_far.piece) (so_far.given turns start text given) }

pub returns : goal.returns
returns g c = λ turns start text given.
    let so_far = c.loop-self.invariant in
    let none : c.loop-self.self.turns ≡ 0 = grind (arith, nat_tests, c.loop-self-test.false) in
    record { piece = so_far.piece; read = used_up turns c.loop-self.self.turns start _ _ (text ++ so_far.piece) none (so_far.given turns start text given) }
