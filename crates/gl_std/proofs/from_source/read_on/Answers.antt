use Rattle.std.proofs.Common.{◌++◌, Ok, Err, sym, subst}
use Rattle.gl_std.specs.bodies.Stepping.{IsStep}
use Rattle.gl_std.specs.bodies.Telling.{with_judged}
use Rattle.gl_std.specs.declared.line_reader.Step.TheVariants.{End}
use Rattle.gl_std.proofs.HeardSources.{heard_of, heard_on}
use Rattle.gl_std.proofs.from_source.read_on.Goals as goal

pub lines-init : goal.lines-init
lines-init g c = record { on = λ limits turns start was. was; fit = c.requires.fit; sound = c.requires.not_failed }

-- no line yet
pub lines-preserved-in-Ok-More : goal.lines-preserved-in-Ok-More
lines-preserved-in-Ok-More g c =
    let so_far = c.lines.invariant in
    let new = c.step.new in
    let step = subst (λ s. IsStep (g.R.Source.position c.lines.input) c.lines.reader (g.R.Source.position new.input) (g.R.Source.failed new.input) new.self (Ok s)) c.in-Ok-More.field-0-is c.in-Ok-More.ensures.steps in
    record {
      on = λ limits turns start was.
          let at = so_far.on limits turns start was in
          let steps = step.tells limits turns start at.text at.told at.reads in
          record { text = at.text ++ steps.piece; told = at.told; reads = steps.stepped; listed = at.listed };
      fit = step.leaves.1;
      sound = step.leaves.0;
    }

-- a line
pub lines-preserved : goal.lines-preserved
lines-preserved g c =
    let so_far = c.lines.invariant in
    let new = c.step.new in
    let step = subst (λ s. IsStep (g.R.Source.position c.lines.input) c.lines.reader (g.R.Source.position new.input) (g.R.Source.failed new.input) new.self (Ok s)) c.in-Ok-Told.field-0-is c.in-Ok-Told.ensures.steps in
    record {
      on = λ limits turns start was.
          let at = so_far.on limits turns start was in
          let steps = step.tells limits turns start at.text at.told at.reads in
          record {
            text = at.text ++ steps.piece;
            told = with_judged c.in-Ok-Told.judged new.self.judge.names at.told;
            reads = steps.stepped;
            listed = rw c.names.ensures at (c.in_ok-add-in-Ok-Told.ensures at.told (sym at.listed));
          };
      fit = step.leaves.1;
      sound = step.leaves.0;
    }

-- the source has ended
pub returns-in-Ok-End : goal.returns-in-Ok-End
returns-in-Ok-End g c =
    let so_far = c.lines.invariant in
    let new = c.step.new in
    let step = subst (λ s. IsStep (g.R.Source.position c.lines.input) c.lines.reader (g.R.Source.position new.input) (g.R.Source.failed new.input) new.self (Ok s)) c.in-Ok-End.field-0-is c.in-Ok-End.ensures.steps in
    heard_on (g.R.Source.position c.args.input.now) (g.R.Source.position new.input) (g.R.Source.failed new.input) c.args.reader c.args.lists c.finish.result (λ limits turns start was.
    let at = so_far.on limits turns start was in
    let steps = step.tells limits turns start at.text at.told at.reads in
    heard_of limits turns start (g.R.Source.position new.input) (g.R.Source.position new.input) (g.R.Source.failed new.input) (g.R.Source.failed new.input) new.self c.lines.lists (at.text ++ steps.piece) at.told (Ok End) c.finish.result (c.finish.ensures.heard (g.R.Source.position new.input) (g.R.Source.failed new.input)) steps.stepped at.listed)

-- no further line comes
pub returns-in-Err : goal.returns-in-Err
returns-in-Err g c =
    let so_far = c.lines.invariant in
    let new = c.step.new in
    heard_on (g.R.Source.position c.args.input.now) (g.R.Source.position c.stop.new.input) (g.R.Source.failed c.stop.new.input) c.args.reader c.args.lists c.stop.result (λ limits turns start was.
    let at = so_far.on limits turns start was in
    let steps = c.in-Err.ensures.steps.tells limits turns start at.text at.told at.reads in
    heard_of limits turns start (g.R.Source.position new.input) (g.R.Source.position c.stop.new.input) (g.R.Source.failed new.input) (g.R.Source.failed c.stop.new.input) new.self c.lines.lists (at.text ++ steps.piece) at.told (Err c.in-Err.fault) c.stop.result c.stop.ensures.heard steps.stepped at.listed)
