use Rattle.std.proofs.Common.{◌≡◌, ◌++◌, false, Ok, refl, ap, subst, ◌∙◌}
use Rattle.gl_io.specs.Uses.{used}
use Rattle.gl_std.specs.Streaming.{Stream}
use Rattle.gl_std.specs.bodies.Stepping.{is_idle, IsStep}
use Rattle.gl_std.proofs.ItemByItem.{again_reading, fit_of, known_item, leaves_reading, reads_shown, stopped, told_item, told_reading}
use Rattle.gl_std.proofs.stream.Items.read_on.Goals as goal

pub next-requires : goal.next-requires
next-requires g c = record {
  fit = fit_of c.self.inside.stage c.self.inside.reader c.args.self.now c.self.view_is c.self.invariant c.requires.reading c.requires.fit;
  not_failed = c.requires.not_failed;
}

-- a line
pub returns-in-Ok-Told-clause-next : goal.returns-in-Ok-Told-clause-next
returns-in-Ok-Told-clause-next g c =
    let old = c.self.inside in
    let items = c.args.self.now in
    let new = c.next.new in
    let reading = ap (λ (s : Stream). s.stage) c.self.view_is ∙ c.requires.reading in
    let step = subst (λ step. IsStep (g.R.Source.position c.args.input.now) old.reader (g.R.Source.position new.input) (g.R.Source.failed new.input) new.self (Ok step)) c.in-Ok-Told.field-0-is c.in-Ok-Told.ensures.steps in
    record {
      tells = λ limits turns start text told is.
          told_item limits turns start _ _ old.stage new.self text told c.in-Ok-Told.field-0 c.in-Ok-Told.judged c.item_of.result reading c.in-Ok-Told.field-0-is c.item_of.ensures
          (c.in-Ok-Told.ensures.steps.tells limits turns start text told (reads_shown limits turns start _ old.stage old.reader items text told c.self.view_is (told_reading limits turns start _ _ items text told c.requires.reading is)));
      known = known_item c.item_of.result c.in-Ok-Told.judged new.self.judge.names c.item_of.ensures step.known;
      again = again_reading items _ c.requires.reading;
      leaves = leaves_reading c.item_of.result c.in-Ok-Told.judged _ c.item_of.ensures (subst (λ step. is_idle step ≡ false) c.in-Ok-Told.field-0-is c.in-Ok-Told.ensures.found) reading;
    }

-- the end
pub returns-in-Ok-End-clause-next : goal.returns-in-Ok-End-clause-next
returns-in-Ok-End-clause-next g c =
    let old = c.self.inside in
    let items = c.args.self.now in
    let new = c.next.new in
    let step = subst (λ step. IsStep (g.R.Source.position c.args.input.now) old.reader (g.R.Source.position new.input) (g.R.Source.failed new.input) new.self (Ok step)) c.in-Ok-End.field-0-is c.in-Ok-End.ensures.steps in
    let last = c.finish.ensures.last in
    record {
      tells = λ limits turns start text told is.
          let steps = step.tells limits turns start text told (reads_shown limits turns start _ old.stage old.reader items text told c.self.view_is (told_reading limits turns start _ _ items text told c.requires.reading is)) in
          record { piece = steps.piece; tells = last.tells limits turns (used start (g.R.Source.position new.input) (g.R.Source.failed new.input)) (text ++ steps.piece) told steps.stepped.0 steps.stepped.1 steps.stepped.2 };
      known = last.known;
      again = again_reading items _ c.requires.reading;
      leaves = last.leaves;
    }

-- a fault
pub returns-in-Err-clause-next : goal.returns-in-Err-clause-next
returns-in-Err-clause-next g c =
    let old = c.self.inside in
    let items = c.args.self.now in
    let new = c.next.new in
    record {
      tells = λ limits turns start text told is.
          let steps = c.in-Err.ensures.steps.tells limits turns start text told (reads_shown limits turns start _ old.stage old.reader items text told c.self.view_is (told_reading limits turns start _ _ items text told c.requires.reading is)) in
          record { piece = steps.piece; tells = stopped limits turns start _ _ new.self (text ++ steps.piece) told c.in-Err.fault steps.stepped };
      known = tt;
      again = again_reading items _ c.requires.reading;
      leaves = refl;
    }
