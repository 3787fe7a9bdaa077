use Rattle.std.proofs.Common.{refl, sym, ◌∙◌}
use Rattle.gl_std.proofs.LineByLine.{step_after, stepped_here}
use Rattle.gl_std.proofs.line_reader.LineReader.next.Goals as goal

pub loop-step-init : goal.loop-step-init
loop-step-init g c = record {
  tells = λ limits turns start text told is. stepped_here limits turns start _ _ c.args.self.now text told _ is;
  known = tt;
  leaves = (c.requires.not_failed, c.requires.fit);
  same_size = refl;
}

pub loop-step-preserved : goal.loop-step-preserved
loop-step-preserved g c = step_after _ _ _ _ _ _ _ _ c.loop-step.step _ (sym c.is_idle.ensures ∙ c.loop-step-test.true) c.loop-step.invariant c.in-Ok.ensures.steps

pub returns-in-Err-clause-steps : goal.returns-in-Err-clause-steps
returns-in-Err-clause-steps g c = step_after _ _ _ _ _ _ _ _ c.loop-step.step _ (sym c.is_idle.ensures ∙ c.loop-step-test.true) c.loop-step.invariant c.in-Err.ensures.steps

pub step-requires : goal.step-requires
step-requires g c = let leaves = c.loop-step.invariant.leaves in record { fit = leaves.1; not_failed = leaves.0 }
