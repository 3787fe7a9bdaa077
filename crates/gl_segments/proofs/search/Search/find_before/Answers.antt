use Rattle.std.proofs.Common.{◌≡◌, ◌+◌, inl, ap, subst, ◌∙◌, arith}
use Rattle.std.specs.Prelude.{slice_index}
use Rattle.gl_segments.specs.bodies.Search.{Explores}
use Rattle.gl_segments.proofs.Searching.{begin_explores}
use Rattle.gl_segments.proofs.search.Search.find_before.Goals as goal

pub loop-done-init : goal.loop-done-init
loop-done-init c = record {
  same_target = c.in_ok-begin.ensures.target;
  within = omega arith;
  explored = rw (c.in_ok-begin.ensures.clock, c.in_ok-begin.ensures.found) (begin_explores c.args.steps.now c.requires.sound c.args.target c.args.self.now.clock c.requires.may_start);
  grown = λ thread. inl (ap (λ xs. slice_index xs thread) c.in_ok-begin.ensures.clock);
}

pub loop-done-preserved : goal.loop-done-preserved
loop-done-preserved c =
    let target : c.loop-done.self.target ≡ c.args.target = c.loop-done.invariant.same_target in
    let explored : Explores c.args.steps.now c.args.target c.look_at.new.self.clock c.look_at.new.self.found.items (c.loop-done.done + 1)
    = subst (λ t. Explores c.args.steps.now t c.look_at.new.self.clock c.look_at.new.self.found.items (c.loop-done.done + 1)) target c.in_ok-look_at.ensures.explored in
    record {
      same_target = c.in_ok-look_at.ensures.target ∙ target;
      within = omega (arith, c.in_ok-look_at.ensures.longer);
      explored = explored;
      grown = c.in_ok-look_at.ensures.grown c.args.self.now.clock c.loop-done.invariant.grown;
    }
