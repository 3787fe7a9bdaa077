use Rattle.std.proofs.Common.{rules, ◌+◌, ◌∙◌, arith}
use Rattle.gl_engine.proofs.Handing.{pulled_on, pulled_prefix}
use Rattle.gl_engine.proofs.Sparing.{adds_on}
use Rattle.gl_engine.proofs.Running.{moved_again, moved_still}
use Rattle.gl_engine.proofs.pull_and_ship.pull_some.Goals as goal

pub pull_at-requires-clause-known : goal.pull_at-requires-clause-known
pull_at-requires-clause-known c = rw (c.loop.invariant.limits) c.requires.known

pub pull_at-requires-clause-keeps : goal.pull_at-requires-clause-keeps
pull_at-requires-clause-keeps c = rw (c.loop.invariant.limits) c.loop.invariant.keeps

pub loop-preserved : goal.loop-preserved
loop-preserved c =
    record {
      keeps = rw (c.loop.invariant.limits) at c.pull_at.ensures.pulls_on.keeps;
      added = adds_on _ _ _ _ _ _ c.loop.invariant.added c.pull_at.ensures.pulls_on.added;
      limits = c.pull_at.ensures.pulls_on.limits ∙ c.loop.invariant.limits;
      lanes = c.pull_at.ensures.pulls_on.lanes ∙ c.loop.invariant.lanes;
      grown = pulled_on c.loop.counter 1 (c.loop.counter + 1) c.args.thread _ _ _ (omega arith) c.loop.invariant.grown c.pull_at.ensures.pulls_on.grown;
      moved = moved_again _ _ _ c.in_ok-pulled.pulled (pulled_prefix _ _ _ _ c.loop.invariant.grown) c.in_ok-pulled.ensures.moved c.if-not-pulled.false;
    }

pub returns-in_err-pulled-clause-pulls_on : goal.returns-in_err-pulled-clause-pulls_on
returns-in_err-pulled-clause-pulls_on c =
    record {
      keeps = rw (c.loop.invariant.limits) at c.pull_at.ensures.pulls_on.keeps;
      added = adds_on _ _ _ _ _ _ c.loop.invariant.added c.pull_at.ensures.pulls_on.added;
      limits = c.pull_at.ensures.pulls_on.limits ∙ c.loop.invariant.limits;
      lanes = c.pull_at.ensures.pulls_on.lanes ∙ c.loop.invariant.lanes;
      grown = pulled_on c.loop.counter 1 64 c.args.thread _ _ _ (omega (arith, c.loop-test.true)) c.loop.invariant.grown c.pull_at.ensures.pulls_on.grown;
      blamed = search rules;
    }

pub returns-then-not-pulled-clause-pulls_on : goal.returns-then-not-pulled-clause-pulls_on
returns-then-not-pulled-clause-pulls_on c =
    record {
      keeps = rw (c.loop.invariant.limits) at c.pull_at.ensures.pulls_on.keeps;
      added = adds_on _ _ _ _ _ _ c.loop.invariant.added c.pull_at.ensures.pulls_on.added;
      limits = c.pull_at.ensures.pulls_on.limits ∙ c.loop.invariant.limits;
      lanes = c.pull_at.ensures.pulls_on.lanes ∙ c.loop.invariant.lanes;
      grown = pulled_on c.loop.counter 1 64 c.args.thread _ _ _ (omega (arith, c.loop-test.true)) c.loop.invariant.grown c.pull_at.ensures.pulls_on.grown;
      blamed = tt;
    }

pub returns-then-not-pulled-clause-moved : goal.returns-then-not-pulled-clause-moved
returns-then-not-pulled-clause-moved c = moved_still _ _ _ c.loop.moved c.in_ok-pulled.pulled c.loop.invariant.moved c.in_ok-pulled.ensures.moved c.if-not-pulled.true
