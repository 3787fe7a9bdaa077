use Rattle.std.proofs.Common.{rules, ◌∙◌}
use Rattle.std.proofs.lemmas.Result.{err_from_is_err_and}
use Rattle.gl_engine.proofs.Handing.{prefix_on, stops_since}
use Rattle.gl_engine.proofs.Running.{moved_again, moved_still, shards_still}
use Rattle.gl_engine.proofs.pull_and_ship.turns.Goals as goal

pub turn-requires-clause-known : goal.turn-requires-clause-known
turn-requires-clause-known g c = rw (c.loop.invariant.limits) c.requires.known

pub turn-requires-clause-begins : goal.turn-requires-clause-begins
turn-requires-clause-begins g c = record {
  left = c.loop.invariant.left;
  shards = shards_still c.args.outlets.now.items c.loop.outlets.items c.loop.invariant.feeds c.requires.begins.shards;
  kept = rw (c.loop.invariant.limits, c.loop.invariant.spares) c.loop.invariant.keeps;
}

pub loop-preserved : goal.loop-preserved
loop-preserved g c = record {
  keeps = rw (c.loop.invariant.limits, c.loop.invariant.spares) at c.in_ok-pulled.ensures.goes_on.keeps;
  limits = c.turn.ensures.goes_on.limits ∙ c.loop.invariant.limits;
  lanes = c.turn.ensures.goes_on.lanes ∙ c.loop.invariant.lanes;
  feeds = c.turn.ensures.goes_on.feeds ∙ c.loop.invariant.feeds;
  grown = prefix_on _ _ _ c.loop.invariant.grown c.turn.ensures.goes_on.grown;
  left = c.in_ok-pulled.ensures.left;
  spares = c.turn.ensures.spares ∙ c.loop.invariant.spares;
  moved = moved_again _ _ _ c.in_ok-pulled.pulled c.loop.invariant.grown c.in_ok-pulled.ensures.moved c.if-not-pulled.false;
}

pub returns-in_err-pulled : goal.returns-in_err-pulled
returns-in_err-pulled g c =
    let p = err_from_is_err_and c.from_residual.result c.from_residual.ensures.1 in
    record {
      goes_on = record {
        keeps = rw p.1 tt;
        limits = c.turn.ensures.goes_on.limits ∙ c.loop.invariant.limits;
        lanes = c.turn.ensures.goes_on.lanes ∙ c.loop.invariant.lanes;
        feeds = c.turn.ensures.goes_on.feeds ∙ c.loop.invariant.feeds;
        grown = prefix_on _ _ _ c.loop.invariant.grown c.turn.ensures.goes_on.grown;
        blamed = search rules;
        stopped = rw (p.1, p.2) (stops_since _ _ _ _ _ c.loop.invariant.grown c.in_err-pulled.field-0.0 (rw (c.loop.invariant.spares) at c.in_err-pulled.ensures.goes_on.stopped));
      };
      moved = rw p.1 tt;
      left = rw p.1 tt;
      spares = c.turn.ensures.spares ∙ c.loop.invariant.spares;
    }

pub returns-then-not-pulled : goal.returns-then-not-pulled
returns-then-not-pulled g c = record {
  goes_on = record {
    keeps = rw (c.loop.invariant.limits, c.loop.invariant.spares) at c.in_ok-pulled.ensures.goes_on.keeps;
    limits = c.turn.ensures.goes_on.limits ∙ c.loop.invariant.limits;
    lanes = c.turn.ensures.goes_on.lanes ∙ c.loop.invariant.lanes;
    feeds = c.turn.ensures.goes_on.feeds ∙ c.loop.invariant.feeds;
    grown = prefix_on _ _ _ c.loop.invariant.grown c.turn.ensures.goes_on.grown;
    blamed = tt;
    stopped = tt;
  };
  moved = moved_still _ _ _ c.loop.moved c.in_ok-pulled.pulled c.loop.invariant.moved c.in_ok-pulled.ensures.moved c.if-not-pulled.true;
  left = c.in_ok-pulled.ensures.left;
  spares = c.turn.ensures.spares ∙ c.loop.invariant.spares;
}
