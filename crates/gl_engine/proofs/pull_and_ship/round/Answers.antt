use Rattle.std.proofs.Common.{rules, sym, ◌∙◌, subst}
use Rattle.std.proofs.lemmas.Result.{err_from_is_err_and}
use Rattle.gl_engine.specs.bodies.Whole.{HasMoved}
use Rattle.gl_engine.proofs.Handing.{prefix_on, stops_since}
use Rattle.gl_engine.proofs.Running.{moved_first, moved_then, shards_still}
use Rattle.gl_engine.proofs.pull_and_ship.round.Goals.{then-moved, else-moved}
use Rattle.gl_engine.proofs.pull_and_ship.round.Goals as goal

pub turns-requires-clause-begins : goal.turns-requires-clause-begins
turns-requires-clause-begins g c = record {
  left = c.loop-number.invariant.left;
  shards = shards_still c.args.outlets.now.items c.loop-number.outlets.items c.loop-number.invariant.feeds c.requires.begins.shards;
  kept = rw (c.loop-number.invariant.limits, c.loop-number.invariant.spares) c.loop-number.invariant.keeps;
}

pub returns-in_err-pulled : goal.returns-in_err-pulled
returns-in_err-pulled g c =
    let p = err_from_is_err_and c.from_residual.result c.from_residual.ensures.1 in
    record {
      goes_on = record {
        keeps = rw p.1 tt;
        limits = c.turns.ensures.goes_on.limits ∙ c.loop-number.invariant.limits;
        lanes = c.turns.ensures.goes_on.lanes ∙ c.loop-number.invariant.lanes;
        feeds = c.turns.ensures.goes_on.feeds ∙ c.loop-number.invariant.feeds;
        grown = prefix_on _ _ _ c.loop-number.invariant.grown c.turns.ensures.goes_on.grown;
        blamed = search rules;
        stopped = rw (p.1, p.2) (stops_since _ _ _ _ _ c.loop-number.invariant.grown c.in_err-pulled.field-0.0 (rw (c.loop-number.invariant.spares) at c.in_err-pulled.ensures.goes_on.stopped));
      };
      moved = rw p.1 tt;
      left = rw p.1 tt;
      spares = c.turns.ensures.spares ∙ c.loop-number.invariant.spares;
    }

pub loop-number-preserved : goal.loop-number-preserved
loop-number-preserved g c = record {
  keeps = rw (c.loop-number.invariant.limits, c.loop-number.invariant.spares) at c.in_ok-pulled.ensures.goes_on.keeps;
  limits = c.turns.ensures.goes_on.limits ∙ c.loop-number.invariant.limits;
  lanes = c.turns.ensures.goes_on.lanes ∙ c.loop-number.invariant.lanes;
  feeds = c.turns.ensures.goes_on.feeds ∙ c.loop-number.invariant.feeds;
  grown = prefix_on _ _ _ c.loop-number.invariant.grown c.turns.ensures.goes_on.grown;
  left = c.in_ok-pulled.ensures.left;
  spares = c.turns.ensures.spares ∙ c.loop-number.invariant.spares;
  moved = elim c.if-moved.branch [
    | then-moved w ↦ subst (HasMoved c.args.intake.now.stream c.turns.new.intake.stream) (sym w.moved-is) (moved_first _ _ _ c.loop-number.moved c.in_ok-pulled.pulled c.loop-number.invariant.moved c.in_ok-pulled.ensures.moved w.if-moved.true)
    | else-moved w ↦ subst (HasMoved c.args.intake.now.stream c.turns.new.intake.stream) (sym w.moved-is) (moved_then _ _ _ c.loop-number.moved c.in_ok-pulled.pulled c.loop-number.invariant.moved c.in_ok-pulled.ensures.moved w.if-moved.false)
  ];
}
