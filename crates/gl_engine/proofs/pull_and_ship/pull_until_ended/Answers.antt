use Rattle.std.proofs.Common.{rules, [], ◌∙◌}
use Rattle.std.proofs.lemmas.Result.{err_from_is_err_and}
use Rattle.gl_engine.proofs.Handing.{prefix_on, blamed_gone, stops_gone, stops_since}
use Rattle.gl_engine.proofs.Running.{shards_still}
use Rattle.gl_engine.proofs.pull_and_ship.pull_until_ended.Goals as goal

pub round-requires-clause-begins : goal.round-requires-clause-begins
round-requires-clause-begins g c = record {
  left = c.loop.invariant.left;
  shards = shards_still c.args.outlets.now.items c.loop.outlets.items c.loop.invariant.feeds c.requires.begins.shards;
  kept = rw (c.loop.invariant.limits, c.loop.invariant.spares) c.loop.invariant.keeps;
}

pub loop-preserved-then-branch : goal.loop-preserved-then-branch
loop-preserved-then-branch g c = record {
  keeps = rw (c.loop.invariant.limits, c.loop.invariant.spares) at c.in_ok-round.ensures.goes_on.keeps;
  limits = c.round.ensures.goes_on.limits ∙ c.loop.invariant.limits;
  lanes = c.round.ensures.goes_on.lanes ∙ c.loop.invariant.lanes;
  feeds = c.round.ensures.goes_on.feeds ∙ c.loop.invariant.feeds;
  grown = prefix_on _ _ _ c.loop.invariant.grown c.round.ensures.goes_on.grown;
  left = c.in_ok-round.ensures.left;
  spares = c.round.ensures.spares ∙ c.loop.invariant.spares;
  next = search rules;
  finite = search rules;
}

pub loop-preserved : goal.loop-preserved
loop-preserved g c = record {
  keeps = rw (c.loop.invariant.limits, c.loop.invariant.spares) at c.in_ok-round.ensures.goes_on.keeps;
  limits = c.round.ensures.goes_on.limits ∙ c.loop.invariant.limits;
  lanes = c.round.ensures.goes_on.lanes ∙ c.loop.invariant.lanes;
  feeds = c.round.ensures.goes_on.feeds ∙ c.loop.invariant.feeds;
  grown = prefix_on _ _ _ c.loop.invariant.grown c.round.ensures.goes_on.grown;
  left = c.in_ok-round.ensures.left;
  spares = c.round.ensures.spares ∙ c.loop.invariant.spares;
  next = search rules;
  finite = search rules;
}

pub returns-in_err-ship-clause-goes_on : goal.returns-in_err-ship-clause-goes_on
returns-in_err-ship-clause-goes_on g c =
    let p = err_from_is_err_and c.from_residual.result c.from_residual.ensures.1 in
    record {
      keeps = rw p.1 tt;
      limits = search rules;
      lanes = search rules;
      feeds = search rules;
      grown = search rules;
      blamed = rw (p.1, p.2) (blamed_gone c.args.intake.now.limits c.args.inputs.now.items c.args.intake.now.stream _ _ c.in_err-ship.field-0.0 (c.in_err-ship.ensures.stopped [] c.requires.begins.unsent));
      stopped = rw (p.1, p.2) (stops_gone c.args.making.spares c.args.intake.now.stream c.args.intake.now.stream _ _ c.in_err-ship.field-0.0 c.requires.begins.making_is.due (c.in_err-ship.ensures.stopped [] c.requires.begins.unsent));
    }

pub returns-in_err-ship-clause-ended : goal.returns-in_err-ship-clause-ended
returns-in_err-ship-clause-ended g c =
    let p = err_from_is_err_and c.from_residual.result c.from_residual.ensures.1 in
    rw p.1 tt

pub returns-in_err-round-clause-goes_on : goal.returns-in_err-round-clause-goes_on
returns-in_err-round-clause-goes_on g c =
    let p = err_from_is_err_and c.from_residual-in_err-round.result c.from_residual-in_err-round.ensures.1 in
    record {
      keeps = rw p.1 tt;
      limits = c.round.ensures.goes_on.limits ∙ c.loop.invariant.limits;
      lanes = c.round.ensures.goes_on.lanes ∙ c.loop.invariant.lanes;
      feeds = c.round.ensures.goes_on.feeds ∙ c.loop.invariant.feeds;
      grown = prefix_on _ _ _ c.loop.invariant.grown c.round.ensures.goes_on.grown;
      blamed = search rules;
      stopped = rw (p.1, p.2) (stops_since _ _ _ _ _ c.loop.invariant.grown c.in_err-round.field-0.0 (rw (c.loop.invariant.spares) at c.in_err-round.ensures.goes_on.stopped));
    }

pub returns-in_err-round-clause-ended : goal.returns-in_err-round-clause-ended
returns-in_err-round-clause-ended g c =
    let p = err_from_is_err_and c.from_residual-in_err-round.result c.from_residual-in_err-round.ensures.1 in
    rw p.1 tt
