use Rattle.std.proofs.Common.{◌≡◌, [], ◌++◌, map, sym, ap, ◌∙◌, subst}
use Rattle.std.specs.Vec.Iter.{into_iter_items}
use Rattle.std.proofs.lemmas.List.{append-nil, nil_from_length}
use Rattle.gl_shards.specs.Feeds.{Sending}
use Rattle.gl_engine.specs.Gathering.{AreEnded}
use Rattle.gl_engine.proofs.Ending.{all_ended}
use Rattle.gl_engine.proofs.collector_run.end_all.Goals as goal

pub returns-clause-feeds : goal.returns-clause-feeds
returns-clause-feeds g c none =
    let was = c.loop-outlet.invariant in
    let over : into_iter_items c.loop-outlet.outlet-iterator ≡ [] = nil_from_length _ (sym was.counted ∙ c.in-None.ensures.steps.0) in
    let whole : c.loop-outlet.yielded ≡ c.args.outlets.items = sym (append-nil c.loop-outlet.yielded) ∙ ap (λ left. c.loop-outlet.yielded ++ left) (sym over) ∙ was.all in
    (all_ended _ _ _ (subst (AreEnded _ _ _) none was.ended)).0 ∙ ap (map (λ (o : Sending). o.feed)) whole

pub returns-clause-sent : goal.returns-clause-sent
returns-clause-sent g c none =
    let was = c.loop-outlet.invariant in
    let over : into_iter_items c.loop-outlet.outlet-iterator ≡ [] = nil_from_length _ (sym was.counted ∙ c.in-None.ensures.steps.0) in
    let whole : c.loop-outlet.yielded ≡ c.args.outlets.items = sym (append-nil c.loop-outlet.yielded) ∙ ap (λ left. c.loop-outlet.yielded ++ left) (sym over) ∙ was.all in
    (all_ended _ _ _ (subst (AreEnded _ _ _) none was.ended)).1 ∙ ap (map (λ (o : Sending). o.sent)) whole
