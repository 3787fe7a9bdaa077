use Rattle.std.proofs.Common.{◌≡◌, ◌+◌, [], ◌∷◌, ◌++◌, sym, ap, ◌∙◌}
use Rattle.std.proofs.lemmas.List.{length_push, map_push}
use Rattle.gl_shards.specs.Feeds.{Receiving, Sending}
use Rattle.gl_engine_tests.proofs.Ours.{each_push}
use Rattle.gl_engine_tests.proofs.feeds.feeds.Goals as goal

pub loop-preserved : goal.loop-preserved
loop-preserved c =
    let outlets = c.loop.outlets.items in
    let inlets = c.loop.inlets.items in
    let outlet = c.in-Ok.outlet in
    let inlet = c.in-Ok.inlet in
    rw (c.in-Ok-Ok.ensures.items, c.in-Ok-Ok.ensures'.items)
    (record {
      count = length_push outlets outlet ∙ ap (λ n. n + 1) c.loop.invariant.count;
      unsent = each_push (λ (o : Sending). o.sent ≡ []) outlets outlet c.loop.invariant.unsent c.in-Ok.ensures.empty;
      one_feed =
          map_push (λ (o : Sending). o.feed) outlets outlet
          ∙ (λ j. c.loop.invariant.one_feed j ++ sym c.in-Ok.ensures.one_feed j ∷ [])
          ∙ sym (map_push (λ (i : Receiving). i.feed) inlets inlet);
    })
