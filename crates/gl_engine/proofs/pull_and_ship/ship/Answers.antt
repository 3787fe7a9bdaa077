use Rattle.std.proofs.Common.{◌≡◌, [], ◌∷◌, ◌++◌, length, map, sym, ap, ◌∙◌, append_assoc, rules}
use Rattle.std.specs.Vec.Iter.{drain_items}
use Rattle.std.proofs.lemmas.List.{length-map}
use Rattle.gl_edges.specs.declared.edge.Edge.{Edge}
use Rattle.gl_edges.specs.declared.edge.Sample.{Sample}
use Rattle.gl_shards.specs.Feeds.{Sending}
use Rattle.gl_engine.specs.Dealing.{dealt}
use Rattle.gl_engine.proofs.Running.{shards_still, stopped_at}
use Rattle.gl_engine.proofs.pull_and_ship.ship.Goals as goal

pub ship_one-requires : goal.ship_one-requires
ship_one-requires g c = record { shards = shards_still c.args.outlets.now.items c.loop-edge.outlets.items c.loop-edge.invariant.feeds c.requires.shards }

pub loop-edge-preserved : goal.loop-edge-preserved
loop-edge-preserved g c =
    let was = c.loop-edge.invariant in
    let pair : Edge × Sample = (c.in-Some.edge, c.in-Some.sample) in
    let steps : drain_items c.loop-edge.edge-iterator ≡ pair ∷ drain_items c.next.new.self = c.in-Some.ensures.steps.0 in
    record {
      next = tt;
      finite = tt;
      all = append_assoc c.loop-edge.yielded (pair ∷ []) _ ∙ ap (λ rest. c.loop-edge.yielded ++ rest) (sym steps) ∙ was.all;
      keeps = search rules;
      shipped = λ before are.
          c.in_default.ensures.ships.shipped (before ++ c.loop-edge.yielded) (was.shipped before are)
          ∙ ap (dealt (length c.ship_one.new.outlets.items)) (append_assoc before c.loop-edge.yielded (pair ∷ []));
      feeds = c.ship_one.ensures.ships.feeds ∙ was.feeds;
    }

pub returns-in-Err-clause-stopped : goal.returns-in-Err-clause-stopped
returns-in-Err-clause-stopped g c before are =
    let was = c.loop-edge.invariant in
    let pair : Edge × Sample = (c.in-Some.edge, c.in-Some.sample) in
    let steps : drain_items c.loop-edge.edge-iterator ≡ pair ∷ drain_items c.next.new.self = c.in-Some.ensures.steps.0 in
    stopped_at (length c.loop-edge.outlets.items) before c.loop-edge.yielded (drain_items c.loop-edge.edge-iterator) (drain_items c.next.new.self) c.args.made.now.items pair
    (map (λ (o : Sending). o.sent) c.loop-edge.outlets.items) (map (λ (o : Sending). o.sent) c.ship_one.new.outlets.items) c.in-Err.shard was.all steps (was.shipped before are) c.in-Err.ensures.unsent
    (length-map c.loop-edge.outlets.items (λ (o : Sending). o.sent)) c.in-Err.ensures.whose
