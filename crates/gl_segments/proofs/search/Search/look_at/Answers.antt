use Rattle.std.proofs.Common.{◌<◌, length, refl, ◌∙◌, arith}
use Rattle.std.proofs.lemmas.List.{length-append}
use Rattle.std.proofs.lemmas.Option.{slice_get_read, slice_get_within}
use Rattle.gl_event.proofs.Depths.{slice_get_before}
use Rattle.gl_segments.proofs.Chains.{thread_inside}
use Rattle.gl_segments.proofs.Searching.{reach_explores, reach_grows, reach_room, item_leads, item_small, counted_more, look_done, entry_has}
use Rattle.gl_segments.proofs.search.Search.look_at.Goals as goal

pub sources-source-items-requires : goal.sources-source-items-requires
sources-source-items-requires c =
    let found = c.args.self.now.found.items in
    let here = slice_get_read found (length found) c.args.at c.index.result.now refl c.requires.within c.index.ensures in
    entry_has c.args.steps.now c.requires.sound c.args.self.now.target found c.requires.explored.links c.requires.has c.args.at c.index.result.now here

pub loop-source-init : goal.loop-source-init
loop-source-init c =
    let found = c.args.self.now.found.items in
    record {
      same_target = refl;
      explored = c.requires.explored;
      entry = (c.index.result.now, slice_get_read found (length found) c.args.at c.index.result.now refl c.requires.within c.index.ensures, c.sources-source-items.ensures);
      counted = λ k a below. absurd (omega arith);
      longer = omega arith;
      grown = λ start before. before;
      room = refl;
    }

pub reach-requires-clause-thread : goal.reach-requires-clause-thread
reach-requires-clause-thread c =
    let inv = c.loop-source.invariant in
    let leads = item_leads c.args.steps.now c.requires.sound c.args.self.now.target _ inv.entry.0.segment c.loop-source.source-index c.source-item.result inv.entry.2 c.loop-source-test.true c.source-item.is in
    omega (arith, thread_inside c.args.steps.now c.source-item.result (c.requires.sound.inside _ _ leads), inv.explored.width)

pub reach-requires-clause-small : goal.reach-requires-clause-small
reach-requires-clause-small c =
    let inv = c.loop-source.invariant in
    let leads = item_leads c.args.steps.now c.requires.sound c.args.self.now.target _ inv.entry.0.segment c.loop-source.source-index c.source-item.result inv.entry.2 c.loop-source-test.true c.source-item.is in
    item_small c.args.steps.now c.requires.sound c.args.self.now.target inv.entry.0.segment c.source-item.result leads

pub loop-source-preserved : goal.loop-source-preserved
loop-source-preserved c =
    let steps = c.args.steps.now in
    let target = c.args.self.now.target in
    let inv = c.loop-source.invariant in
    let old = c.loop-source.self in
    let m = inv.entry.0 in
    let a = c.source-item.result in
    let leads = item_leads steps c.requires.sound target _ m.segment c.loop-source.source-index a inv.entry.2 c.loop-source-test.true c.source-item.is in
    let within : a.thread < length old.clock = omega (arith, thread_inside steps a (c.requires.sound.inside _ _ leads), inv.explored.width) in
    record {
      same_target = c.in_ok-reach.ensures.target ∙ inv.same_target;
      explored = rw (c.in_ok-reach.ensures.clock, c.in_ok-reach.ensures.found) (reach_explores steps c.requires.sound target old.clock old.found.items c.args.at m a inv.explored inv.entry.1 leads);
      entry = (m, rw c.in_ok-reach.ensures.found (slice_get_before old.found.items _ c.args.at (slice_get_within old.found.items c.args.at m inv.entry.1) ∙ inv.entry.1), inv.entry.2);
      counted = rw c.in_ok-reach.ensures.clock (counted_more steps c.requires.sound target old.clock _ c.loop-source.source-index a within c.loop-source-test.true c.source-item.is inv.counted);
      longer = rw (c.in_ok-reach.ensures.found, length-append) (omega (arith, inv.longer));
      grown = λ start before. rw (c.in_ok-reach.ensures.clock, c.in_ok-reach.ensures.found) (reach_grows steps c.requires.sound target start old.clock old.found.items c.args.at a within (inv.grown start before));
      room = rw (c.in_ok-reach.ensures.clock, c.in_ok-reach.ensures.found) (reach_room steps c.requires.sound target old.clock old.found.items c.args.at m a inv.explored leads ∙ inv.room);
    }

pub returns-clause-explored : goal.returns-clause-explored
returns-clause-explored c =
    let inv = c.loop-source.invariant in
    look_done c.args.steps.now c.requires.sound c.args.self.now.target _ _ c.args.at inv.entry.0 _ inv.explored inv.entry.1 inv.entry.2 (λ k b below. inv.counted k b (omega arith))
