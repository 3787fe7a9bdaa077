use Rattle.std.proofs.Common.{Vec, Global, ap, ◌∙◌, length}
use Rattle.std.proofs.lemmas.List.{length-map}
use Rattle.gl_event.specs.declared.events.Event.{Event}
use Rattle.gl_world.specs.Machine.{fresh_lane}
use Rattle.gl_world.proofs.Worlds.{fresh_lists, world_new}
use Rattle.gl_world.proofs.world.World.new.Goals as goal

pub invariant_of-result : goal.invariant_of-result
invariant_of-result c =
    rw (c.in_ok-intake.ensures.limits, c.in_ok-intake.ensures.empty, c.in_ok-dispatcher.ensures)
    (world_new c.args.limits.now c.args.shards c.in_ok-parts.parts.items c.args.wishes.items c.requires.each_thread c.in_ok-parts.ensures.keepers c.in_ok-parts.ensures.lanes c.fresh_parts.ensures.range)

pub returns-clause-state : goal.returns-clause-state
returns-clause-state c = rw (c.in_ok-intake.ensures.empty, c.in_ok-parts.ensures.lanes, fresh_lists c.args.wishes.items, c.in_ok-dispatcher.ensures)

pub returns-clause-lanes : goal.returns-clause-lanes
returns-clause-lanes c = ap length c.in_ok-parts.ensures.lanes ∙ length-map c.args.wishes.items (λ (w : Vec Event Global). fresh_lane w.items) ∙ c.requires.each_thread
