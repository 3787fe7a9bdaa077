use Rattle.std.proofs.Common.{◌++◌, append_assoc, sym, ap, ◌∙◌}
use Rattle.gl_lane.specs.OwnLanes.{OwnLaneId}
use Rattle.gl_lane.specs.bodies.OwnRuns.{notes_after, rest, without}
use Rattle.rtrb.specs.Ring.{received, known_items, all_sent}
use Rattle.gl_lane.proofs.OwnNotes.{notes_behind, notes_prefix}
use Rattle.gl_lane.proofs.own_ends.OwnLaneOut.confirm.Goals as goal

pub returns-clause-left : goal.returns-clause-left
returns-clause-left c =
    let i = c.self.inside in
    let left = rest i.popped i.taken i.run in
    let more = c.slots_after.ensures.looked.2 in
    rw (← c.self.view_is)
    (notes_prefix i.thread i.place (left ++ known_items i.consumer) (left ++ known_items c.slots_after.new.self) (more.0, append_assoc left (known_items i.consumer) more.0 ∙ ap (λ seen. left ++ seen) more.1))

pub returns-clause-whole : goal.returns-clause-whole
returns-clause-whole c =
    let i = c.self.inside in
    let left = rest i.popped i.taken i.run in
    let popped = without left (received i.consumer) in
    let same = rw (← c.self.view_is, ← c.finished.view_is) at c.requires.one_lane in
    rw (← c.finished.view_is, c.slots_after.ensures.looked.1)
    (sym (notes_behind i.thread popped (left ++ known_items c.slots_after.new.self) i.place c.self.invariant.counted)
    ∙ ap (notes_after i.thread 0) (sym (append_assoc popped left (known_items c.slots_after.new.self)) ∙ ap (λ all. all ++ known_items c.slots_after.new.self) c.self.invariant.last ∙ ap (λ all. all ++ known_items c.slots_after.new.self) (sym c.slots_after.ensures.looked.1) ∙ c.slots_after.ensures.fifo)
    ∙ ap (λ (lane : OwnLaneId). notes_after lane.thread 0 (all_sent c.finished.inside.finished)) (sym same))
