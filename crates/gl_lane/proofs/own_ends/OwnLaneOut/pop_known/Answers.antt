use Rattle.std.proofs.Common.{◌<◌, ◌∷◌, [], refl, arith}
use Rattle.gl_lane.specs.OwnLanes.{own_lane_of}
use Rattle.gl_lane.specs.bodies.OwnRuns.{notes_after, rest, without}
use Rattle.rtrb.specs.Ring.{received, known_items}
use Rattle.gl_lane.proofs.OwnNotes.{comes_after, length_notes, notes_behind}
use Rattle.gl_lane.proofs.OwnRunning.{all_counted, fits_next, may_come_next, none_left, notes_from, one_more, still_taken, without_none}
use Rattle.gl_lane.proofs.own_ends.OwnLaneOut.pop_known.Goals as goal

pub pop_known-requires : goal.pop_known-requires
pop_known-requires c =
    let i = c.self.inside in
    let none = none_left _ _ _ _ _ c.self.invariant c.if-self.true in
    omega (arith, rw (← c.self.view_is, none) at c.requires.known, length_notes i.thread i.place (known_items i.consumer))

pub note_of-note-requires : goal.note_of-note-requires
note_of-note-requires c = record { fits = omega (arith, all_counted _ _ _ _ _ c.self.invariant c.if-self.true, c.pop_known.ensures.allowed.fits) }

pub returns-then-self-clause-popped : goal.returns-then-self-clause-popped
unfolding notes_after
returns-then-self-clause-popped c =
    let i = c.self.inside in
    let are = c.self.invariant in
    let none = none_left _ _ _ _ _ are c.if-self.true in
    rw (← c.self.view_is, c.note_of-note.ensures, none, without_none (received c.pop_known.new.self), without_none (received i.consumer), c.pop_known.ensures.received.0)
    (notes_behind i.thread (received i.consumer) (c.pop_known.result ∷ []) i.place (all_counted _ _ _ _ _ are c.if-self.true))

pub returns-then-self-clause-left : goal.returns-then-self-clause-left
unfolding notes_after
returns-then-self-clause-left c =
    let i = c.self.inside in
    let none = none_left _ _ _ _ _ c.self.invariant c.if-self.true in
    rw (← c.self.view_is, c.note_of-note.ensures, none, c.pop_known.ensures.received.1) refl

pub returns-then-self-clause-next : goal.returns-then-self-clause-next
returns-then-self-clause-next c =
    let i = c.self.inside in
    let none = none_left _ _ _ _ _ c.self.invariant c.if-self.true in
    rw (c.note_of-note.ensures, ← c.self.view_is, none, without_none (received i.consumer))
    (comes_after (own_lane_of i.thread i.consumer.end) (received i.consumer) i.place c.pop_known.result (all_counted _ _ _ _ _ c.self.invariant c.if-self.true) c.pop_known.ensures.allowed)

pub note_of-note-requires-2 : goal.note_of-note-requires-2
note_of-note-requires-2 c = record { fits = fits_next _ _ _ _ _ c.self.invariant c.index-self-self.result (omega (arith, c.self.invariant.within, c.if-self.false)) }

pub invariant_of-self-2 : goal.invariant_of-self-2
invariant_of-self-2 c = still_taken _ _ _ _ _ c.self.invariant c.index-self-self.result (omega (arith, c.self.invariant.within, c.if-self.false))

pub returns-clause-popped : goal.returns-clause-popped
unfolding notes_after
returns-clause-popped c =
    let i = c.self.inside in
    let are = c.self.invariant in
    let more : i.popped < i.taken = omega (arith, are.within, c.if-self.false) in
    rw (← c.self.view_is, c.note_of-note-2.ensures, one_more _ _ _ _ _ are c.index-self-self.result more)
    (notes_behind i.thread (without (rest i.popped i.taken i.run) (received i.consumer)) _ i.place are.counted)

pub returns-clause-left : goal.returns-clause-left
returns-clause-left c =
    let i = c.self.inside in
    let more : i.popped < i.taken = omega (arith, c.self.invariant.within, c.if-self.false) in
    rw (← c.self.view_is, c.note_of-note-2.ensures) (notes_from _ _ _ _ _ c.self.invariant c.index-self-self.result more i.thread (known_items i.consumer))

pub returns-clause-next : goal.returns-clause-next
returns-clause-next c =
    rw (c.note_of-note-2.ensures, ← c.self.view_is)
    (comes_after (own_lane_of c.self.inside.thread c.self.inside.consumer.end) _ _ _ c.self.invariant.counted
    (may_come_next _ _ _ _ _ c.self.invariant c.index-self-self.result (omega (arith, c.self.invariant.within, c.if-self.false))))
