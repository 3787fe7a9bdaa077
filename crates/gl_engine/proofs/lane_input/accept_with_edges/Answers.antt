use Rattle.std.proofs.Common.{◌≡◌, length, sym, subst, arith}
use Rattle.gl_intake.specs.Stream.{events_of}
use Rattle.gl_intake.proofs.Next.{next_of_none}
use Rattle.gl_engine.specs.bodies.Sparing.{AddsEdges, HasAdded}
use Rattle.gl_engine.proofs.Sides.{due_is}
use Rattle.gl_engine.proofs.Sparing.{adds_none, adds_note, adds_offered, taken_back}
use Rattle.gl_engine.proofs.lane_input.accept_with_edges.Goals as goal

pub returns-then-makes_none-clause-added : goal.returns-then-makes_none-clause-added
returns-then-makes_none-clause-added c =
    let stream = c.args.intake.now.stream in
    let note = c.args.note.now in
    let none = c.makes_none.ensures c.if-makes_none.true note.thread (events_of note.thread stream) in
    adds_offered c.args.intake.now.limits stream c.offer.new.self.stream note c.offer.result c.offer.ensures.offered c.args.making.now c.requires.notes none

pub returns-in_default-clause-added : goal.returns-in_default-clause-added
returns-in_default-clause-added c =
    let stream = c.args.intake.now.stream in
    subst (λ after. AddsEdges stream c.args.making.now after c.add_due.new.making) (sym c.refusal_without_memory.ensures.stream)
    (adds_none stream c.args.note.now.thread c.args.making.now c.add_due.new.making c.requires.notes c.in_default.ensures.none)

pub returns-in-Ok-offer-clause-added : goal.returns-in-Ok-offer-clause-added
returns-in-Ok-offer-clause-added c =
    let limits = c.args.intake.now.limits in
    let stream = c.args.intake.now.stream in
    let note = c.args.note.now in
    let next = next_of_none limits stream note c.in-Ok-offer.ensures.offered.next in
    let added = c.in-Ok.ensures.added (events_of note.thread stream) c.state-state.ensures in
    subst (λ after. AddsEdges stream c.args.making.now after c.add_due.new.making) (sym c.in-Ok-offer.ensures.offered.grown)
    (adds_note limits stream note next c.args.making.now c.add_due.new.making c.requires.notes
    (subst (λ pairs. HasAdded note.thread pairs c.args.making.now c.add_due.new.making) (due_is limits stream note next) added))

pub returns-in-Err-clause-added : goal.returns-in-Err-clause-added
returns-in-Err-clause-added c =
    let stream = c.args.intake.now.stream in
    let note = c.args.note.now in
    let added = c.in-Ok.ensures.added (events_of note.thread stream) c.state-state.ensures in
    let all : c.len-before.result ≡ length c.args.making.now.made.items = omega (arith, c.len-before.ensures) in
    subst (λ after. AddsEdges stream c.args.making.now after c.take_back.new.self) (sym c.in-Err.ensures.offered.unchanged)
    (adds_none stream note.thread c.args.making.now c.take_back.new.self c.requires.notes
    (taken_back note.thread _ c.args.making.now c.add_due.new.making c.take_back.new.self c.len-before.result all added c.take_back.ensures.made c.take_back.ensures.spares c.take_back.ensures.forgotten))
