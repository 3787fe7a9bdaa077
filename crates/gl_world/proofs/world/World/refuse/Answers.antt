use Rattle.std.proofs.Common.{◌≡◌, ◌⊎◌, List, Some, None, sym, ap, ◌∙◌, subst}
use Rattle.gl_event.specs.declared.notes.Note.{Note}
use Rattle.gl_intake.specs.Stream.{note_refusal}
use Rattle.gl_intake.specs.declared.notes.Refused.TheVariants.{Memory}
use Rattle.gl_world.specs.Machine.{State, Moved}
use Rattle.gl_world.specs.Keeping.{IsSound}
use Rattle.gl_world.specs.declared.steps.Did.TheVariants.{Refused}
use Rattle.gl_world.proofs.Worlds.{state_of, never_next, refused_as, refused_for_cause}
use Rattle.gl_world.proofs.world.World.refuse.Goals as goal

pub unreachable-requires : goal.unreachable-requires
unreachable-requires c =
    let s = c.args.self.now in
    let sound : IsSound s = subst IsSound c.self.view_is c.self.invariant.sound in
    let none : note_refusal s.limits s.stream c.args.note.now ≡ None =
    subst (λ (s : State). note_refusal s.limits s.stream c.args.note.now ≡ None) c.self.view_is (rw c.self.invariant.same_limits at c.in-Ok.ensures.offered.next) in
    never_next s sound c.args.thread c.args.place c.args.note.now c.requires.known c.requires.other c.requires.there none

pub returns-clause-moved : goal.returns-clause-moved
returns-clause-moved c =
    let s = c.args.self.now in
    let sound : IsSound s = subst IsSound c.self.view_is c.self.invariant.sound in
    let same = ap (λ (s : List Note). state_of c.self.inside.limits c.self.inside.dispatcher c.self.inside.parts.items s) c.in-Err.ensures.offered.unchanged ∙ c.self.view_is in
    let some = never_next s sound c.args.thread c.args.place c.args.note.now c.requires.known c.requires.other c.requires.there in
    let told = rw c.self.invariant.same_limits at c.in-Err.ensures.offered.refused in
    let cause : (note_refusal s.limits s.stream c.args.note.now ≡ Some c.in-Err.why) ⊎ ((note_refusal s.limits s.stream c.args.note.now ≡ None) × (c.in-Err.why ≡ Memory)) =
    subst (λ (s : State). (note_refusal s.limits s.stream c.args.note.now ≡ Some c.in-Err.why) ⊎ ((note_refusal s.limits s.stream c.args.note.now ≡ None) × (c.in-Err.why ≡ Memory))) c.self.view_is told in
    refused_as s sound c.args.thread c.args.place c.args.note.now c.requires.known c.requires.other c.requires.there c.in-Err.why
    (refused_for_cause _ c.in-Err.why some cause)
    ∙ ap (λ (q : State). let m : Moved = record { after = q; did = Refused c.in-Err.why } in m) (sym same)
