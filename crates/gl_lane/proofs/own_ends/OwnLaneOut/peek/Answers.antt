use Rattle.std.proofs.Common.{◌<◌, ◌≤◌, length, refl, ◌++◌, ◌∷◌, ◌+◌, sym, ap, subst, ◌∙◌, arith}
use Rattle.std.proofs.lemmas.List.{nil_from_length}
use Rattle.gl_lane.specs.bodies.OwnRuns.{notes_after, rest, AreTaken}
use Rattle.rtrb.specs.Ring.{received, known_items}
use Rattle.gl_lane.proofs.OwnNotes.{notes_prefix}
use Rattle.gl_lane.proofs.OwnRunning.{all_counted, fits_next, none_left, notes_from, rest_from, taken_anew}
use Rattle.gl_lane.proofs.own_ends.OwnLaneOut.peek.Goals as goal

pub note_of-requires : goal.note_of-requires
note_of-requires c = record { fits = fits_next _ _ _ _ _ c.self.invariant c.index-self-self.result (omega (arith, c.self.invariant.within, c.if-self.true)) }

pub returns-then-self-clause-shown : goal.returns-then-self-clause-shown
returns-then-self-clause-shown c =
    let i = c.self.inside in
    let more : i.popped < i.taken = omega (arith, c.self.invariant.within, c.if-self.true) in (
      notes_after i.thread (i.place + 1) (rest (i.popped + 1) i.taken i.run ++ known_items i.consumer),
      ap (λ note. note ∷ notes_after i.thread (i.place + 1) (rest (i.popped + 1) i.taken i.run ++ known_items i.consumer)) c.note_of.ensures
          ∙ sym (notes_from _ _ _ _ _ c.self.invariant c.index-self-self.result more i.thread (known_items i.consumer))
          ∙ ap (λ v. v.left) c.self.view_is,
    )

pub returns-then-self-eq0-clause-left : goal.returns-then-self-eq0-clause-left
returns-then-self-eq0-clause-left c =
    let i = c.self.inside in
    let p = c.pop_partial_slice-self-inside in
    let none = none_left _ _ _ _ _ c.self.invariant (omega (arith, c.if-self.false)) in
    rw (← c.self.view_is) (rw none (notes_prefix i.thread i.place (known_items i.consumer) _ p.ensures.known))

pub returns-then-self-eq0-clause-shown : goal.returns-then-self-eq0-clause-shown
unfolding notes_after
returns-then-self-eq0-clause-shown c =
    let p = c.pop_partial_slice-self-inside in
    rw (c.if-self-eq0.true, nil_from_length _ (p.ensures.most (omega (arith, c.if-self-eq0.true, p.auto.slice)))) refl

pub invariant_of-self-2 : goal.invariant_of-self-2
invariant_of-self-2 c =
    let p = c.pop_partial_slice-self-inside in
    let many = all_counted _ _ _ _ _ c.self.invariant (omega (arith, c.if-self.false)) in
    subst (AreTaken c.self.inside.place 0 p.result p.new.slice) (sym p.ensures.received.1)
    (taken_anew c.self.inside.place p.result p.new.slice (received c.self.inside.consumer) many (omega (arith, p.ensures.received.0, p.auto.slice)) p.ensures.allowed)

pub returns-clause-left : goal.returns-clause-left
returns-clause-left c =
    let i = c.self.inside in
    let p = c.pop_partial_slice-self-inside in
    let none = none_left _ _ _ _ _ c.self.invariant (omega (arith, c.if-self.false)) in
    rw (← c.self.view_is) (rw none (notes_prefix i.thread i.place (known_items i.consumer) _ p.ensures.known))

pub returns-clause-shown : goal.returns-clause-shown
unfolding notes_after
returns-clause-shown c =
    let i = c.self.inside in
    let p = c.pop_partial_slice-self-inside in
    let many : 0 < p.result = omega (arith, c.if-self-eq0.false) in
    let fit : p.result ≤ length p.new.slice = omega (arith, p.ensures.received.0, p.auto.slice) in (
      notes_after i.thread (i.place + 1) (rest 1 p.result p.new.slice ++ known_items p.new.self),
      ap (λ note. note ∷ notes_after i.thread (i.place + 1) (rest 1 p.result p.new.slice ++ known_items p.new.self)) c.note_of-2.ensures
          ∙ sym (ap (λ bodies. notes_after i.thread i.place (bodies ++ known_items p.new.self)) (rest_from 0 p.result p.new.slice c.index-self-0.result many fit)),
    )
