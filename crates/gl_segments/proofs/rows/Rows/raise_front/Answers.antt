use Rattle.std.proofs.Common.{◌≡◌, length, Some, refl, sym, ap, ◌∙◌, arith}
use Rattle.std.specs.Prelude.{slice_get}
use Rattle.std.proofs.lemmas.Option.{slice_get_read}
use Rattle.gl_segments.specs.declared.rows.Row.TheVariants.{Waiting}
use Rattle.gl_segments.specs.bodies.Fronts.{first_of, IsFront}
use Rattle.gl_segments.specs.bodies.Tables.{Has}
use Rattle.gl_segments.proofs.Sweeping.{front_merged, front_raised}
use Rattle.gl_segments.proofs.rows.Rows.raise_front.Goals as goal

pub returns-in_ok-front-clause-rows : goal.returns-in_ok-front-clause-rows
returns-in_ok-front-clause-rows c = λ steps sound width is apart step have.
    let rows = c.self.inside.rows.items in
    let read = c.index.result.now in
    let front = c.in-Waiting.front in
    let new = c.in_ok-front.front in
    let at : slice_get rows c.number-place.result ≡ Some read = slice_get_read rows (length rows) c.number-place.result read refl (omega arith) c.index.ensures in
    let here : slice_get rows c.args.thread ≡ Some (Waiting front) = ap (slice_get rows) (sym c.number-place.ensures) ∙ at ∙ ap Some c.in-Waiting.is in
    let old : IsFront steps front.items (first_of c.args.thread) = have c.args.thread (Waiting front) (ap (λ rs. slice_get rs c.args.thread) (sym c.self.view_is) ∙ here) in
    let has : Has steps c.args.from = sound.inside c.args.from (first_of c.args.thread) step in
    let kept = front_merged steps sound c.args.clock.now c.args.from has is apart width front.items c.in_ok-raised.field-0 new.items (length front.items) (first_of c.args.thread) step old refl
    (rw (sym c.deref.ensures.value) c.in_ok-raised.ensures) c.in_ok-front.ensures.short c.in_ok-front.ensures.counts in
    c.put.ensures.rows steps kept have

pub returns-in_ok-front-clause-raised : goal.returns-in_ok-front-clause-raised
returns-in_ok-front-clause-raised c =
    let rows = c.self.inside.rows.items in
    let read = c.index.result.now in
    let front = c.in-Waiting.front in
    let new = c.in_ok-front.front in
    let at : slice_get rows c.number-place.result ≡ Some read = slice_get_read rows (length rows) c.number-place.result read refl (omega arith) c.index.ensures in
    let here : slice_get rows c.args.thread ≡ Some (Waiting front) = ap (slice_get rows) (sym c.number-place.ensures) ∙ at ∙ ap Some c.in-Waiting.is in
    front_raised c.args.self.now c.put.new.self c.args.thread c.args.from c.args.clock.now c.in_ok-raised.field-0 front new (length front.items) (ap (λ rs. slice_get rs c.args.thread) (sym c.self.view_is) ∙ here) c.put.ensures.set
    c.requires.within refl (rw (sym c.deref.ensures.value) c.in_ok-raised.ensures) c.in_ok-front.ensures.counts
