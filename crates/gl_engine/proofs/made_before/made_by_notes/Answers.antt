use Rattle.std.proofs.Common.{List, [], ◌∷◌, ◌++◌, take, ap, sym, ◌∙◌}
use Rattle.std.proofs.lemmas.List.{take_more}
use Rattle.gl_event.specs.declared.notes.Note.{Note}
use Rattle.gl_world.proofs.Lists.{get_at}
use Rattle.gl_engine.specs.Dealing.{made_by}
use Rattle.gl_engine.proofs.Dealt.{made_by_empty, made_by_none}
use Rattle.gl_engine.proofs.Sparing.{made_of_none}
use Rattle.gl_engine.proofs.made_before.made_by_notes.Goals as goal

pub returns-then-is_empty-clause-made : goal.returns-then-is_empty-clause-made
returns-then-is_empty-clause-made c = made_of_none c.in_ok-making.making c.args.notes.now (made_by_empty c.args.notes.now c.if-is_empty.ensures) c.in_ok-making.ensures.none c.in_ok-making.ensures.unknown

pub loop-note-init : goal.loop-note-init
loop-note-init c = record {
  limits = c.in_ok-intake.ensures.limits;
  stream = c.in_ok-intake.ensures.empty;
  made = made_of_none _ _ (ap made_by c.in_ok-intake.ensures.empty ∙ made_by_none) c.in_ok-making.ensures.none c.in_ok-making.ensures.unknown;
  spares = c.in_ok-making.ensures.spares;
}

pub take_again-requires-clause-next : goal.take_again-requires-clause-next
take_again-requires-clause-next c =
    let inv = c.loop-note.invariant in
    rw (inv.limits, inv.stream)
    (c.requires.in_order.each c.loop-note.note-index c.note-item.result (get_at c.args.notes.now c.loop-note.note-index c.note-item.result c.loop-note-test.true c.note-item.is))

pub loop-note-preserved : goal.loop-note-preserved
loop-note-preserved c =
    let inv = c.loop-note.invariant in
    let i = c.loop-note.note-index in
    record {
      limits = c.take_again.ensures.limits ∙ inv.limits;
      stream = c.in_ok-take_again.ensures.stream ∙ ap (λ (notes : List Note). notes ++ c.note-item.result ∷ []) inv.stream ∙ ap (λ (note : Note). take i c.args.notes.now ++ note ∷ []) c.note-item.is
          ∙ sym (take_more c.args.notes.now i c.note-item.result c.loop-note-test.true);
      made = c.in_ok-take_again.ensures.made;
      spares = c.take_again.ensures.spares ∙ inv.spares;
    }
