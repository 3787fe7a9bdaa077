use Rattle.std.proofs.Common.{◌≡◌, refl, ap, ◌∙◌}
use Rattle.gl_std.specs.Trace.{event_of}
use Rattle.gl_std.specs.bodies.Finding.{event_found, operand_number}
use Rattle.gl_std.specs.bodies.Rulings.{judged_by}
use Rattle.gl_std.specs.bodies.Shown.{shown_operation}
use Rattle.gl_std.specs.declared.judge.Judge.{Judge}
use Rattle.gl_std.proofs.RuledLines.{counted, ruled_line}
use Rattle.gl_std.proofs.judge.Judge.take_found.Goals as goal
use Rattle.gl_std.proofs.judge.Judge.take_found.Goals.{in-Kept+in_ok-tell, in_default}

pub returns-clause-judges : goal.returns-clause-judges
returns-clause-judges c =
    let old = c.args.self.now in
    let found = c.args.found.now in
    let operation = shown_operation c.args.operation in
    let event = c.event_of-event.result in
    let ruling = c.in_ok-ruling.ruling in
    let is_event : event ≡ event_found old.names operation found =
    c.event_of-event.ensures ∙ ap (λ n. event_of operation n c.loc_or_next-loc.result) c.operand_or_next-number.ensures ∙ ap (event_of operation (operand_number old.names operation found)) c.loc_or_next-loc.ensures in
    let own = c.thread_or_next-own.result in
    elim c.match-ruling.branch [
      | in-Kept+in_ok-tell w ↦
          let mid = record old { latest = found.thread; names = w.tell.new.self; standings = c.stand.new.standings } in
          ruled_line old mid c.judged_by.new.self operation c.args.thread.now c.args.operand.now c.args.location.now found event c.limit_reached-limit.result own ruling c.judged_by.result
          c.requires.can.sound c.requires.found is_event c.limit_reached-limit.ensures.fault c.thread_or_next-own.ensures c.in_ok-ruling.ensures.ruling c.in_ok-ruling.ensures.stands
          (λ kept. w.in_ok-tell.ensures) (λ stray. let is = w.in-Kept.is in cc) refl refl refl
          (c.judged_by.ensures.counted ∙ ap (λ (j : Judge). counted j ruling) w.self-is) (c.judged_by.ensures.judged ∙ ap (λ (j : Judge). judged_by ruling j.line own event) w.self-is)
      | in_default w ↦
          let mid = record old { latest = found.thread; standings = c.stand.new.standings } in
          ruled_line old mid c.judged_by.new.self operation c.args.thread.now c.args.operand.now c.args.location.now found event c.limit_reached-limit.result own ruling c.judged_by.result
          c.requires.can.sound c.requires.found is_event c.limit_reached-limit.ensures.fault c.thread_or_next-own.ensures c.in_ok-ruling.ensures.ruling c.in_ok-ruling.ensures.stands
          (λ kept. absurd (w.in_default.not-Kept kept)) (λ stray. refl) refl refl refl
          (c.judged_by.ensures.counted ∙ ap (λ (j : Judge). counted j ruling) w.self-is) (c.judged_by.ensures.judged ∙ ap (λ (j : Judge). judged_by ruling j.line own event) w.self-is)
    ]
