use Rattle.std.proofs.Common.{Some, refl, ◌∙◌}
use Rattle.gl_std.specs.bodies.Counting.{count_of}
use Rattle.gl_std.specs.bodies.Shown.{shown_operation}
use Rattle.gl_std.specs.declared.names.Found.{Found}
use Rattle.gl_std.proofs.JudgedLines.{known_limit, known_names}
use Rattle.gl_std.proofs.RuledLines.{ruled_line}
use Rattle.gl_std.proofs.judge.Judge.take_known.Goals as goal

pub returns-clause-judges : goal.returns-clause-judges
returns-clause-judges c = λ t o l at.
    let old = c.args.self.now in
    let own = c.args.thread in
    let operation = shown_operation c.args.operation in
    let found : Found = record { thread = Some own; operand = Some c.args.operand; loc = Some c.args.loc } in
    let limit = c.events_reached-limit.ensures ∙ known_limit old.limits old.names (count_of old.standings.items (Some own)) operation own c.args.operand c.args.loc c.requires.can.sound.threads_fit c.requires.can.sound.locks_fit c.requires.can.sound.locs_fit in
    let none_new = known_names old.names operation t o l own c.args.operand c.args.loc in
    let mid = record old { latest = Some own; standings = c.stand.new.standings } in
    ruled_line old mid c.judged_by.new.self operation t o l found c.event_of-event.result c.events_reached-limit.result own c.in_ok-ruling.ruling c.judged_by.result c.requires.can.sound at c.event_of-event.ensures limit refl c.in_ok-ruling.ensures.ruling c.in_ok-ruling.ensures.stands
    (λ kept. none_new) (λ stray. refl) refl refl refl c.judged_by.ensures.counted c.judged_by.ensures.judged
