use Rattle.std.proofs.Common.{ap, not, ◌||◌, ◌∙◌}
use Rattle.std.specs.HashSet.{contains}
use Rattle.gl_grounds.specs.Classes.{are_places}
use Rattle.gl_grounds.proofs.PassageSteps.{still_there, added_there}
use Rattle.gl_grounds.proofs.passages.Passages.note.Goals as goal

pub returns-clause-stay : goal.returns-clause-stay
returns-clause-stay c = λ one other there.
    let all = c.args.self.now.are_all in
    ap (λ b. not all || b) (c.in_ok-insert.ensures.updates.0 (one, other))
    ∙ still_there all (are_places (c.args.one, c.args.other) (one, other)) (contains are_places c.args.self.now.pairs (one, other)) there

pub returns-clause-noted : goal.returns-clause-noted
returns-clause-noted c =
    let all = c.args.self.now.are_all in
    ap (λ b. not all || b) (c.in_ok-insert.ensures.updates.0 (c.args.one, c.args.other))
    ∙ added_there all (contains are_places c.args.self.now.pairs (c.args.one, c.args.other)) (c.args.one, c.args.other)
