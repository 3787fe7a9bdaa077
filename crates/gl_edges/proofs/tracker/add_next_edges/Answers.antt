use Rattle.std.proofs.Common.{◌++◌, sym, ap, ◌∙◌}
use Rattle.std.proofs.lemmas.List.{append-nil}
use Rattle.gl_edges.proofs.Gathering.{wanting_is, wanting_none, wanting_some, not_deep}
use Rattle.gl_edges.proofs.tracker.add_next_edges.Goals as goal

pub returns-then-holds-clause-added : goal.returns-then-holds-clause-added
returns-then-holds-clause-added c = λ es stands.
    let deep = (c.holds.ensures es stands).0 c.if-holds.true in
    rw c.in-Some.ensures.some
    (sym (append-nil c.args.made.now.items)
    ∙ ap (λ pairs. c.args.made.now.items ++ pairs) (sym (wanting_none c.args.thread es c.in-Some.wanted.lock c.in-Some.wanted.mode c.in-Some.wanted.loc deep)))

pub returns-in-Ok-clause-added : goal.returns-in-Ok-clause-added
returns-in-Ok-clause-added c = λ es stands.
    let free = not_deep c.holds.result _ (c.holds.ensures es stands).1 c.if-holds.false in
    rw c.in-Some.ensures.some
    (c.in-Ok.ensures.pushed es stands
    ∙ ap (λ pairs. c.args.made.now.items ++ pairs) (sym (wanting_is c.args.thread es c.in-Some.wanted.lock c.in-Some.wanted.mode c.in-Some.wanted.loc free)))

pub returns-in-Err-clause-room : goal.returns-in-Err-clause-room
returns-in-Err-clause-room c = λ es stands.
    let free = not_deep c.holds.result _ (c.holds.ensures es stands).1 c.if-holds.false in
    rw c.in-Some.ensures.some (wanting_some c.args.thread es c.in-Some.wanted.lock c.in-Some.wanted.mode c.in-Some.wanted.loc c.args.state.now.held free stands.held c.in-Err.ensures.room)
