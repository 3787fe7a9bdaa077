use Rattle.std.proofs.Common.{Bool, subst}
use Rattle.std.specs.Prelude.{Contains, IsTrue}
use Rattle.std.proofs.lemmas.Result.{on_err_weaker, on_ok_weaker, IfOk-weaker}
use Rattle.gl_edges.specs.bodies.Seen.{edges_now}
use Rattle.gl_edges.specs.declared.edge.Edge.{Edge}
use Rattle.gl_edges.proofs.Gathering.{not_deep, wanting_some}
use Rattle.gl_edges.proofs.Remembering.{acquire_known, acquire_learned}
use Rattle.gl_edges.proofs.acquires.Acquires.note.Goals as goal

pub returns-clause-known : goal.returns-clause-known
returns-clause-known c = λ es stands.
    let free = not_deep c.holds.result _ (c.holds.ensures es stands).1 c.if-holds.false in
    let wanted = c.in-Some.wanted in
    IfOk-weaker c.note.result
    (λ (known : Bool). IsTrue known → (edge : Edge) → Contains (edges_now c.args.thread c.args.state.now wanted.lock wanted.mode) edge → Contains c.self.inside.seen edge) _
    (λ known said is_known.
    rw c.in-Some.ensures.some
    (acquire_known c.args.thread es c.args.state.now stands wanted.lock wanted.mode wanted.loc free c.args.self.now
    (λ edge there. subst (λ edges. Contains edges edge) c.self.view_is (said is_known edge there))))
    c.note.ensures.known

pub returns-clause-learned : goal.returns-clause-learned
returns-clause-learned c = λ es stands.
    let free = not_deep c.holds.result _ (c.holds.ensures es stands).1 c.if-holds.false in
    let wanted = c.in-Some.wanted in
    on_ok_weaker c.note.result
    (λ said.
    rw c.in-Some.ensures.some
    (acquire_learned c.args.thread es c.args.state.now stands wanted.lock wanted.mode wanted.loc free c.args.self.now c.note.new.self (rw c.self.view_is at said)))
    c.note.ensures.noted

pub returns-clause-room : goal.returns-clause-room
returns-clause-room c = λ es stands.
    let free = not_deep c.holds.result _ (c.holds.ensures es stands).1 c.if-holds.false in
    let wanted = c.in-Some.wanted in
    on_err_weaker c.note.result
    (λ some. rw c.in-Some.ensures.some (wanting_some c.args.thread es wanted.lock wanted.mode wanted.loc c.args.state.now.held free stands.held some))
    c.note.ensures.some
