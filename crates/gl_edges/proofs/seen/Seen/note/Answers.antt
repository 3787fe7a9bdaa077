use Rattle.std.proofs.Common.{◌≡◌, ◌⊎◌, map, sym, subst, ◌∙◌, arith}
use Rattle.std.specs.Prelude.{Contains}
use Rattle.std.proofs.lemmas.Result.{on_ok_weaker, IfOk-weaker}
use Rattle.gl_edges.specs.bodies.Seen.{edges_now, noted, opened_of}
use Rattle.gl_edges.proofs.Ways.{edges_now_inside}
use Rattle.gl_edges.proofs.seen.Seen.note.Goals as goal

pub returns-clause-known : goal.returns-clause-known
returns-clause-known c =
    let thread = c.self.inside.thread in
    let leads = rw c.in-Some.is at c.in_ok-parent.ensures.leads in
    let of_thread : thread ≡ c.args.thread = grind (arith, c.number.ensures, c.number-2.ensures, c.if-number.false) in
    let edges_are = edges_now_inside (record { thread = c.args.thread; state = c.args.state.now }) c.args.wanted c.args.mode thread c.entries-entries.result.now c.segment.result of_thread c.entries-entries.ensures c.segment.ensures in
    IfOk-weaker c.note.result _ _
    (λ known said is_known edge there.
    subst (λ edges. Contains edges edge) (c.in_ok-parent.ensures.noted thread ∙ c.self.view_is)
    (said is_known thread (map opened_of c.entries-entries.result.now) leads edge (subst (λ edges. Contains edges edge) (sym edges_are) there)))
    c.note.ensures.known

pub returns-clause-noted : goal.returns-clause-noted
returns-clause-noted c =
    let thread = c.self.inside.thread in
    let leads = rw c.in-Some.is at c.in_ok-parent.ensures.leads in
    let of_thread : thread ≡ c.args.thread = grind (arith, c.number.ensures, c.number-2.ensures, c.if-number.false) in
    let edges_are = edges_now_inside (record { thread = c.args.thread; state = c.args.state.now }) c.args.wanted c.args.mode thread c.entries-entries.result.now c.segment.result of_thread c.entries-entries.ensures c.segment.ensures in
    on_ok_weaker c.note.result
    (λ said edge there.
    subst (λ edges. Contains edges edge ⊎ Contains (edges_now c.args.thread c.args.state.now c.args.wanted c.args.mode) edge) (c.in_ok-parent.ensures.noted thread ∙ c.self.view_is)
    (subst (λ edges. Contains (noted thread c.node_of.new.self) edge ⊎ Contains edges edge) edges_are
    (said thread (map opened_of c.entries-entries.result.now) leads edge there)))
    c.note.ensures.noted
