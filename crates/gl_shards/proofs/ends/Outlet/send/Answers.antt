use Rattle.std.proofs.Common.{◌≡◌, [], ◌∷◌, ◌++◌, OnOk, sym, ap, subst, ◌∙◌}
use Rattle.crossbeam_channel.specs.Claims.{view}
use Rattle.gl_edges.specs.declared.edge.Edge.{Edge}
use Rattle.gl_edges.specs.declared.edge.Sample.{Sample}
use Rattle.gl_shards.specs.Feeds.{sent_by}
use Rattle.gl_shards.proofs.Messages.{sent_more}
use Rattle.gl_shards.proofs.ends.Outlet.send.Goals as goal
use Rattle.gl_shards.proofs.ends.Outlet.send.Goals.{in-Ok, in-Err-Pair}

pub returns-clause-sent : goal.returns-clause-sent
returns-clause-sent g c =
    let pair : Edge × Sample = (c.args.edge, c.args.sample) in
    elim c.match-send_message.branch [
      | in-Ok w ↦
          subst (λ result. OnOk result (sent_by c.send_message.new.pass ≡ c.args.self.now.sent ++ pair ∷ [])) (sym w.result-is)
          (sent_more (view c.self.inside.pass) (view c.send_message.new.pass) pair w.in-Ok.ensures.sent ∙ ap (λ outlet. outlet.sent ++ pair ∷ []) c.self.view_is)
      | in-Err-Pair w ↦ subst (λ result. OnOk result (sent_by c.send_message.new.pass ≡ c.args.self.now.sent ++ pair ∷ [])) (sym w.result-is) tt
    ]
