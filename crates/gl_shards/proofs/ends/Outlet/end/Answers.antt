use Rattle.std.proofs.Common.{sym, ap, subst, ◌∙◌}
use Rattle.crossbeam_channel.specs.Claims.{view}
use Rattle.gl_shards.specs.Rule.{HasEndMark}
use Rattle.gl_shards.proofs.Messages.{sent_end, now_ended}
use Rattle.gl_shards.proofs.ends.Outlet.end.Goals as goal

pub returns-in-Ok-clause-sent : goal.returns-in-Ok-clause-sent
returns-in-Ok-clause-sent g c = sent_end (view c.self.inside.pass) (view c.send_message.new.pass) c.in-Ok.ensures.sent ∙ ap (λ outlet. outlet.sent) c.self.view_is

pub invariant_of-result : goal.invariant_of-result
invariant_of-result g c = record {
  is_sender = record { seat = c.send_message.ensures.seat; sends = ap (λ known. known.sends) c.in-Ok.ensures.sent ∙ c.self.invariant.is_sender.sends };
  ended = subst HasEndMark (sym (ap (λ known. known.sent) c.in-Ok.ensures.sent)) (now_ended (view c.self.inside.pass).sent);
}
