use Rattle.std.proofs.Common.{sym, ap, subst, ◌∙◌}
use Rattle.gl_shards.specs.Rule.{HasEndMark}
use Rattle.gl_shards.specs.declared.rule.Traffic.{Traffic}
use Rattle.gl_shards.proofs.InOrder.{sends}
use Rattle.gl_shards.proofs.ends.send_message.Goals as goal

pub try_send_as-requires-clause-rule : goal.try_send_as-requires-clause-rule
try_send_as-requires-clause-rule g c =
    let same = c.loop-looks.invariant.same in (
      sends _ _ _ _ (ap (λ (known : Traffic). known.sends) same ∙ c.requires.sends) (subst (λ (known : Traffic). ¬ HasEndMark known.sent) (sym same) c.requires.not_ended),
      λ messages passes kept at. tt,
    )

pub send_as-requires-clause-rule : goal.send_as-requires-clause-rule
send_as-requires-clause-rule g c =
    let same = c.loop-looks.invariant.same in (
      sends _ _ _ _ (ap (λ (known : Traffic). known.sends) same ∙ c.requires.sends) (subst (λ (known : Traffic). ¬ HasEndMark known.sent) (sym same) c.requires.not_ended),
      λ messages passes kept at. tt,
    )
