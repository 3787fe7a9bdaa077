use Rattle.std.proofs.Common.{[], ◌∷◌, ◌++◌, length, sym, ap, ◌∙◌}
use Rattle.gl_engine.specs.Collecting.{lanes_of}
use Rattle.gl_engine_tests.specs.Sessions.{IsOurs}
use Rattle.gl_engine_tests.proofs.Ours.{each_front, lent_back}
use Rattle.gl_engine_tests.proofs.alone.Unrun.without_last.Goals as goal

pub refused-requires : goal.refused-requires
refused-requires c =
    let s = c.self.inside in
    let ours = IsOurs s.collector.session s.collector.limits (lanes_of s.collector) in
    rw c.as_mut_slice.ensures.value
    (record { ours = each_front ours c.pop.new.self.items c.in_ok-last.last (rw c.in_ok-last.ensures.items at c.self.invariant.ours) })

pub invariant_of-result : goal.invariant_of-result
invariant_of-result c =
    let lent = c.as_mut_slice.ensures.value in
    let back = lent_back _ c.pop.new.self.items c.refused.new.receipts _ (c.refused.ensures.receipts ∙ lent) (ap length (sym lent) ∙ c.as_mut_slice.ensures.len) in
    let same = c.in-Ok.ensures.items ∙ ap (λ items. items ++ c.in_ok-last.last ∷ []) back ∙ sym c.in_ok-last.ensures.items in
    rw (c.in_ok-why.ensures.same, same) c.self.invariant
