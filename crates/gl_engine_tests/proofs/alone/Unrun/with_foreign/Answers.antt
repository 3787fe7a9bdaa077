use Rattle.std.proofs.Common.{arith, length, sym, ap, ◌∙◌}
use Rattle.gl_engine.specs.Collecting.{lanes_of}
use Rattle.gl_engine_tests.specs.Sessions.{IsOurs}
use Rattle.gl_engine_tests.proofs.Ours.{each_left, each_push, lent_back}
use Rattle.gl_engine_tests.proofs.alone.Unrun.with_foreign.Goals as goal

pub refused-requires : goal.refused-requires
refused-requires c =
    let s = c.self.inside in
    let is = c.self.invariant in
    let ours = IsOurs s.collector.session s.collector.limits (lanes_of s.collector) in
    rw (c.as_mut_slice.ensures.value, c.in-Ok.ensures.items)
    (record { ours = each_push ours s.receipts.items c.args.foreign is.ours (λ own lane found. absurd (omega (arith, c.if-session-eq-NUMBER.false, c.session.ensures, own, is.numbered))) })

pub invariant_of-result : goal.invariant_of-result
invariant_of-result c =
    let s = c.self.inside in
    let is = c.self.invariant in
    let ours = IsOurs s.collector.session s.collector.limits (lanes_of s.collector) in
    let with = each_push ours s.receipts.items c.args.foreign is.ours (λ own lane found. absurd (omega (arith, c.if-session-eq-NUMBER.false, c.session.ensures, own, is.numbered))) in
    let lent = c.as_mut_slice.ensures.value in
    let back = lent_back _ c.push.new.self.items c.refused.new.receipts _ (c.refused.ensures.receipts ∙ lent) (ap length (sym lent) ∙ c.as_mut_slice.ensures.len) in
    let same = sym c.in-Ok.ensures.items ∙ sym back ∙ c.pop.ensures.items in
    rw c.in_ok-why.ensures.same
    (record { numbered = is.numbered; count = is.count; ours = each_left ours _ c.pop.new.self.items c.pop.result same with })
