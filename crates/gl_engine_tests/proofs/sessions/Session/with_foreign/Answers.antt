use Rattle.std.proofs.Common.{arith}
use Rattle.gl_engine_tests.specs.Sessions.{IsOurs}
use Rattle.gl_engine_tests.proofs.Ours.{each_push}
use Rattle.gl_engine_tests.proofs.sessions.Session.with_foreign.Goals as goal

pub invariant_of-result : goal.invariant_of-result
invariant_of-result c =
    let s = c.self.inside in
    let is = c.self.invariant in
    let ours = IsOurs s.gathered.session s.gathered.limits s.gathered.lanes in
    rw c.in-Ok.ensures.items
    (record {
      numbered = is.numbered;
      ours = each_push ours s.receipts.items c.args.foreign is.ours (λ own lane found. absurd (omega (arith, c.if-session-number.false, c.session.ensures, own, is.numbered)));
      ours_aside = is.ours_aside;
      feeds = is.feeds;
    })
