use Rattle.gl_engine_tests.specs.Sessions.{IsOurs}
use Rattle.gl_engine_tests.proofs.Ours.{each_left}
use Rattle.gl_engine_tests.proofs.sessions.Session.without_last.Goals as goal

pub invariant_of-session : goal.invariant_of-session
invariant_of-session c =
    let s = c.session.inside in
    let is = c.session.invariant in
    let ours = IsOurs s.gathered.session s.gathered.limits s.gathered.lanes in
    record {
      numbered = is.numbered;
      ours = each_left ours s.receipts.items c.pop.new.self.items c.pop.result c.pop.ensures.items is.ours;
      ours_aside = is.ours_aside;
      feeds = is.feeds;
    }
