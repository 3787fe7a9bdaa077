use Rattle.gl_engine_tests.specs.Sessions.{IsOurs}
use Rattle.gl_engine_tests.proofs.Ours.{each_front, each_push, of_last}
use Rattle.gl_engine_tests.proofs.sessions.Session.put_aside.Goals as goal

pub invariant_of-result : goal.invariant_of-result
invariant_of-result c =
    let s = c.self.inside in
    let is = c.self.invariant in
    let ours = IsOurs s.gathered.session s.gathered.limits s.gathered.lanes in
    let left = c.pop.new.self.items in
    let receipt = c.in_ok-receipt.receipt in
    rw c.in-Ok.ensures.items
    (record {
      numbered = is.numbered;
      ours = each_front ours left receipt (rw c.in_ok-receipt.ensures.items at is.ours);
      ours_aside = each_push ours s.aside.items receipt is.ours_aside (of_last ours s.receipts.items left receipt c.in_ok-receipt.ensures.items is.ours);
      feeds = is.feeds;
    })
