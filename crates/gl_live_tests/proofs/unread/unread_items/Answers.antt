use Rattle.std.proofs.Common.{ap}
use Rattle.gl_event.specs.Bounds.{Bounds}
use Rattle.gl_live_tests.proofs.unread.unread_items.Goals as goal

-- nothing was asked for yet
pub returns-clause-unread : goal.returns-clause-unread
returns-clause-unread c = λ now.
    record {
      limits = c.in-Ok.limits;
      turns = 1000;
      start = now;
      as_many = ap (λ (b : Bounds). b.threads) c.in-Ok.ensures.kept;
      tells = c.in-Ok-new.ensures.tells now;
    }
