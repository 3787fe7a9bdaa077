use Rattle.std.proofs.Common.{refl}
use Rattle.gl_segments.proofs.Noting.{tells_none}
use Rattle.gl_segments.proofs.history.Growing.new.Goals as goal

pub returns-clause-noted : goal.returns-clause-noted
returns-clause-noted c = record {
  size = refl;
  tells = rw c.in_ok-new.ensures (tells_none c.args.thread c.args.threads c.new.result.items c.new-3.result.items c.new.ensures.items c.new-3.ensures.items);
}
