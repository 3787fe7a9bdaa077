use Rattle.std.proofs.Common.{arith}
use Rattle.std.proofs.lemmas.Option.{slice_get_read}
use Rattle.gl_index.proofs.chains.Chain.after.Goals as goal

pub returns : goal.returns
returns c = λ edges kept side e are at. are.goes_on c.args.i e c.index.result.now (omega arith) at (slice_get_read c.args.self.now.next.items _ c.args.i _ c.args.self.now.next.ok.0 c.requires c.index.ensures)
