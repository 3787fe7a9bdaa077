use Rattle.std.proofs.Common.{w64}
use Rattle.std.proofs.lemmas.Nat.Bits.{bit_at_set_same, bit_at_set_other}
use Rattle.gl_edges.proofs.marks.with_bit.Goals as goal

pub returns-clause-set : goal.returns-clause-set
returns-clause-set c = bit_at_set_same w64 c.args.bits c.args.place c.requires

pub returns-clause-same : goal.returns-clause-same
returns-clause-same c = bit_at_set_other w64 c.args.bits c.args.place c.requires
