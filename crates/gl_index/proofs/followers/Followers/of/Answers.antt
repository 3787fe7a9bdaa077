use Rattle.std.proofs.Common.{refl}
use Rattle.gl_index.proofs.Listed.{index_of}
use Rattle.gl_index.proofs.followers.Followers.of.Goals as goal

pub returns : goal.returns
returns c = index_of c.args.table.now c.args.kept.now c.in_ok-holders.holders _ c.in_ok-holders.ensures c.in_ok-first.ensures refl c.in_ok-of.ensures
