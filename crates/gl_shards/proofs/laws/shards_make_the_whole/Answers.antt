use Rattle.gl_shards.proofs.Uniting.{shards_whole}
use Rattle.gl_shards.proofs.laws.shards_make_the_whole.Goals as goal

pub returns : goal.returns
returns c = shards_whole
