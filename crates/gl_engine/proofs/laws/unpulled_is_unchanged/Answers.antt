use Rattle.gl_engine.proofs.Unpulled.{unpulled_is_unchanged}
use Rattle.gl_engine.proofs.laws.unpulled_is_unchanged.Goals as goal

pub returns : goal.returns
returns c = unpulled_is_unchanged
