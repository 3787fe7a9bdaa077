use Rattle.gl_std.proofs.block.Block.new.Goals as goal

pub returns-clause-right : goal.returns-clause-right
returns-clause-right c = λ names. c.none.ensures c.new.result names
