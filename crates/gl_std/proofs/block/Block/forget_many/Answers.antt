use Rattle.gl_std.proofs.block.Block.forget_many.Goals as goal

pub returns-clause-right : goal.returns-clause-right
returns-clause-right c = λ names right. c.clear-2.ensures c.clear.new.self names
