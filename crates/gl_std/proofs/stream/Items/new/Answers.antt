use Rattle.gl_std.proofs.stream.Items.new.Goals as goal

pub returns-clause-tells : goal.returns-clause-tells
returns-clause-tells c = c.in_ok-reader.ensures.begun
