use Rattle.std.proofs.Common.{◌-◌, refl, arith}
use Rattle.gl_std.specs.declared.line_reader.LineReader.{LineReader}
use Rattle.gl_std.proofs.line_reader.LineReader.read_more.Goals as goal

pub returns-clause-filled : goal.returns-clause-filled
returns-clause-filled g c =
    let old = c.args.self.now in
    let new : LineReader = record old { turns = old.turns - 1 } in
    record {
      reads = c.in_ok-ending.ensures.gave old new (record { room = c.requires.can.room; left = omega (arith, c.if-self-eq0.false); turn = omega (arith, c.if-self-eq0.false) });
      only = record { same_judge = refl; same_beginning = refl; same_size = refl };
      short = omega (arith, c.in_ok-ending.ensures.short, c.requires.short);
      fewer = λ more. omega (arith, c.if-self-eq0.false);
    }
