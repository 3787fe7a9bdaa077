use Rattle.std.proofs.Common.{length, refl, ap, subst, ◌∙◌, arith}
use Rattle.gl_std.specs.bodies.Ahead.{bytes_of, HasReadOn}
use Rattle.gl_std.specs.declared.line_reader.pieces.Ending.TheVariants.{More}
use Rattle.gl_std.proofs.PiecesAhead.{only_reads_then, read_on_none, read_on_then}
use Rattle.gl_std.proofs.line_reader.LineReader.read_into.Goals as goal

pub loop-ending-init : goal.loop-ending-init
loop-ending-init g c = record {
  reads = read_on_none _ c.args.self.now (bytes_of c.args.piece.now) _ c.requires.can.not_failed;
  only = record { same_judge = refl; same_beginning = refl; same_size = refl };
  room = omega (arith, ap length c.requires.none);
  not_failed = c.requires.can.not_failed;
  few = omega arith;
  block = refl;
}

pub loop-ending-preserved : goal.loop-ending-preserved
loop-ending-preserved g c =
    let so_far = c.loop-ending.invariant in
    let new = c.read_more.new in
    let more = subst (HasReadOn (g.R.Source.position c.loop-ending.input) c.loop-ending.self (bytes_of c.loop-ending.piece) (g.R.Source.position new.input) (g.R.Source.failed new.input) new.self (bytes_of new.piece)) c.in-More.is c.in_ok-ending.ensures.filled.reads in
    let fewer = c.in_ok-ending.ensures.filled.fewer c.in-More.is in
    record {
      reads = read_on_then _ _ _ c.args.self.now c.loop-ending.self new.self (bytes_of c.args.piece.now) (bytes_of c.loop-ending.piece) (bytes_of new.piece) _ _ More so_far.reads more;
      only = only_reads_then _ _ _ so_far.only c.in_ok-ending.ensures.filled.only;
      room = omega (arith, c.len.ensures, c.if-len.false);
      not_failed = more.gives.0;
      few = omega (arith, so_far.few, fewer);
      block = c.read_more.ensures.block ∙ so_far.block;
    }

-- the source has ended, or can't be read on
pub returns-in_default-clause-filled : goal.returns-in_default-clause-filled
returns-in_default-clause-filled g c =
    let so_far = c.loop-ending.invariant in
    let new = c.read_more.new in
    record {
      reads = read_on_then _ _ _ c.args.self.now c.loop-ending.self new.self (bytes_of c.args.piece.now) (bytes_of c.loop-ending.piece) (bytes_of new.piece) _ _ _ so_far.reads c.in_ok-ending.ensures.filled.reads;
      only = only_reads_then _ _ _ so_far.only c.in_ok-ending.ensures.filled.only;
      short = c.in_ok-ending.ensures.filled.short;
      fewer = λ is. let fewer = c.in_ok-ending.ensures.filled.fewer is in omega (arith, so_far.few, fewer);
    }

-- there is no room for more
pub returns-then-len-clause-filled : goal.returns-then-len-clause-filled
returns-then-len-clause-filled g c =
    let so_far = c.loop-ending.invariant in
    let new = c.read_more.new in
    let more = subst (HasReadOn (g.R.Source.position c.loop-ending.input) c.loop-ending.self (bytes_of c.loop-ending.piece) (g.R.Source.position new.input) (g.R.Source.failed new.input) new.self (bytes_of new.piece)) c.in-More.is c.in_ok-ending.ensures.filled.reads in
    let fewer = c.in_ok-ending.ensures.filled.fewer c.in-More.is in
    record {
      reads = read_on_then _ _ _ c.args.self.now c.loop-ending.self new.self (bytes_of c.args.piece.now) (bytes_of c.loop-ending.piece) (bytes_of new.piece) _ _ More so_far.reads more;
      only = only_reads_then _ _ _ so_far.only c.in_ok-ending.ensures.filled.only;
      short = c.in_ok-ending.ensures.filled.short;
      fewer = λ _. omega (arith, so_far.few, fewer);
    }
