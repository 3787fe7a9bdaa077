use Rattle.std.proofs.Common.{refl, subst, arith}
use Rattle.gl_std.specs.bodies.Ahead.{text_of, HasReadOn}
use Rattle.gl_std.specs.declared.line_reader.pieces.Ending.TheVariants.{More}
use Rattle.gl_std.proofs.PiecesAhead.{only_reads_then, read_on_none, read_on_then}
use Rattle.gl_std.proofs.line_reader.LineReader.read_ahead.Goals as goal

pub loop-ending-init : goal.loop-ending-init
loop-ending-init g c = record {
  reads = read_on_none _ c.args.self.now (text_of c.args.pieces.now.items) _ c.requires.can.not_failed;
  only = record { same_judge = refl; same_beginning = refl; same_size = refl };
  short = c.requires.short;
  not_failed = c.requires.can.not_failed;
  few = omega arith;
  right = λ names spare pieces. (spare, pieces);
}

pub loop-ending-preserved : goal.loop-ending-preserved
loop-ending-preserved g c =
    let so_far = c.loop-ending.invariant in
    let new = c.read_piece.new in
    let more = subst (HasReadOn (g.R.Source.position c.loop-ending.input) c.loop-ending.self (text_of c.loop-ending.pieces.items) (g.R.Source.position new.input) (g.R.Source.failed new.input) new.self (text_of new.pieces.items)) c.in-More.is c.in_ok-ending.ensures.adds.reads in
    let fewer = c.in_ok-ending.ensures.adds.fewer c.in-More.is in
    record {
      reads = read_on_then _ _ _ c.args.self.now c.loop-ending.self new.self (text_of c.args.pieces.now.items) (text_of c.loop-ending.pieces.items) (text_of new.pieces.items) _ _ More so_far.reads more;
      only = only_reads_then _ _ _ so_far.only c.in_ok-ending.ensures.adds.only;
      short = c.in_ok-ending.ensures.adds.short;
      not_failed = more.gives.0;
      few = omega (arith, so_far.few, fewer);
      right = λ names spare pieces. let before = so_far.right names spare pieces in c.in_ok-ending.ensures.right names before.0 before.1;
    }

-- the source has ended, or can't be read on
pub returns-in_default-clause-adds : goal.returns-in_default-clause-adds
returns-in_default-clause-adds g c =
    let so_far = c.loop-ending.invariant in
    let new = c.read_piece.new in
    record {
      reads = read_on_then _ _ _ c.args.self.now c.loop-ending.self new.self (text_of c.args.pieces.now.items) (text_of c.loop-ending.pieces.items) (text_of new.pieces.items) _ _ _ so_far.reads c.in_ok-ending.ensures.adds.reads;
      only = only_reads_then _ _ _ so_far.only c.in_ok-ending.ensures.adds.only;
      short = c.in_ok-ending.ensures.adds.short;
      fewer = λ is. let fewer = c.in_ok-ending.ensures.adds.fewer is in omega (arith, so_far.few, fewer);
    }

-- there are as many as were asked for
pub returns-then-len-most-clause-adds : goal.returns-then-len-most-clause-adds
returns-then-len-most-clause-adds g c =
    let so_far = c.loop-ending.invariant in
    let new = c.read_piece.new in
    let more = subst (HasReadOn (g.R.Source.position c.loop-ending.input) c.loop-ending.self (text_of c.loop-ending.pieces.items) (g.R.Source.position new.input) (g.R.Source.failed new.input) new.self (text_of new.pieces.items)) c.in-More.is c.in_ok-ending.ensures.adds.reads in
    let fewer = c.in_ok-ending.ensures.adds.fewer c.in-More.is in
    record {
      reads = read_on_then _ _ _ c.args.self.now c.loop-ending.self new.self (text_of c.args.pieces.now.items) (text_of c.loop-ending.pieces.items) (text_of new.pieces.items) _ _ More so_far.reads more;
      only = only_reads_then _ _ _ so_far.only c.in_ok-ending.ensures.adds.only;
      short = c.in_ok-ending.ensures.adds.short;
      fewer = λ _. omega (arith, so_far.few, fewer);
    }

pub returns-in_default-clause-right : goal.returns-in_default-clause-right
returns-in_default-clause-right g c = λ names spare pieces. let before = c.loop-ending.invariant.right names spare pieces in c.in_ok-ending.ensures.right names before.0 before.1

pub returns-then-len-most-clause-right : goal.returns-then-len-most-clause-right
returns-then-len-most-clause-right g c = λ names spare pieces. let before = c.loop-ending.invariant.right names spare pieces in c.in_ok-ending.ensures.right names before.0 before.1
