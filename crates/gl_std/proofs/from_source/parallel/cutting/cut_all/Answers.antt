use Rattle.std.proofs.Common.{◌≡◌, ◌<◌, ◌∙◌, length, sym, ap, subst, arith}
use Rattle.gl_std.specs.bodies.Ahead.{bytes_of, IsCut, IsRightPiece, IsShort}
use Rattle.gl_std.proofs.PiecesAhead.{text_alike}
use Rattle.gl_std.proofs.from_source.parallel.cutting.cut_all.Goals as goal

pub returns : goal.returns
returns g c =
    let old = c.args.pieces.now in
    let new = c.for_each_mut.new.s in
    let size : length new ≡ length old = search in
    record {
      cut = λ k d within. let at = (c.for_each_mut.ensures k d (omega (arith, within, size))).1 in subst IsCut at.left at.call.cut;
      short = λ k d within. let at = (c.for_each_mut.ensures k d (omega (arith, within, size))).1 in subst IsShort at.left at.call.short;
      same = text_alike old new size (λ k d within. let at = (c.for_each_mut.ensures k d within).1 in ap bytes_of (sym at.left) ∙ at.call.same ∙ ap bytes_of at.argument_is);
      right = λ names are k d within.
          let there : k < length old = omega (arith, within, size) in
          let at = (c.for_each_mut.ensures k d there).1 in
          subst (IsRightPiece names) at.left (at.call.right names (subst (IsRightPiece names) (sym at.argument_is) (are k d there)));
    }
