use Rattle.std.proofs.Common.{◌≡◌, ◌<◌, length, Some, sym, ap, ◌∙◌, arith, refl}
use Rattle.std.specs.Prelude.{slice_get}
use Rattle.std.proofs.lemmas.Bool.Decides.{Decides-eqb}
use Rattle.std.proofs.lemmas.Option.{slice_get_read, same_Some}
use Rattle.std.proofs.lemmas.Slice.Eq.{slice_eq-Decides}
use Rattle.gl_kinds.proofs.dead_ends.DeadEnds.has.Goals as goal

-- the lists are compared element by element
pub returns : goal.returns
returns c = λ same.
    let known = c.args.self.now.known in
    let place = c.in-Some.field-0.now in
    let below : place < length known.items = omega (arith, c.if-place-len.false, known.ok.0) in
    let one : slice_get known.items place ≡ Some c.index.result.now = slice_get_read known.items _ place _ known.ok.0 (omega (arith, below, known.ok.0)) c.index.ensures in
    let other : slice_get known.items place ≡ Some c.index-2.result.now = slice_get_read known.items _ place _ known.ok.0 (omega (arith, below, known.ok.0)) c.index-2.ensures in
    record {
      place = place;
      end = c.index.result.now;
      stands = one;
      same_gap = c.if-not-is_same.ensures refl;
      same_rest = ap (λ end. end.rest.items) (same_Some c.index.result.now c.index-2.result.now (sym one ∙ other)) ∙ sym c.as_slice.ensures.value ∙ (slice_eq-Decides Decides-eqb _ _ _ c.eq.ensures).0 same;
    }
