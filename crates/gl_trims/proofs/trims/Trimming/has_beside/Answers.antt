use Rattle.std.proofs.Common.{◌≡◌, Some, sym, subst, ◌∙◌, arith}
use Rattle.std.specs.Prelude.{slice_get}
use Rattle.std.proofs.lemmas.Bool.{false≢true}
use Rattle.std.proofs.lemmas.List.{length-map}
use Rattle.gl_segments.specs.Clocks.{is_before}
use Rattle.gl_filters.specs.Picked.{edges_of_table}
use Rattle.gl_trims.specs.bodies.Trimming.{HasHint, KeepHints, HasBesideAt}
use Rattle.gl_trims.proofs.Beside.{hints_put, told_by_next, kept_put}
use Rattle.gl_trims.proofs.trims.Trimming.has_beside.Goals as goal

-- a hint is a position of the table
pub has_hint-requires-clause-within : goal.has_hint-requires-clause-within
has_hint-requires-clause-within c = λ p at. omega (arith, (c.requires.hints.each c.args.i p (subst (λ found. slice_get found c.args.i ≡ Some (Some p)) c.deref.ensures.value at)).fits.0, c.requires.flags, length-map c.args.self.now.table.now (λ pair. pair.0))

-- it has one that is left
pub returns-then-has_hint-clause-tells : goal.returns-then-has_hint-clause-tells
returns-then-has_hint-clause-tells c = record {
  some = λ has. subst (λ found. HasHint c.args.gone.now found c.args.i) c.deref.ensures.value (c.has_hint.ensures.0 c.if-has_hint.true);
  none = λ has. absurd (false≢true (sym has));
}

pub returns-clause-hints : goal.returns-clause-hints
returns-clause-hints c =
    let s = c.args.self.now in
    hints_put (is_before s.order.now) s.mode (edges_of_table s.table.now) c.args.gone.now c.args.side c.args.i c.find-hint.result c.args.hints.now c.put.new.self c.requires.hints
    (omega (arith, c.requires.here, length-map s.table.now (λ pair. pair.0))) c.find-hint.ensures.hint c.in_ok-put.ensures.users c.in_ok-put.ensures.chain c.in_ok-put.ensures.found c.in_ok-put.ensures.watchers

pub returns-clause-kept : goal.returns-clause-kept
returns-clause-kept c =
    let found = c.args.hints.now.found.items in
    subst (KeepHints c.args.gone.now found) (sym c.in_ok-put.ensures.found) (kept_put c.args.gone.now found c.args.i c.find-hint.result (λ hinted. false≢true (sym c.if-has_hint.false ∙ c.has_hint.ensures.1 (subst (λ found. HasHint c.args.gone.now found c.args.i) (sym c.deref.ensures.value) hinted))))

pub returns-clause-tells : goal.returns-clause-tells
returns-clause-tells c =
    let s = c.args.self.now in
    let long = length-map s.table.now (λ pair. pair.0) in
    subst (λ found. HasBesideAt (is_before s.order.now) s.mode (edges_of_table s.table.now) c.args.gone.now c.args.side c.args.i found c.is_some.result) (sym c.in_ok-put.ensures.found)
    (subst (HasBesideAt (is_before s.order.now) s.mode (edges_of_table s.table.now) c.args.gone.now c.args.side c.args.i _) (sym c.is_some.ensures)
    (told_by_next (is_before s.order.now) s.mode (edges_of_table s.table.now) c.args.gone.now c.args.side c.args.i c.args.hints.now.found.items c.find-hint.result c.find-hint.ensures.hint c.find-hint.ensures.left
    (omega (arith, c.requires.here, c.requires.hints.long, long)) (c.requires.flags ∙ sym long)))
