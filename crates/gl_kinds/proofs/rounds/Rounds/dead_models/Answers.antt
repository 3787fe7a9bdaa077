use Rattle.std.proofs.Common.{◌≡◌, ℕ, ◌+◌, [], ◌∷◌, true, Some, length, sym, ap, subst, ◌∙◌, arith}
use Rattle.std.specs.Prelude.{slice_get}
use Rattle.std.proofs.lemmas.List.{length-map, length_push}
use Rattle.std.proofs.lemmas.Option.{slice_get_within}
use Rattle.std.proofs.lemmas.Result.{err_from_is_err_and}
use Rattle.gl_segments.specs.Clocks.{is_before}
use Rattle.gl_filters.specs.Picked.{edges_of_table}
use Rattle.gl_kinds.specs.bodies.Gaps.{HasFlagged}
use Rattle.gl_kinds.specs.bodies.Kinds.{AreWithin, NoneThrough}
use Rattle.gl_kinds.proofs.ByKinds.{dead_more}
use Rattle.gl_kinds.proofs.rounds.Rounds.dead_models.Goals as goal

pub is_dead-requires-clause-known : goal.is_dead-requires-clause-known
is_dead-requires-clause-known c =
    let r = c.args.self.now in record {
      lawful = c.requires.models;
      within = subst (AreWithin r) (sym c.deref.ensures.value) c.in_ok-models.ensures.within;
      all = subst (HasFlagged r.flags.items) (sym c.deref.ensures.value) c.in_ok-models.ensures.all;
      none_through = subst (λ l. (j : ℕ) → slice_get l j ≡ Some true → NoneThrough r (j ∷ [])) (sym c.deref-in-loop-i.ensures.value) c.loop-i.invariant.1;
    }

pub loop-i-preserved : goal.loop-i-preserved
loop-i-preserved c =
    let s = c.args.self.now.sought in
    let is = c.in_ok-push.ensures.items in (
      ap length is ∙ length_push c.loop-i.dead.items c.in_ok-is_dead.is_dead ∙ ap (λ n. n + 1) c.loop-i.invariant.0,
      rw is (dead_more (is_before s.order.now) s.mode c.args.self.now.grain s.len (edges_of_table s.table.now) c.loop-i.dead.items c.loop-i.i c.in_ok-is_dead.is_dead c.loop-i.invariant.0 c.loop-i.invariant.1 c.in_ok-is_dead.ensures.none),
      c.in_ok-is_dead.ensures.ends,
    )

pub is_dead-requires-clause-there : goal.is_dead-requires-clause-there
is_dead-requires-clause-there c = c.loop-i-test.true

pub is_dead-requires-clause-ends : goal.is_dead-requires-clause-ends
is_dead-requires-clause-ends c = c.loop-i.invariant.2

-- at first there are none
pub loop-i-init : goal.loop-i-init
loop-i-init c =
    let none = c.in_ok-dead.ensures.items in (
      ap length none,
      λ j at. absurd (let within = slice_get_within c.in_ok-dead.dead.items j true at in let empty = ap length none in omega arith),
      λ i end at. absurd (c.none-ends.ensures i end at),
    )

pub returns : goal.returns
returns c =
    let table = c.args.self.now.sought.table.now in
    let at_end : c.loop-i.i ≡ length table = omega arith in
    record { long = c.loop-i.invariant.0 ∙ at_end ∙ sym (length-map table (λ pair. pair.0)); each = c.loop-i.invariant.1 }

pub returns-in_err-models : goal.returns-in_err-models
returns-in_err-models c =
    let p = err_from_is_err_and c.from_residual.result c.from_residual.ensures.1 in
    rw p.1 tt

pub returns-in_err-dead : goal.returns-in_err-dead
returns-in_err-dead c =
    let p = err_from_is_err_and c.from_residual-in_err-dead.result c.from_residual-in_err-dead.ensures.1 in
    rw p.1 tt

pub returns-in_err-is_dead : goal.returns-in_err-is_dead
returns-in_err-is_dead c =
    let p = err_from_is_err_and c.from_residual-in_err-is_dead.result c.from_residual-in_err-is_dead.ensures.1 in
    rw p.1 tt

pub returns-in_err-push : goal.returns-in_err-push
returns-in_err-push c =
    let p = err_from_is_err_and c.from_residual-in_err-push.result c.from_residual-in_err-push.ensures.1 in
    rw p.1 tt
