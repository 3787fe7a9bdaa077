use Rattle.std.proofs.Common.{◌≡◌, ℕ, List, [], length, Some, refl, sym, ap, subst, ◌∙◌, inl, inr, arith}
use Rattle.std.specs.Prelude.{slice_get, slice_index_or}
use Rattle.std.proofs.lemmas.Bool.{cases_lt}
use Rattle.std.proofs.lemmas.Option.{same_Some, slice_get_read, slice_get_within}
use Rattle.gl_segments.specs.declared.growths.Growth.{Growth}
use Rattle.gl_segments.specs.bodies.Merging.{IsReached}
use Rattle.gl_segments.proofs.Merging.{merged_none, merged_twice, reached_still}
use Rattle.gl_segments.proofs.history.Growing.reach_growths.Goals as goal

pub loop-at-init : goal.loop-at-init
loop-at-init c = record {
  same_thread = refl;
  same_segments = refl;
  merged = merged_none _ _;
  reached = λ p g below. absurd (omega arith);
  noted = λ clocks some noted. noted;
}

pub loop-at-preserved : goal.loop-at-preserved
loop-at-preserved c =
    let inv = c.loop-at.invariant in
    let merged = c.in_ok-reach.ensures.latest in
    let other : List ℕ = slice_index_or c.args.other.now c.args.index [] in
    let new = c.reach.new.self.latest in
    let growths = c.args.growths.now in
    let growth : Growth = c.get-growth.result in
    record {
      same_thread = c.reach.ensures.still.thread ∙ inv.same_thread;
      same_segments = c.reach.ensures.still.segments ∙ inv.same_segments;
      merged = merged_twice _ _ _ _ inv.merged merged;
      reached = λ p g below here.
          elim (cases_lt p c.loop-at.at) [
            | inl lower ↦ reached_still c.args.self.now.latest other c.loop-at.self.latest new g.thread g.count merged (inv.reached p g lower here)
            | inr upper ↦
                let last : p ≡ c.loop-at.at = omega arith in
                let read : slice_get growths c.loop-at.at ≡ Some growth = slice_get_read growths (length growths) c.loop-at.at growth refl (let n = c.len-at-end.ensures in let t = c.loop-at-test.true in omega arith) c.get-growth.ensures in
                let same : growth ≡ g = same_Some growth g (sym read ∙ ap (slice_get growths) (sym last) ∙ here) in
                subst (λ (x : Growth). IsReached other new x.thread x.count) same c.in_ok-reach.ensures.reached
          ];
      noted = λ clocks some noted. c.in_ok-reach.ensures.noted clocks some (inv.noted clocks some noted);
    }

pub returns-clause-reached : goal.returns-clause-reached
returns-clause-reached c = λ p g here.
    let n = c.len-at-end.ensures in
    let past = c.loop-at-test.false in
    let within = slice_get_within c.args.growths.now p g here in
    c.loop-at.invariant.reached p g (omega arith) here
