use Rattle.std.proofs.Common.{◌≡◌, [], sym, subst, ap, ◌∙◌, inl, inr, arith}
use Rattle.std.specs.Prelude.{slice_index, slice_index_or}
use Rattle.gl_segments.specs.bodies.Histories.{count_at}
use Rattle.gl_segments.proofs.Along.{count_outside, count_own, count_of_other}
use Rattle.gl_segments.proofs.history.History.ahead.Goals as goal

pub returns-then-index-self : goal.returns-then-index-self
returns-then-index-self c =
    let h = c.self.inside in
    let none = count_outside h.thread h.segments h.threads h.first.items h.growths c.args.index c.args.thread (inl (omega arith)) in
    subst (λ v. 0 ≡ slice_index (slice_index_or v c.args.index []) c.args.thread) c.self.view_is (sym none)

pub returns-then-number-self : goal.returns-then-number-self
returns-then-number-self c =
    let h = c.self.inside in
    let none = count_outside h.thread h.segments h.threads h.first.items h.growths c.args.index c.args.thread (inr (omega arith)) in
    subst (λ v. 0 ≡ slice_index (slice_index_or v c.args.index []) c.args.thread) c.self.view_is (sym none)

pub returns-then-number : goal.returns-then-number
returns-then-number c =
    let h = c.self.inside in
    let own = count_own h.thread h.segments h.threads h.first.items h.growths c.args.index c.args.thread (omega arith) (omega arith) (let same = c.if-number.true in omega arith) in
    subst (λ v. c.args.index ≡ slice_index (slice_index_or v c.args.index []) c.args.thread) c.self.view_is (sym own)

pub returns : goal.returns
returns c =
    let h = c.self.inside in
    let here = count_of_other h.thread h.segments h.threads h.first.items h.growths c.args.index c.args.thread (omega arith) (omega arith) (λ same. let other = c.if-number.false in omega arith) in
    let first = c.count_of-first.ensures ∙ ap (λ xs. slice_index xs c.args.thread) c.deref.ensures.value in
    let counted = c.count_in.ensures ∙ ap (λ n. count_at n h.growths c.args.index c.args.thread) first in
    subst (λ v. c.count_in.result ≡ slice_index (slice_index_or v c.args.index []) c.args.thread) c.self.view_is (counted ∙ sym here)
