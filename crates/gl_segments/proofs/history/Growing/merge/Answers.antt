use Rattle.std.proofs.Common.{◌<◌, ℕ, List, [], length, sym, ap, subst}
use Rattle.std.specs.Prelude.{slice_index, slice_index_or}
use Rattle.gl_segments.specs.bodies.Merging.{IsReached}
use Rattle.gl_segments.proofs.Merging.{merged_twice, reached_still, merged_all}
use Rattle.gl_segments.proofs.history.Growing.merge.Goals as goal

pub returns-clause-latest : goal.returns-clause-latest
returns-clause-latest c =
    let h = c.other.inside in
    let index = c.args.index in
    let other : List ℕ = slice_index_or c.args.other.now index [] in
    let start = c.args.self.now.latest in
    let one = c.reach.new.self.latest in
    let two = c.reach_first.new.self.latest in
    let three = c.reach_growths.new.self.latest in
    let a = c.in_ok-reach.ensures.latest in
    let b = c.in_ok-reach_first.ensures.latest in
    let d = c.in_ok-reach_growths.ensures.latest in
    let own : IsReached other three h.thread index = reached_still two other two three h.thread index d (reached_still one other one two h.thread index b c.in_ok-reach.ensures.reached) in
    let first : (k : ℕ) → k < length h.first.items → IsReached other three k (slice_index h.first.items k) = λ k below.
    reached_still two other two three k (slice_index h.first.items k) d (subst (λ (xs : List ℕ). k < length xs → IsReached other two k (slice_index xs k)) c.deref.ensures.value (c.in_ok-reach_first.ensures.reached k) below) in
    merged_all h.thread h.segments h.threads index h.first.items h.growths start three other (ap (λ cs. slice_index_or cs index []) (sym c.other.view_is))
    (merged_twice start other two three (merged_twice start other one two a b) d) own first c.in_ok-reach_growths.ensures.reached
