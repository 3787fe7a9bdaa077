use Rattle.std.proofs.Common.{◌≡◌, List, map, subst, ◌∙◌}
use Rattle.std.specs.Prelude.{◌↔◌, Contains}
use Rattle.std.specs.Global.{Vec}
use Rattle.std.proofs.lemmas.Result.{IfOk-weaker}
use Rattle.gl_event.specs.declared.events.Segment.{Segment}
use Rattle.gl_segments.specs.declared.forked.Spawn.{Spawn}
use Rattle.gl_segments.specs.bodies.Packing.{between}
use Rattle.gl_segments.proofs.Forking.{in_order, closed_are}
use Rattle.gl_segments.proofs.forked.Forked.segments.Goals as goal

pub closed-requires-clause-rising : goal.closed-requires-clause-rising
closed-requires-clause-rising c = in_order _ c.args.thread _ _ c.start_of-start.ensures.bound c.end_of-end.ensures.bound c.start_of-start.ensures.parted c.end_of-end.ensures.parted

pub returns : goal.returns
returns c =
    let xs = c.as_slice-forks.result.now in
    let start = c.start_of-start.result in
    let end = c.end_of-end.result in
    let is : xs ≡ c.args.self.now = c.as_slice-forks.ensures.value ∙ c.self.view_is in
    let are = closed_are xs c.args.thread start end c.start_of-start.ensures.bound c.end_of-end.ensures.bound c.start_of-start.ensures.parted c.end_of-end.ensures.parted in
    let closed : (v : Vec Segment) → v.items ≡ map (λ (s : Spawn). s.from) (between start end xs) → (a : Segment) → Contains v.items a ↔ Contains c.args.self.now (record { thread = c.args.thread; from = a }) = λ v items a.
    subst (λ (ys : List Spawn). Contains v.items a ↔ Contains ys (record { thread = c.args.thread; from = a })) is (rw items (are a)) in
    IfOk-weaker c.closed.result _ _ closed c.closed.ensures
