use Rattle.std.proofs.Common.{◌≡◌, ℕ, ◌+◌, ◌<◌, ◌++◌, ◌∷◌, [], List, length, refl, sym, ap, subst, ◌∙◌, arith}
use Rattle.std.specs.Prelude.{slice_index}
use Rattle.gl_event.specs.declared.events.Segment.{Segment}
use Rattle.gl_segments.specs.bodies.Tables.{steps_of_thread, Has}
use Rattle.gl_segments.specs.bodies.Search.{Counts, IsClockOf}
use Rattle.gl_segments.specs.bodies.Rows.{AreClocksBelow}
use Rattle.gl_segments.proofs.Clocking.{explored_clock, may_start_next, clocks_more, own_count}
use Rattle.gl_segments.proofs.Searching.{found_among}
use Rattle.gl_segments.proofs.Starting.{may_start_zeros}
use Rattle.gl_segments.proofs.order.history.Goals as goal

pub loop-index-init : goal.loop-index-init
loop-index-init c = record {
  same_thread = c.in_ok-growing.ensures.thread;
  width = c.in_ok-growing.ensures.threads ∙ c.threads-2.ensures;
  latest = λ some. absurd (omega arith);
  clocks = ([], c.in_ok-growing.ensures.noted, record { size = refl; each = λ i below. absurd (omega arith); apart = λ i below. absurd (omega arith) });
  ready = λ _. may_start_zeros c.args.steps.now (record { thread = c.args.thread; index = 0 }) c.in_ok-search.search.clock c.threads.result c.in_ok-search.ensures c.threads.ensures;
}

-- the entries of the search are of the table's threads
pub push-requires-clause-among : goal.push-requires-clause-among
push-requires-clause-among c =
    let steps = c.args.steps.now in
    let at : Segment = record { thread = c.args.thread; index = c.loop-index.index } in
    let explored = c.in_ok-find_before.ensures.explored in
    let has : Has steps at = let e = c.segments-index-end.ensures in let t = c.loop-index-test.true in omega arith in
    rw c.deref.ensures.value (found_among steps c.requires.sound at _ _ explored.links has explored.width)

-- after the first segment the search went on from the latest clock
pub push-requires-clause-grown : goal.push-requires-clause-grown
push-requires-clause-grown c =
    let inv = c.loop-index.invariant in
    λ some.
    let later : 0 < c.loop-index.index = let a = inv.clocks.1.size in let b = inv.clocks.2.size in omega arith in
    rw (c.deref.ensures.value, inv.latest later) c.in_ok-find_before.ensures.grown

pub loop-index-preserved : goal.loop-index-preserved
loop-index-preserved c =
    let steps = c.args.steps.now in
    let inv = c.loop-index.invariant in
    let at : Segment = record { thread = c.args.thread; index = c.loop-index.index } in
    let next : Segment = record { thread = c.args.thread; index = c.loop-index.index + 1 } in
    let clock : List ℕ = c.find_before.new.self.clock in
    let explored = c.in_ok-find_before.ensures.explored in
    let is : IsClockOf steps clock at = explored_clock steps at clock _ explored in
    let apart : Counts clock at → ⊥ = λ counted. let e = c.ahead.ensures in let f = c.if-index-ahead.false in omega arith in
    let more = clocks_more steps c.args.thread inv.clocks.0 c.loop-index.index clock is apart inv.clocks.2 in
    let has : Has steps at = let e = c.segments-index-end.ensures in let t = c.loop-index-test.true in omega arith in
    let own = own_count steps c.requires.sound clock c.args.thread c.loop-index.index has is apart in
    let own_here : slice_index clock c.loop-index.growing.thread ≡ length inv.clocks.0 = ap (slice_index clock) inv.same_thread ∙ own ∙ sym inv.clocks.2.size in
    record {
      same_thread = c.push.ensures.thread ∙ inv.same_thread;
      width = ap length c.in_ok-push.ensures.latest ∙ explored.width;
      latest = λ _. c.in_ok-push.ensures.latest;
      clocks = (inv.clocks.0 ++ clock ∷ [], c.in_ok-push.ensures.noted inv.clocks.0 inv.clocks.1 own_here, more);
      ready = λ has_next. may_start_next steps c.requires.sound clock at next explored.width is apart refl refl has_next;
    }

pub returns-then-index-ahead-clause-fault : goal.returns-then-index-ahead-clause-fault
returns-then-index-ahead-clause-fault c = c.fault_at.ensures c.loop-index.invariant.clocks.2.apart

pub finish-requires : goal.finish-requires
finish-requires c = record { rising = c.loop-index.invariant.clocks.1.tells.rising }

pub returns-clause-ok : goal.returns-clause-ok
returns-clause-ok c =
    let inv = c.loop-index.invariant in
    let all : c.loop-index.index ≡ length (steps_of_thread c.args.steps.now c.args.thread) = let e = c.segments-index-end.ensures in omega arith in
    let is = c.in_ok-finish.ensures inv.clocks.0 inv.clocks.1 in
    subst (λ n. AreClocksBelow c.args.steps.now c.args.thread c.in_ok-finish.field-0 n) all (subst (λ cs. AreClocksBelow c.args.steps.now c.args.thread cs c.loop-index.index) (sym is) inv.clocks.2)
