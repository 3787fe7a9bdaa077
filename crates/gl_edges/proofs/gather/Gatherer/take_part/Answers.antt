use Rattle.std.proofs.Common.{◌≡◌, ◌+◌, ◌++◌, ◌<◌, length, take, sym, subst, arith}
use Rattle.std.proofs.lemmas.List.{length-take-le}
use Rattle.std.proofs.lemmas.Result.{on_ok_weaker}
use Rattle.gl_edges.specs.bodies.Gatherers.{Gathers}
use Rattle.gl_edges.specs.bodies.Sharing.{edges_between}
use Rattle.gl_edges.specs.bodies.Tables.{IsTableOf}
use Rattle.gl_edges.proofs.Gathering.{follows_next, followed}
use Rattle.gl_edges.proofs.Parts.{between_none, pairs_place}
use Rattle.gl_edges.proofs.Remembering.{gathers_start}
use Rattle.gl_edges.proofs.gather.Gatherer.take_part.Goals as goal

pub loop-place-init : goal.loop-place-init
loop-place-init c =
    let from = c.args.from in
    record {
      begun = omega arith;
      follows = c.follow-tracker.ensures;
      known = λ pairs is. subst (λ xs. Gathers (pairs ++ xs) from (record { batch = c.args.self.now.batch; edge = c.args.self.now.edge; seen = c.begin.new.self })) (sym (between_none c.args.thread c.args.list.now from)) (gathers_start pairs from _ c.begin.ensures is);
    }

pub take-requires : goal.take-requires
take-requires c =
    let within : c.loop-place.place < length c.args.list.now = omega (arith, c.loop-place-test.true, c.requires.within) in
    follows_next c.args.thread c.args.list.now c.loop-place.place c.index-list-place.result c.loop-place.tracker within c.index-list-place.is c.loop-place.invariant.follows c.requires.lawful

pub loop-place-preserved : goal.loop-place-preserved
loop-place-preserved c =
    let thread = c.args.thread in
    let list = c.args.list.now in
    let from = c.args.from in
    let i = c.loop-place.place in
    let event = c.index-list-place.result in
    let tracker = c.loop-place.tracker in
    let before = c.loop-place.invariant.follows in
    let begun = c.loop-place.invariant.begun in
    let within : i < length list = omega (arith, c.loop-place-test.true, c.requires.within) in
    let long = length-take-le i list (omega (arith, within)) in
    record {
      begun = omega (arith, begun);
      follows = followed thread list i event tracker within c.index-list-place.is before c.take.new.tracker (c.in_ok-take.ensures.follows thread (take i list) before);
      known = λ pairs is.
          subst (λ n. Gathers (pairs ++ edges_between thread list from (i + 1)) (n + 1) c.take.new.self) long
          (subst (λ xs. Gathers xs (length (take i list) + 1) c.take.new.self) (pairs_place thread list from i event begun within c.index-list-place.is pairs)
          (c.in_ok-take.ensures.gathers thread (take i list) before (pairs ++ edges_between thread list from i)
          (subst (λ n. Gathers (pairs ++ edges_between thread list from i) n c.loop-place.self) (sym long) (c.loop-place.invariant.known pairs is))));
    }

pub returns : goal.returns
returns c =
    let list = c.args.list.now in
    let within = c.requires.within.0 in
    let end : c.loop-place.place ≡ c.args.to = omega (arith, c.loop-place-test.false, c.loop-place.auto.place-end within) in
    on_ok_weaker c.end_list.result
    (λ same pairs is. rw same (subst (λ n. IsTableOf c.loop-place.self.batch (pairs ++ edges_between c.args.thread list c.args.from n)) end (c.loop-place.invariant.known pairs is).table))
    c.end_list.ensures
