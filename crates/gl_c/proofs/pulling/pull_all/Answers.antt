-- Each turn adds the notes of the next thread, whose lane isn't broken where another turn follows.
use Rattle.std.proofs.Common.{◌≡◌, ℕ, ap, refl, subst, ◌∙◌, arith}
use Rattle.gl_event.specs.Bounds.{Bounds}
use Rattle.gl_c.specs.Pulling.{both, ArePulled, AreInTurns, IsPullOff}
use Rattle.gl_c.specs.declared.pulling.PulledCount.{PulledCount}
use Rattle.gl_c.proofs.Turns.{ends_as_one, next_pulls, none_behind, turns_of, whole_all, whole_next}
use Rattle.gl_c.proofs.pulling.pull_all.Goals as goal

pub returns-then-answer-ne-OK : goal.returns-then-answer-ne-OK
returns-then-answer-ne-OK c =
    let more : PulledCount = c.pull_off-answer.result.0 in
    let off : IsPullOff c.loop-number.number c.min.result c.loop-number.running more c.pull_off-answer.result.1 c.pull_off-answer.new.running =
    subst (λ (t : ℕ). IsPullOff t c.min.result c.loop-number.running more c.pull_off-answer.result.1 c.pull_off-answer.new.running) c.new.ensures c.pull_off-answer.ensures in
    let fits = off.moved.most_are in
    let sums : c.both-pulled.result ≡ both c.loop-number.pulled more = c.both-pulled.ensures (omega arith) (omega arith) in
    let all = next_pulls c.ring-ring.result c.loop-number.number c.args.running.now.collector c.loop-number.running.collector c.pull_off-answer.new.running.collector c.loop-number.pulled more c.both-pulled.result
    c.loop-number.invariant.pulled off.moved.pulled (omega arith) sums in
    record {
      moved = record {
        limits = off.moved.limits ∙ c.loop-number.invariant.limits;
        pulled = subst (λ (r : ℕ). ArePulled (AreInTurns r) c.args.running.now.collector c.pull_off-answer.new.running.collector c.both-pulled.result) c.ring-ring.ensures.value
            (turns_of c.ring-ring.result _ c.args.running.now.collector c.pull_off-answer.new.running.collector c.both-pulled.result all);
        most_are = omega (arith, ap (λ (p : PulledCount). p.events) sums, ap (λ (p : PulledCount). p.ended) sums);
        stay = λ thread why was. off.moved.stay thread why (c.loop-number.invariant.stay thread why was);
      };
      fewer = λ ill. (let one_fewer = off.fewer ill in omega (arith, ap (λ (p : PulledCount). p.events) sums, ap (λ (p : PulledCount). p.ended) sums));
      ends = record {
        answers = off.ends.answers;
        whole = λ answer. absurd (c.if-answer-ne-OK.true answer);
        stopped = λ ill.
            (let fewer = off.fewer ill in (
              c.loop-number.number,
              record {
                known = omega (arith, c.loop-number.invariant.threads, ap (λ (b : Bounds). b.threads) c.args.running.now.same);
                ends = ends_as_one c.loop-number.number c.min.result c.pull_off-answer.new.running.collector c.pull_off-answer.result.1 off.ends (omega arith);
                ahead = λ other before. off.others other (λ same. omega arith) ∙ c.loop-number.invariant.whole (omega arith) other before;
                pulled = none_behind c.ring-ring.result c.loop-number.number c.args.running.now.collector c.pull_off-answer.new.running.collector c.both-pulled.result all;
                behind = λ other past. off.others other (λ same. omega arith) ∙ c.loop-number.invariant.behind other (omega arith);
              },
            ));
      };
    }

pub loop-number-preserved : goal.loop-number-preserved
loop-number-preserved c =
    let more : PulledCount = c.pull_off-answer.result.0 in
    let off : IsPullOff c.loop-number.number c.min.result c.loop-number.running more c.pull_off-answer.result.1 c.pull_off-answer.new.running =
    subst (λ (t : ℕ). IsPullOff t c.min.result c.loop-number.running more c.pull_off-answer.result.1 c.pull_off-answer.new.running) c.new.ensures c.pull_off-answer.ensures in
    let fits = off.moved.most_are in
    let sums : c.both-pulled.result ≡ both c.loop-number.pulled more = c.both-pulled.ensures (omega arith) (omega arith) in
    let events = ap (λ (p : PulledCount). p.events) sums in
    let ended = ap (λ (p : PulledCount). p.ended) sums in
    record {
      limits = off.moved.limits ∙ c.loop-number.invariant.limits;
      threads = c.loop-number.invariant.threads;
      pulled = next_pulls c.ring-ring.result c.loop-number.number c.args.running.now.collector c.loop-number.running.collector c.pull_off-answer.new.running.collector c.loop-number.pulled more c.both-pulled.result
          c.loop-number.invariant.pulled off.moved.pulled (omega arith) sums;
      most_are = omega (arith, events, ended);
      whole = λ few.
          (let some_ring = c.ring-ring.ensures.within.some_ring in
          whole_next c.loop-number.number c.loop-number.running.collector c.pull_off-answer.new.running.collector (c.loop-number.invariant.whole (omega (arith, events, ended))) off.others
          (off.ends.whole (λ broken. omega arith) (omega (arith, events, ended))));
      stay = λ thread why was. off.moved.stay thread why (c.loop-number.invariant.stay thread why was);
      behind = λ thread past. off.others thread (λ same. omega arith) ∙ c.loop-number.invariant.behind thread (omega arith);
    }

pub returns : goal.returns
returns c =
    let now = c.loop-number.running.collector in
    let threads = ap (λ (b : Bounds). b.threads) c.loop-number.invariant.limits in
    record {
      moved = record {
        limits = c.loop-number.invariant.limits;
        pulled = subst (λ (r : ℕ). ArePulled (AreInTurns r) c.args.running.now.collector now c.loop-number.pulled) c.ring-ring.ensures.value
            (turns_of c.ring-ring.result _ c.args.running.now.collector now c.loop-number.pulled c.loop-number.invariant.pulled);
        most_are = c.loop-number.invariant.most_are;
        stay = c.loop-number.invariant.stay;
      };
      fewer = λ ill. absurd (ill refl);
      ends = record {
        answers = refl;
        whole = λ _ few. whole_all c.loop-number.number now (omega (arith, threads, c.loop-number.running.inputs)) (c.loop-number.invariant.whole few);
        stopped = λ ill. absurd (ill refl);
      };
    }
