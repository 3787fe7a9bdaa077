use Rattle.std.proofs.Common.{◌≡◌, Some, length, sym, ap, subst, ◌∙◌, arith}
use Rattle.std.specs.Prelude.{slice_get}
use Rattle.gl_std.specs.bodies.Blocks.{AddsFew, GoOn}
use Rattle.gl_std.proofs.Growth.{IsFront-then}
use Rattle.gl_std.proofs.NumberedLines.{call_numbered, call_says, stands_front}
use Rattle.gl_std.proofs.names.Names.number_call.Goals as goal

pub returns-clause-numbered : goal.returns-clause-numbered
returns-clause-numbered c =
    let names = c.number_operand.new.self in
    let t = c.args.thread.now in
    let l = c.args.location.now in
    call_numbered names c.args.operation c.new.result c.in_ok-operand.operand c.new-2.result t c.args.operand.now l
    (subst (λ n. slice_get names.threads n ≡ Some t) (sym c.new.ensures) (stands_front c.number_again.new.self names.threads c.in_ok-thread.thread t c.in_ok-operand.ensures.threads c.in_ok-thread.ensures.stands))
    c.in_ok-operand.ensures.stands
    (subst (λ n. slice_get names.locs n ≡ Some l) (sym c.new-2.ensures) (subst (λ locs. slice_get locs c.in_ok-location.location ≡ Some l) (sym c.number_operand.ensures.same) c.in_ok-location.ensures.stands))

pub returns-clause-says : goal.returns-clause-says
returns-clause-says c =
    let names = c.number_operand.new.self in
    let t = c.args.thread.now in
    let l = c.args.location.now in
    call_says names c.args.operation c.new.result c.in_ok-operand.operand c.new-2.result t c.args.operand.now l
    (subst (λ n. slice_get names.threads n ≡ Some t) (sym c.new.ensures) (stands_front c.number_again.new.self names.threads c.in_ok-thread.thread t c.in_ok-operand.ensures.threads c.in_ok-thread.ensures.stands))
    c.in_ok-operand.ensures.stands
    (subst (λ n. slice_get names.locs n ≡ Some l) (sym c.new-2.ensures) (subst (λ locs. slice_get locs c.in_ok-location.location ≡ Some l) (sym c.number_operand.ensures.same) c.in_ok-location.ensures.stands))

pub returns-clause-go_on : goal.returns-clause-go_on
returns-clause-go_on c =
    let names = c.number_operand.new.self in
    subst (λ old. GoOn old names) c.self.view_is (record {
      threads = IsFront-then _ _ _ c.in_ok-thread.ensures.front c.in_ok-operand.ensures.threads;
      locks = c.in_ok-operand.ensures.locks;
      locs = (c.in_ok-location.ensures.front.0, c.number_operand.ensures.same ∙ c.in_ok-location.ensures.front.1);
    })

pub returns-clause-few : goal.returns-clause-few
returns-clause-few c =
    let names = c.number_operand.new.self in
    subst (λ old. AddsFew old names) c.self.view_is (record {
      threads = omega (arith, c.in_ok-thread.ensures.few, c.in_ok-operand.ensures.few_threads);
      locks = c.in_ok-operand.ensures.few_locks;
      locs = omega (arith, c.in_ok-location.ensures.few, ap length c.number_operand.ensures.same);
    })
