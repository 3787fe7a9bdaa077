use Rattle.std.proofs.Common.{◌≡◌, true, false, sym, ◌∙◌, subst, Some, None}
use Rattle.gl_world.specs.Machine.{has_closed}
use Rattle.gl_world.specs.Keeping.{Keeper}
use Rattle.gl_world.proofs.ThreadParts.{take_closed, take_open}
use Rattle.gl_world.proofs.thread_part.ThreadPart.take.Goals as goal

pub returns-then-self-clause-moved : goal.returns-then-self-clause-moved
returns-then-self-clause-moved c =
    let closed : has_closed c.args.self.now.thread c.args.self.now.lane ≡ true = subst (λ (k : Keeper). has_closed k.thread k.lane ≡ true) c.self.view_is (sym c.self.invariant.known ∙ c.if-self.true) in
    rw (take_closed c.args.self.now.limits c.args.self.now.thread c.args.self.now.lane closed)

pub returns-then-self-clause-answer : goal.returns-then-self-clause-answer
returns-then-self-clause-answer c =
    let closed : has_closed c.args.self.now.thread c.args.self.now.lane ≡ true = subst (λ (k : Keeper). has_closed k.thread k.lane ≡ true) c.self.view_is (sym c.self.invariant.known ∙ c.if-self.true) in
    rw (take_closed c.args.self.now.limits c.args.self.now.thread c.args.self.now.lane closed)

pub returns-in-None-clause-moved : goal.returns-in-None-clause-moved
returns-in-None-clause-moved c =
    let running : has_closed c.args.self.now.thread c.args.self.now.lane ≡ false = subst (λ (k : Keeper). has_closed k.thread k.lane ≡ false) c.self.view_is (sym c.self.invariant.known ∙ c.if-self.false) in
    rw (take_open c.args.self.now.limits c.args.self.now.thread c.args.self.now.lane running None (sym c.in-None.ensures))

pub returns-in-None-clause-answer : goal.returns-in-None-clause-answer
returns-in-None-clause-answer c =
    let running : has_closed c.args.self.now.thread c.args.self.now.lane ≡ false = subst (λ (k : Keeper). has_closed k.thread k.lane ≡ false) c.self.view_is (sym c.self.invariant.known ∙ c.if-self.false) in
    rw (take_open c.args.self.now.limits c.args.self.now.thread c.args.self.now.lane running None (sym c.in-None.ensures))

pub take_wish-requires-clause-running : goal.take_wish-requires-clause-running
take_wish-requires-clause-running c = subst (λ (k : Keeper). has_closed k.thread k.lane ≡ false) c.self.view_is (sym c.self.invariant.known ∙ c.if-self.false)

pub returns-in-Some-clause-moved : goal.returns-in-Some-clause-moved
returns-in-Some-clause-moved c =
    let running : has_closed c.args.self.now.thread c.args.self.now.lane ≡ false = subst (λ (k : Keeper). has_closed k.thread k.lane ≡ false) c.self.view_is (sym c.self.invariant.known ∙ c.if-self.false) in
    rw (take_open c.args.self.now.limits c.args.self.now.thread c.args.self.now.lane running (Some c.in-Some.wish) (sym c.in-Some.ensures)) c.take_wish.ensures.moved

pub returns-in-Some-clause-answer : goal.returns-in-Some-clause-answer
returns-in-Some-clause-answer c =
    let running : has_closed c.args.self.now.thread c.args.self.now.lane ≡ false = subst (λ (k : Keeper). has_closed k.thread k.lane ≡ false) c.self.view_is (sym c.self.invariant.known ∙ c.if-self.false) in
    rw (take_open c.args.self.now.limits c.args.self.now.thread c.args.self.now.lane running (Some c.in-Some.wish) (sym c.in-Some.ensures)) c.take_wish.ensures.answer

pub returns-in-Some-clause-memory : goal.returns-in-Some-clause-memory
returns-in-Some-clause-memory c =
    let running : has_closed c.args.self.now.thread c.args.self.now.lane ≡ false = subst (λ (k : Keeper). has_closed k.thread k.lane ≡ false) c.self.view_is (sym c.self.invariant.known ∙ c.if-self.false) in
    rw (take_open c.args.self.now.limits c.args.self.now.thread c.args.self.now.lane running (Some c.in-Some.wish) (sym c.in-Some.ensures)) c.take_wish.ensures.memory
