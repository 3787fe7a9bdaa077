use Rattle.std.proofs.Common.{◌≡◌, true, false, sym, ap, ◌∙◌, subst}
use Rattle.gl_world.specs.Machine.{Turn, has_closed}
use Rattle.gl_world.specs.Enabled.{grows}
use Rattle.gl_world.specs.Keeping.{Keeper}
use Rattle.gl_world.proofs.Errors.{on_err}
use Rattle.gl_world.proofs.ThreadParts.{kept_end, end_closed, end_full, end_room, end_lane}
use Rattle.gl_world.proofs.thread_part.ThreadPart.end.Goals as goal

pub returns-then-self-clause-moved : goal.returns-then-self-clause-moved
returns-then-self-clause-moved c =
    let closed : has_closed c.args.self.now.thread c.args.self.now.lane ≡ true = subst (λ (k : Keeper). has_closed k.thread k.lane ≡ true) c.self.view_is (sym c.self.invariant.known ∙ c.if-self.true) in
    rw (end_closed c.args.self.now.limits c.args.self.now.thread c.args.self.now.lane closed)

pub returns-then-self-clause-answer : goal.returns-then-self-clause-answer
returns-then-self-clause-answer c =
    let closed : has_closed c.args.self.now.thread c.args.self.now.lane ≡ true = subst (λ (k : Keeper). has_closed k.thread k.lane ≡ true) c.self.view_is (sym c.self.invariant.known ∙ c.if-self.true) in
    rw (end_closed c.args.self.now.limits c.args.self.now.thread c.args.self.now.lane closed)

pub returns-then-not-has_room-clause-moved : goal.returns-then-not-has_room-clause-moved
returns-then-not-has_room-clause-moved c =
    let running : has_closed c.args.self.now.thread c.args.self.now.lane ≡ false = subst (λ (k : Keeper). has_closed k.thread k.lane ≡ false) c.self.view_is (sym c.self.invariant.known ∙ c.if-self.false) in
    rw (end_full c.args.self.now.limits c.args.self.now.thread c.args.self.now.lane running (sym c.has_room.ensures ∙ c.if-not-has_room.true))

pub returns-then-not-has_room-clause-answer : goal.returns-then-not-has_room-clause-answer
returns-then-not-has_room-clause-answer c =
    let running : has_closed c.args.self.now.thread c.args.self.now.lane ≡ false = subst (λ (k : Keeper). has_closed k.thread k.lane ≡ false) c.self.view_is (sym c.self.invariant.known ∙ c.if-self.false) in
    rw (end_full c.args.self.now.limits c.args.self.now.thread c.args.self.now.lane running (sym c.has_room.ensures ∙ c.if-not-has_room.true))

pub invariant_of-self-2 : goal.invariant_of-self-2
invariant_of-self-2 c = rw (c.in_ok-append.ensures.items, c.end.ensures.mark _ _ _ c.self.invariant.tracks) (kept_end _ _ _ _ _ _ _ _ c.self.invariant _)

pub returns-clause-moved : goal.returns-clause-moved
returns-clause-moved c =
    let running : has_closed c.args.self.now.thread c.args.self.now.lane ≡ false = subst (λ (k : Keeper). has_closed k.thread k.lane ≡ false) c.self.view_is (sym c.self.invariant.known ∙ c.if-self.false) in
    let free = sym c.has_room.ensures ∙ c.if-not-has_room.false in
    end_lane _ c.args.self.now c.self.view_is running free _ c.in_ok-append.ensures.items (c.end.ensures.mark _ _ _ c.self.invariant.tracks)

pub returns-clause-answer : goal.returns-clause-answer
returns-clause-answer c =
    let running : has_closed c.args.self.now.thread c.args.self.now.lane ≡ false = subst (λ (k : Keeper). has_closed k.thread k.lane ≡ false) c.self.view_is (sym c.self.invariant.known ∙ c.if-self.false) in
    rw (end_room c.args.self.now.limits c.args.self.now.thread c.args.self.now.lane running (sym c.has_room.ensures ∙ c.if-not-has_room.false))

pub returns-in_err-append-clause-memory : goal.returns-in_err-append-clause-memory
returns-in_err-append-clause-memory c =
    let running : has_closed c.args.self.now.thread c.args.self.now.lane ≡ false = subst (λ (k : Keeper). has_closed k.thread k.lane ≡ false) c.self.view_is (sym c.self.invariant.known ∙ c.if-self.false) in
    on_err c.from_residual.result _
    (ap (λ (t : Turn). grows t.did) (end_room c.args.self.now.limits c.args.self.now.thread c.args.self.now.lane running (sym c.has_room.ensures ∙ c.if-not-has_room.false)))
