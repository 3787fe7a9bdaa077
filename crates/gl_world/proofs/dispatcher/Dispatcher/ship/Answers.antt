use Rattle.std.proofs.Common.{◌≡◌, refl, ◌≤◌, length, sym, ap, ◌∙◌, subst, arith}
use Rattle.gl_shards.specs.Shards.{shard_of}
use Rattle.gl_world.specs.Dispatch.{Dispatch, Handled, ship_edge}
use Rattle.gl_world.specs.Enabled.{grows}
use Rattle.gl_world.proofs.Errors.{on_err}
use Rattle.gl_world.proofs.Dispatching.{ship_none, ship_full, ship_next}
use Rattle.gl_world.proofs.dispatcher.Dispatcher.ship.Goals as goal

pub returns-then-self-len-clause-moved : goal.returns-then-self-len-clause-moved
returns-then-self-len-clause-moved c =
    let all : length c.args.self.now.made ≤ c.args.self.now.sent = subst (λ (d : Dispatch). length d.made ≤ d.sent) c.self.view_is (omega (arith, c.if-self-len.true, c.len.ensures)) in
    ap (λ (h : Handled). h.dispatch) (sym (ship_none c.args.limits.now c.args.self.now all))

pub returns-then-self-len-clause-answer : goal.returns-then-self-len-clause-answer
returns-then-self-len-clause-answer c =
    let all : length c.args.self.now.made ≤ c.args.self.now.sent = subst (λ (d : Dispatch). length d.made ≤ d.sent) c.self.view_is (omega (arith, c.if-self-len.true, c.len.ensures)) in
    ap (λ (h : Handled). h.did) (sym (ship_none c.args.limits.now c.args.self.now all))

pub returns-then-not-has_place-clause-moved : goal.returns-then-not-has_place-clause-moved
returns-then-not-has_place-clause-moved c =
    let count : c.len-2.result ≡ length c.self.inside.parts.items = omega (arith, c.len-2.ensures) in
    rw (← c.self.view_is)
    (ap (λ (h : Handled). h.dispatch)
    (ship_full c.args.limits.now (record { made = c.self.inside.made.items; sent = c.self.inside.sent; shards = c.self.inside.parts.items }) c.index-pair.result.now c.shard_of-shard.result c.index_mut-part.result.now
    (omega (arith, c.if-self-len.false, c.len.ensures)) c.index-pair.ensures
    (c.shard_of-shard.ensures.value ∙ ap (shard_of c.index-pair.result.now.0) count) (omega (arith, c.shard_of-shard.ensures.within, c.len-2.ensures)) c.index_mut-part.ensures.value
    (sym c.has_place.ensures ∙ c.if-not-has_place.true)))

pub returns-clause-moved : goal.returns-clause-moved
returns-clause-moved c =
    let count : c.len-2.result ≡ length c.self.inside.parts.items = omega (arith, c.len-2.ensures) in
    rw (← c.self.view_is)
    (ap (λ (h : Handled). h.dispatch)
    (ship_next c.args.limits.now (record { made = c.self.inside.made.items; sent = c.self.inside.sent; shards = c.self.inside.parts.items }) c.index-pair.result.now c.shard_of-shard.result c.index_mut-part.result.now
    (omega (arith, c.if-self-len.false, c.len.ensures)) c.index-pair.ensures
    (c.shard_of-shard.ensures.value ∙ ap (shard_of c.index-pair.result.now.0) count) (omega (arith, c.shard_of-shard.ensures.within, c.len-2.ensures)) c.index_mut-part.ensures.value
    (sym c.has_place.ensures ∙ c.if-not-has_place.false) c.ship.new.self c.in_ok-ship.ensures.shipped))

pub returns-then-not-has_place-clause-answer : goal.returns-then-not-has_place-clause-answer
returns-then-not-has_place-clause-answer c =
    let count : c.len-2.result ≡ length c.self.inside.parts.items = omega (arith, c.len-2.ensures) in
    rw (← c.self.view_is)
    (ap (λ (h : Handled). h.did)
    (ship_full c.args.limits.now (record { made = c.self.inside.made.items; sent = c.self.inside.sent; shards = c.self.inside.parts.items }) c.index-pair.result.now c.shard_of-shard.result c.index_mut-part.result.now
    (omega (arith, c.if-self-len.false, c.len.ensures)) c.index-pair.ensures
    (c.shard_of-shard.ensures.value ∙ ap (shard_of c.index-pair.result.now.0) count) (omega (arith, c.shard_of-shard.ensures.within, c.len-2.ensures)) c.index_mut-part.ensures.value
    (sym c.has_place.ensures ∙ c.if-not-has_place.true)))

pub returns-clause-answer : goal.returns-clause-answer
returns-clause-answer c =
    let count : c.len-2.result ≡ length c.self.inside.parts.items = omega (arith, c.len-2.ensures) in
    rw (← c.self.view_is)
    (ap (λ (h : Handled). h.did)
    (ship_next c.args.limits.now (record { made = c.self.inside.made.items; sent = c.self.inside.sent; shards = c.self.inside.parts.items }) c.index-pair.result.now c.shard_of-shard.result c.index_mut-part.result.now
    (omega (arith, c.if-self-len.false, c.len.ensures)) c.index-pair.ensures
    (c.shard_of-shard.ensures.value ∙ ap (shard_of c.index-pair.result.now.0) count) (omega (arith, c.shard_of-shard.ensures.within, c.len-2.ensures)) c.index_mut-part.ensures.value
    (sym c.has_place.ensures ∙ c.if-not-has_place.false) c.ship.new.self c.in_ok-ship.ensures.shipped))

pub returns-in_err-ship-clause-memory : goal.returns-in_err-ship-clause-memory
returns-in_err-ship-clause-memory c =
    let count : c.len-2.result ≡ length c.self.inside.parts.items = omega (arith, c.len-2.ensures) in
    on_err c.from_residual.result _
    (rw (← c.self.view_is)
    (ap (λ (h : Handled). grows h.did)
    (sym
    (ship_next c.args.limits.now (record { made = c.self.inside.made.items; sent = c.self.inside.sent; shards = c.self.inside.parts.items }) c.index-pair.result.now c.shard_of-shard.result c.index_mut-part.result.now
    (omega (arith, c.if-self-len.false, c.len.ensures)) c.index-pair.ensures
    (c.shard_of-shard.ensures.value ∙ ap (shard_of c.index-pair.result.now.0) count) (omega (arith, c.shard_of-shard.ensures.within, c.len-2.ensures)) c.index_mut-part.ensures.value
    (sym c.has_place.ensures ∙ c.if-not-has_place.false) (ship_edge c.index_mut-part.result.now c.index-pair.result.now) refl))))
