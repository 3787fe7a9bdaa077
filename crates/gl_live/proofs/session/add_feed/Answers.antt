use Rattle.std.proofs.Common.{◌≡◌, ◌∙◌, [], ap, length, subst, sym}
use Rattle.std.specs.List.{All}
use Rattle.std.proofs.lemmas.List.{length_push}
use Rattle.std.proofs.lemmas.List.Elements.{All-push}
use Rattle.std.proofs.lemmas.Result.{err_from_is_err_and}
use Rattle.gl_shards.specs.Feeds.{Sending}
use Rattle.gl_live.proofs.Opened.{one_more}
use Rattle.gl_live.proofs.session.add_feed.Goals as goal

pub returns-in_err-outlet-clause-count : goal.returns-in_err-outlet-clause-count
returns-in_err-outlet-clause-count c =
    let p = err_from_is_err_and c.from_residual.result c.from_residual.ensures.1 in
    rw p.1 tt

pub returns-in_err-outlet-clause-feeds : goal.returns-in_err-outlet-clause-feeds
returns-in_err-outlet-clause-feeds c = λ _.
    let p = err_from_is_err_and c.from_residual.result c.from_residual.ensures.1 in
    rw p.1 tt

pub returns-in_err-outlet-clause-unsent : goal.returns-in_err-outlet-clause-unsent
returns-in_err-outlet-clause-unsent c = λ _.
    let p = err_from_is_err_and c.from_residual.result c.from_residual.ensures.1 in
    rw p.1 tt

pub returns-in_err-outlet-clause-room : goal.returns-in_err-outlet-clause-room
returns-in_err-outlet-clause-room c = λ _.
    let p = err_from_is_err_and c.from_residual.result c.from_residual.ensures.1 in
    rw p.1 tt

pub returns-in_err-push-clause-count : goal.returns-in_err-push-clause-count
returns-in_err-push-clause-count c =
    let p = err_from_is_err_and c.from_residual-in_err-push.result c.from_residual-in_err-push.ensures.1 in
    rw p.1 tt

pub returns-in_err-push-clause-feeds : goal.returns-in_err-push-clause-feeds
returns-in_err-push-clause-feeds c = λ _.
    let p = err_from_is_err_and c.from_residual-in_err-push.result c.from_residual-in_err-push.ensures.1 in
    rw p.1 tt

pub returns-in_err-push-clause-unsent : goal.returns-in_err-push-clause-unsent
returns-in_err-push-clause-unsent c = λ _.
    let p = err_from_is_err_and c.from_residual-in_err-push.result c.from_residual-in_err-push.ensures.1 in
    rw p.1 tt

pub returns-in_err-push-clause-room : goal.returns-in_err-push-clause-room
returns-in_err-push-clause-room c = λ _.
    let p = err_from_is_err_and c.from_residual-in_err-push.result c.from_residual-in_err-push.ensures.1 in
    rw p.1 tt

pub returns-in_err-push-2-clause-count : goal.returns-in_err-push-2-clause-count
returns-in_err-push-2-clause-count c =
    let p = err_from_is_err_and c.from_residual-in_err-push-2.result c.from_residual-in_err-push-2.ensures.1 in
    rw p.1 tt

pub returns-in_err-push-2-clause-feeds : goal.returns-in_err-push-2-clause-feeds
returns-in_err-push-2-clause-feeds c = λ _.
    let p = err_from_is_err_and c.from_residual-in_err-push-2.result c.from_residual-in_err-push-2.ensures.1 in
    rw p.1 tt

pub returns-in_err-push-2-clause-unsent : goal.returns-in_err-push-2-clause-unsent
returns-in_err-push-2-clause-unsent c = λ _.
    let p = err_from_is_err_and c.from_residual-in_err-push-2.result c.from_residual-in_err-push-2.ensures.1 in
    rw p.1 tt

pub returns-in_err-push-2-clause-room : goal.returns-in_err-push-2-clause-room
returns-in_err-push-2-clause-room c = λ _.
    let p = err_from_is_err_and c.from_residual-in_err-push-2.result c.from_residual-in_err-push-2.ensures.1 in
    rw p.1 tt

pub returns-clause-count : goal.returns-clause-count
returns-clause-count c = ap length c.in_ok-push.ensures.items ∙ length_push c.args.outlets.now.items c.in_ok-outlet.outlet

pub returns-clause-feeds : goal.returns-clause-feeds
returns-clause-feeds c = λ same.
    one_more (λ i. i.feed) (λ o. o.feed) _ _ _ _ c.in_ok-outlet.inlet c.in_ok-outlet.outlet c.in_ok-push-2.ensures.items c.in_ok-push.ensures.items same c.in_ok-outlet.ensures.one_feed

pub returns-clause-unsent : goal.returns-clause-unsent
returns-clause-unsent c = λ unsent.
    subst (All (λ o. o.sent ≡ [])) (sym c.in_ok-push.ensures.items) (All-push (λ o. o.sent ≡ []) c.args.outlets.now.items c.in_ok-outlet.outlet unsent c.in_ok-outlet.ensures.empty)

pub returns-clause-room : goal.returns-clause-room
returns-clause-room c = λ room.
    let fits = λ (o : Sending). o.capacity ≡ c.args.capacity in
    subst (All fits) (sym c.in_ok-push.ensures.items) (All-push fits c.args.outlets.now.items c.in_ok-outlet.outlet room c.in_ok-outlet.ensures.room)
