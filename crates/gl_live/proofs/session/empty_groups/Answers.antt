use Rattle.std.proofs.Common.{◌≡◌, ◌+◌, ◌∙◌, [], ap, length}
use Rattle.std.proofs.lemmas.List.{length_push}
use Rattle.std.proofs.lemmas.Result.{err_from_is_err_and}
use Rattle.gl_live.proofs.Rostered.{all_more}
use Rattle.gl_live.proofs.session.empty_groups.Goals as goal

pub loop-preserved : goal.loop-preserved
loop-preserved c =
    let was = c.loop.invariant in record {
      count = ap length c.in_ok-push.ensures.items ∙ length_push c.loop.groups.items c.new.result ∙ ap (λ n. n + 1) was.count;
      empty = all_more c.loop.groups.items c.new.result c.push.new.self.items (λ group. group.items ≡ []) c.in_ok-push.ensures.items c.new.ensures.items was.empty;
    }

pub returns-in_err-groups-clause-count : goal.returns-in_err-groups-clause-count
returns-in_err-groups-clause-count c =
    let p = err_from_is_err_and c.from_residual.result c.from_residual.ensures.1 in
    rw p.1 tt

pub returns-in_err-groups-clause-empty : goal.returns-in_err-groups-clause-empty
returns-in_err-groups-clause-empty c =
    let p = err_from_is_err_and c.from_residual.result c.from_residual.ensures.1 in
    rw p.1 tt

pub returns-in_err-push-clause-count : goal.returns-in_err-push-clause-count
returns-in_err-push-clause-count c =
    let p = err_from_is_err_and c.from_residual-in_err-push.result c.from_residual-in_err-push.ensures.1 in
    rw p.1 tt

pub returns-in_err-push-clause-empty : goal.returns-in_err-push-clause-empty
returns-in_err-push-clause-empty c =
    let p = err_from_is_err_and c.from_residual-in_err-push.result c.from_residual-in_err-push.ensures.1 in
    rw p.1 tt
