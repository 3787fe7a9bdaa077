use Rattle.std.proofs.Common.{◌≡◌, length, subst, arith}
use Rattle.gl_filters.specs.Picked.{edges_of_table}
use Rattle.gl_index.specs.Users.{AreUsers, UseAsKnown}
use Rattle.gl_index.proofs.Tables.{edge_at}
use Rattle.gl_index.proofs.Using.{users_more}
use Rattle.gl_index.proofs.users.Users.of_kept.Goals as goal

pub loop-i-preserved : goal.loop-i-preserved
loop-i-preserved c =
    let table = c.args.table.now in
    users_more c.args.side (edges_of_table table) c.args.kept.now c.loop-i.i c.loop-i.users c.add_kept.new.self _ c.is_kept.result (edge_at table c.loop-i.i c.index-table-i.result (omega arith)) c.is_kept.ensures
    c.in_ok-add_kept.ensures.added c.in_ok-add_kept.ensures.left c.loop-i.invariant

pub returns-clause-users : goal.returns-clause-users
returns-clause-users c =
    let at_end : c.loop-i.i ≡ length c.args.table.now = omega arith in
    subst (λ n. AreUsers c.args.side (edges_of_table c.args.table.now) c.args.kept.now n c.loop-i.users) at_end c.loop-i.invariant.0

pub returns-clause-known : goal.returns-clause-known
returns-clause-known c =
    let at_end : c.loop-i.i ≡ length c.args.table.now = omega arith in
    subst (λ n. UseAsKnown c.args.side (edges_of_table c.args.table.now) c.args.kept.now n c.loop-i.users) at_end c.loop-i.invariant.1
