use Rattle.std.proofs.Common.{length, sym, subst, arith}
use Rattle.std.proofs.lemmas.List.{length-map}
use Rattle.gl_filters.specs.Picked.{edges_of_table}
use Rattle.gl_index.specs.Users.{UseAsKnown}
use Rattle.gl_loops.proofs.ByUsers.{knows_cycles}
use Rattle.gl_loops.proofs.alone.users.Goals as goal

pub returns-clause-cycles : goal.returns-clause-cycles
returns-clause-cycles c = knows_cycles c.args.sought.now c.args.side c.args.kept.now (length c.args.sought.now.table.now) c.in_ok-users.users c.requires (omega arith) c.in_ok-users.ensures.users

pub returns-clause-known : goal.returns-clause-known
returns-clause-known c =
    let table = c.args.sought.now.table.now in
    subst (λ n. UseAsKnown c.args.side (edges_of_table table) c.args.kept.now n c.in_ok-users.users) (sym (length-map table (λ pair. pair.0))) c.in_ok-users.ensures.known
