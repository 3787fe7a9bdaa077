use Rattle.gl_filters.specs.Picked.{edges_of_table}
use Rattle.gl_index.specs.Users.{AreUsers, UseAsKnown}
use Rattle.gl_index.proofs.users.Users.of_kept.Given as goal

-- so far each edge that isn't left out has its thread among the users, and no more is known
abbrev pub invariant-loop-i : goal.invariant-loop-i
invariant-loop-i l = AreUsers l.side (edges_of_table l.table) l.kept l.i l.users × UseAsKnown l.side (edges_of_table l.table) l.kept l.i l.users
