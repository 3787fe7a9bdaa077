use Rattle.std.proofs.Common.{sym, subst}
use Rattle.gl_edges.specs.Tracking.{Follows}
use Rattle.gl_world.specs.Keeping.{with_body}
use Rattle.gl_world.proofs.thread_part.follow.Goals as goal

pub returns-in-Happened : goal.returns-in-Happened
returns-in-Happened c = λ thread es before. subst (λ body. Follows thread (with_body es body) c.advance.new.self) (sym c.in-Happened.is) (c.advance.ensures thread es before)
