use Rattle.std.proofs.Common.{[], refl, sym, subst, arith}
use Rattle.gl_std.specs.Standings.{AreStanding}
use Rattle.gl_std.specs.Trace.{nothing}
use Rattle.gl_std.proofs.JudgedLines.{sound_of}
use Rattle.gl_std.proofs.WithinLimits.{nothing_over}
use Rattle.gl_std.proofs.judge.Judge.new.Goals as goal

pub returns-clause-sound : goal.returns-clause-sound
returns-clause-sound c =
    sound_of _ nothing
    (record { names = c.new.ensures; states = subst (AreStanding []) (sym c.new-2.ensures.items) tt; skipped = refl; stray = refl })
    (nothing_over c.args.limits) c.threads.ensures.within (omega arith) (omega arith)
