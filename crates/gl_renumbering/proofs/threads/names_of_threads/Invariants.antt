use Rattle.std.proofs.Common.{◌≡◌, [], take}
use Rattle.gl_renumbering.proofs.threads.names_of_threads.Given as goal

-- the first threads have their names
abbrev pub invariant-loop-number : goal.invariant-loop-number
invariant-loop-number l = l.alone ≡ record { threads = take l.number l.names.threads; locks = []; locs = [] }
