use Rattle.std.proofs.Common.{◌+◌, ◌*◌, length}
use Rattle.gl_std.proofs.from_source.parallel.cutting.+rounds.Given as goal

abbrev pub decreases-read_beside_cutting : goal.decreases-read_beside_cutting
decreases-read_beside_cutting g l = 4 * length l.next.now

abbrev pub decreases-cut_beside : goal.decreases-cut_beside
decreases-cut_beside g l = 4 * length l.others.now + 3

abbrev pub decreases-cut_beside-going_on : goal.decreases-cut_beside-going_on
decreases-cut_beside-going_on g l = 4 * length l.others.now + 1
