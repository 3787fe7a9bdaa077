use Rattle.std.proofs.Common.{length}
use Rattle.gl_check.proofs.fields.+have_fields.Given as goal

-- the fields that are left
abbrev pub decreases-have_fields : goal.decreases-have_fields
decreases-have_fields l = length l.fields.now
