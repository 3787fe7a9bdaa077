use Rattle.std.proofs.Common.{◌≡◌, length}
use Rattle.gl_filters.specs.Picked.{edges_of_table}
use Rattle.gl_grounds.proofs.ModelSteps.{AreModelsBefore}
use Rattle.gl_grounds.proofs.models.models_of.Given as goal

-- the edges so far that are kept have a model
abbrev pub invariant-loop-i : goal.invariant-loop-i
invariant-loop-i l = record {
  long : length l.models.items ≡ length l.table;
  models : AreModelsBefore l.i (edges_of_table l.table) l.classes l.kept l.models.items;
}
