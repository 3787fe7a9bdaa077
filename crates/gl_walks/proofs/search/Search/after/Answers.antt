use Rattle.std.proofs.Common.{length}
use Rattle.gl_filters.specs.Picked.{edges_of_table}
use Rattle.gl_walks.specs.declared.keys.Keyed.TheVariants.{ByClass, ByLock}
use Rattle.gl_walks.specs.bodies.Listing.{key_at}
use Rattle.gl_walks.specs.bodies.Fronts.{sought_by}
use Rattle.gl_walks.proofs.Ends.{goes_on_by_class, goes_on_by_lock}
use Rattle.gl_walks.proofs.Places.{none_from_test, some_from_test}
use Rattle.gl_walks.proofs.search.Search.after.Goals as goal

-- the first edge
pub returns-then-is_empty : goal.returns-then-is_empty
returns-then-is_empty c = λ p pattern k at.
    let s = c.args.self.now in
    let edges = edges_of_table s.area.table.now in
    goes_on_by_class (sought_by s.area p pattern) c.args.path.now k c.args.i _ (none_from_test c.args.path.now c.if-is_empty.ensures) at
    (c.after.ensures (key_at ByClass edges s.area.classes.now s.area.flags.now) (length edges) k s.indexed.through_classes)

-- a later one
pub returns : goal.returns
returns c = λ p pattern k at.
    let s = c.args.self.now in
    let edges = edges_of_table s.area.table.now in
    goes_on_by_lock (sought_by s.area p pattern) c.args.path.now k c.args.i _ (some_from_test c.args.path.now c.if-is_empty.ensures) at
    (c.after-2.ensures (key_at ByLock edges s.area.classes.now s.area.flags.now) (length edges) k s.indexed.through_locks)
