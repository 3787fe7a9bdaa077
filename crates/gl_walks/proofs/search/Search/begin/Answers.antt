use Rattle.std.proofs.Common.{length}
use Rattle.std.proofs.lemmas.Option.{unwrap_or-slice_get}
use Rattle.gl_filters.specs.Picked.{edges_of_table}
use Rattle.gl_walks.specs.declared.keys.Keyed.TheVariants.{ByClass, ByLock}
use Rattle.gl_walks.specs.bodies.Listing.{key_at}
use Rattle.gl_walks.specs.bodies.Fronts.{sought_by}
use Rattle.gl_walks.proofs.Ends.{begins_by_class, begins_by_lock, lock_by}
use Rattle.gl_walks.proofs.Places.{ends_by_table, none_from_test, some_from_test}
use Rattle.gl_walks.proofs.search.Search.begin.Goals as goal

-- the first edge
pub returns-then-is_empty : goal.returns-then-is_empty
returns-then-is_empty c = λ p.
    let s = c.args.self.now in
    let edges = edges_of_table s.area.table.now in
    begins_by_class (sought_by s.area p c.args.pattern.now) c.args.path.now _ _ (none_from_test c.args.path.now c.if-is_empty.ensures) (unwrap_or-slice_get c.args.pattern.now (length c.args.path.now) 0)
    (c.begin.ensures (key_at ByClass edges s.area.classes.now s.area.flags.now) (length edges) s.indexed.through_classes)

-- a later one
pub returns : goal.returns
returns c = λ p.
    let s = c.args.self.now in
    let path = c.args.path.now in
    let edges = edges_of_table s.area.table.now in
    let some = some_from_test path c.if-is_empty.ensures in
    begins_by_lock (sought_by s.area p c.args.pattern.now) path _ _ _ some (unwrap_or-slice_get c.args.pattern.now (length path) 0)
    (lock_by edges path _ _ (ends_by_table s.area.table.now path c.requires.within c.index-self-last.result c.index-self-last.result some))
    (c.begin-2.ensures (key_at ByLock edges s.area.classes.now s.area.flags.now) (length edges) s.indexed.through_locks)
