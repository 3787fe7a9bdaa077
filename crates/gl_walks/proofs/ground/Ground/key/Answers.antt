use Rattle.std.proofs.Common.{Some, sym, ap, ◌∙◌, arith}
use Rattle.std.proofs.lemmas.List.{length-map}
use Rattle.std.proofs.lemmas.Option.{slice_get-get_or}
use Rattle.gl_filters.specs.Picked.{edges_of_table}
use Rattle.gl_walks.specs.bodies.Listing.{key_at}
use Rattle.gl_walks.proofs.Keying.{key_flagged, key_unflagged}
use Rattle.gl_walks.proofs.Places.{edge_at, element_at}
use Rattle.gl_walks.proofs.ground.Ground.key.Goals as goal

-- the edge isn't flagged
pub returns-then-not-self-i : goal.returns-then-not-self-i
returns-then-not-self-i c =
    let g = c.args.self.now in
    let edge = element_at (edges_of_table g.table.now) c.args.i (omega (arith, c.requires.there, length-map g.table.now (λ pair. pair.0))) in
    let class = element_at g.classes.now c.args.i (omega (arith, c.requires.there, c.requires.classes)) in
    let out = slice_get-get_or g.flags.now c.args.i _ (omega (arith, c.requires.there, c.requires.flags)) ∙ ap Some c.if-not-self-i.true in
    sym (key_unflagged c.args.keyed (edges_of_table g.table.now) g.classes.now g.flags.now c.args.i edge.0 class.0 edge.1 class.1 out)

-- by its class
pub returns-in-ByClass : goal.returns-in-ByClass
returns-in-ByClass c =
    let g = c.args.self.now in
    let edge = element_at (edges_of_table g.table.now) c.args.i (omega (arith, c.requires.there, length-map g.table.now (λ pair. pair.0))) in
    let class = slice_get-get_or g.classes.now c.args.i 0 (omega (arith, c.requires.there, c.requires.classes)) in
    let flag = slice_get-get_or g.flags.now c.args.i _ (omega (arith, c.requires.there, c.requires.flags)) ∙ ap Some c.if-not-self-i.false in
    sym (ap (λ k. key_at k (edges_of_table g.table.now) g.classes.now g.flags.now c.args.i) c.in-ByClass.is ∙ key_flagged _ (edges_of_table g.table.now) g.classes.now g.flags.now c.args.i edge.0 _ edge.1 class flag)

-- and by the lock that it holds
pub returns-in-ByLock : goal.returns-in-ByLock
returns-in-ByLock c =
    let g = c.args.self.now in
    let edge = edge_at g.table.now c.args.i c.index-self-i.result c.requires.there in
    let class = slice_get-get_or g.classes.now c.args.i 0 (omega (arith, c.requires.there, c.requires.classes)) in
    let flag = slice_get-get_or g.flags.now c.args.i _ (omega (arith, c.requires.there, c.requires.flags)) ∙ ap Some c.if-not-self-i.false in
    sym (ap (λ k. key_at k (edges_of_table g.table.now) g.classes.now g.flags.now c.args.i) c.in-ByLock.is ∙ key_flagged _ (edges_of_table g.table.now) g.classes.now g.flags.now c.args.i _ _ edge class flag)
