use Rattle.std.proofs.Common.{◌≡◌, ◌+◌, ◌-◌, length, sym, subst, arith}
use Rattle.std.proofs.lemmas.List.{length-map}
use Rattle.gl_filters.specs.Picked.{edges_of_table}
use Rattle.gl_walks.specs.bodies.Listing.{IsChain, key_at}
use Rattle.gl_walks.proofs.ground.Ground.chain.Goals as goal

-- before any position is put into it
pub loop-i-init : goal.loop-i-init
loop-i-init c = c.in_ok-chain.ensures (key_at c.args.keyed (edges_of_table c.args.self.now.table.now) c.args.self.now.classes.now c.args.self.now.flags.now)

-- one more
pub loop-i-preserved : goal.loop-i-preserved
loop-i-preserved c =
    let g = c.args.self.now in
    let keys = key_at c.args.keyed (edges_of_table g.table.now) g.classes.now g.flags.now in
    let next_is : c.loop-i.i ≡ c.loop-i.i - 1 + 1 = omega arith in
    c.in_ok-put.ensures keys (length g.table.now) (subst (λ k. IsChain keys (length g.table.now) k c.loop-i.chain) next_is c.loop-i.invariant) (sym c.key.ensures)

-- all are in it
pub returns : goal.returns
returns c =
    let g = c.args.self.now in
    let at_end : c.loop-i.i ≡ 0 = omega arith in
    let keys = key_at c.args.keyed (edges_of_table g.table.now) g.classes.now g.flags.now in
    subst (λ size. IsChain keys size 0 c.loop-i.chain) (sym (length-map g.table.now (λ pair. pair.0))) (subst (λ k. IsChain keys (length g.table.now) k c.loop-i.chain) at_end c.loop-i.invariant)
