use Rattle.std.proofs.Common.{◌≡◌, ◌+◌, arith}
use Rattle.std.proofs.lemmas.List.{length-map}
use Rattle.gl_edges.proofs.gather.edges_of.Goals as goal

pub edges_from-requires : goal.edges_from-requires
edges_from-requires c = record {
  few = omega (arith, length-map c.args.lists.now (λ v. v.items), c.requires.lawful.few);
  lawful = λ index es is. let zero : 0 + index ≡ index = omega arith in rw zero (c.requires.lawful.each index es is);
}
