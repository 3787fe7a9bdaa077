use Rattle.std.proofs.Common.{◌≡◌, sym, subst, ◌∙◌}
use Rattle.std.proofs.lemmas.List.{length-map}
use Rattle.gl_event.specs.Lawful.{lists_of}
use Rattle.gl_edges.specs.Edges.{edges, edges_made}
use Rattle.gl_edges.specs.Order.{AreAscending}
use Rattle.gl_edges.specs.bodies.Sharing.{FollowOn}
use Rattle.gl_edges.proofs.Apart.{all_shares}
use Rattle.gl_edges.proofs.Tables.{once_ascends}
use Rattle.gl_edges.proofs.parallel.edges_of_parallel.Goals as goal

-- the joined pairs are the edges of all lists
joined : (g : _) (c : goal.In_ok-pairs g) → c.in_ok-pairs.pairs.items ≡ edges (lists_of c.args.lists.now)
joined g c =
    let lists = lists_of c.args.lists.now in
    let are = subst (FollowOn 0 c.in_ok-shares.shares.items) (sym (length-map c.args.lists.now (λ v. v.items))) c.in_ok-shares.ensures in
    c.in_ok-pairs.ensures ∙ all_shares lists c.in_ok-shares.shares.items c.in_ok-pieces.pieces.items are (rw c.as_slice.ensures.value at c.in_ok-pieces.ensures)

pub from_ascending-requires : goal.from_ascending-requires
from_ascending-requires g c = subst AreAscending (sym (joined g c)) (once_ascends (edges_made (lists_of c.args.lists.now)))

pub returns : goal.returns
returns g c = c.from_ascending.ensures ∙ joined g c.before.before
