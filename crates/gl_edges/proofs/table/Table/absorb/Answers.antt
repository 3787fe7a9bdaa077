use Rattle.std.proofs.Common.{◌≡◌, [], ◌∷◌, ◌++◌, sym, ap, subst, ◌∙◌}
use Rattle.std.proofs.lemmas.Map.Iter.{rest_more, rest_all}
use Rattle.gl_edges.specs.Edges.{once}
use Rattle.gl_edges.specs.declared.edge.Edge.{Edge}
use Rattle.gl_edges.specs.declared.edge.Sample.{Sample}
use Rattle.gl_edges.proofs.Filling.{once_of_ascending, once_again, once_moved, once_whole}
use Rattle.gl_edges.proofs.table.Table.absorb.Goals as goal

pub loop-edge-init : goal.loop-edge-init
loop-edge-init c = record {
  own = subst (λ pairs. once pairs ≡ pairs) c.self.view_is (once_of_ascending _ c.self.invariant);
  whole = ap (λ rest. once (c.args.self.now ++ rest)) (c.into_iter-edge-iterator.ensures.into_iter_gives.0 ∙ c.other.view_is);
}

pub loop-edge-preserved : goal.loop-edge-preserved
loop-edge-preserved c =
    let more = rest_more (λ x. x) _ _ _ _ c.in-Some.is c.next.ensures.steps in
    let table = c.loop-edge.self in
    let pair : Edge × Sample = (c.in-Some.edge, c.in-Some.sample) in
    record {
      own = rw c.in_ok-insert.ensures.inserted (once_again (table ++ pair ∷ []));
      whole =
          rw c.in_ok-insert.ensures.inserted
          (once_moved table pair c.next.new.self ∙ ap (λ rest. once (table ++ rest)) (sym more) ∙ c.loop-edge.invariant.whole);
    }

pub returns : goal.returns
returns c =
    once_whole c.loop-edge.self c.loop-edge.edge-iterator _ (rest_all (λ x. x) _ _ _ c.in-None.is c.next.ensures.steps)
    c.loop-edge.invariant.own c.loop-edge.invariant.whole
