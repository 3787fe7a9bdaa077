use Rattle.std.proofs.Common.{[], ◌∷◌, ◌++◌, sym, ap, ◌∙◌}
use Rattle.std.specs.Map.Iter.{deref_pair}
use Rattle.std.proofs.lemmas.Map.Iter.{rest_more, rest_all}
use Rattle.gl_edges.specs.Edges.{once}
use Rattle.gl_edges.specs.declared.edge.Edge.{Edge}
use Rattle.gl_edges.specs.declared.edge.Sample.{Sample}
use Rattle.gl_edges.proofs.Filling.{once_of_ascending, once_of_none, once_again, once_moved, once_whole}
use Rattle.gl_edges.proofs.table.Table.copy.Goals as goal

pub loop-edge-init : goal.loop-edge-init
loop-edge-init c =
    let rest = c.into_iter-edge-iterator.ensures.into_iter_gives ∙ c.iter-edge-items.ensures.rest in
    record {
      own = rw c.new-table.ensures once_of_none;
      whole = rw (c.new-table.ensures, rest) (once_of_ascending _ c.self.invariant ∙ c.self.view_is);
    }

pub loop-edge-preserved : goal.loop-edge-preserved
loop-edge-preserved c =
    let more = rest_more deref_pair _ _ _ _ c.in-Some.is c.next.ensures.steps in
    let table = c.loop-edge.table in
    let pair : Edge × Sample = (c.in-Some.edge.now, c.in-Some.sample.now) in
    let inserted = c.in_ok-insert.ensures.inserted ∙ ap (λ e. once (table ++ (e, c.in-Some.sample.now) ∷ [])) c.in_ok-copy.ensures.same in
    record {
      own = rw inserted (once_again (table ++ pair ∷ []));
      whole = rw inserted (once_moved table pair c.next.new.self ∙ ap (λ rest. once (table ++ rest)) (sym more) ∙ c.loop-edge.invariant.whole);
    }

pub returns : goal.returns
returns c =
    once_whole c.loop-edge.table c.loop-edge.edge-iterator _ (rest_all deref_pair _ _ _ c.in-None.is c.next.ensures.steps)
    c.loop-edge.invariant.own c.loop-edge.invariant.whole
