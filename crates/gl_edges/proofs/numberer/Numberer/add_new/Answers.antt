use Rattle.std.proofs.Common.{◌≡◌, [], ◌∷◌, ◌++◌, length, sym, ap, subst, ◌∙◌, arith}
use Rattle.gl_edges.specs.Numbered.{AreNumbered}
use Rattle.gl_edges.specs.bodies.Numberers.{IsMapOf}
use Rattle.gl_edges.proofs.Numbering.{new_set, map_more, fresh_set}
use Rattle.gl_edges.proofs.numberer.Numberer.add_new.Goals as goal

pub returns : goal.returns
returns c = λ all had fresh.
    let n = c.args.self.now in
    let guards = c.args.guards.now in
    let last : c.len-number.result ≡ length n.sets.items = omega (arith, c.len-number.ensures, n.sets.ok.0) in
    let ids_are = c.in_ok-push-2.ensures.items ∙ ap (λ k. n.ids.items ++ k ∷ []) last in
    let sets_are = c.in_ok-push.ensures.items ∙ ap (λ gs. n.sets.items ++ gs ∷ []) c.in_ok-set.ensures.same in
    record {
      numbered = subst (λ ids. AreNumbered (all ++ guards ∷ []) (record { ids = ids; sets = c.push.new.self.items })) (sym ids_are)
          (subst (λ sets. AreNumbered (all ++ guards ∷ []) (record { ids = n.ids.items ++ length n.sets.items ∷ []; sets = sets })) (sym sets_are)
          (new_set all n.ids.items n.sets.items guards had.numbered (fresh_set n.sets.items n.numbers guards had.mapped fresh)));
      mapped = subst (λ sets. IsMapOf sets c.insert.new.self) (sym sets_are)
          (map_more n.sets.items n.numbers c.insert.new.self guards c.len-number.result last had.mapped fresh (rw c.in_ok-key.ensures.same at c.in_ok-insert.ensures.updates.0));
    }
