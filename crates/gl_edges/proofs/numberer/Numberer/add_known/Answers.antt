use Rattle.std.proofs.Common.{[], ◌∷◌, ◌++◌, sym, subst}
use Rattle.gl_edges.specs.Numbered.{AreNumbered}
use Rattle.gl_edges.proofs.Numbering.{known_more}
use Rattle.gl_edges.proofs.numberer.Numberer.add_known.Goals as goal

pub returns : goal.returns
returns c = λ all guards had at. record {
  numbered = subst (λ ids. AreNumbered (all ++ guards ∷ []) (record { ids = ids; sets = c.args.self.now.sets.items })) (sym c.in_ok-push.ensures.items)
      (known_more all c.args.self.now.ids.items c.args.self.now.sets.items c.args.number guards had.numbered at);
  mapped = had.mapped;
}
