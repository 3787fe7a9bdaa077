use Rattle.std.proofs.Common.{◌≡◌, ◌<◌, [], ◌∷◌, ◌++◌, length, map, set, get_or, sym, ap, subst, ◌∙◌, arith}
use Rattle.std.proofs.lemmas.List.{length-map, map-set, get_or-map}
use Rattle.gl_trims.proofs.watchers.Watchers.add.Goals as goal

pub returns : goal.returns
returns c =
    let lists = c.self.inside.lists.items in
    let within : c.args.position < length lists = omega (arith, c.requires, ap length c.self.view_is, length-map lists (λ list. list.items)) in
    subst (λ now. map (λ list. list.items) (set lists c.args.position c.push.new.self) ≡ set now c.args.position (get_or now c.args.position [] ++ c.args.watcher ∷ [])) c.self.view_is
    (map-set (λ list. list.items) lists c.args.position c.push.new.self
    ∙ ap (set (map (λ list. list.items) lists) c.args.position)
    (c.in_ok-push.ensures.items ∙ ap (λ l. l ++ c.args.watcher ∷ []) (ap (λ list. list.items) c.index_mut.ensures.value ∙ sym (get_or-map (λ list. list.items) lists c.args.position c.index_mut.result.now [] within))))
