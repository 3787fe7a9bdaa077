use Rattle.std.proofs.Common.{◌≡◌, [], map, set, ap, subst, ◌∙◌}
use Rattle.std.proofs.lemmas.List.{map-set}
use Rattle.gl_trims.proofs.watchers.Watchers.take.Goals as goal

pub returns-clause-left : goal.returns-clause-left
returns-clause-left c =
    let lists = c.self.inside.lists.items in
    subst (λ now. map (λ list. list.items) (set lists c.args.position c.replace.new.dest) ≡ set now c.args.position []) c.self.view_is
    (map-set (λ list. list.items) lists c.args.position c.replace.new.dest ∙ ap (set (map (λ list. list.items) lists) c.args.position) (ap (λ list. list.items) c.replace.ensures.after ∙ c.new.ensures.items))
