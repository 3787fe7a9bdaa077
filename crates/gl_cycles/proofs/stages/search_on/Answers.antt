use Rattle.std.proofs.Common.{map, sym, subst}
use Rattle.gl_cycles.specs.bodies.Searching.{HasFound}
use Rattle.gl_cycles.proofs.stages.search_on.Goals as goal

pub go_on-requires-clause-found : goal.go_on-requires-clause-found
go_on-requires-clause-found c =
    let found = map (λ cycle. cycle.items) c.args.found.now.items in
    subst (λ s. HasFound s c.in_ok-search.search.cap c.args.from found) (sym c.in_ok-search.ensures.sought)
    (subst (λ cap. HasFound c.args.sought.now cap c.args.from found) (sym c.in_ok-search.ensures.cap) c.requires.found)
