use Rattle.std.proofs.Common.{◌-◌, ◌++◌, map, take, ap, ◌∙◌}
use Rattle.std.specs.List.{flat_map, range_with_len}
use Rattle.std.proofs.lemmas.Result.{on_ok_weaker}
use Rattle.gl_cycles.proofs.RootsJoined.{flat-same, flat-take-behind}
use Rattle.gl_cycles.proofs.roots.add_run.Goals as goal

pub returns : goal.returns
returns g c =
    let cap = g.S.RootedSearch.cap c.args.search.now in
    let f = g.S.RootedSearch.found_from c.args.search.now in
    let roots = range_with_len c.args.from (c.args.to - c.args.from) in
    let before = map (λ cycle. cycle.items) c.args.found.now.items in
    let same = ap (flat_map (λ piece. map (λ cycle. cycle.items) piece.items)) c.deref.ensures.value ∙ flat-same (λ piece. map (λ cycle. cycle.items) piece.items) (λ root. take cap (f root)) c.in_ok-pieces.pieces.items roots c.in_ok-pieces.ensures in
    on_ok_weaker c.add_pieces.result (λ added. added ∙ (λ i. take (c.cap-cap.ensures i) (before ++ same i)) ∙ flat-take-behind cap f roots before) c.add_pieces.ensures
