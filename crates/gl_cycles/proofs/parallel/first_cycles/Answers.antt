use Rattle.std.proofs.Common.{◌≡◌, ◌∷◌, [], length, map, take, arith}
use Rattle.std.proofs.lemmas.Result.{IfOk-weaker}
use Rattle.gl_segments.specs.Clocks.{is_before}
use Rattle.gl_filters.specs.Picked.{edges_of_table}
use Rattle.gl_cycles.specs.AllCycles.{all_cycles}
use Rattle.gl_cycles.specs.Roots.{first_below}
use Rattle.gl_cycles.specs.bodies.Searching.{all_from, sought_by}
use Rattle.gl_cycles.proofs.RootByRoot.{all_found}
use Rattle.gl_cycles.proofs.parallel.first_cycles.Goals as goal

-- all cycles begin with one of the edges
pub returns : goal.returns
returns g c =
    let s = c.args.search.now in
    let size = length s.table.now in
    IfOk-weaker c.found_by_roots.result
    (λ found. map (λ cycle. cycle.items) found.items ≡ first_below s.cap (λ root. all_from s (root ∷ [])) size)
    (λ found. map (λ cycle. cycle.items) found.items ≡ take s.cap (all_cycles (is_before s.order.now) s.mode s.len (edges_of_table s.table.now)))
    (λ found is. all_found (sought_by s) s.cap size _ c.requires.finishes.some (omega arith) (record { within = omega arith; first = is })) c.found_by_roots.ensures
