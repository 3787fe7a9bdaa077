use Rattle.std.proofs.Common.{◌<◌, refl, sym, subst, map, length}
use Rattle.std.specs.Prelude.{All}
use Rattle.serde_json.specs.View.{view}
use Rattle.gl_filters.specs.Picked.{edges_of_table, picked}
use Rattle.gl_filters.specs.Verdicts.{IsVerdict}
use Rattle.gl_segments.specs.Clocks.{is_before}
use Rattle.gl_check.specs.Edges.{NameEdges}
use Rattle.gl_check.proofs.Places.{all_within}
use Rattle.gl_check.proofs.cycles.Known.check_cycle.Goals as goal

pub judge-requires : goal.judge-requires
judge-requires c =
    let known = c.args.self.now in
    let edges = subst (λ table. NameEdges known.format known.names.now table (map view c.args.edges.now) c.in_ok-positions.positions.items) c.entries.ensures.pairs c.in_ok-positions.ensures.found in
    subst (All (λ p. p < length known.edges.now)) (sym c.as_slice.ensures.value) (all_within known.format known.names.now known.edges.now (map view c.args.edges.now) c.in_ok-positions.positions.items edges)

pub returns-in_default-clause-fault : goal.returns-in_default-clause-fault
returns-in_default-clause-fault c =
    let known = c.args.self.now in
    let edges = subst (λ table. NameEdges known.format known.names.now table (map view c.args.edges.now) c.in_ok-positions.positions.items) c.entries.ensures.pairs c.in_ok-positions.ensures.found in
    let verdict = subst (λ l. IsVerdict (is_before known.order.now) known.query (picked (edges_of_table known.edges.now) l) c.judge.result) c.as_slice.ensures.value c.judge.ensures in
    λ found. (refl, (c.in_ok-positions.positions.items, edges, verdict, c.in_default.not-Valid))

pub returns-in-Valid-clause-cycle : goal.returns-in-Valid-clause-cycle
returns-in-Valid-clause-cycle c =
    let known = c.args.self.now in
    let edges = subst (λ table. NameEdges known.format known.names.now table (map view c.args.edges.now) c.in_ok-positions.positions.items) c.entries.ensures.pairs c.in_ok-positions.ensures.found in
    let verdict = subst (λ l. IsVerdict (is_before known.order.now) known.query (picked (edges_of_table known.edges.now) l) c.judge.result) c.as_slice.ensures.value c.judge.ensures in
    record { edges = edges; valid = subst (IsVerdict (is_before known.order.now) known.query (picked (edges_of_table known.edges.now) c.in_ok-positions.positions.items)) c.in-Valid.is verdict }
