use Rattle.std.proofs.Common.{◌≡◌, length, map, refl, sym, subst, ◌∙◌, arith, inr}
use Rattle.std.proofs.lemmas.Bool.{false≢true}
use Rattle.serde_json.specs.Data.{null}
use Rattle.serde_json.specs.View.{view}
use Rattle.gl_report.specs.Tree.{edge_tree}
use Rattle.gl_check.specs.Edges.{IsFirstDifference}
use Rattle.gl_check.specs.Shape.{is_edge}
use Rattle.gl_check.proofs.Shapes.{all_at}
use Rattle.gl_check.proofs.Tables.{differ_here, ends_early, ends_late}
use Rattle.gl_check.proofs.edges.check_table.Goals as goal

-- the values end too early
pub returns-then-k-values-clause-fault : goal.returns-then-k-values-clause-fault
returns-then-k-values-clause-fault c =
    inr (c.loop-k.k, refl, ends_early view (edge_tree c.args.names.now) c.args.values.now c.args.table.now c.loop-k.k c.loop-k.invariant.same null c.if-k-values.true c.loop-k-test.true)

pub is_entry-requires : goal.is_entry-requires
is_entry-requires c = all_at is_edge view c.args.values.now c.loop-k.k c.index-values-k.result c.requires c.if-k-values.false c.index-values-k.is

-- another value stands there
pub returns-then-not-branch-clause-fault : goal.returns-then-not-branch-clause-fault
returns-then-not-branch-clause-fault c =
    inr (
      c.loop-k.k,
      refl,
      differ_here view (edge_tree c.args.names.now) c.args.values.now c.args.table.now c.loop-k.k c.loop-k.invariant.same c.index-values-k.result c.index-table-k.result c.if-k-values.false c.index-values-k.is
          c.loop-k-test.true c.index-table-k.is (λ same. false≢true (sym c.if-not-branch.true ∙ c.in_ok-is_entry.ensures.1 same)),
    )

-- the values go on
pub returns-then-values-table-clause-fault : goal.returns-then-values-table-clause-fault
returns-then-values-table-clause-fault c =
    let end : c.loop-k.k ≡ length c.args.table.now = omega (arith, c.loop-k-test.false, c.loop-k.auto.k-end) in
    inr (
      length c.args.table.now,
      refl,
      subst (IsFirstDifference (map view c.args.values.now) (map (edge_tree c.args.names.now) c.args.table.now)) end
          (ends_late view (edge_tree c.args.names.now) c.args.values.now c.args.table.now c.loop-k.k c.loop-k.invariant.same null (omega (arith, end)) (omega (arith, end, c.if-values-table.true))),
    )
