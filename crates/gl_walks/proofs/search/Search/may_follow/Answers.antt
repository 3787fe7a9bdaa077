use Rattle.std.proofs.Common.{◌≡◌, ◌-◌, ◌<◌, ℕ, Bool, true, false, ◌&&◌, List, length, get_or, Some, refl, sym, ap, ◌∙◌}
use Rattle.std.specs.Prelude.{slice_get}
use Rattle.std.proofs.lemmas.Bool.{and_left, and_right}
use Rattle.std.proofs.lemmas.Option.{same_Some}
use Rattle.gl_edges.specs.declared.edge.Edge.{Edge}
use Rattle.gl_edges.specs.declared.edge.Sample.{Sample}
use Rattle.gl_segments.specs.Clocks.{is_before}
use Rattle.gl_filters.specs.Picked.{edges_of_table}
use Rattle.gl_filters.specs.Test.{leads_to}
use Rattle.gl_walks.specs.bodies.Fronts.{stays_above}
use Rattle.gl_walks.proofs.Ends.{follows_by}
use Rattle.gl_walks.proofs.Places.{edge_at, ends_by_table, some_from_test}
use Rattle.gl_walks.proofs.search.Search.may_follow.Goals as goal

-- the edge at a position
is_there : (table : List (Edge × Sample)) (i : ℕ) (d : Edge × Sample) (f : Edge) → i < length table → slice_get (edges_of_table table) i ≡ Some f → f ≡ (get_or table i d).0
is_there table i d f within at = same_Some _ _ (sym at ∙ edge_at table i d within)

both : (a b x : Bool) → a ≡ true → b ≡ true → (a && (x && b)) ≡ x
both true true true p q = refl
both true true false p q = refl
both true false x p q = cc
both false b x p q = cc

-- the last edge leads on to another lock
pub returns-then-not-leads_on : goal.returns-then-not-leads_on
returns-then-not-leads_on c = λ f at.
    let s = c.args.self.now in
    let table = s.area.table.now in
    let is = is_there table c.args.next c.index-self-next.result f c.requires.there at in
    let ends = ends_by_table table c.args.path.now c.requires.within c.index-self-last.result c.index-self-last.result (some_from_test c.args.path.now c.if-is_empty.ensures) in
    sym (follows_by (edges_of_table table) c.args.path.now _ _ ends c.args.purpose (is_before s.area.order.now) s.area.mode f
    ∙ and_left _ _ (ap (λ x. leads_to (get_or table (get_or c.args.path.now (length c.args.path.now - 1) 0) c.index-self-last.result).0 x) is ∙ sym c.if-not-leads_on.ensures))

-- it may not stand in a walk that begins so
pub returns-then-not-stays_above : goal.returns-then-not-stays_above
returns-then-not-stays_above c = λ f at.
    let s = c.args.self.now in
    let table = s.area.table.now in
    let is = is_there table c.args.next c.index-self-next.result f c.requires.there at in
    let ends = ends_by_table table c.args.path.now c.requires.within c.index-self-first.result c.index-self-last.result (some_from_test c.args.path.now c.if-is_empty.ensures) in
    sym (follows_by (edges_of_table table) c.args.path.now _ _ ends c.args.purpose (is_before s.area.order.now) s.area.mode f
    ∙ and_right _ _ (and_right _ _ (ap (stays_above c.args.purpose (get_or table (get_or c.args.path.now 0 0) c.index-self-first.result).0) is ∙ sym c.if-not-stays_above.ensures)))

-- the rest is whether each edge of the path goes with it
pub returns : goal.returns
returns c = λ f at.
    let s = c.args.self.now in
    let table = s.area.table.now in
    let is = is_there table c.args.next c.index-self-next.result f c.requires.there at in
    let ends = ends_by_table table c.args.path.now c.requires.within c.index-self-first.result c.index-self-last.result (some_from_test c.args.path.now c.if-is_empty.ensures) in
    rw is (c.goes_with_all.ensures ∙ sym (follows_by (edges_of_table table) c.args.path.now _ _ ends c.args.purpose (is_before s.area.order.now) s.area.mode _
    ∙ both _ _ _ (sym c.if-not-leads_on.ensures) (sym c.if-not-stays_above.ensures)))
