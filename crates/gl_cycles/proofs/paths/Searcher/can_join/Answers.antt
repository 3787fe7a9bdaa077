use Rattle.std.proofs.Common.{◌≡◌, ◌-◌, Bool, true, false, ◌&&◌, leb, length, get_or, refl, sym, ap, ◌∙◌}
use Rattle.std.proofs.lemmas.Bool.{and_left, and_right, ltb-true, ltb-false, lt-leb, le-leb}
use Rattle.gl_segments.specs.Clocks.{is_before}
use Rattle.gl_filters.specs.Test.{leads_to}
use Rattle.gl_cycles.proofs.EdgesOfPaths.{follow_by_table, is_there, lesser_thread}
use Rattle.gl_cycles.proofs.paths.Searcher.can_join.Goals as goal

both : (a b x : Bool) → a ≡ true → b ≡ true → (a && (x && b)) ≡ x
both true true true p q = refl
both true true false p q = refl
both true false x p q = cc
both false b x p q = cc

-- the last edge leads on to another lock
pub returns-then-not-leads_on : goal.returns-then-not-leads_on
returns-then-not-leads_on c = λ f at.
    let table = c.args.self.now.table.now in
    let is = is_there table c.args.next c.index-self-next.result f c.requires.there at in
    sym (follow_by_table table c.args.path.now c.requires.within (is_before c.args.self.now.order.now) c.args.self.now.mode f c.index-self-last.result c.index-self-last.result c.requires.some
    ∙ and_left _ _ (ap (λ x. leads_to (get_or table (get_or c.args.path.now (length c.args.path.now - 1) 0) c.index-self-last.result).0 x) is ∙ sym c.if-not-leads_on.ensures))

-- the thread is less than that of the first edge
pub returns-then-lt : goal.returns-then-lt
returns-then-lt c = λ f at.
    let table = c.args.self.now.table.now in
    let is = is_there table c.args.next c.index-self-next.result f c.requires.there at in
    let lesser = ltb-true _ _ (sym (lesser_thread _ _) ∙ sym c.lt.ensures ∙ c.if-lt.true) in
    sym (follow_by_table table c.args.path.now c.requires.within (is_before c.args.self.now.order.now) c.args.self.now.mode f c.index-self-first.result c.index-self-first.result c.requires.some
    ∙ and_right _ _ (and_right _ _ (ap (λ x. leb (get_or table (get_or c.args.path.now 0 0) c.index-self-first.result).0.thread x.thread) is ∙ lt-leb _ _ lesser)))

-- the rest is whether each edge of the path goes with it
pub returns : goal.returns
returns c = λ f at.
    let table = c.args.self.now.table.now in
    let is = is_there table c.args.next c.index-self-next.result f c.requires.there at in
    let not_less = ltb-false _ _ (sym (lesser_thread _ _) ∙ sym c.lt.ensures ∙ c.if-lt.false) in
    let led_on = sym c.if-not-leads_on.ensures in
    rw is (c.goes_with_all.ensures ∙ sym (follow_by_table table c.args.path.now c.requires.within (is_before c.args.self.now.order.now) c.args.self.now.mode _ c.index-self-first.result c.index-self-last.result c.requires.some
    ∙ both _ _ _ led_on (le-leb _ _ not_less)))
