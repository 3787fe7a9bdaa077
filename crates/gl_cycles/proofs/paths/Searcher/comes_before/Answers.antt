use Rattle.std.proofs.Common.{leb, get_or, sym, ap, ◌∙◌}
use Rattle.std.proofs.lemmas.Bool.{and_right, ltb-true, lt-leb}
use Rattle.gl_segments.specs.Clocks.{is_before}
use Rattle.gl_cycles.proofs.EdgesOfPaths.{follow_by_table, is_there, lesser_thread}
use Rattle.gl_cycles.proofs.paths.Searcher.comes_before.Goals as goal

pub returns : goal.returns
returns c = λ told f at.
    let table = c.args.self.now.table.now in
    let is = is_there table c.args.next c.index-self-next.result f c.requires.there at in
    let lesser = ltb-true _ _ (sym (lesser_thread _ _) ∙ sym c.lt.ensures ∙ told) in
    follow_by_table table c.args.path.now c.requires.within (is_before c.args.self.now.order.now) c.args.self.now.mode f c.index-self-first.result c.index-self-first.result c.requires.some
    ∙ and_right _ _ (and_right _ _ (ap (λ x. leb (get_or table (get_or c.args.path.now 0 0) c.index-self-first.result).0.thread x.thread) is ∙ lt-leb _ _ lesser))
