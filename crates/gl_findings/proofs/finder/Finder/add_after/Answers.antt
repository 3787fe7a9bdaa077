use Rattle.std.proofs.Common.{Bool, sym, subst}
use Rattle.gl_filters.specs.Picked.{edges_of_table}
use Rattle.gl_grounds.specs.Classes.{classes_of}
use Rattle.gl_grounds.specs.Spanning.{GoesOn}
use Rattle.gl_findings.proofs.finder.Finder.add_after.Goals as goal

pub returns-then-is_last-clause-added : goal.returns-then-is_last-clause-added
returns-then-is_last-clause-added c =
    let s = c.args.self.now in
    subst (λ (b : Bool). GoesOn s.mode (edges_of_table s.table.now) (classes_of s.table.now) s.among_models.ground.flags.now b c.args.span.now c.add_closers.new.reached) (sym c.if-is_last.true) c.in_ok-add_closers.ensures.added

pub returns-clause-added : goal.returns-clause-added
returns-clause-added c =
    let s = c.args.self.now in
    subst (λ (b : Bool). GoesOn s.mode (edges_of_table s.table.now) (classes_of s.table.now) s.among_models.ground.flags.now b c.args.span.now c.add_followers.new.reached) (sym c.if-is_last.false) c.in_ok-add_followers.ensures.added
