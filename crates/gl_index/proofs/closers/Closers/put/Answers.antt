use Rattle.std.proofs.Common.{cond, Some, ap, set, sym, refl, ◌∙◌}
use Rattle.gl_index.specs.Indexes.{both_locks, first_of_locks, same_locks}
use Rattle.gl_index.proofs.Listed.{tells_locks, listed_passed, listed_more}
use Rattle.gl_index.proofs.closers.Closers.put.Goals as goal

-- nothing leads to it
pub returns-then-not-is_kept : goal.returns-then-not-is_kept
returns-then-not-is_kept c = λ edges kept e had at is flag.
    let s = c.args.self.now in
    listed_passed both_locks edges kept c.args.i e at (first_of_locks s) _ s.next.items _ had (ap (set s.next.items c.args.i) (c.copied.ensures ∙ c.get.ensures.value ∙ ap (first_of_locks s) (sym is))) (λ k. refl) (flag ∙ ap Some c.if-not-is_kept.true)

-- it is the first that has its locks
pub returns : goal.returns
returns c = λ edges kept e had at is flag.
    let s = c.args.self.now in
    listed_more both_locks edges kept c.args.i e at (first_of_locks s) _ s.next.items _ had (ap (set s.next.items c.args.i) (c.in_ok-self.ensures.old ∙ ap (first_of_locks s) (sym is))) same_locks tells_locks
    (λ k. c.in_ok-self.ensures.updates.0 k ∙ ap (λ locks. cond (same_locks locks k) (Some c.args.i) (first_of_locks s k)) (sym is)) (λ out. absurd (let e = sym flag ∙ out in let f = c.if-not-is_kept.false in cc))
