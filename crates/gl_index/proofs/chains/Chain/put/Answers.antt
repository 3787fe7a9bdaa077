use Rattle.std.proofs.Common.{eqb, ap, set, sym, refl, ◌∙◌}
use Rattle.gl_index.specs.Indexes.{first_in_chain}
use Rattle.gl_index.specs.Sides.{lock_towards}
use Rattle.gl_index.proofs.Listed.{tells_lock, listed_passed, listed_more}
use Rattle.gl_index.proofs.chains.Chain.put.Goals as goal

-- nothing leads to it
pub returns-then-not-is_kept : goal.returns-then-not-is_kept
returns-then-not-is_kept c = λ edges kept side e had at is flag.
    let s = c.args.self.now in
    listed_passed (lock_towards side) edges kept c.args.i e at (first_in_chain s) _ s.next.items _ had (ap (set s.next.items c.args.i) (c.get.ensures ∙ ap (first_in_chain s) (sym is))) (λ k. refl) (flag.0 c.if-not-is_kept.true)

-- it is the first that has its lock
pub returns : goal.returns
returns c = λ edges kept side e had at is flag.
    let s = c.args.self.now in
    listed_more (lock_towards side) edges kept c.args.i e at (first_in_chain s) _ s.next.items _ had (ap (set s.next.items c.args.i) (c.in_ok-self.ensures.old ∙ ap (first_in_chain s) (sym is))) eqb tells_lock
    (λ k. rw is (c.in_ok-self.ensures.put k)) (λ out. absurd (let e = flag.1 out in let f = c.if-not-is_kept.false in cc))
