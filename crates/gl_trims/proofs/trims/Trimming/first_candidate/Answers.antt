use Rattle.std.proofs.Common.{◌≡◌, ℕ, [], get_or, sym, subst, ◌∙◌}
use Rattle.std.proofs.lemmas.List.{length-map}
use Rattle.std.proofs.lemmas.Option.{same_Some}
use Rattle.gl_segments.specs.Clocks.{is_before}
use Rattle.gl_filters.specs.Picked.{edges_of_table}
use Rattle.gl_index.specs.Listed.{IsNextWith}
use Rattle.gl_index.specs.Sides.{opposite, lock_towards}
use Rattle.gl_index.specs.Users.{MayUse, AreUsers}
use Rattle.gl_index.proofs.Tables.{edge_at}
use Rattle.gl_trims.proofs.Beside.{start_first, none_of_other}
use Rattle.gl_trims.proofs.trims.Trimming.first_candidate.Goals as goal

-- all that have the lock are of its own thread
pub returns-then-has_only-clause-start : goal.returns-then-has_only-clause-start
returns-then-has_only-clause-start c = λ gone.
    let s = c.args.self.now in
    let edges = edges_of_table s.table.now in
    let users = c.args.hints.now.users in
    let pair = get_or s.table.now c.args.i c.index-self-i.result in
    let at = edge_at s.table.now c.args.i c.index-self-i.result c.requires.here in
    none_of_other (is_before s.order.now) s.mode edges gone c.args.side users c.args.i pair.0
    (subst (λ n. AreUsers (opposite c.args.side) edges [] n users) (sym (length-map s.table.now (λ pair. pair.0))) c.requires.users) at
    (subst (λ l. (t : ℕ) → MayUse users l t → t ≡ pair.0.thread) c.lock_of-lock.ensures (c.has_only.ensures.0 c.if-has_only.true))

-- the first that has it
pub returns-clause-start : goal.returns-clause-start
returns-clause-start c = λ gone.
    let s = c.args.self.now in
    let edges = edges_of_table s.table.now in
    let pair = get_or s.table.now c.args.i c.index-self-i.result in
    let at = edge_at s.table.now c.args.i c.index-self-i.result c.requires.here in
    start_first (is_before s.order.now) s.mode edges gone c.args.side c.args.i pair.0 c.begin.result at
    (subst (λ k. IsNextWith (lock_towards (opposite c.args.side)) edges _ k 0 c.begin.result) c.lock_of-lock.ensures (c.begin.ensures edges _ (opposite c.args.side) c.requires.chain))

-- the lock is another thread's too
pub returns-clause-own : goal.returns-clause-own
returns-clause-own c = λ e there only.
    let s = c.args.self.now in
    let users = c.args.hints.now.users in
    let pair = get_or s.table.now c.args.i c.index-self-i.result in
    let at = edge_at s.table.now c.args.i c.index-self-i.result c.requires.here in
    let is_e : pair.0 ≡ e = same_Some pair.0 e (sym at ∙ there) in
    let own = subst (λ x. (t : ℕ) → MayUse users (lock_towards c.args.side x) t → t ≡ x.thread) (sym is_e) only in
    let has = c.has_only.ensures.1 (subst (λ l. (t : ℕ) → MayUse users l t → t ≡ pair.0.thread) (sym c.lock_of-lock.ensures) own) in
    let not = c.if-has_only.false in
    absurd (cc)
