-- An edge is in no cycle, where those that use its locks all have its own thread.
use Rattle.std.proofs.Common.{◌≡◌, ℕ, ◌≤◌, Bool, true, false, List, length, Some, sym, ap, subst, ◌∙◌, arith}
use Rattle.std.proofs.lemmas.Bool.{false≢true}
use Rattle.std.proofs.lemmas.List.{length-map}
use Rattle.std.proofs.lemmas.Option.{slice_get-get_or, slice_get_within, same_Some}
use Rattle.gl_edges.specs.declared.edge.Edge.{Edge}
use Rattle.gl_filters.specs.Picked.{edges_of_table}
use Rattle.gl_segments.specs.Clocks.{is_before}
use Rattle.gl_index.specs.Users.{MayUse, AreUsers}
use Rattle.gl_index.specs.declared.sides.Side.{Side}
use Rattle.gl_index.specs.declared.sides.Side.TheVariants.{Follower, Leader}
use Rattle.gl_index.specs.declared.users.Users.{Users}
use Rattle.gl_loops.specs.bodies.Users.{KnowsCycles}
use Rattle.gl_sought.specs.OffCycles.{IsOffCycles}
use Rattle.gl_sought.specs.Sought.{KeepsSought}
use Rattle.gl_sought.specs.declared.sought.Sought.{Sought}
use Rattle.gl_sought.proofs.Apart.{follower, leader}
use Rattle.gl_sought.proofs.Back.{kept_at}

-- users of the kept edges are users of the edges of cycles
pub knows_cycles : (s : Sought) (side : Side) (kept : List Bool) (n : ℕ) (users : Users) → KeepsSought s kept → length s.table.now ≤ n → AreUsers side (edges_of_table s.table.now) kept n users → KnowsCycles s side users
knows_cycles s side kept n users keeps whole are = λ cycle j e among is at.
    let edges = edges_of_table s.table.now in
    let (i, there, flag) = kept_at (is_before s.order.now) s.mode s.len edges kept keeps cycle among is j e at in
    are i e (omega (arith, slice_get_within edges i e there, length-map s.table.now (λ pair. pair.0), whole)) there (λ out. false≢true (same_Some false true (sym out ∙ flag)))

module _ (s : Sought) (users : Users) (e : Edge) where
  -- an edge is in no cycle, if none of another thread holds the lock that it wants
  pub off_unfollowed : KnowsCycles s Leader users → ((t : ℕ) → MayUse users e.wanted t → t ≡ e.thread) → IsOffCycles (is_before s.order.now) s.mode s.len (edges_of_table s.table.now) e
  off_unfollowed knows only = λ cycle among is in_it.
      let (k, below, same) = in_it in
      let (j, f, there, shared, apart) = follower (is_before s.order.now) s.mode s.len cycle is k e (slice_get-get_or cycle k e below ∙ ap Some same) in
      apart (sym (only f.thread (subst (λ l. MayUse users l f.thread) (sym shared) (knows cycle j f among is there))))

  -- nor if none of another thread wants the lock that it holds
  pub off_unled : KnowsCycles s Follower users → ((t : ℕ) → MayUse users e.held t → t ≡ e.thread) → IsOffCycles (is_before s.order.now) s.mode s.len (edges_of_table s.table.now) e
  off_unled knows only = λ cycle among is in_it.
      let (k, below, same) = in_it in
      let (j, f, there, shared, apart) = leader (is_before s.order.now) s.mode s.len cycle is k e (slice_get-get_or cycle k e below ∙ ap Some same) in
      apart (only f.thread (subst (λ l. MayUse users l f.thread) shared (knows cycle j f among is there)))
