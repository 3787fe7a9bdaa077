use Rattle.std.proofs.Common.{◌≡◌, ◌+◌, ◌-◌, ◌≤◌, ◌⊎◌, ℕ, [], ◌++◌, map, replicate, vec_len}
use Rattle.gl_std.proofs.lists.grow.Given as goal

abbrev pub invariant-loop-alloc : goal.invariant-loop-alloc
invariant-loop-alloc l =
    record {
      more : ℕ;
      grown : map (λ es. es.items) l.lists.items ≡ map (λ es. es.items) l.fn.lists.items ++ replicate more [];
      few : (more ≡ 0) ⊎ (vec_len l.fn.lists + more ≤ l.threads);
    }

abbrev pub decreases-loop-alloc : goal.decreases-loop-alloc
decreases-loop-alloc l = l.threads - vec_len l.lists
