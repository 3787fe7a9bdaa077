-- What marks tell of guards.
use Rattle.std.specs.Prelude.{◌≡◌, ℕ, ◌%◌, List, All, Contains}
use Rattle.std.specs.Int.{bit_at}
use Rattle.std.specs.List.Sorted.{IsStrictlySortedBy}
use Rattle.gl_event.specs.declared.events.LockMode.TheVariants.{Exclusive}
use Rattle.gl_edges.specs.Guards.{guard_cmp}
use Rattle.gl_edges.specs.declared.guards.Guard.{Guard}
use Rattle.gl_edges.specs.declared.marks.Marks.{Marks}

-- the marks are those of these guards, as far as they tell
pub record AreMarksOf (marks : Marks) (guards : List Guard) : Type 0 where
  -- each lock has its place marked
  pub places : All (λ g. bit_at marks.places (g.lock % 64) ≡ 1) guards
  -- and each mark of a lock of the first ones is that of one that is held exclusively
  pub owned : (k : ℕ) → bit_at marks.owned k ≡ 1
      → Contains guards (record { lock = k; mode = Exclusive })

-- a set of guards, ascending, with its marks
pub record AreSetWith (marks : Marks) (guards : List Guard) : Type 0 where
  pub ascending : IsStrictlySortedBy guard_cmp guards
  pub marked : AreMarksOf marks guards
