-- What a search of paths relies on.
use Rattle.std.specs.Prelude.{◌≡◌, ℕ, ◌<◌, ◌≤◌, ◌-◌, false, List, [], ◌∷◌, ◌++◌, length, take, Result, IfErr, IfSome, OnOk, None}
use Rattle.gl_segments.specs.Clocks.{is_before}
use Rattle.gl_filters.specs.Picked.{edges_of_table}
use Rattle.gl_filters.specs.declared.steps.Stop.{Stop}
use Rattle.gl_filters.specs.declared.steps.Stop.TheVariants.{Memory}
use Rattle.gl_cycles.specs.bodies.Blocks.{block, blocks_below}
use Rattle.gl_index.specs.Indexes.{IsIndexOf}
use Rattle.gl_pruning.specs.Limits.{IsLimit, AreLimits}
use Rattle.gl_sought.specs.OffCycles.{KeepsCycles}
use Rattle.gl_sought.specs.declared.sought.Sought.{Sought}
use Rattle.gl_cycles.specs.declared.paths.Searcher.{Searcher}
use Rattle.gl_filters.specs.declared.lengths.TheConstants.{LONGEST}

-- no cycle that is sought and has the edge at a position has more edges than this
abbrev pub HasLimit : Sought → ℕ → ℕ → Type 0
HasLimit sought =
    IsLimit (is_before sought.order.now) sought.mode sought.len (edges_of_table sought.table.now)

-- so it is of these, for each edge
abbrev pub HasLimits : Sought → List ℕ → Type 0
HasLimits sought =
    AreLimits (is_before sought.order.now) sought.mode sought.len (edges_of_table sought.table.now)

-- what a search looks for
abbrev pub sought_by : Searcher → Sought
sought_by s = record { table = s.table; order = s.order; mode = s.mode; len = s.len }

-- the search can begin
pub record IsReady (s : Searcher) : Type 0 where
  -- a path has room for the edges of a cycle
  pub fits : s.len ≤ LONGEST
  -- what is left out is in no cycle that is looked for
  pub kept : KeepsCycles (is_before s.order.now) s.mode s.len
      (edges_of_table s.table.now) s.kept.items
  -- and the index leads through the rest
  pub indexed : IsIndexOf (edges_of_table s.table.now) s.kept.items s.index
  -- and where limits are known, no cycle is longer than those of its edges
  pub limits : IfSome s.limits (λ limits. HasLimits (sought_by s) limits.items)

-- the search for cycles of so many edges at most, of which no other limits are known
abbrev pub limited : Searcher → ℕ → Searcher
limited s limit = record s { len = limit; limits = None }

-- the search can begin, and goes on to its end, as many steps as that takes
pub record CanFinish (s : Searcher) : Type 0 where
  pub some : 0 < s.len
  pub ready : IsReady s
  pub unbound : s.is_bound ≡ false

-- the cycles that begin with a front
abbrev pub all_from : Searcher → List ℕ → List (List ℕ)
all_from s front =
    block (is_before s.order.now) s.mode (edges_of_table s.table.now) (s.len - length front) front

-- the cycles that begin with the edge at a position, up to the cap
abbrev pub first_from : Searcher → ℕ → List (List ℕ)
first_from s root = take s.cap (all_from s (root ∷ []))

-- the cycles that begin with a front were added to those before, up to the cap; or why the search stopped: only for want of memory, where it
-- isn't bound to its steps
pub record HasGrown (s : Searcher) (front : List ℕ) (before after : List (List ℕ))
    (grown : Result (Unit {0}) Stop) : Type 0 where
  pub added : OnOk grown (after ≡ take s.cap (before ++ all_from s front))
  pub stopped : IfErr grown (λ stop. s.is_bound ≡ false → stop ≡ Memory)

-- these are the cycles that begin with edges before a root, up to the cap
pub record HasFound (sought : Sought) (cap root : ℕ) (found : List (List ℕ)) : Type 0 where
  pub within : root ≤ length sought.table.now
  pub first : found ≡ take cap
      (blocks_below (is_before sought.order.now) sought.mode (edges_of_table sought.table.now)
      (sought.len - 1) [] root)
