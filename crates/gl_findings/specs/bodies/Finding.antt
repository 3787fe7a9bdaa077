-- What a search of signatures is told, and what it finds.
use Rattle.std.specs.Prelude.{◌≡◌, ℕ, ◌<◌, ◌≤◌, ◌-◌, false, List, [], ◌∷◌, ◌++◌, length, take, get_or, All}
use Rattle.gl_segments.specs.Clocks.{is_before}
use Rattle.gl_filters.specs.Picked.{edges_of_table}
use Rattle.gl_index.specs.Indexes.{AreChainedKept, AreClosers}
use Rattle.gl_index.specs.declared.sides.Side.TheVariants.{Leader}
use Rattle.gl_sought.specs.OffCycles.{KeepsCycles}
use Rattle.gl_filters.specs.declared.lengths.TheConstants.{LONGEST}
use Rattle.gl_walks.specs.declared.walker.Walker.{Walker}
use Rattle.gl_grounds.specs.Classes.{classes_of}
use Rattle.gl_grounds.specs.Models.{AreModels, IsNextClass}
use Rattle.gl_grounds.specs.Running.{AreRunners}
use Rattle.gl_grounds.specs.Passing.{ArePassages}
use Rattle.gl_grounds.specs.Spanning.{AreReached, HaveSpans}
use Rattle.gl_findings.specs.bodies.Lengths.{AreLongest}
use Rattle.gl_findings.specs.bodies.Growing.{finding, block, blocks_below}
use Rattle.gl_findings.specs.declared.finder.Finder.{Finder}
use Rattle.gl_findings.specs.declared.parallel.ByClass.{ByClass}
use Rattle.gl_grounds.specs.declared.spans.Spans.{Spans}

-- the walker looks over the search's edges
pub record WalksOver (s : Finder) (walker : Walker) : Type 0 where
  pub same_table : walker.ground.table.now ≡ s.table.now
  pub same_order : walker.ground.order.now ≡ s.order.now
  pub same_mode : walker.ground.mode ≡ s.mode
  pub same_classes : walker.ground.classes.now ≡ classes_of s.table.now

-- the search can begin
pub record IsReady (s : Finder) : Type 0 where
  -- a signature has room for the classes of a cycle
  pub some : 0 < s.len
  pub fits : s.len ≤ LONGEST
  -- the one walker looks at edges that are kept, and the other one at their models
  pub over_kept : WalksOver s s.among_kept
  pub over_models : WalksOver s s.among_models
  pub kept : KeepsCycles (is_before s.order.now) s.mode s.len
      (edges_of_table s.table.now) s.among_kept.ground.flags.now
  pub models : AreModels (edges_of_table s.table.now)
      (classes_of s.table.now) s.among_kept.ground.flags.now s.among_models.ground.flags.now
  -- and the classes that have a model follow one another
  pub next : IsNextClass (length s.table.now)
      (classes_of s.table.now) s.among_models.ground.flags.now s.next.now
  -- and each has the thread that runs it, where one alone does
  pub run : AreRunners (edges_of_table s.table.now)
      (classes_of s.table.now) s.among_kept.ground.flags.now s.runners.now
  -- and which classes lead on to which
  pub pass : ArePassages (edges_of_table s.table.now)
      (classes_of s.table.now) s.among_models.ground.flags.now s.passages.now
  -- and which model holds a lock, or holds one and wants another
  pub told : s.classes.now ≡ classes_of s.table.now
  pub held_by : AreChainedKept Leader (edges_of_table s.table.now)
      s.among_models.ground.flags.now 0 s.holders.now
  pub closed_by : AreClosers (edges_of_table s.table.now)
      s.among_models.ground.flags.now 0 s.closers.now
  -- and how long a cycle is at most, by the class of one of its edges
  pub longest : AreLongest (is_before s.order.now) s.mode s.len (edges_of_table s.table.now)
      (classes_of s.table.now) s.longest.now
  -- and the spans of single models
  pub begin : AreReached s.mode (edges_of_table s.table.now)
      (classes_of s.table.now) s.among_models.ground.flags.now s.len [] s.begins.now

-- nothing ends before it is through
abbrev pub IsUnbound : Finder → Type 0
IsUnbound s =
    (s.is_bound ≡ false) × (s.among_kept.is_bound ≡ false)
    × (s.among_models.is_bound ≡ false)

-- these were added behind those before, up to the cap
abbrev pub AreAdded : Finder → (more before after : List (List ℕ)) → Type 0
AreAdded s more before after = after ≡ take s.cap (before ++ more)

-- the finding of a signature, where it has one
abbrev pub finding_of : Finder → List ℕ → List (List ℕ)
finding_of s signature = finding (is_before s.order.now) s.mode s.len s.table.now signature

-- the findings that begin with a front and have at most n more classes
abbrev pub block_of : Finder → ℕ → List ℕ → List (List ℕ)
block_of s n front = block (is_before s.order.now) s.mode s.len s.table.now n front

-- those that go on with a class below k, and at most n more
abbrev pub below_of : Finder → ℕ → List ℕ → ℕ → List (List ℕ)
below_of s n front k = blocks_below (is_before s.order.now) s.mode s.len s.table.now n front k

-- these are the spans of a front
abbrev pub HasSpans : Finder → List ℕ → Spans → Type 0
HasSpans s front spans =
    HaveSpans s.mode (edges_of_table s.table.now) (classes_of s.table.now)
    s.among_models.ground.flags.now s.len front spans

-- and those of fronts with one class more
abbrev pub AreReachedBy : Finder → List ℕ → Spans → Type 0
AreReachedBy s front reached =
    AreReached s.mode (edges_of_table s.table.now) (classes_of s.table.now)
    s.among_models.ground.flags.now s.len front reached

-- all findings whose signature begins with the class at a place among these
abbrev pub all_of_root : Finder → List ℕ → ℕ → List (List ℕ)
all_of_root s roots i = block_of s (s.len - 1) (get_or roots i 0 ∷ [])

-- the search can begin, and goes on to its end from each of its classes
pub record CanFinish (s : ByClass) : Type 0 where
  pub ready : IsReady s.finder.now
  pub unbound : IsUnbound s.finder.now
  pub there : All (λ class. class < length s.finder.now.table.now) s.roots.now
