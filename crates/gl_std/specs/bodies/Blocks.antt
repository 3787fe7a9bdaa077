-- Blocks: what the lines of a piece say, by numbers of its own for names.
use Rattle.std.specs.Prelude.{◌≡◌, ℕ, ◌+◌, ◌*◌, ◌<◌, ◌≤◌, List, [], ◌∷◌, All, Option, Some, Result, Ok, Err, length, map, position, slice_get, slice_index_or, vec_len, if◌then◌else◌}
use Rattle.std.specs.Option.{option_map_or}
use Rattle.std.specs.Str.{bytes_eq}
use Rattle.gl_event.specs.Bounds.{Bounds}
use Rattle.gl_event.specs.declared.events.Event.{Event}
use Rattle.gl_std.specs.Laws.{IsFront}
use Rattle.gl_std.specs.Line.{Operation, Shape, cut_at, is_on_thread, shape_of}
use Rattle.gl_std.specs.Line.Shape.{Blank, Bad, Other, Call}
use Rattle.gl_std.specs.Lines.{LF, lines, ended_lines}
use Rattle.gl_std.specs.Names.{NameLists}
use Rattle.gl_std.specs.Trace.{after_shape, and_then, operands}
use Rattle.gl_std.specs.bodies.Judgements.{AreApart, CanJudgeLine}
use Rattle.gl_std.specs.bodies.Shown.{shown_operation}
use Rattle.gl_std.specs.bodies.States.{HasJudged}
use Rattle.gl_std.specs.declared.block.Block.{Block}
use Rattle.gl_std.specs.declared.block.TheConstants.{MOST_NAMES}
use Rattle.gl_std.specs.declared.faults.ReadFault.{ReadFault}
use Rattle.gl_std.specs.declared.faults.ReadFault.TheVariants.{Line}
use Rattle.gl_std.specs.declared.faults.StdKind.{StdKind}
use Rattle.gl_std.specs.declared.judge.Judge.{Judge}
use Rattle.gl_std.specs.declared.names.known.Known.{Known}
use Rattle.gl_std.specs.declared.numbered_line.NumberedLine.{NumberedLine}
use Rattle.gl_std.specs.declared.numbered_line.NumberedLine.TheVariants.{Blank as NumberedBlank, Bad as NumberedBad, Other as NumberedOther, Call as NumberedCall}
use Rattle.gl_std.specs.declared.trace.Trace.{Trace}

-- ---- what a block says

-- the name with this number
abbrev pub named : List (List ℕ) → ℕ → List ℕ
named names number = slice_index_or names number []

-- what a line says, where its names have these numbers
abbrev pub shape_in : NameLists → NumberedLine → Shape
shape_in names NumberedBlank = Blank
shape_in names (NumberedBad kind) = Bad kind
shape_in names NumberedOther = Other
shape_in names (NumberedCall operation thread operand location) =
    Call (shown_operation operation) (named names.threads thread)
    (named (operands (shown_operation operation) names) operand) (named names.locs location)

-- what the lines of a block say
abbrev pub shapes_of : Block → List Shape
shapes_of block = map (shape_in block.names) block.lines.items

-- each number in it has a name
abbrev pub IsNumbered : NameLists → NumberedLine → Type 0
IsNumbered names NumberedBlank = Unit {0}
IsNumbered names (NumberedBad kind) = Unit {0}
IsNumbered names NumberedOther = Unit {0}
IsNumbered names (NumberedCall operation thread operand location) =
    (thread < length names.threads)
    × (operand < length (operands (shown_operation operation) names))
    × (location < length names.locs)

abbrev pub AreNumbered : Block → Type 0
AreNumbered block = All (IsNumbered block.names) block.lines.items

-- what stands between the first LF of a piece and its last one: the lines that it has whole
abbrev pub between : List ℕ → List ℕ
between piece = option_map_or (λ parts. ended_lines parts.1) (cut_at LF piece) []

-- the block is what these lines of the piece say
pub record IsBlockOf (piece : List ℕ) (block : Block) : Type 0 where
  pub numbered : AreNumbered block
  pub says : shapes_of block ≡ map shape_of (lines (between piece))
  pub count : vec_len block.lines ≡ length (lines (between piece))

-- ---- names of a block

-- names are added at the end, so that those that were there keep their numbers
pub record GoOn (old new : NameLists) : Type 0 where
  pub threads : IsFront old.threads new.threads
  pub locks : IsFront old.locks new.locks
  pub locs : IsFront old.locs new.locs

-- no more of them than a line has
pub record AddsFew (old new : NameLists) : Type 0 where
  pub threads : length new.threads ≤ length old.threads + 2
  pub locks : length new.locks ≤ length old.locks + 1
  pub locs : length new.locs ≤ length old.locs + 1

-- there are few names
pub record HasFewNames (block : Block) : Type 0 where
  pub threads : length block.names.threads ≤ MOST_NAMES
  pub locks : length block.names.locks ≤ MOST_NAMES
  pub locs : length block.names.locs ≤ MOST_NAMES

-- there are few names beside those that its lines have
pub record AreFew (block : Block) : Type 0 where
  pub threads : length block.names.threads ≤ MOST_NAMES + 2 * vec_len block.lines
  pub locks : length block.names.locks ≤ MOST_NAMES + vec_len block.lines
  pub locs : length block.names.locs ≤ MOST_NAMES + vec_len block.lines

-- ---- and their numbers in the text

-- where a number is known of a name of the block, it is that of the name among these
abbrev pub AreKnown : List (List ℕ) → List (List ℕ) → List (Option ℕ) → Type 0
AreKnown block names known = (number found : ℕ) → slice_get known number ≡ Some (Some found)
    → position (bytes_eq (named block number)) names ≡ Some found

-- the same of names of each kind, where those that were added last may have no place yet
pub record IsKnownSoFar (block names : NameLists) (known : Known) : Type 0 where
  pub threads : AreKnown block.threads names.threads known.threads.items
  pub locks : AreKnown block.locks names.locks known.locks.items
  pub locs : AreKnown block.locs names.locs known.locs.items
  pub some_threads : length known.threads.items ≤ length block.threads
  pub some_locks : length known.locks.items ≤ length block.locks
  pub some_locs : length known.locs.items ≤ length block.locs

-- and where each has its place
pub record IsKnownOf (block names : NameLists) (known : Known) : Type 0 where
  pub so_far : IsKnownSoFar block names known
  pub all_threads : vec_len known.threads ≡ length block.threads
  pub all_locks : vec_len known.locks ≡ length block.locks
  pub all_locs : vec_len known.locs ≡ length block.locs

-- the numbers in the text of a block's locks or threads, as the operation says
abbrev pub known_operands : Operation → Known → List (Option ℕ)
known_operands operation known =
    if is_on_thread operation then known.threads.items else known.locks.items

-- the numbers that a block knows of its names are those among these
abbrev pub IsRight : NameLists → Block → Type 0
IsRight names block = IsKnownSoFar block.names names block.known

-- ---- a block that is judged

-- the trace after lines that say this, of which the first has this number
abbrev pub after_shapes : Bounds → ℕ → Trace → List Shape → Result Trace ReadFault
after_shapes limits number told [] = Ok told
after_shapes limits number told (shape ∷ rest) = and_then (after_shape limits number told shape)
    (λ more. after_shapes limits (number + 1) more rest)

-- the judge and the lists stand for the trace after lines that say this
pub record HasTakenShapes (limits : Bounds) (number : ℕ) (told : Trace) (shapes : List Shape)
    (new : Judge) (lists : List (List Event)) : Type 0 where
  pub later : Trace
  pub after : after_shapes limits number told shapes ≡ Ok later
  pub judged : HasJudged new later
  pub listed : lists ≡ later.lists

-- whatever trace they stood for before
abbrev pub TakesShapes : Judge → List (List Event) → List Shape → Judge → List (List Event) → Type 0
TakesShapes old lists shapes new lists_later = (told : Trace) → HasJudged old told
    → lists ≡ told.lists → HasTakenShapes old.limits old.line told shapes new lists_later

-- a fault that is answered is what comes after each of them
abbrev pub FailsShapes : Judge → List (List Event) → List Shape → Result (Unit {0}) ReadFault
    → Type 0
FailsShapes old lists shapes result =
    (number : ℕ) (kind : StdKind) → result ≡ Err (Line number kind) → (told : Trace)
    → HasJudged old told → lists ≡ told.lists
    → after_shapes old.limits old.line told shapes ≡ Err (Line number kind)

-- a line of a block can be judged after those before it, where these numbers of the block's names are known
pub record CanJudgeNumbered (j : Judge) (names : NameLists) (numbers : Known) (line : NumberedLine)
    : Type 0 where
  pub can : CanJudgeLine j
  pub numbered : IsNumbered names line
  pub apart : AreApart (shape_in names line)
  pub known : IsKnownOf names j.names numbers
