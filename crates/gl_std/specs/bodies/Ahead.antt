-- Reading ahead: pieces that were read and cut before they are judged.
use Rattle.std.specs.Prelude.{◌≡◌, ◌+◌, ◌*◌, ◌^◌, ◌<◌, ◌≤◌, ℕ, List, [], ◌++◌, All, Bool, true, false, Result, Err, IfSome, OnOk, length, vec_len}
use Rattle.std.specs.List.{flat_map}
use Rattle.gl_event.specs.Bounds.{Bounds}
use Rattle.gl_event.specs.declared.events.Event.{Event}
use Rattle.gl_io.specs.Positions.{Position}
use Rattle.gl_io.specs.Reads.{HasRead}
use Rattle.gl_io.specs.declared.source.TheConstants.{CHUNK}
use Rattle.gl_std.specs.Heard.{HasHeard}
use Rattle.gl_std.specs.LineReading.{HasGiven}
use Rattle.gl_std.specs.Pieces.{IsFaulty}
use Rattle.gl_std.specs.Names.{NameLists}
use Rattle.gl_std.specs.bodies.Blocks.{GoOn, IsBlockOf, IsRight}
use Rattle.gl_std.specs.bodies.States.{IsSound, Reaches}
use Rattle.gl_std.specs.bodies.Stepping.{CanRead, OnlyReads}
use Rattle.gl_std.specs.declared.block.TheConstants.{LONGEST}
use Rattle.gl_std.specs.declared.faults.ReadFault.{ReadFault}
use Rattle.gl_std.specs.declared.faults.ReadFault.TheVariants.{Line}
use Rattle.gl_std.specs.declared.faults.StdKind.{StdKind}
use Rattle.gl_std.specs.declared.from_source.Heard.{Heard}
use Rattle.gl_std.specs.declared.line_reader.LineReader.{LineReader}
use Rattle.gl_std.specs.declared.line_reader.TheConstants.{KEPT}
use Rattle.gl_std.specs.declared.line_reader.pieces.Ending.{Ending}
use Rattle.gl_std.specs.declared.line_reader.pieces.Ending.TheVariants.{More, End, Broke}
use Rattle.gl_std.specs.declared.line_reader.pieces.Piece.{Piece}
use Rattle.gl_std.specs.declared.trace.Trace.{Trace}

-- ---- pieces

-- what some reads gave together
abbrev pub bytes_of : Piece → List ℕ
bytes_of piece = piece.text

-- and what they gave together
abbrev pub text_of : List Piece → List ℕ
text_of pieces = flat_map bytes_of pieces

-- it is no longer than a block may be
abbrev pub IsShort : Piece → Type 0
IsShort piece = length (bytes_of piece) ≤ LONGEST

abbrev pub AreShort : List Piece → Type 0
AreShort pieces = All IsShort pieces

-- if it was cut, the block is what its lines say
abbrev pub IsCut : Piece → Type 0
IsCut piece = IfSome piece.block (IsBlockOf (bytes_of piece))

abbrev pub AreCut : List Piece → Type 0
AreCut pieces = All IsCut pieces

-- the numbers that its block knows of names are those among these
abbrev pub IsRightPiece : NameLists → Piece → Type 0
IsRightPiece names piece = IfSome piece.block (IsRight names)

abbrev pub AreRight : NameLists → List Piece → Type 0
AreRight names pieces = All (IsRightPiece names) pieces

-- pieces that are spare and others stay right, among whatever names
abbrev pub StayRight : List Piece → List Piece → List Piece → List Piece → Type 0
StayRight spare pieces spare_later pieces_later = (names : NameLists) → AreRight names spare
    → AreRight names pieces → (AreRight names spare_later) × (AreRight names pieces_later)

-- a piece was cut: it gives the same text, and what is known of names stays right
pub record HasCutPiece (old new : Piece) : Type 0 where
  pub cut : IsCut new
  pub short : IsShort new
  pub same : bytes_of new ≡ bytes_of old
  pub right : (names : NameLists) → IsRightPiece names old → IsRightPiece names new

-- pieces were cut: they give the same text, and what is known of names stays right
pub record HasCut (old new : List Piece) : Type 0 where
  pub cut : AreCut new
  pub short : AreShort new
  pub same : text_of new ≡ text_of old
  pub right : (names : NameLists) → AreRight names old → AreRight names new

-- ---- reads

-- what the reads gave together with whatever text was read before them
abbrev pub GivesOn : Position → LineReader → Position → Bool → LineReader → List ℕ → Ending → Type 0
GivesOn now old later failed new gave More = (failed ≡ false)
    × ((turns : ℕ) (start : Position) (text : List ℕ) → HasGiven turns start now old.turns text
    → HasGiven turns start later new.turns (text ++ gave))
GivesOn now old later failed new gave End = (turns : ℕ) (start : Position) (text : List ℕ)
    → HasGiven turns start now old.turns text → HasRead turns start later failed (text ++ gave) true
GivesOn now old later failed new gave Broke = (turns : ℕ) (start : Position) (text : List ℕ)
    → HasGiven turns start now old.turns text
    → HasRead turns start later failed (text ++ gave) false

-- so many reads may still be made
abbrev pub turns_left : LineReader → Ending → ℕ
turns_left f More = f.turns
turns_left f End = f.turns
turns_left f Broke = 0

-- what the reads gave was added to this text
pub record HasReadOn (now : Position) (old : LineReader) (before : List ℕ) (later : Position)
    (failed : Bool) (new : LineReader) (after : List ℕ) (ending : Ending) : Type 0 where
  pub gave : List ℕ
  pub text : after ≡ before ++ gave
  pub gives : GivesOn now old later failed new gave ending
  pub within : length gave + turns_left new ending * CHUNK ≤ old.turns * CHUNK

-- of the reads that may be made one fewer is left
pub record HasTakenTurn (old new : LineReader) : Type 0 where
  pub room : vec_len old.buffer ≡ CHUNK
  pub left : 0 < old.turns
  pub turn : new.turns + 1 ≡ old.turns

-- it was added to what is short, as this says, and nothing was judged; where there may be more, fewer reads are left
pub record HasReadAhead (now : Position) (old : LineReader) (before : List ℕ) (later : Position)
    (failed : Bool) (new : LineReader) (after : List ℕ) (are_short : Type 0) (ending : Ending)
    : Type 0 where
  pub reads : HasReadOn now old before later failed new after ending
  pub only : OnlyReads old new
  pub short : are_short
  pub fewer : ending ≡ More → new.turns < old.turns

-- what the reads gave was added to a piece
abbrev pub HasFilledPiece : Position → LineReader → Piece → Position → Bool → LineReader → Piece
    → Ending → Type 0
HasFilledPiece now old before later failed new after ending =
    HasReadAhead now old (bytes_of before) later failed new (bytes_of after) (IsShort after) ending

-- what the reads gave are pieces, which were added to these
abbrev pub HasAddedPieces : Position → LineReader → List Piece → Position → Bool → LineReader
    → List Piece → Ending → Type 0
HasAddedPieces now old before later failed new after ending =
    HasReadAhead now old (text_of before) later failed new (text_of after) (AreShort after) ending

-- the next pieces were read
pub record HasReadPieces (now : Position) (old : LineReader) (later : Position) (failed : Bool)
    (new : LineReader) (pieces : List Piece) (ending : Ending) : Type 0 where
  pub reads : HasReadOn now old [] later failed new (text_of pieces) ending
  pub same_size : vec_len new.buffer ≡ vec_len old.buffer
  pub short : AreShort pieces
  pub fewer : ending ≡ More → new.turns < old.turns

-- pieces can be read for so many threads to cut: none is there yet
pub record CanReadPieces (cutters : ℕ) (f : LineReader) (failed : Bool) (pieces : List Piece)
    : Type 0 where
  pub threads : 0 < cutters
  pub can : CanRead f failed
  pub none : pieces ≡ []

-- ---- what is judged

-- the reader and the lists stand for the trace of this text
pub record HasTakenPiece (new : LineReader) (seen : List ℕ) (lists : List (List Event))
    : Type 0 where
  pub later : Trace
  pub reaches : Reaches new.judge new.unfinished.items seen later
  pub listed : lists ≡ later.lists

-- whatever text and trace they stood for before
abbrev pub TakesPiece : LineReader → List (List Event) → List ℕ → LineReader → List (List Event)
    → Type 0
TakesPiece old lists piece new lists_later = (seen : List ℕ) (told : Trace)
    → Reaches old.judge old.unfinished.items seen told → lists ≡ told.lists
    → HasTakenPiece new (seen ++ piece) lists_later

-- a fault that is answered is the first one of each such text
abbrev pub FailsPiece : LineReader → List (List Event) → List ℕ → Result (Unit {0}) ReadFault
    → Type 0
FailsPiece old lists piece result =
    (number : ℕ) (kind : StdKind) → result ≡ Err (Line number kind) → (seen : List ℕ) (told : Trace)
    → Reaches old.judge old.unfinished.items seen told → lists ≡ told.lists
    → IsFaulty old.judge.limits (seen ++ piece) number kind

-- no line was counted twice, there are no more lines than bytes, and names keep their numbers
pub record OnlyJudges (old new : LineReader) (bytes : ℕ) : Type 0 where
  pub sound : IsSound new.judge
  pub few : length new.unfinished.items ≤ KEPT
  pub same_limits : new.judge.limits ≡ old.judge.limits
  pub lines : new.judge.line ≤ old.judge.line + bytes
  pub grows : GoOn old.judge.names new.judge.names

-- what comes next of a text was judged, or a line of it is at fault
pub record JudgesText (old : LineReader) (lists : List (List Event)) (text : List ℕ)
    (new : LineReader) (lists_later : List (List Event)) (result : Result (Unit {0}) ReadFault)
    : Type 0 where
  pub tells : OnOk result (TakesPiece old lists text new lists_later)
  pub fault : FailsPiece old lists text result
  pub only : OnOk result (OnlyJudges old new (length text))

-- so many bytes that come next can be judged: nothing is counted beyond what numbers hold
pub record CanJudgeText (f : LineReader) (bytes : ℕ) : Type 0 where
  pub sound : IsSound f.judge
  pub few : length f.unfinished.items ≤ KEPT
  pub countable : f.judge.line + bytes + 1 < 2 ^ 64

-- ---- what is heard

-- the reads gave this text, after which there may be more, or the source has ended, or a read failed or no turn is left
abbrev pub HasReadTo : Ending → ℕ → Position → Position → Bool → ℕ → List ℕ → Type 0
HasReadTo More turns start now failed left text = HasGiven turns start now left text
HasReadTo End turns start now failed left text = HasRead turns start now failed text true
HasReadTo Broke turns start now failed left text = HasRead turns start now failed text false

-- this was heard where a line of a text is at fault that was read whole, or not
abbrev pub HearsFaulty : ℕ → StdKind → Bool → Heard → Type 0
HearsFaulty number kind whole heard =
    (limits : Bounds) (turns : ℕ) (start now : Position) (failed : Bool) (text : List ℕ)
    → HasRead turns start now failed text whole → IsFaulty limits text number kind
    → HasHeard limits turns start now failed heard

-- this was heard where a line of the text is at fault that was read by then
abbrev pub HearsFault : Ending → Position → Bool → ℕ → ℕ → StdKind → Position → Bool → Heard
    → Type 0
HearsFault ending now failed left number kind later failed_later heard =
    (limits : Bounds) (turns : ℕ) (start : Position) (text : List ℕ)
    → HasReadTo ending turns start now failed left text → IsFaulty limits text number kind
    → HasHeard limits turns start later failed_later heard

-- this was heard of a text that was read to its end, or not, where these pieces of it weren't judged
abbrev pub HearsPieces : LineReader → List (List Event) → List ℕ → Bool → Heard → Type 0
HearsPieces f lists pieces whole heard =
    (limits : Bounds) (turns : ℕ) (start now : Position) (failed : Bool) (seen : List ℕ)
    (told : Trace) → HasRead turns start now failed (seen ++ pieces) whole → f.judge.limits ≡ limits
    → Reaches f.judge f.unfinished.items seen told → lists ≡ told.lists
    → HasHeard limits turns start now failed heard

-- reading goes on: the one reader has read this text but for pieces that are ahead, and the other one has judged it
pub record ReadsAhead (limits : Bounds) (turns : ℕ) (start now : Position) (f j : LineReader)
    (lists : List (List Event)) (pieces : List ℕ) : Type 0 where
  pub seen : List ℕ
  pub told : Trace
  pub given : HasGiven turns start now f.turns (seen ++ pieces)
  pub same : j.judge.limits ≡ limits
  pub reaches : Reaches j.judge j.unfinished.items seen told
  pub listed : lists ≡ told.lists

-- pieces can be judged: they are cut, and nothing is counted beyond what numbers hold
pub record CanJudge (f : LineReader) (pieces : List Piece) : Type 0 where
  pub sound : IsSound f.judge
  pub few : length f.unfinished.items ≤ KEPT
  pub countable : f.judge.line + length (text_of pieces) + 1 < 2 ^ 64
  pub short : AreShort pieces
  pub cut : AreCut pieces

-- others can be cut, and judged behind this text
pub record CanCutAndJudge (f : LineReader) (front : List ℕ) (pieces : List Piece) : Type 0 where
  pub countable : f.judge.line + length (front ++ text_of pieces) + 1 < 2 ^ 64
  pub short : AreShort pieces
  pub right : AreRight f.judge.names pieces

-- and reading can go on: nothing will be
pub record CanReadAhead (f j : LineReader) (pieces : List ℕ) : Type 0 where
  pub sound : IsSound j.judge
  pub few : length j.unfinished.items ≤ KEPT
  pub room : vec_len f.buffer ≡ CHUNK
  pub countable : j.judge.line + length pieces + f.turns * CHUNK + 1 < 2 ^ 64

-- ---- one reader in place of two

-- the one goes on from what the other has judged, and nothing is left of its latest read
pub record HasGoneOn (f j new : LineReader) : Type 0 where
  pub judge : new.judge ≡ j.judge
  pub beginning : new.unfinished.items ≡ j.unfinished.items
  pub same_turns : new.turns ≡ f.turns
  pub same_size : vec_len new.buffer ≡ vec_len f.buffer
  pub begin : new.start ≡ 0
  pub end : new.end ≡ 0

-- this was heard of the source, where these pieces of it weren't judged and no more was read
abbrev pub HearsRest : Position → LineReader → LineReader → List (List Event) → List ℕ → Position
    → Bool → Heard → Type 0
HearsRest now f j lists pieces later failed heard = (limits : Bounds) (turns : ℕ) (start : Position)
    → ReadsAhead limits turns start now f j lists pieces
    → HasHeard limits turns start later failed heard

-- ---- rounds of reading ahead

-- reading goes on, and did so where the pair of readers began, wherever the text began
abbrev pub IsStillAhead : Position → LineReader → LineReader → List (List Event) → List ℕ → Position
    → LineReader → LineReader → List (List Event) → List ℕ → Type 0
IsStillAhead now f j lists pieces later f_later j_later lists_later pieces_later =
    (limits : Bounds) (turns : ℕ) (start : Position)
    → ReadsAhead limits turns start now f j lists pieces
    → ReadsAhead limits turns start later f_later j_later lists_later pieces_later

-- this was heard of the source, which was read to this ending, where these pieces of it weren't judged
abbrev pub HearsEnding : Ending → Position → Bool → LineReader → LineReader → List (List Event)
    → List ℕ → Position → Bool → Heard → Type 0
HearsEnding ending now failed f j lists pieces later failed_later heard =
    (limits : Bounds) (turns : ℕ) (start : Position) (seen : List ℕ) (told : Trace)
    → HasReadTo ending turns start now failed f.turns (seen ++ pieces) → j.judge.limits ≡ limits
    → Reaches j.judge j.unfinished.items seen told → lists ≡ told.lists
    → HasHeard limits turns start later failed_later heard
