-- The faults of a line in words.
use Rattle.std.specs.Prelude.{ℕ, List, ◌++◌, codes}
use Rattle.std.specs.Fmt.{decimal}
use Rattle.gl_std.specs.declared.faults.LinesFault.{LinesFault}
use Rattle.gl_std.specs.declared.faults.LinesFault.TheVariants.{Line as LinesLine, Read, Memory as LinesMemory}
use Rattle.gl_std.specs.declared.faults.ReadFault.{ReadFault}
use Rattle.gl_std.specs.declared.faults.ReadFault.TheVariants.{Line, Memory}
use Rattle.gl_std.specs.declared.faults.StdKind.{StdKind}
use Rattle.gl_std.specs.declared.faults.StdKind.TheVariants.{TooLong, NoBar, NoLocation, NoThread, BadOperand, OnItself, HeldFull, DepthFull, Upgrade, TooManyThreads, TooManyEvents, TooManyNames}

-- what is printed of a fault
abbrev pub text_of : StdKind → List ℕ
text_of TooLong = codes "line too long"
text_of NoBar = codes "no bar"
text_of NoLocation = codes "no location field"
text_of NoThread = codes "no thread"
text_of BadOperand = codes "bad operand"
text_of OnItself = codes "thread forks or joins itself"
text_of HeldFull = codes "too many locks held"
text_of DepthFull = codes "lock taken too often"
text_of Upgrade = codes "shared lock taken exclusively"
text_of TooManyThreads = codes "too many threads"
text_of TooManyEvents = codes "too many events"
text_of TooManyNames = codes "too many names"

-- what is printed of why a text gave no trace
abbrev pub fault_text_of : ReadFault → List ℕ
fault_text_of (Line line kind) = codes "line " ++ decimal line ++ codes ": " ++ text_of kind
fault_text_of Memory = codes "out of memory"

-- what is printed of why no further item comes
abbrev pub lines_text_of : LinesFault → List ℕ
lines_text_of (LinesLine line kind) = codes "line " ++ decimal line ++ codes ": " ++ text_of kind
lines_text_of Read = codes "the text could not be read whole"
lines_text_of LinesMemory = codes "out of memory"

-- why no further item comes, where a text would give no trace for that reason
abbrev pub lines_fault : ReadFault → LinesFault
lines_fault (Line line kind) = LinesLine line kind
lines_fault Memory = LinesMemory
