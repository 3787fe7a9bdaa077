-- What is said of how a command ended: what goes to standard error, and the exit status.
use Rattle.std.specs.Prelude.{ℕ, List, [], codes}
use Rattle.gl_commands.specs.declared.ended.Ended.{Ended}
use Rattle.gl_commands.specs.declared.ended.Ended.TheVariants.{Clean, Cycles, Done, Refused, Memory, ReadFailed, WriteFailed, Unconfirmed}

-- the line for standard error
abbrev pub line_of : Ended → List ℕ
line_of Clean = []
line_of Cycles = []
line_of Done = []
line_of (Refused line) = line.items
line_of Memory = codes "goodlock: out of memory\n"
line_of ReadFailed = codes "goodlock: read failed\n"
line_of (WriteFailed written) = codes "goodlock: write failed\n"
line_of Unconfirmed = codes "goodlock: session not confirmed\n"

-- the exit status
abbrev pub status_of : Ended → ℕ
status_of Clean = 0
status_of Cycles = 1
status_of Done = 0
status_of (Refused line) = 2
status_of Memory = 3
status_of ReadFailed = 4
status_of (WriteFailed written) = 4
status_of Unconfirmed = 4
