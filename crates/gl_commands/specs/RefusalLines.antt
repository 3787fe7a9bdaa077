-- The lines for standard error that say why a text is refused.
use Rattle.std.specs.Prelude.{ℕ, List, ◌++◌, codes, decimal}
use Rattle.gl_event.specs.declared.events.Segment.{Segment}
use Rattle.gl_std.specs.Faults.{text_of}
use Rattle.gl_std.specs.Names.{NameLists}
use Rattle.gl_std.specs.declared.faults.StdKind.{StdKind}
use Rattle.gl_report.specs.Text.{name_of}

-- a fault in the line with this number
abbrev pub fault_line : ℕ → StdKind → List ℕ
fault_line line kind =
    codes "goodlock: line " ++ decimal line ++ codes ": " ++ text_of kind ++ codes "\n"

-- a segment that is before itself: the thread's name, a dot and the index
abbrev pub inconsistent_line : NameLists → Segment → List ℕ
inconsistent_line names at =
    codes "goodlock: inconsistent: " ++ name_of names.threads at.thread ++ codes "."
    ++ decimal at.index ++ codes " precedes itself\n"
