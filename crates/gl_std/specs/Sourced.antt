-- The lines of a source.
use Rattle.gl_std.specs.Streaming.{Stream}
use Rattle.gl_std.specs.declared.stream.Lines.{Lines}

-- where the bytes come from
abbrev pub source_of : {R : Type 0} → Lines R → R
source_of l = l.input

-- the items that the lines tell
abbrev pub items_of : {R : Type 0} → Lines R → Stream
items_of l = l.items
