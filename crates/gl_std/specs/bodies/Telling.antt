-- What a judged line tells.
use Rattle.std.specs.Prelude.{ℕ, ◌<◌}
use Rattle.gl_std.specs.Names.{NameLists}
use Rattle.gl_std.specs.Streaming.{with_item}
use Rattle.gl_std.specs.declared.judge.Judged.{Judged}
use Rattle.gl_std.specs.declared.judge.Judged.TheVariants.{Blank, Skipped, Stray, Event}
use Rattle.gl_std.specs.declared.stream.Item.{Item}
use Rattle.gl_std.specs.declared.stream.Item.TheVariants.{Event as EventItem, Skipped as SkippedItem, Stray as StrayItem, End}
use Rattle.gl_std.specs.declared.trace.Trace.{Trace}

-- an event is of one of so many threads
abbrev pub IsKnown : Judged → ℕ → Type 0
IsKnown Blank threads = Unit {0}
IsKnown Skipped threads = Unit {0}
IsKnown Stray threads = Unit {0}
IsKnown (Event thread event) threads = thread < threads

-- the line as an item; a blank one tells no more than the end does
abbrev pub item_in : Judged → Item
item_in Blank = End
item_in Skipped = SkippedItem
item_in Stray = StrayItem
item_in (Event thread event) = EventItem thread event

-- the trace with what a line is judged to be, after which the names are these
abbrev pub with_judged : Judged → NameLists → Trace → Trace
with_judged judged names told = with_item (item_in judged) names told
