-- What the handle of a report that was made owns.
use base.Fml.{Fml}
use denote.RawPtr.{Ptr}
use Rattle.std.specs.Prelude.{Option}
use Rattle.std.specs.Global.{Global}
use Rattle.gl_c.specs.Handles.{handle_owns}
use Rattle.gl_c.specs.contracts.made_state.MadeState.{the_row}

abbrev pub made_owns : Global → Ptr → Option the_row.Denot → Fml
made_owns = handle_owns the_row
