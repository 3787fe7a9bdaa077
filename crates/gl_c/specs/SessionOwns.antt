-- What the handle of a session owns.
use base.Fml.{Fml}
use denote.RawPtr.{Ptr}
use Rattle.std.specs.Prelude.{Option}
use Rattle.std.specs.Global.{Global}
use Rattle.gl_c.specs.Handles.{handle_owns}
use Rattle.gl_c.specs.contracts.session_state.SessionState.{the_row}

abbrev pub session_owns : Global → Ptr → Option the_row.Denot → Fml
session_owns = handle_owns the_row
