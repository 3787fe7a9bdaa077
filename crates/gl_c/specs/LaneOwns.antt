-- What the handle of one thread's lane owns.
use base.Fml.{Fml}
use denote.RawPtr.{Ptr}
use Rattle.std.specs.Prelude.{Option}
use Rattle.std.specs.Global.{Global}
use Rattle.gl_c.specs.Handles.{handle_owns}
use Rattle.gl_c.specs.contracts.lane_state.LaneState.{the_row}

abbrev pub lane_owns : Global → Ptr → Option the_row.Denot → Fml
lane_owns = handle_owns the_row
