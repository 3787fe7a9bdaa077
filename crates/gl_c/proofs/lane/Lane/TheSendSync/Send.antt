use mir.Raw.{raw}
use base.Shift.{Keyless}
use denote.Memory.{lone}
use denote.RawPtr.{Ptr}
use denote.Struct.Struct.{exits_of}
use denote.Struct.Owning.{shape, fields, to}
use denote.Param.Send.{IsSend, AllSend, owning_send, struct_send, sendable}
use Rattle.std.proofs.Crossing as heap
use Rattle.std.specs.Global.{Global}
use Rattle.std.specs.Prelude.{Option, Some, None}
use Rattle.std_alloc.proofs.SendSync.{quiet, lies}
use Rattle.std_heap.proofs.Global.TheSendSync as handle
use Rattle.gl_c.specs.Handles.{handle_owns}
use Rattle.gl_c.specs.contracts.lane_state.LaneState as Content
use Rattle.gl_c.proofs.lane_state.LaneState.TheSendSync.{the_send as content}
use Rattle.gl_c.specs.contracts.lane.Lane.{the_row, the_type}

owned : (alloc : Global) (at : Ptr) (value : Option (Content.the_row).Denot) → Keyless (handle_owns Content.the_row alloc at value)
owned alloc at None = tt
owned alloc at (Some value) = (lies Content.the_row content at value, heap.frees.frees alloc (raw (lone (Content.the_row).mir)) at)

pub send : IsSend the_row
send =
    let all : AllSend (fields the_type) = (search sendable, (handle.the_field_send, tt)) in
    owning_send the_type all (λ h. owned h.alloc h.at h.value)
    (λ k. quiet (to the_type) (exits_of k (fields the_type)) ((struct_send (shape the_type) all).leaving k))
