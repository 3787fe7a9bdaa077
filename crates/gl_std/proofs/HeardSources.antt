-- What was heard of a source.
use Rattle.std.proofs.Common.{◌≡◌, ℕ, Bool, List, Result, Ok, Err}
use Rattle.std.specs.Prelude.{IfOk}
use Rattle.gl_event.specs.Bounds.{Bounds}
use Rattle.gl_event.specs.declared.events.Event.{Event}
use Rattle.gl_io.specs.Positions.{Position}
use Rattle.gl_std.specs.Heard.{HasHeard}
use Rattle.gl_std.specs.bodies.Hearing.{Hears, HearsOn, IsReading}
use Rattle.gl_std.specs.bodies.Stepping.{HasStepped}
use Rattle.gl_std.specs.Pieces.{judged}
use Rattle.gl_std.specs.Trace.{trace_of, IsTraceOver}
use Rattle.gl_std.specs.declared.faults.LinesFault.{LinesFault}
use Rattle.gl_std.specs.declared.faults.ReadFault.{ReadFault}
use Rattle.gl_std.specs.declared.from_source.Heard.{Heard}
use Rattle.gl_std.specs.declared.line_reader.LineReader.{LineReader}
use Rattle.gl_std.specs.declared.line_reader.Step.{Step}
use Rattle.gl_std.specs.declared.trace.Trace.{Trace}
use Rattle.gl_std.proofs.WithinLimits.{trace_of_over}

-- what was heard of this text
pub heard_of : {F : Type 0} (limits : Bounds) (turns : ℕ) (start now later : Position) (failed failed2 : Bool) (f : LineReader) (lists : List (List Event)) (text : List ℕ) (told : Trace) (step : Result Step LinesFault) (r : Result Heard F) → IfOk r (Hears now failed f lists step later failed2) → HasStepped limits turns start now failed f text told step → lists ≡ told.lists → IfOk r (HasHeard limits turns start later failed2)
heard_of limits turns start now later failed failed2 f lists text told step (Ok h) hears stepped same = hears limits turns start text told stepped same
heard_of limits turns start now later failed failed2 f lists text told step (Err e) hears stepped same = hears

over_of : (limits : Bounds) (text : List ℕ) (r : Result Trace ReadFault) → trace_of limits text ≡ r → IfOk r (IsTraceOver limits)
over_of limits text (Ok t) is = trace_of_over limits text t is
over_of limits text (Err e) is = tt

-- a trace that was heard obeys the limits
pub heard_over : {F : Type 0} (limits : Bounds) (turns : ℕ) (old new : Position) (failed : Bool) (r : Result Heard F) → IfOk r (HasHeard limits turns old new failed) → IfOk r (λ h. IfOk h.trace (IsTraceOver limits))
heard_over limits turns old new failed (Err e) heard = heard
heard_over limits turns old new failed (Ok h) heard = over_of limits (judged h.is_whole heard.text) h.trace heard.trace

-- what is heard where reading goes on, of each text
pub heard_on : {F : Type 0} (now later : Position) (failed : Bool) (f : LineReader) (lists : List (List Event)) (r : Result Heard F) → ((limits : Bounds) (turns : ℕ) (start : Position) → IsReading limits turns start now f lists → IfOk r (HasHeard limits turns start later failed)) → IfOk r (HearsOn now f lists later failed)
heard_on now later failed f lists (Err e) each = tt
heard_on now later failed f lists (Ok h) each = λ limits turns start was. each limits turns start was

-- and of one of them
pub heard_so : {F : Type 0} (limits : Bounds) (turns : ℕ) (start now later : Position) (failed : Bool) (f : LineReader) (lists : List (List Event)) (r : Result Heard F) → IfOk r (HearsOn now f lists later failed) → IsReading limits turns start now f lists → IfOk r (HasHeard limits turns start later failed)
heard_so limits turns start now later failed f lists (Err e) hears was = tt
heard_so limits turns start now later failed f lists (Ok h) hears was = hears limits turns start was
