-- A collector that isn't settled is handed back as it was.
use Rattle.std.proofs.Common.{◌≡◌, List}
use Rattle.gl_engine.specs.Collecting.{Collecting}
use Rattle.gl_engine.specs.Recording.{Closed}
use Rattle.gl_engine.specs.Settling.{IsUnsettledFault}
use Rattle.gl_engine.specs.declared.faults.UnsettledFault.{UnsettledFault}
use Rattle.gl_engine.specs.declared.faults.UnsettledFault.TheVariants as unsettled
use Rattle.gl_c.specs.Settling.{collector_of}

pub back : (c : Collecting) (receipts : List Closed) (fault : UnsettledFault) → IsUnsettledFault c receipts fault → collector_of fault ≡ c
back c receipts (unsettled.Strange at collector) is = is.0
back c receipts (unsettled.Missing thread collector) is = is.0
back c receipts (unsettled.Unended thread collector) is = is.0
