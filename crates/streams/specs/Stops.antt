-- Why a stream goes on no more (this project's profile).
use Rattle.std.specs.Prelude.{◌≡◌, ℕ}
use Rattle.ms_select.specs.declared.fault.SelectFault.{SelectFault}
use Rattle.ms_select.specs.declared.fault.SelectFault.TheVariants as select_faults
use Rattle.handlers.specs.Calls.{Asked}
use Rattle.handlers.specs.declared.handler.HandlerFault.{HandlerFault}
use Rattle.streams.specs.declared.stop.Cause.TheVariants.{Select, Handler}
use Rattle.streams.specs.declared.stop.Stop.{Stop}
use Rattle.streams.specs.declared.stop.Stop.TheVariants.{Broken, OutOfMemory}

-- want of memory in the talk is that of the stream
abbrev pub of_select : SelectFault → Stop
of_select select_faults.OutOfMemory = OutOfMemory
of_select select_faults.Failed = Broken (Select select_faults.Failed)
of_select select_faults.BadLength = Broken (Select select_faults.BadLength)
of_select select_faults.NoNewline = Broken (Select select_faults.NoNewline)
of_select select_faults.BadHeader = Broken (Select select_faults.BadHeader)
of_select select_faults.NotProposed = Broken (Select select_faults.NotProposed)

-- the answer to a call out of turn
abbrev pub not_now : Stop
not_now = Broken (Select select_faults.Failed)

-- the handler has this fault, when it is asked for this
abbrev pub FailsBy : {H : Type 0} → (H → Asked → ℕ → Type 0) → H → Asked → Stop → Type 0
FailsBy fails handler asked stop =
    (fault : HandlerFault) × (stop ≡ Broken (Handler fault)) × fails handler asked fault.number
