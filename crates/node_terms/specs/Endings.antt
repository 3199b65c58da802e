-- What the end of a connection or of a stream means for the run of a node.
-- Source: this project's profile. The number of a fault is that of its handler.
use Rattle.std.specs.Prelude.{◌≡◌, ◌≢◌, ℕ}
use Rattle.ping_h.specs.Faults as pings
use Rattle.ping_h.specs.declared.fault.PingFault.{PingFault}
use Rattle.ping_h.specs.declared.fault.PingFault.TheVariants as ping
use Rattle.identify_h.specs.Faults as identifies
use Rattle.identify_h.specs.declared.fault.IdentifyFault.{IdentifyFault}
use Rattle.identify_h.specs.declared.fault.IdentifyFault.TheVariants as identify
use Rattle.streams.specs.declared.stop.Cause.TheVariants as cause
use Rattle.reports.specs.declared.report.ConnEnd.{ConnEnd}
use Rattle.reports.specs.declared.report.ConnEnd.TheVariants as conn
use Rattle.reports.specs.declared.report.StreamEnd.{StreamEnd}
use Rattle.reports.specs.declared.report.StreamEnd.TheVariants as stream
use Rattle.node_terms.specs.declared.ending.PeerEnding.{PeerEnding}
use Rattle.node_terms.specs.declared.ending.PeerEnding.TheVariants.{NoConnection, Refused, Fault, Shut, Untaken}
use Rattle.node_terms.specs.declared.ending.PeerEnding.TheVariants.{NotSpoken, Select, Ping, Identify, Reset, Failed}

-- a connection that ended before all was done
abbrev pub ending_of_conn : ConnEnd → PeerEnding
ending_of_conn conn.NoConnection = NoConnection
ending_of_conn (conn.Refused refusal) = Refused refusal
ending_of_conn (conn.Fault fault) = Fault fault
ending_of_conn conn.Shut = Shut
ending_of_conn conn.Closed = Shut
ending_of_conn conn.Untaken = Untaken

-- a stream that did nothing of what it was for, whatever its handler
abbrev pub ending_of_stream : StreamEnd → PeerEnding
ending_of_stream stream.Refused = NotSpoken
ending_of_stream (stream.Broken (cause.Select fault)) = Select fault
ending_of_stream (stream.Broken cause.Reset) = Reset
ending_of_stream (stream.Broken cause.Ended) = Reset
ending_of_stream end = Failed

-- The fault of this number. A number that no fault has counts as that of `Failed`.
pub record IsPingFault (number : ℕ) (fault : PingFault) : Type 0 where
  pub named : (other : PingFault) → number ≡ pings.number_of other → fault ≡ other
  pub unnamed : ((other : PingFault) → number ≢ pings.number_of other) → fault ≡ ping.Failed

pub record IsIdentifyFault (number : ℕ) (fault : IdentifyFault) : Type 0 where
  pub named : (other : IdentifyFault) → number ≡ identifies.number_of other → fault ≡ other
  pub unnamed : ((other : IdentifyFault) → number ≢ identifies.number_of other) → fault ≡ identify.Failed

-- A fault of the handler is told as a ping's, or as identify's.
abbrev pub EndsPing : StreamEnd → PeerEnding → Type 0
EndsPing (stream.Broken (cause.Handler failed)) ending =
    (fault : PingFault) × IsPingFault failed.number fault × (ending ≡ Ping fault)
EndsPing end ending = ending ≡ ending_of_stream end

abbrev pub EndsIdentify : StreamEnd → PeerEnding → Type 0
EndsIdentify (stream.Broken (cause.Handler failed)) ending =
    (fault : IdentifyFault) × IsIdentifyFault failed.number fault × (ending ≡ Identify fault)
EndsIdentify end ending = ending ≡ ending_of_stream end
