-- What the head of a frame does to the table of live streams.
-- Inside: no public clause cites it.
use Rattle.std.specs.Prelude.{◌≡◌, true, ◌+◌, ◌-◌, ◌&&◌, not, nat_lt, if◌then◌else◌, List, ◌∷◌, ◌++◌, Option, Some}
use Rattle.std.specs.Prelude.{None}
use Rattle.yamux_frames.specs.declared.header.Header.{Header}
use Rattle.yamux_frames.specs.Frames.Arrival.{Head}
use Rattle.yamux_session.specs.declared.event.Role.{Role}
use Rattle.yamux_session.specs.declared.event.Fault.{Fault}
use Rattle.yamux_session.specs.declared.event.Fault.TheVariants.{WindowExceeded, WindowTooLarge}
use Rattle.yamux_session.specs.declared.heads.Effect.{Effect}
use Rattle.yamux_session.specs.declared.heads.HeadRefused.{HeadRefused}
use Rattle.yamux_session.specs.declared.heads.HeadRefused.TheVariants as refused
use Rattle.yamux_session.specs.declared.streams.Row.{Row}
use Rattle.yamux_session.specs.History.{Item, ack, is_data, is_update, is_go_away, is_own}
use Rattle.yamux_session.specs.History.Item.{Came}
use Rattle.yamux_session.specs.Openings.{opens, head_belongs}
use Rattle.yamux_session.specs.Windows.{accepted}
use Rattle.yamux_session.specs.Faults.{fault_at}
use Rattle.yamux_session.specs.Events.{Told, when, TellsMore}
use Rattle.yamux_session.specs.Table.{Table}
use Rattle.yamux_session.specs.Keeps.{Keeps}

-- the windows after a head that belongs to their stream
abbrev pub charged : Row → Header → Row
charged s h = record s {
  credit = s.credit + (if is_update h.kind then h.length else 0);
  window = s.window - (if is_data h.kind then h.length else 0);
}

-- more data than the window, or more credit than there can be
abbrev pub row_fault : Row → Header → Option Fault
row_fault s h =
    if is_data h.kind && nat_lt s.window h.length then Some WindowExceeded
    else if is_update h.kind && nat_lt 4294967295 (s.credit + h.length) then Some WindowTooLarge
    else None

-- what a head does that has no fault
pub record HeadDone (role : Role) (past : List Item) (h : Header) (effect : Effect) (new : Table) : Type 0 where
  pub no_fault : fault_at role past (Came (Head h)) ≡ None
  pub keeps : Keeps role (Came (Head h) ∷ past) new
  pub opened : effect.opened ≡ opens role past (Came (Head h)) h.stream
  pub accepted : effect.accepted ≡ (head_belongs role past h h.stream && ack h && is_own role h.stream
      && not (accepted role past h.stream))
  pub credited : effect.credited ≡ (head_belongs role past h h.stream && is_update h.kind && nat_lt 0 h.length)

-- why a head isn't taken; memory may be wanting only where it has no fault, and opens a stream
abbrev pub IsHeadRefused : Role → List Item → Header → HeadRefused → Type 0
IsHeadRefused role past h (refused.Fault fault) = fault_at role past (Came (Head h)) ≡ Some fault
IsHeadRefused role past h refused.OutOfMemory =
    (fault_at role past (Came (Head h)) ≡ None) × (opens role past (Came (Head h)) h.stream ≡ true)

-- why the list doesn't become the list now: the head has this fault; or it has none, there is an event to tell, and
-- memory is wanting
abbrev pub IsNotTaken : Role → List Item → Header → List Item → HeadRefused → Type 0
IsNotTaken role past h now (refused.Fault fault) = fault_at role past (Came (Head h)) ≡ Some fault
IsNotTaken role past h now refused.OutOfMemory = (fault_at role past (Came (Head h)) ≡ None)
    × TellsMore role past now

-- what the effect of a head tells
abbrev pub told_of : Header → Effect → List Told
told_of h effect =
    when (is_go_away h.kind) (Told.GoAway h.length)
    ++ when effect.opened (Told.Opened h.stream)
    ++ when effect.accepted (Told.Accepted h.stream)
    ++ when effect.credited (Told.Credit h.stream)
