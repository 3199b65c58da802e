-- Which fault an item of a session has, if any.
-- Source: hashicorp yamux, "Framing" and "Flow Control"; which fault comes is this project's profile.
use Rattle.std.specs.Prelude.{◌≡◌, ℕ, ◌&&◌, ◌+◌, not, nat_lt, if◌then◌else◌, List, [], ◌∷◌, Option, Some, None}
use Rattle.yamux_frames.specs.declared.header.Header.{Header}
use Rattle.yamux_frames.specs.Frames.Arrival.{Head, Garbled}
use Rattle.yamux_session.specs.declared.event.Role.{Role}
use Rattle.yamux_session.specs.declared.event.Fault.{Fault}
use Rattle.yamux_session.specs.declared.event.Fault.TheVariants.{BadFrame, WrongParity, DuplicateStream, WindowExceeded}
use Rattle.yamux_session.specs.declared.event.Fault.TheVariants.{WindowTooLarge}
use Rattle.yamux_session.specs.History.{Item, syn, is_data, is_update, is_of_stream, is_remote}
use Rattle.yamux_session.specs.History.Item.{Came}
use Rattle.yamux_session.specs.Openings.{is_live, head_belongs}
use Rattle.yamux_session.specs.Windows.{initial_window, credit, receiving_window}

-- the windows that a head meets: those of a new stream, or the stream's own
abbrev pub window_at : Role → List Item → Header → ℕ
window_at role past h = if syn h then initial_window else receiving_window role past h.stream

abbrev pub credit_at : Role → List Item → Header → ℕ
credit_at role past h = if syn h then initial_window else credit role past h.stream

-- a SYN for no stream of the other end, or for a live one
abbrev pub syn_fault : Role → List Item → Header → Option Fault
syn_fault role past h =
    if not (is_remote role h.stream) then Some WrongParity
    else if is_live role past h.stream then Some DuplicateStream else None

-- more data than the window, or more credit than there can be
abbrev pub window_fault : Role → List Item → Header → Option Fault
window_fault role past h =
    if is_data h.kind && nat_lt (window_at role past h) h.length then Some WindowExceeded
    else if is_update h.kind && nat_lt 4294967295 (credit_at role past h + h.length) then Some WindowTooLarge
    else None

abbrev pub or_else : {A : Type 0} → Option A → Option A → Option A
or_else (Some x) y = Some x
or_else None y = y

abbrev pub fault_at : Role → List Item → Item → Option Fault
fault_at role past (Came (Garbled bytes)) = Some BadFrame
fault_at role past (Came (Head h)) =
    or_else (if is_of_stream h && syn h then syn_fault role past h else None)
    (if head_belongs role past h h.stream then window_fault role past h else None)
fault_at role past x = None

-- no item of the list has a fault
abbrev pub HasNoFault : Role → List Item → Type 0
HasNoFault role [] = Unit {0}
HasNoFault role (x ∷ past) = (fault_at role past x ≡ None) × HasNoFault role past
