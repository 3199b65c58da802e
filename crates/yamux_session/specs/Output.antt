-- The frames that each item of a session sends.
-- Source: hashicorp yamux, "Framing", "Flag Field" and "Flow Control".
use Rattle.std.specs.Prelude.{ℕ, ◌<◌, Bool, not, nat_lt, if◌then◌else◌, List, [], ◌∷◌, ◌++◌, length, Option, Some, None}
use Rattle.std.specs.List.{flat_map}
use Rattle.yamux_frames.specs.declared.header.Header.{Header}
use Rattle.yamux_frames.specs.declared.header.FrameKind.{FrameKind}
use Rattle.yamux_frames.specs.declared.header.FrameKind.TheVariants.{Payload, Window, Ping, GoAway}
use Rattle.yamux_frames.specs.Spelling.{header_bytes}
use Rattle.yamux_frames.specs.Frames.Arrival.{Head}
use Rattle.yamux_session.specs.declared.event.Role.{Role}
use Rattle.yamux_session.specs.declared.event.Fault.{Fault}
use Rattle.yamux_session.specs.History.{Item, Act, syn_flag, ack_flag, fin_flag, rst_flag, syn, is_ping, is_of_stream}
use Rattle.yamux_session.specs.History.Item.{Came, Did}
use Rattle.yamux_session.specs.History.Act.{Start, Write, Taken, Close, Reset}
use Rattle.yamux_session.specs.Openings.{opens}
use Rattle.yamux_session.specs.Windows.{given_back}
use Rattle.yamux_session.specs.Faults.{fault_at}

abbrev pub frame : FrameKind → ℕ → ℕ → ℕ → List ℕ
frame kind flags stream len = header_bytes (record { kind = kind; flags = flags; stream = stream; length = len })

abbrev pub data_frame : ℕ → List ℕ → List ℕ
data_frame n piece = frame Payload 0 n (length piece) ++ piece

-- the answer to a head that has no fault: a Ping is answered, a stream that was opened is accepted, another SYN refused
abbrev pub answer_to : Header → Bool → List ℕ
answer_to h opened =
    if not (syn h) then []
    else if is_ping h.kind then frame Ping ack_flag 0 h.length
    else if not (is_of_stream h) then []
    else frame Window (if opened then ack_flag else rst_flag) h.stream 0

abbrev pub item_output : Role → List Item → Item → List ℕ
item_output role past (Came (Head h)) = answer_to h (opens role past (Came (Head h)) h.stream)
item_output role past (Did (Start n)) = frame Window syn_flag n 0
item_output role past (Did (Write n pieces)) = flat_map (data_frame n) pieces
item_output role past (Did (Taken n count)) =
    let amount = given_back role n past (Did (Taken n count)) in
    if nat_lt 0 amount then frame Window 0 n amount else []
item_output role past (Did (Close n)) = frame Window fin_flag n 0
item_output role past (Did (Reset n)) = frame Window rst_flag n 0
item_output role past (Did (Act.GoAway code)) = frame GoAway 0 0 code
item_output role past x = []

-- the code of a GoAway that says: this end goes away since the other broke the protocol
abbrev pub protocol_error : ℕ
protocol_error = 1

-- after a fault the output ends with GoAway, protocol error
abbrev pub output_unless : Option Fault → List ℕ → List ℕ
output_unless (Some fault) bytes = frame GoAway 0 0 protocol_error
output_unless None bytes = bytes

abbrev pub output_at : Role → List Item → Item → List ℕ
output_at role past x = output_unless (fault_at role past x) (item_output role past x)

abbrev pub output : Role → List Item → List ℕ
output role [] = []
output role (x ∷ past) = output role past ++ output_at role past x

-- the second list has more output than the first
abbrev pub SendsMore : Role → List Item → List Item → Type 0
SendsMore role past now = length (output role past) < length (output role now)
