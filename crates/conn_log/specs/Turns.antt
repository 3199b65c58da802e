-- Whose turn it is in a connection's list: between two frames entries are about one stream.
-- Source: hashicorp yamux, "Framing"; what a connection tells is this project's profile.
use Rattle.std.specs.Prelude.{◌≡◌, ℕ, List, [], ◌∷◌, Option, Some, None}
use Rattle.yamux_frames.specs.Frames.{last_stream}
use Rattle.yamux_session.specs.History.{Act, arrivals}
use Rattle.yamux_session.specs.History.Item.{Came, Did}
use Rattle.yamux_session.specs.History.Act.{Start, Write, Taken, Close, Reset}
use Rattle.conn_log.specs.declared.event.ConnEvent.{ConnEvent}
use Rattle.conn_log.specs.declared.event.ConnEvent.TheVariants as event
use Rattle.conn_log.specs.Entries.{Entry, items}
use Rattle.conn_log.specs.Entries.Entry.{Of, Says, Made, Asks, Calls}

-- the stream whose turn it is: that of the newest frame, or that which this end opened since
abbrev pub turn : {H : Type 0} → List (Entry H) → Option ℕ
turn [] = None
turn (Of (Came x) ∷ log) = Some (last_stream (x ∷ arrivals (items log)))
turn (Of (Did act) ∷ log) = turn log
turn (Says e ∷ log) = turn log
turn (Made n handler ∷ log) = turn log
turn (Asks n index ∷ log) = Some n
turn (Calls n call ∷ log) = turn log

-- the stream that this end acted on
abbrev pub acted_on : Act → Option ℕ
acted_on (Start n) = Some n
acted_on (Write n pieces) = Some n
acted_on (Taken n count) = Some n
acted_on (Close n) = Some n
acted_on (Reset n) = Some n
acted_on (Act.GoAway code) = None

-- the stream of which something is told
abbrev pub told_about : {H : Type 0} → ConnEvent H → Option ℕ
told_about (event.Agreed n index) = Some n
told_about (event.Refused n) = Some n
told_about (event.Done n handler) = Some n
told_about (event.Broken n cause) = Some n
told_about (event.Upgraded key) = None
told_about (event.Fault fault) = None
told_about event.Shut = None

-- the stream that an entry is about; what came, and a stream that is opened, give the turn
abbrev pub about : {H : Type 0} → Entry H → Option ℕ
about (Of (Came x)) = None
about (Of (Did act)) = acted_on act
about (Says e) = told_about e
about (Made n handler) = Some n
about (Asks n index) = None
about (Calls n call) = Some n

-- it is that stream's turn, where there is one
abbrev pub IsTurnOf : Option ℕ → Option ℕ → Type 0
IsTurnOf now None = Unit {0}
IsTurnOf now (Some n) = now ≡ Some n

-- each entry is about no stream, or about the one whose turn it is
abbrev pub AreInTurn : {H : Type 0} → List (Entry H) → Type 0
AreInTurn [] = Unit {0}
AreInTurn (entry ∷ log) = IsTurnOf (turn log) (about entry) × AreInTurn log
