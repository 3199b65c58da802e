-- Two sessions, one of each role, joined by pipes that deliver what was sent, under any schedule.
-- Source: hashicorp yamux, over pipes that deliver what was sent; the promises are this project's.
use Rattle.std.specs.Prelude.{◌≡◌, ℕ, ◌<◌, ◌==◌, ◌&&◌, true, false, ◌+◌, if◌then◌else◌, List, [], ◌∷◌, ◌++◌, map}
use Rattle.std.specs.Prelude.{sum_by}
use Rattle.std.specs.List.{AllByRecursion}
use mathlib.Core.List.{IsPrefix}
use Rattle.yamux_frames.specs.declared.header.FrameKind.TheVariants.{Payload}
use Rattle.yamux_frames.specs.Frames.{Arrival, Reads}
use Rattle.yamux_frames.specs.Frames.Arrival.{Head, Byte, Tail}
use Rattle.yamux_session.specs.declared.event.Role.{Role}
use Rattle.yamux_session.specs.declared.event.Role.TheVariants.{Client, Server}
use Rattle.yamux_session.specs.History.{Item, Act, arrivals, is_data, is_update}
use Rattle.yamux_session.specs.History.Item.{Came, Did}
use Rattle.yamux_session.specs.Openings.{is_live, finished}
use Rattle.yamux_session.specs.Windows.{give_back_from, credit, receiving_window, untaken}
use Rattle.yamux_session.specs.Faults.{HasNoFault}
use Rattle.yamux_session.specs.Events.{Told, events}
use Rattle.yamux_session.specs.Data.{inbound, written}
use Rattle.yamux_session.specs.Output.{output}
use Rattle.yamux_session.specs.Acts.{IsAnswered, AreAnswered}

-- an end: its list, and the bytes that it was fed
pub record End : Type 0 where
  pub items : List Item
  pub fed : List ℕ

-- a byte is fed: what was fed is a prefix of what the other end has sent, and the list has its frames
pub record IsFed (role : Role) (other : Role) (old new from : End) (byte : ℕ) : Type 0 where
  pub fed : new.fed ≡ old.fed ++ byte ∷ []
  pub sent : IsPrefix new.fed (output other from.items)
  pub came : (came : List Arrival) × (new.items ≡ map Came came ++ old.items)
  pub read : (rest : List ℕ) × Reads new.fed (arrivals new.items) rest

-- the owner of an end makes a call there, which isn't refused
pub record IsDone (role : Role) (old new : End) (act : Act) : Type 0 where
  pub answered : IsAnswered role old.items act
  pub items : new.items ≡ Did act ∷ old.items
  pub fed : new.fed ≡ old.fed

abbrev pub at_first : End
at_first = record { items = []; fed = [] }

-- one step after another, in any order: a byte for one end, or an act of its owner
pub data Joined : End → End → Type 0 where
  Begin : Joined at_first at_first
  Client_fed : {client server new : End} {byte : ℕ} → Joined client server
      → IsFed Client Server client new server byte → Joined new server
  Server_fed : {client server new : End} {byte : ℕ} → Joined client server
      → IsFed Server Client server new client byte → Joined client new
  Client_acts : {client server new : End} {act : Act} → Joined client server → IsDone Client client new act
      → Joined new server
  Server_acts : {client server new : End} {act : Act} → Joined client server → IsDone Server server new act
      → Joined client new

-- Each call in the two histories was made where it isn't refused.
abbrev pub JoinedAreAnswered : Type 0
JoinedAreAnswered = (client server : End) → Joined client server
    → AreAnswered Client client.items × AreAnswered Server server.items

-- Neither end meets a fault, and the data that arrived for a stream at one end is a prefix of what was let through at
-- the other
abbrev pub NoFault : Type 0
NoFault = (client server : End) → Joined client server
    → HasNoFault Client client.items × HasNoFault Server server.items
    × ((n : ℕ) → IsPrefix (inbound Server server.items n) (written Client client.items n))
    × ((n : ℕ) → IsPrefix (inbound Client client.items n) (written Server server.items n))

-- the length of a frame's head: of Data of a stream, of its WindowUpdate
abbrev pub length_of_data : ℕ → Arrival → ℕ
length_of_data n (Head h) = if h.stream == n && is_data h.kind then h.length else 0
length_of_data n x = 0

abbrev pub length_of_update : ℕ → Arrival → ℕ
length_of_update n (Head h) = if h.stream == n && is_update h.kind then h.length else 0
length_of_update n x = 0

-- frames that one end has sent and the other hasn't read yet, the newest first
abbrev pub IsOnTheWay : Role → List Item → List Item → List Arrival → Type 0
IsOnTheWay role from to way = (rest : List ℕ) × Reads (output role from) (way ++ arrivals to) rest

-- Nothing is lost: while nothing is on its way to the reader, a stream that is live there has all that was let through
abbrev pub IsWhole : Role → Role → List Item → List Item → Type 0
IsWhole writer reader out come =
    (n : ℕ) → is_live reader come n ≡ true → IsOnTheWay writer out come []
    → inbound reader come n ≡ written writer out n

abbrev pub NothingIsLost : Type 0
NothingIsLost = (client server : End) → Joined client server
    → IsWhole Client Server client.items server.items × IsWhole Server Client server.items client.items

-- Once its end was told, a stream has all that was let through, whatever is on its way
abbrev pub IsWholeAtEnd : Role → Role → List Item → List Item → Type 0
IsWholeAtEnd writer reader out come =
    (n : ℕ) (before after : List Told) → events reader come ≡ before ++ Told.Ended n ∷ after
    → inbound reader come n ≡ written writer out n

abbrev pub AllBeforeTheEnd : Type 0
AllBeforeTheEnd = (client server : End) → Joined client server
    → IsWholeAtEnd Client Server client.items server.items × IsWholeAtEnd Server Client server.items client.items

-- while a stream is live at both ends, the reader's receiving window is the writer's credit and what is on its way:
-- Data to the reader, and the reader's WindowUpdates
abbrev pub IsBalanced : Role → Role → List Item → List Item → Type 0
IsBalanced writer reader out come =
    (n : ℕ) (way back : List Arrival) → is_live writer out n ≡ true → is_live reader come n ≡ true
    → IsOnTheWay writer out come way → IsOnTheWay reader come out back
    → receiving_window reader come n
    ≡ credit writer out n + sum_by (length_of_data n) way + sum_by (length_of_update n) back

abbrev pub Balance : Type 0
Balance = (client server : End) → Joined client server
    → IsBalanced Client Server client.items server.items × IsBalanced Server Client server.items client.items

-- No stream stands still: while nothing is on its way, a stream that is live at both ends, of which all that came was
-- taken and whose end hasn't come, has more than half a window of credit
abbrev pub IsWritable : Role → Role → List Item → List Item → Type 0
IsWritable writer reader out come =
    (n : ℕ) → is_live writer out n ≡ true → is_live reader come n ≡ true → finished reader come n ≡ false
    → untaken reader come n ≡ 0
    → IsOnTheWay writer out come [] → IsOnTheWay reader come out [] → give_back_from < credit writer out n

abbrev pub NothingStandsStill : Type 0
NothingStandsStill = (client server : End) → Joined client server
    → IsWritable Client Server client.items server.items × IsWritable Server Client server.items client.items

-- ---- there are such histories

-- An end goes on: it can be fed each prefix of what was sent to it, its owner can make each call that isn't refused,
-- and something, if only nothing, is on its way there
pub record GoesOn (role : Role) (other : Role) (here there : End) (IsNext : End → Type 0) : Type 0 where
  pub fed : (bytes : List ℕ) → AllByRecursion (λ b. b < 256) (here.fed ++ bytes)
      → IsPrefix (here.fed ++ bytes) (output other there.items)
      → (new : End) × (new.fed ≡ here.fed ++ bytes) × ((came : List Arrival)
      × (new.items ≡ map Came came ++ here.items)) × IsNext new
  pub done : (act : Act) → IsAnswered role here.items act → (new : End) × (new.items ≡ Did act ∷ here.items)
      × IsNext new
  pub way : (way : List Arrival) × IsOnTheWay other there.items here.items way

abbrev pub BothGoOn : Type 0
BothGoOn = (client server : End) → Joined client server
    → GoesOn Client Server client server (λ new. Joined new server)
    × GoesOn Server Client server client (λ new. Joined client new)

-- One of them: the client's stream 1 is accepted. The client has written three bytes in two frames, of which the first
-- byte has come
pub record JoinedRow (client server : End) : Type 0 where
  pub joined : Joined client server
  pub client_told : events Client client.items ≡ Told.Accepted 1 ∷ []
  pub server_told : events Server server.items ≡ Told.Opened 1 ∷ Told.Payload 1 7 ∷ []
  pub wrote : written Client client.items 1 ≡ 7 ∷ 8 ∷ 9 ∷ []
  pub arrived : inbound Server server.items 1 ≡ 7 ∷ []
  pub way : IsOnTheWay Client client.items server.items (Tail ∷ Byte 9 ∷ Head
      (record { kind = Payload; flags = 0; stream = 1; length = 1 }) ∷ Tail ∷ Byte 8 ∷ [])
  pub way_back : IsOnTheWay Server server.items client.items []
  pub windows : (receiving_window Server server.items 1 ≡ 262142) × (credit Client client.items 1 ≡ 262141)
  pub windows_back : (receiving_window Client client.items 1 ≡ 262144) × (credit Server server.items 1 ≡ 262144)

-- and later: the client has closed its direction, and all has come
pub record EndedRow (client server : End) : Type 0 where
  pub joined : Joined client server
  pub server_told : events Server server.items
      ≡ Told.Opened 1 ∷ Told.Payload 1 7 ∷ Told.Payload 1 8 ∷ Told.Payload 1 9 ∷ Told.Ended 1 ∷ []
  pub wrote : written Client client.items 1 ≡ 7 ∷ 8 ∷ 9 ∷ []
  pub arrived : inbound Server server.items 1 ≡ 7 ∷ 8 ∷ 9 ∷ []
  pub way : IsOnTheWay Client client.items server.items []

abbrev pub SomeJoined : Type 0
SomeJoined = ((client server : End) × JoinedRow client server) × ((client server : End) × EndedRow client server)
