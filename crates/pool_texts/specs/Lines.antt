-- The lines that call a pool, and what each says.
-- Source: this project's profile, the lines of `node replay` and of a node of `node run`.
use Rattle.std.specs.Prelude.{◌≡◌, ◌≢◌, ◌⊎◌, ℕ, ◌<◌, ◌^◌, List, [], ◌∷◌, ◌++◌, length, Option, Some, None, Ok}
use Rattle.std.specs.Prelude.{codes, replicate, slice_index, ⊤}
use Rattle.std.specs.Char.{is_ascii_digit}
use Rattle.std.specs.List.{AllPass}
use Rattle.std.specs.Str.Parse.{digits_value}
use Rattle.hex.specs.Hex.{decode_sized}
use Rattle.peer_ids.specs.declared.kind.KeyType.TheVariants.{Ed25519}
use Rattle.peer_ids.specs.PeerId.{id_of}
use Rattle.peer_ids.specs.ReadsText.{ReadsId}
use Rattle.pool_state.specs.AgentName.{IsAgentName}
use Rattle.pool_state.specs.declared.call.Call.{Call}
use Rattle.pool_state.specs.declared.call.Call.TheVariants as call
use Rattle.pool_texts.specs.declared.line.Line.{Line}
use Rattle.pool_texts.specs.declared.line.Line.TheVariants as line

-- One decimal digit or more, and nothing else.
abbrev pub IsDigits : List ℕ → Type 0
IsDigits word = (0 < length word) × AllPass is_ascii_digit word

-- The digits write a number of so many bits.
abbrev pub IsNumber : ℕ → List ℕ → ℕ → Type 0
IsNumber bits word number = IsDigits word × (digits_value 10 word ≡ number) × (number < 2 ^ bits)

-- A peer: the text of its id; or `@` and the two hexadecimal digits of the byte that its Ed25519 key repeats.
unfoldable pub IsPeer : List ℕ → List ℕ → Type 0
IsPeer word id = ReadsId word (Ok id)
    ⊎ ((digits : List ℕ) × (byte : ℕ) × (word ≡ 64 ∷ digits) × (decode_sized digits 1 ≡ Ok (byte ∷ []))
    × (id ≡ id_of (record { kind = Ed25519; body = replicate 32 byte })))

-- No space stands in it.
abbrev pub HasNoSpace : List ℕ → Type 0
HasNoSpace word = (place : ℕ) → place < length word → slice_index word place ≢ 32

-- These words, with a space between them.
abbrev pub ArePair : List ℕ → List ℕ → List ℕ → Type 0
ArePair words first second = words ≡ first ++ 32 ∷ second

-- The number of a connection, and the index of a protocol.
unfoldable pub IsStream : List ℕ → ℕ → ℕ → Type 0
IsStream words conn index = (first : List ℕ) × (second : List ℕ) × ArePair words first second
    × IsNumber 32 first conn × IsNumber 8 second index

-- The number of a connection, and a peer.
unfoldable pub IsSettled : List ℕ → ℕ → List ℕ → Type 0
IsSettled words conn peer = (first : List ℕ) × (second : List ℕ) × ArePair words first second
    × IsNumber 32 first conn × IsPeer second peer

-- The number of a connection, and the name of an agent.
unfoldable pub IsNoted : List ℕ → ℕ → List ℕ → Type 0
IsNoted words conn agent = (first : List ℕ) × ArePair words first agent × IsNumber 32 first conn
    × IsAgentName agent

-- The word that a call's line begins with.
abbrev pub name_of : Call → List ℕ
name_of (call.Dial expected) = codes "dial"
name_of call.Accept = codes "accept"
name_of (call.Settle conn peer) = codes "settle"
name_of (call.Ask conn index) = codes "ask"
name_of (call.Done conn index) = codes "done"
name_of (call.HangUp peer) = codes "hangup"
name_of (call.Block peer) = codes "block"
name_of (call.Unblock peer) = codes "unblock"
name_of (call.Gone conn) = codes "gone"
name_of (call.Allow peer) = codes "allow"
name_of (call.Disallow peer) = codes "disallow"
name_of (call.Note conn agent) = codes "note"

-- nothing, or a space and a text
abbrev pub tail_of : Option (List ℕ) → List ℕ
tail_of None = []
tail_of (Some rest) = 32 ∷ rest

-- What stands behind the name says the rest of the call.
abbrev pub SaysRest : Option (List ℕ) → Call → Type 0
SaysRest None call.Accept = ⊤
SaysRest (Some words) (call.Dial None) = words ≡ codes "-"
SaysRest (Some words) (call.Dial (Some peer)) = IsPeer words peer
SaysRest (Some words) (call.Settle conn peer) = IsSettled words conn peer
SaysRest (Some words) (call.Ask conn index) = IsStream words conn index
SaysRest (Some words) (call.Done conn index) = IsStream words conn index
SaysRest (Some words) (call.HangUp peer) = IsPeer words peer
SaysRest (Some words) (call.Block peer) = IsPeer words peer
SaysRest (Some words) (call.Unblock peer) = IsPeer words peer
SaysRest (Some words) (call.Gone conn) = IsNumber 32 words conn
SaysRest (Some words) (call.Allow peer) = IsPeer words peer
SaysRest (Some words) (call.Disallow peer) = IsPeer words peer
SaysRest (Some words) (call.Note conn agent) = IsNoted words conn agent
SaysRest rest other = ⊥

-- The text makes this call: its name, alone or with more behind a space.
abbrev pub Calls : List ℕ → Call → Type 0
Calls text other = (rest : Option (List ℕ)) × (text ≡ name_of other ++ tail_of rest) × SaysRest rest other

-- The line says this: the wish for a listing, or a call.
abbrev pub Says : List ℕ → Line → Type 0
Says text line.List = text ≡ codes "list"
Says text (line.Call other) = Calls text other
