-- What is printed of what a peer says of itself.
-- Source: this project's profile, the output of `node identify`.
use Rattle.std.specs.Prelude.{◌≡◌, ◌⊎◌, ℕ, ◌/◌, ◌%◌, ◌==◌, nat_lt, Bool, false, if◌then◌else◌}
use Rattle.std.specs.Prelude.{List, [], ◌∷◌, ◌++◌, Option, Some, None, codes, flat_map}
use Rattle.std.specs.Fmt.{digit_glyph}
use Rattle.multiaddr.specs.Part.{Address, SpellsAddress}
use Rattle.multiaddr.specs.Text.{PrintsParts}
use Rattle.identify_h.specs.Messages.{Message}

-- the two hexadecimal digits of a byte
abbrev pub hex_of : ℕ → List ℕ
hex_of byte = digit_glyph false (byte / 16) ∷ digit_glyph false (byte % 16) ∷ []

-- a character of ASCII that is printed as it is
abbrev pub is_printable : ℕ → Bool
is_printable byte = if nat_lt 31 byte then nat_lt byte 127 else false

-- A byte of a peer: a printable character as it is, but a backslash twice, and any other as `\x` and two hexadecimal
-- digits.
abbrev pub escaped : ℕ → List ℕ
escaped byte = if byte == 92 then codes "\\\\" else
    if is_printable byte then byte ∷ [] else codes "\\x" ++ hex_of byte

-- a line of a word and bytes of a peer
abbrev pub said_line : List ℕ → List ℕ → List ℕ
said_line word bytes = word ++ 32 ∷ (flat_map escaped bytes ++ 10 ∷ [])

-- the same, where there are any
abbrev pub maybe_line : List ℕ → Option (List ℕ) → List ℕ
maybe_line word (Some bytes) = said_line word bytes
maybe_line word None = []

-- a line of a word and bytes in hexadecimal
abbrev pub hex_line : List ℕ → List ℕ → List ℕ
hex_line word bytes = word ++ 32 ∷ (flat_map hex_of bytes ++ 10 ∷ [])

-- A line of a word and an address: its text, or its bytes in hexadecimal, where they spell none that has a text, or
-- memory was refused.
abbrev pub IsAddrLine : (word bytes line : List ℕ) → Type 0
IsAddrLine word bytes line =
    ((a : Address) × (text : List ℕ) × SpellsAddress bytes a × (a.opaque ≡ []) × PrintsParts text a.parts
    × (line ≡ said_line word text))
    ⊎ (line ≡ hex_line word bytes)

-- a line of the word and each address, in order
abbrev pub AreAddrLines : List ℕ → List (List ℕ) → List ℕ → Type 0
AreAddrLines word [] text = text ≡ []
AreAddrLines word (bytes ∷ addrs) text =
    (line rest : List ℕ) × IsAddrLine word bytes line × AreAddrLines word addrs rest × (text ≡ line ++ rest)

-- a line of the word and the address, where there is one
abbrev pub IsMaybeAddr : List ℕ → Option (List ℕ) → List ℕ → Type 0
IsMaybeAddr word (Some bytes) line = IsAddrLine word bytes line
IsMaybeAddr word None line = line ≡ []

-- A line for each value that is there, but for the key: version, agent, protocols, and the addresses.
pub record IsSaid (said : Message) (printed : List ℕ) : Type 0 where
  pub listen : List ℕ
  pub observed : List ℕ
  pub listen_is : AreAddrLines (codes "listen") said.listen listen
  pub observed_is : IsMaybeAddr (codes "observed") said.observed observed
  pub printed_is : printed ≡ maybe_line (codes "version") said.version ++ (maybe_line (codes "agent") said.agent
      ++ (flat_map (said_line (codes "protocol")) said.protocols ++ (listen ++ observed)))
