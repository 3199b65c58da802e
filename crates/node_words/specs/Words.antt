-- What the words of a command line say.
-- Source: this project's profile, the program `node`; of keys, libp2p peer ids, "Keys"; of hexadecimal, RFC 4648,
-- section 8.
use Rattle.std.specs.Prelude.{◌≡◌, ℕ, Bool, true, false, List, [], ◌∷◌, Ok, Some, None, codes, unwrap_or, option_map, ⊤}
use Rattle.clap.specs.Matches.{found_of, first_value, one_text, matched_of, raw_values}
use Rattle.clap.specs.declared.parser.matches.ArgMatches.{ArgMatches}
use Rattle.hex.specs.Hex.{decode_of, decode_sized}
use Rattle.peer_ids.specs.Key.{Key}
use Rattle.peer_ids.specs.ReadsKey.{SpellsKey}
use Rattle.pool_state.specs.declared.limits.Limits.{Limits}
use Rattle.pool_texts.specs.Lines.{IsNumber, IsPeer}
use Rattle.upgrade.specs.declared.role.ConnRole.{ConnRole}
use Rattle.upgrade.specs.declared.role.ConnRole.TheVariants.{Dialer, Listener}

-- The first word of an option or a place of this name, or else this.
abbrev pub word_or : List ℕ → ArgMatches → List ℕ → List ℕ
word_or other found name = unwrap_or (first_value (found_of found) name) other

-- All its words.
abbrev pub words_in : ArgMatches → List ℕ → List (List ℕ)
words_in found name = unwrap_or (option_map raw_values (matched_of (found_of found) name)) []

-- The words name these peers, in order.
abbrev pub AreNamed : List (List ℕ) → List (List ℕ) → Type 0
AreNamed [] [] = ⊤
AreNamed (word ∷ words) (peer ∷ peers) = IsPeer word peer × AreNamed words peers
AreNamed words peers = ⊥

-- The option of this name has this number, in decimal digits alone.
abbrev pub HasNumber : ℕ → ArgMatches → List ℕ → ℕ → Type 0
HasNumber bits found name number = IsNumber bits (word_or (codes "") found name) number

-- The flag of this name is set, or isn't.
pub record HasFlag (found : ArgMatches) (name : List ℕ) (flag : Bool) : Type 0 where
  pub set : one_text (found_of found) name ≡ Some (codes "true") → flag ≡ true
  pub unset : one_text (found_of found) name ≡ Some (codes "false") → flag ≡ false
  pub absent : one_text (found_of found) name ≡ None → flag ≡ false

-- Each limit is the number of its option.
pub record HasLimits (found : ArgMatches) (limits : Limits) : Type 0 where
  pub conns : HasNumber 32 found (codes "conns") limits.conns
  pub per_peer : HasNumber 32 found (codes "per-peer") limits.per_peer
  pub streams : HasNumber 32 found (codes "streams") limits.streams
  pub blocked : HasNumber 32 found (codes "blocked") limits.blocked
  pub inbound : HasNumber 32 found (codes "inbound") limits.inbound
  pub outbound : HasNumber 32 found (codes "outbound") limits.outbound
  pub allowed : HasNumber 32 found (codes "allowed") limits.allowed

-- The word of each end.
abbrev pub role_name : ConnRole → List ℕ
role_name Dialer = codes "dialer"
role_name Listener = codes "listener"

-- The text is the message of this key, in hexadecimal.
abbrev pub IsKey : List ℕ → Key → Type 0
IsKey text key = (bytes : List ℕ) × (decode_of text ≡ Ok bytes) × SpellsKey bytes key

-- The text is these 32 bytes, in hexadecimal.
abbrev pub IsPayload : List ℕ → List ℕ → Type 0
IsPayload text bytes = decode_sized text 32 ≡ Ok bytes

-- The keys of nodes that name none: that of 32 zero bytes, and the public keys of RFC 8032, section 7.1, TEST 1 and 2.
abbrev pub zero_key : List ℕ
zero_key = codes "080112200000000000000000000000000000000000000000000000000000000000000000"

abbrev pub listener_key : List ℕ
listener_key = codes "08011220d75a980182b10ab7d54bfed3c964073a0ee172f3daa62325af021a68f707511a"

abbrev pub dialer_key : List ℕ
dialer_key = codes "080112203d4017c3e843895a92b70aa74d1b7ebc9c982ccf2ec4968cc0cd55f12af4660c"

abbrev pub zeros : List ℕ
zeros = codes "0000000000000000000000000000000000000000000000000000000000000000"

abbrev pub any_port : List ℕ
any_port = codes "/ip4/127.0.0.1/tcp/0"

abbrev pub agent_name : List ℕ
agent_name = codes "node/0.1.0"
