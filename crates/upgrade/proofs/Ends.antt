-- Two ends of one connection.
use Rattle.std.proofs.Common.{ℕ, List, [], ◌∷◌, ◌++◌, length, Some, Ok, refl, lit<}
use Rattle.peer_ids.specs.Key.{Key, IsAllowed}
use Rattle.ms_select.specs.declared.answer.Answer.TheVariants.{Agreed}
use Rattle.ms_select.specs.Listening.{IsSupported}
use Rattle.ms_select.specs.Messages.{header, spelled}
use Rattle.plaintext_x.specs.Exchange.{message_of}
use Rattle.plaintext_x.proofs.Own.{own_is_proven}
use Rattle.talks.specs.Talks.{Talks}
use Rattle.talks.proofs.Ends.{both_agree}
use Rattle.upgrade.specs.declared.role.ConnRole.{ConnRole}
use Rattle.upgrade.specs.declared.role.ConnRole.TheVariants.{Dialer, Listener}
use Rattle.upgrade.specs.Upgrades.{InExchange, InSecondTalk, side_of, plaintext, yamux}
use Rattle.upgrade.specs.Laws.{BothUp, all_of}

-- a talk on this name, as each end writes it
abbrev pub talk_of : List ℕ → List ℕ
talk_of name = spelled (header ∷ name ∷ [])

known_plaintext : IsSupported (plaintext ∷ []) plaintext 0
known_plaintext = record { short = lit< tt; chosen = refl }

known_yamux : IsSupported (yamux ∷ []) yamux 0
known_yamux = record { short = lit< tt; chosen = refl }

pub plaintext_agreed : (role : ConnRole) → Talks (side_of role plaintext) (talk_of plaintext) (Ok (Agreed 0)) (talk_of plaintext)
plaintext_agreed Dialer = (both_agree plaintext 0 (plaintext ∷ []) 0 known_plaintext).0
plaintext_agreed Listener = (both_agree plaintext 0 (plaintext ∷ []) 0 known_plaintext).1

pub yamux_agreed : (role : ConnRole) → Talks (side_of role yamux) (talk_of yamux) (Ok (Agreed 0)) (talk_of yamux)
yamux_agreed Dialer = (both_agree yamux 0 (yamux ∷ []) 0 known_yamux).0
yamux_agreed Listener = (both_agree yamux 0 (yamux ∷ []) 0 known_yamux).1

-- the exchange with an end of this key
pub exchanged : (role : ConnRole) (own other : Key) → IsAllowed other.kind (length other.body)
    → InExchange role own (talk_of plaintext ++ message_of other) (Ok (Some other)) (talk_of plaintext ++ message_of own)
exchanged role own other allowed = record {
  first = talk_of plaintext;
  exchange = message_of other;
  index = 0;
  talk = talk_of plaintext;
  input_is = refl;
  agrees = plaintext_agreed role;
  exchanges = own_is_proven other allowed;
  written_is = refl;
}

pub comes_up : (role : ConnRole) (own other : Key) → IsAllowed other.kind (length other.body) → InSecondTalk role own other (all_of other) (Ok (Agreed 0)) (all_of own)
comes_up role own other allowed = record {
  before = talk_of plaintext ++ message_of other;
  second = talk_of yamux;
  written_before = talk_of plaintext ++ message_of own;
  talk = talk_of yamux;
  input_is = refl;
  proven = exchanged role own other allowed;
  talks = yamux_agreed role;
  written_is = refl;
}

pub both_up : BothUp
both_up dialer listener d l = ((0, comes_up Dialer dialer listener l), (0, comes_up Listener listener dialer d))
