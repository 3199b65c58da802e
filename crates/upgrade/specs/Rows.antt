-- Worked rows of the definitions, each with its place in the standard, or in this project's profile.
use Rattle.std.specs.Prelude.{◌≡◌, ℕ, List, [], ◌∷◌, ◌++◌, codes, None, Ok}
use Rattle.peer_ids.specs.Key.{Key}
use Rattle.peer_ids.specs.declared.kind.KeyType.TheVariants.{Secp256k1}
use Rattle.ms_select.specs.Messages.{header, spelled}
use Rattle.plaintext_x.specs.Exchange.{message_of}
use Rattle.upgrade.specs.declared.role.ConnRole.TheVariants.{Listener}
use Rattle.upgrade.specs.Upgrades.{plaintext, yamux, Upgrades}

-- the key of this end
abbrev pub own : Key
own = record { kind = Secp256k1; body = 5 ∷ [] }

-- what a dialer sends, and a listener that agrees
abbrev pub hello : List ℕ
hello = spelled (header ∷ plaintext ∷ [])

pub record WorkedRows : Type 0 where
  -- multistream-select 1.0; the names are those of libp2p plaintext 2.0.0 and of libp2p yamux
  pub first_negotiation : hello
      ≡ 19 ∷ (codes "/multistream/1.0.0" ++ 10 ∷ 17 ∷ (codes "/plaintext/2.0.0" ++ 10 ∷ []))
  pub second_negotiation : spelled (header ∷ yamux ∷ [])
      ≡ 19 ∷ (codes "/multistream/1.0.0" ++ 10 ∷ 13 ∷ (codes "/yamux/1.0.0" ++ 10 ∷ []))
  -- profile: a listener sends its header at once, and its exchange as soon as the first negotiation agrees
  pub listener_sends_its_header : Upgrades Listener own [] (Ok None) (spelled (header ∷ []))
  pub listener_sends_its_exchange : Upgrades Listener own hello (Ok None) (hello ++ message_of own)
