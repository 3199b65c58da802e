-- What holds of an upgrade: this project's laws on the definitions of `Upgrades` and `State`.
use Rattle.std.specs.Prelude.{◌≡◌, ◌≢◌, ℕ, ◌<◌, List, [], ◌∷◌, ◌++◌, length, slice_index}
use Rattle.std.specs.Prelude.{Option, Some, None, Result, Ok, Err}
use Rattle.peer_ids.specs.Key.{Key, IsAllowed}
use Rattle.ms_select.specs.declared.answer.Answer.TheVariants.{NoneLeft as NoneIsLeft}
use Rattle.ms_select.specs.declared.fault.SelectFault.{SelectFault}
use Rattle.ms_select.specs.Messages.{header, spelled}
use Rattle.plaintext_x.specs.declared.fault.ExchangeFault.{ExchangeFault}
use Rattle.plaintext_x.specs.declared.fault.ExchangeFault.TheVariants.{OutOfMemory}
use Rattle.plaintext_x.specs.Exchange.{message_of}
use Rattle.upgrade.specs.declared.role.ConnRole.{ConnRole}
use Rattle.upgrade.specs.declared.role.ConnRole.TheVariants.{Dialer, Listener}
use Rattle.upgrade.specs.declared.fault.UpgradeFault.{UpgradeFault}
use Rattle.upgrade.specs.declared.fault.UpgradeFault.TheVariants.{Select, NoneLeft, Exchange}
use Rattle.upgrade.specs.Upgrades.{plaintext, yamux, InFirstTalk, InExchange, InSecondTalk, Upgrades, ComesTo}
use Rattle.upgrade.specs.State.{Upgrading, Stands}

-- Role, key and input determine which bytes are the upgrade's, what it comes to and what it has written.
abbrev pub OneOutcome : Type 0
OneOutcome =
    (role : ConnRole) (own : Key) (input first other : List ℕ) (a b : Result (Option Key) UpgradeFault)
    (written more : List ℕ) → ComesTo role own input first a written → ComesTo role own input other b more
    → (first ≡ other) × (a ≡ b) × (written ≡ more)

-- Each input of bytes comes to something.
abbrev pub SomeOutcome : Type 0
SomeOutcome = (role : ConnRole) (own : Key) (input : List ℕ) → ((i : ℕ) → slice_index input i < 256)
    → (first : List ℕ) × (outcome : Result (Option Key) UpgradeFault) × (written : List ℕ)
    × ComesTo role own input first outcome written

-- A connection that is up stays up when bytes are added, and none of them is the upgrade's.
abbrev pub UpStays : Type 0
UpStays =
    (role : ConnRole) (own key : Key) (input first more written : List ℕ)
    → ComesTo role own input first (Ok (Some key)) written
    → ComesTo role own (input ++ more) first (Ok (Some key)) written

-- A fault stays when bytes are added.
abbrev pub FaultStays : Type 0
FaultStays =
    (role : ConnRole) (own : Key) (input more written : List ℕ) (fault : UpgradeFault)
    → Upgrades role own input (Err fault) written → Upgrades role own (input ++ more) (Err fault) written

-- Each fault of a part is the fault of the upgrade, by its own name, and where a talk is turned down, so is the
-- upgrade.
pub record FaultsOfParts : Type 0 where
  pub first_talk : (role : ConnRole) (own : Key) (input written : List ℕ) (fault : SelectFault)
      → InFirstTalk role input (Err fault) written → Upgrades role own input (Err (Select fault)) written
  pub exchange : (role : ConnRole) (own : Key) (input written : List ℕ) (fault : ExchangeFault)
      → fault ≢ OutOfMemory → InExchange role own input (Err fault) written
      → Upgrades role own input (Err (Exchange fault)) written
  pub second_talk : (role : ConnRole) (own key : Key) (input written : List ℕ) (fault : SelectFault)
      → InSecondTalk role own key input (Err fault) written
      → Upgrades role own input (Err (Select fault)) written
  pub first_turned_down : (role : ConnRole) (own : Key) (input more written : List ℕ)
      → InFirstTalk role input (Ok NoneIsLeft) written
      → Upgrades role own (input ++ more) (Err NoneLeft) written
  pub second_turned_down : (role : ConnRole) (own key : Key) (input more written : List ℕ)
      → InSecondTalk role own key input (Ok NoneIsLeft) written
      → Upgrades role own (input ++ more) (Err NoneLeft) written

-- An upgrade that stands at an input goes on by that input, and has written this.
abbrev pub GoesOn : Type 0
GoesOn = (x : Upgrading) (input taken : List ℕ) → Stands x input taken
    → Upgrades x.role x.own input (Ok None) (taken ++ x.pending)

-- what an end with this key writes until the other end has its key, and until the connection is up
abbrev pub all_of : Key → List ℕ
all_of key = spelled (header ∷ plaintext ∷ []) ++ message_of key ++ spelled (header ∷ yamux ∷ [])

-- Two ends that are joined are both up, each with the other's key, by exactly what the other one writes.
abbrev pub BothUp : Type 0
BothUp =
    (dialer listener : Key)
    → IsAllowed dialer.kind (length dialer.body) → IsAllowed listener.kind (length listener.body)
    → Upgrades Dialer dialer (all_of listener) (Ok (Some listener)) (all_of dialer)
    × Upgrades Listener listener (all_of dialer) (Ok (Some dialer)) (all_of listener)
