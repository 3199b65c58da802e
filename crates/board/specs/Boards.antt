-- What routing leaves of a board. Inside: no public clause of a connection cites it.
use Rattle.std.specs.Prelude.{◌≡◌, ℕ, Bool, List}
use Rattle.yamux_session.specs.declared.event.Role.{Role}
use Rattle.conn_log.specs.Entries.{Entry}
use Rattle.conn_log.specs.Making.{MakesOn}
use Rattle.held_order.specs.Orders.{newest_held}
use Rattle.board.specs.declared.board.Board.{Board}

-- Whose streams they are stays, and what makes their handlers lists the same protocols.
pub record Keeps {P H : Type 0} (listed : P → List (List ℕ)) (is_eager : P → ℕ → Bool) (old new : Board P H) : Type 0
  where
    pub role_is : new.role ≡ old.role
    pub peer_is : new.peer ≡ old.peer
    pub names_are : listed new.protocols ≡ listed old.protocols
    pub eager_are : is_eager new.protocols ≡ is_eager old.protocols

-- what names the streams of the handlers that are held until there, the newest first, does so until here
abbrev pub KeepsOrder : {H : Type 0} → Role → List ℕ → List ℕ → List (Entry H) → List (Entry H) → Type 0
KeepsOrder role before behind log longer = before ≡ newest_held role log → behind ≡ newest_held role longer

-- what was made in turn until there is made so until here, and the order in which handlers were made is known still
abbrev pub MakesInOrder : {P H : Type 0} → (P → ℕ → List ℕ → H → P → Type 0) → (P → ℕ → List ℕ → H → P → Type 0)
    → List ℕ → Role → P → P → List ℕ → List ℕ → List (Entry H) → List (Entry H) → Type 0
MakesInOrder inbound_leads outbound_leads peer role before behind order later log longer =
    MakesOn inbound_leads outbound_leads peer role before behind log longer × KeepsOrder role order later log longer

-- that, by the protocols of the board, and the order that it keeps
abbrev pub MakesOnBoard : {P H : Type 0} → (P → ℕ → List ℕ → H → P → Type 0) → (P → ℕ → List ℕ → H → P → Type 0)
    → Board P H → Board P H → List (Entry H) → List (Entry H) → Type 0
MakesOnBoard inbound_leads outbound_leads old new = MakesInOrder inbound_leads outbound_leads old.peer old.role
    old.protocols new.protocols old.order new.order
