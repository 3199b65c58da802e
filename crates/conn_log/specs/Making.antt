-- Which protocols made the handlers of a connection: each handler was made once, by those that it had then.
-- Source: libp2p connections, "Opening new streams over a connection"; that the protocols of a connection make its
-- handlers one after another is this project's profile.
use Rattle.std.specs.Prelude.{◌≡◌, ℕ, List, [], ◌∷◌}
use Rattle.yamux_session.specs.declared.event.Role.{Role}
use Rattle.dispatch.specs.Dispatch.{led_by}
use Rattle.conn_log.specs.declared.event.ConnEvent.TheVariants as event
use Rattle.conn_log.specs.Entries.{Entry}
use Rattle.conn_log.specs.Entries.Entry.{Of, Says, Made, Asks, Calls}
use Rattle.conn_log.specs.Due.{direction_of}

-- no handler was made
abbrev pub MakesNone : {H : Type 0} → List (Entry H) → Type 0
MakesNone [] = Unit {0}
MakesNone (Of x ∷ log) = MakesNone log
MakesNone (Says e ∷ log) = MakesNone log
MakesNone (Made n handler ∷ log) = ⊥
MakesNone (Asks n index ∷ log) = MakesNone log
MakesNone (Calls n call ∷ log) = MakesNone log

module _ {P H : Type 0} (inbound_leads outbound_leads : P → ℕ → List ℕ → H → P → Type 0) (peer : List ℕ)
    (role : Role) where
  -- By making this handler of a stream the protocols become these others: it is one of the protocol on which the newest
  -- entry agrees, or for which it opens the stream.
  abbrev pub Leads : List (Entry H) → ℕ → P → H → P → Type 0
  Leads (Says (event.Agreed m index) ∷ log) n before handler behind =
      (m ≡ n) × led_by inbound_leads outbound_leads (direction_of role n) peer before behind index handler
  Leads (Asks m index ∷ log) n before handler behind =
      (m ≡ n) × led_by inbound_leads outbound_leads (direction_of role n) peer before behind index handler
  Leads log n before handler behind = ⊥

  -- Each handler of the list was made once, in turn, and nothing else was: from the first protocols to those that the
  -- connection has now.
  abbrev pub AreMadeInTurn : P → List (Entry H) → P → Type 0
  AreMadeInTurn first [] now = now ≡ first
  AreMadeInTurn first (Of x ∷ log) now = AreMadeInTurn first log now
  AreMadeInTurn first (Says e ∷ log) now = AreMadeInTurn first log now
  AreMadeInTurn first (Made n handler ∷ log) now =
      (before : P) × AreMadeInTurn first log before × Leads log n before handler now
  AreMadeInTurn first (Asks n index ∷ log) now = AreMadeInTurn first log now
  AreMadeInTurn first (Calls n call ∷ log) now = AreMadeInTurn first log now

  -- The list was longer then: what was made in turn before is made so behind, from whichever first protocols on.
  abbrev pub MakesOn : P → P → List (Entry H) → List (Entry H) → Type 0
  MakesOn before behind log longer = (first : P) → AreMadeInTurn first log before → AreMadeInTurn first longer behind
