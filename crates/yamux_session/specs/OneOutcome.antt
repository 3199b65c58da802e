-- The clause of a feed determines what it tells and sends.
-- Source: This project's law on the calls of a session.
use Rattle.std.specs.Prelude.{◌≡◌, ℕ, List}
use Rattle.yamux_session.specs.declared.event.Role.{Role}
use Rattle.yamux_session.specs.History.{Item}
use Rattle.yamux_session.specs.Events.{Told}
use Rattle.yamux_session.specs.State.{State, Led}

-- two outcomes of the same bytes, from the same list, are one: the list they led to, what is told of it byte by byte,
-- whether the session has failed, and the output that waits
abbrev pub OneOutcome : Type 0
OneOutcome = (role : Role) (past now other : List Item) (fed bytes sent : List ℕ) (told said : List Told)
    (s t : State)
    → Led role past now fed bytes sent told s → Led role past other fed bytes sent said t
    → (now ≡ other) × (told ≡ said) × (s.failed ≡ t.failed) × (s.pending ≡ t.pending)
