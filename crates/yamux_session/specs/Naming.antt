-- Which stream an event names, and whether it tells data.
-- Source: This project's profile of a session.
use Rattle.std.specs.Prelude.{◌≡◌, ℕ, List, drop}
use Rattle.std.specs.List.{AllByRecursion}
use Rattle.yamux_session.specs.declared.event.Event.{Event}
use Rattle.yamux_session.specs.declared.event.Event.TheVariants as event

-- the event names this stream, or none
abbrev pub IsAbout : ℕ → Event → Type 0
IsAbout n (event.Opened m) = m ≡ n
IsAbout n (event.Accepted m) = m ≡ n
IsAbout n (event.Payload m bytes) = m ≡ n
IsAbout n (event.Ended m) = m ≡ n
IsAbout n (event.Reset m) = m ≡ n
IsAbout n (event.Credit m) = m ≡ n
IsAbout n (event.GoAway code) = Unit {0}
IsAbout n (event.Fault fault) = Unit {0}

abbrev pub IsNoOpening : Event → Type 0
IsNoOpening (event.Opened n) = ⊥
IsNoOpening other = Unit {0}

-- it tells no data
abbrev pub IsNoData : Event → Type 0
IsNoData (event.Payload n bytes) = ⊥
IsNoData other = Unit {0}

-- events that name one stream at most, and open it, if at all, with the first
pub record NamesOne (told : List Event) : Type 0 where
  pub stream : ℕ
  pub named : AllByRecursion (IsAbout stream) told
  pub opened_first : AllByRecursion IsNoOpening (drop 1 told)
