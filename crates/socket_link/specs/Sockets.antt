-- A link over a socket, between two of its states.
-- Source: POSIX.1-2017 (the specification of `read` and `shutdown` on a socket): behind the end nothing is given, and
-- what is shut stays so.
use Rattle.std.specs.Prelude.{◌≡◌, refl, ℕ, Bool, true, List, [], ◌∷◌, ◌++◌}
use Rattle.std.proofs.Common.{ap, sym, subst, ◌∙◌, append_assoc}
use Rattle.conn_link.specs.Moving.{MovesNothing, MovesOn, StaysEnded, StaysShut}
use Rattle.conn_link.specs.Calling.{Call, CallsNone, CallsOn}
use Rattle.socket_link.specs.Steps.{Step, AllBy, StepsNone, StepsOn}
use Rattle.socket_link.specs.declared.link.SocketLink.{SocketLink}

module _ {S : Type 0} (moves : S → List ℕ → List ℕ → S → Type 0) (is_shut : S → Type 0) where
  -- Its bytes are the socket's. Once a read has found the end nothing is given, and it stays the end. What was noted as
  -- shut stays noted.
  abbrev pub LinkMoves : SocketLink S → List ℕ → List ℕ → SocketLink S → Type 0
  LinkMoves first given taken last = moves first.socket given taken last.socket
      × (first.has_ended ≡ true → (given ≡ []) × (last.has_ended ≡ true))
      × (first.is_shut ≡ true → last.is_shut ≡ true)

  -- the socket is shut, and a call told so
  abbrev pub IsShut : SocketLink S → Type 0
  IsShut link = is_shut link.socket × (link.is_shut ≡ true)

  -- the laws of a link
  pub nothing_moved : MovesNothing moves → MovesNothing LinkMoves
  nothing_moved nothing link = (nothing link.socket, λ ended. (refl, ended), λ is. is)

  pub moved_on : MovesOn moves → MovesOn LinkMoves
  moved_on on first mid last given taken given_next taken_next before behind = (
    on first.socket mid.socket last.socket given taken given_next taken_next before.0 behind.0,
    λ ended.
        let none = before.1 ended in let none_next = behind.1 none.1 in
        (ap (λ bytes. bytes ++ given_next) none.0 ∙ none_next.0, none_next.1),
    λ is. behind.2 (before.2 is),
  )

  pub ended_stays : StaysEnded LinkMoves (λ link. link.has_ended ≡ true)
  ended_stays first last given taken moved = moved.1

  pub shut_stays : StaysShut moves is_shut → StaysShut LinkMoves IsShut
  shut_stays still first last given taken moved is =
      (still first.socket last.socket given taken moved.0 is.0, moved.2 is.1)

-- steps that are none come before others
joined : (ended mid then : Bool) (log next : List Call) (steps rest : List Step) → AllBy ended log steps mid
    → AllBy mid next rest then → AllBy ended (log ++ next) (steps ++ rest) then
joined ended mid then [] next steps rest by behind =
    subst (λ (l : List Step). AllBy ended next (l ++ rest) then) (sym by.0)
    (subst (λ (b : Bool). AllBy b next rest then) (sym by.1) behind)
joined ended mid then (call ∷ log) next steps rest by behind = (
  by.0,
  by.1 ++ rest,
  by.2,
  ap (λ l. l ++ rest) by.3 ∙ append_assoc by.0 by.1 rest,
  by.4,
  joined by.2 mid then log next by.1 rest by.5 behind,
)

module _ {S : Type 0} (steps : S → List Step → S → Type 0) where
  -- The calls of a link over a socket are the steps of its socket.
  pub record LinkCalls (first : SocketLink S) (log : List Call) (last : SocketLink S) : Type 0 where
    pub taken : List Step
    pub made : steps first.socket taken last.socket
    pub by : AllBy first.has_ended log taken last.has_ended

  -- the laws of a link
  pub none_called : StepsNone steps → CallsNone LinkCalls
  none_called none link = record { taken = []; made = none link.socket; by = (refl, refl) }

  pub called_on : StepsOn steps → CallsOn LinkCalls
  called_on on first mid last log next before behind = record {
    taken = before.taken ++ behind.taken;
    made = on first.socket mid.socket last.socket before.taken behind.taken before.made behind.made;
    by = joined first.has_ended mid.has_ended last.has_ended log next before.taken behind.taken before.by behind.by;
  }
