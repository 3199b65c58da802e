-- What routing leaves of whose streams they are, and what is still to be routed.
use Rattle.std.proofs.Common.{◌≡◌, ◌≢◌, ◌+◌, inl, inr, ℕ, zero, suc, add-one, Bool, List, [], ◌∷◌, ◌++◌, drop, map, Option, refl, sym, ◌∙◌, subst}
use Rattle.std.proofs.Math.Seq.{drop-nil}
use Rattle.std.specs.List.{AllByRecursion}
use Rattle.handlers.specs.Calls.{HandlerCall, Asked}
use Rattle.yamux_session.specs.declared.event.Role.{Role}
use Rattle.yamux_session.specs.declared.event.Event.{Event}
use Rattle.yamux_session.specs.Arrives.{telling, tellings}
use Rattle.yamux_session.specs.Events.{Told}
use Rattle.yamux_session.specs.Seen.{Seen}
use Rattle.yamux_session.specs.State.{State}
use Rattle.streams.specs.State.{Streaming}
use Rattle.conn_log.specs.declared.earlier.Earlier.{Earlier}
use Rattle.conn_log.specs.declared.event.ConnEvent.{ConnEvent}
use Rattle.conn_log.specs.Entries.{Entry}
use Rattle.conn_log.specs.Routes.{IsStill, Routes, Routed, Awaits}
use Rattle.conn_log.proofs.Rested.{passed_over}
use Rattle.board.specs.declared.board.Board.{Board}
use Rattle.board.specs.Boards.{Keeps}
use Rattle.board.proofs.Telling.{told_none}

pub keeps_all : {P H : Type 0} (listed : P → List (List ℕ)) (is_eager : P → ℕ → Bool) (board : Board P H) → Keeps listed is_eager board board
keeps_all listed is_eager board = record { role_is = refl; peer_is = refl; names_are = refl; eager_are = refl }

pub keeps_on : {P H : Type 0} (listed : P → List (List ℕ)) (is_eager : P → ℕ → Bool) (first middle last : Board P H) → Keeps listed is_eager first middle → Keeps listed is_eager middle last
    → Keeps listed is_eager first last
keeps_on listed is_eager first middle last a b = record {
  role_is = b.role_is ∙ a.role_is;
  peer_is = b.peer_is ∙ a.peer_is;
  names_are = b.names_are ∙ a.names_are;
  eager_are = b.eager_are ∙ a.eager_are;
}

-- of all of a list it holds of the one that comes next
pub all_head : {A : Type 0} (Q : A → Type 0) (xs : List A) (i : ℕ) (x : A) (rest : List A) → drop i xs ≡ x ∷ rest → AllByRecursion Q xs → Q x
all_head Q [] i x rest is all = absurd (let e : [] ≡ x ∷ rest = sym (drop-nil i) ∙ is in cc e)
all_head Q (y ∷ xs) zero x rest is all = let e : y ≡ x = cc is in subst Q e all.0
all_head Q (y ∷ xs) (suc i) x rest is all = all_head Q xs i x rest is all.1

tellings_behind : (Q : Told → Type 0) (told : List Told) (more : List Told) → AllByRecursion Q (told ++ more) → AllByRecursion Q more
tellings_behind Q [] more all = all
tellings_behind Q (t ∷ told) more all = tellings_behind Q told more all.1

-- what holds of all that a list tells behind its first event
pub told_later : (Q : Told → Type 0) (i : ℕ) (events : List Event) → AllByRecursion Q (tellings (drop 1 events)) → AllByRecursion Q (tellings (drop (i + 1) events))
told_later Q i [] all = subst (λ (t : List Event). AllByRecursion Q (tellings t)) (sym (drop-nil (i + 1))) tt
told_later Q i (e ∷ events) all = subst (λ (k : ℕ). AllByRecursion Q (tellings (drop k (e ∷ events)))) (sym (add-one i)) (from i events all) where
  from : (i : ℕ) (events : List Event) → AllByRecursion Q (tellings events) → AllByRecursion Q (tellings (drop i events))
  from zero events all = all
  from (suc i) [] all = tt
  from (suc i) (e ∷ events) all = from i events (tellings_behind Q (telling e) (tellings events) all)

-- what is said of whose streams these are now is said of whose they were
pub kept_on : {P H : Type 0} (listed : P → List (List ℕ)) (is_eager : P → ℕ → Bool) (old now : Board P H) → Keeps listed is_eager old now
    → (Q : (ℕ → Bool) → List (List ℕ) → List ℕ → Role → Type 0) → Q (is_eager now.protocols) (listed now.protocols) now.peer now.role
    → Q (is_eager old.protocols) (listed old.protocols) old.peer old.role
kept_on listed is_eager old now k Q q =
    subst (λ (e : ℕ → Bool). Q e (listed old.protocols) old.peer old.role) k.eager_are
    (subst (λ (names : List (List ℕ)). Q (is_eager now.protocols) names old.peer old.role) k.names_are
    (subst (λ (peer : List ℕ). Q (is_eager now.protocols) (listed now.protocols) peer old.role) k.peer_is
    (subst (λ (role : Role). Q (is_eager now.protocols) (listed now.protocols) now.peer role) k.role_is q)))

module _ {P H : Type 0} (step : H → HandlerCall → H → Type 0) (fails : H → Asked → ℕ → Type 0)
    (is_closed is_finished : H → Bool) (inbound_makes outbound_makes : P → ℕ → List ℕ → H → Type 0)
    (eager : ℕ → Bool) (names : List (List ℕ)) (peer : List ℕ) (role : Role) (log : List (Entry H)) (fed sent : List ℕ) (session : State)
    (streams : ℕ → Option (Streaming H)) (past : List (Earlier H)) (n : ℕ) where
  -- what doesn't begin with an opening came to the stream
  pub came_to : (t : Told) (rest : List Told) → ((left : List Told) → t ∷ rest ≡ Told.Opened n ∷ left → ⊥)
      → Awaits step fails is_closed is_finished inbound_makes outbound_makes eager names peer role log fed sent session streams past n (t ∷ rest)
      → (view : Seen) × Routes step fails is_closed is_finished inbound_makes outbound_makes eager names peer role log fed sent session streams past n view (t ∷ rest)
  came_to t rest unopened (inl o) = absurd (unopened o.0 o.1)
  came_to t rest unopened (inr (inl r)) = r
  came_to t rest unopened (inr (inr none)) = absurd (let e : t ∷ rest ≡ [] = none.0 in cc e)

  -- data came to it
  pub data_came_to : (bytes : List ℕ) (rest : List Told) → bytes ≢ []
      → Awaits step fails is_closed is_finished inbound_makes outbound_makes eager names peer role log fed sent session streams past n (map (Told.Payload n) bytes ++ rest)
      → (view : Seen) × Routes step fails is_closed is_finished inbound_makes outbound_makes eager names peer role log fed sent session streams past n view (map (Told.Payload n) bytes ++ rest)
  data_came_to [] rest some a = absurd (some refl)
  data_came_to (b ∷ bytes) rest some a = came_to (Told.Payload n b) (map (Told.Payload n) bytes ++ rest) (λ left e. absurd (cc e)) a

  -- what asks nothing of it
  pub routed_over : (making : List (Entry H) → List (Entry H) → Type 0) → making log log → (told : List (ConnEvent H)) (t : Told) (rest : List Told) → IsStill t → ((left : List Told) → t ∷ rest ≡ Told.Opened n ∷ left → ⊥)
      → Awaits step fails is_closed is_finished inbound_makes outbound_makes eager names peer role log fed sent session streams past n (t ∷ rest)
      → Routed step fails is_closed is_finished inbound_makes outbound_makes eager names peer role making log told told fed sent session streams past n rest
  routed_over making kept told t rest is unopened a =
      let r = came_to t rest unopened a in
      told_none step fails is_closed is_finished inbound_makes outbound_makes eager names peer role log told told fed sent session streams past n rest making kept r.0 refl
      (passed_over step fails is_closed is_finished inbound_makes outbound_makes eager names peer role log fed sent session streams past n r.0 t rest is r.1)
