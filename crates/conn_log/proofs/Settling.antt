-- Where the streams stand once one of them was given up, and once something was told of it.
use Rattle.std.proofs.Common.{◌≡◌, inl, inr, ℕ, ◌==◌, Bool, true, false, ◌||◌, List, [], ◌∷◌, ◌++◌, Option, None, refl, sym, ap, ◌∙◌, subst}
use Rattle.std.specs.Prelude.{IfSome}
use Rattle.std.proofs.lemmas.List.{append_assoc, append-nil}
use Rattle.handlers.specs.Calls.{HandlerCall, Asked}
use Rattle.yamux_session.specs.declared.event.Role.{Role}
use Rattle.yamux_session.specs.History.Item.{Did}
use Rattle.yamux_session.specs.History.Act.{Reset}
use Rattle.yamux_session.specs.Openings.{is_live}
use Rattle.yamux_session.specs.Events.{Told, events}
use Rattle.yamux_session.specs.Seen.{Seen, seen, all_heard, AgreesOn, ActsDo, ActsMove}
use Rattle.yamux_session.specs.State.{State, Stands as SessionStands}
use Rattle.streams.specs.State.{Streaming}
use Rattle.conn_log.specs.declared.earlier.Earlier.{Earlier}
use Rattle.conn_log.specs.declared.event.ConnEvent.{ConnEvent}
use Rattle.conn_log.specs.declared.event.ConnEvent.TheVariants as event
use Rattle.conn_log.specs.Entries.{Entry, items, said, asks, is_over}
use Rattle.conn_log.specs.Entries.Entry.{Of, Says, Made, Asks, Calls}
use Rattle.conn_log.specs.Due.{IsGivenUp}
use Rattle.conn_log.specs.Making.{MakesNone}
use Rattle.conn_log.specs.Routes.{KeepsTurn, IsMoving, Around, Routes, Routed, Resets}
use Rattle.conn_log.proofs.Turning.{same_turns}
use Rattle.conn_log.proofs.Same.{Same, same_refl, same_by_act}
use Rattle.conn_log.proofs.Around.{grown}
use Rattle.conn_log.proofs.Views.{gone, its_own, moves_on, agrees_gone, gone_first_all}

pub said_append : {H : Type 0} (newer log : List (Entry H)) → said (newer ++ log) ≡ said log ++ said newer
said_append [] log = sym (append-nil (said log))
said_append (Of x ∷ newer) log = said_append newer log
said_append (Says e ∷ newer) log = ap (λ t. t ++ e ∷ []) (said_append newer log) ∙ append_assoc (said log) (said newer) (e ∷ [])
said_append (Made n handler ∷ newer) log = said_append newer log
said_append (Asks n index ∷ newer) log = said_append newer log
said_append (Calls n call ∷ newer) log = said_append newer log

pub asks_append : {H : Type 0} (newer log : List (Entry H)) → asks (newer ++ log) ≡ asks log ++ asks newer
asks_append [] log = sym (append-nil (asks log))
asks_append (Of x ∷ newer) log = asks_append newer log
asks_append (Says e ∷ newer) log = asks_append newer log
asks_append (Made n handler ∷ newer) log = asks_append newer log
asks_append (Asks n index ∷ newer) log =
    ap (λ t. t ++ (n, index) ∷ []) (asks_append newer log) ∙ append_assoc (asks log) (asks newer) ((n, index) ∷ [])
asks_append (Calls n call ∷ newer) log = asks_append newer log

-- no stream was opened in either part
pub none_asked : {H : Type 0} (newer log : List (Entry H)) → asks newer ≡ [] → asks log ≡ [] → asks (newer ++ log) ≡ []
none_asked newer log none before = asks_append newer log ∙ ap (λ t. t ++ asks newer) before ∙ none

over_by : {n : ℕ} (m : ℕ) (before : Bool) → m ≡ n → (m == n) || before ≡ false → ⊥
over_by {n = n} m before is going = absurd (let e : true ≡ false = sym (ap (λ b. b || before) (its_own m n is)) ∙ going in cc e)

module _ {P H : Type 0} (step : H → HandlerCall → H → Type 0) (fails : H → Asked → ℕ → Type 0)
    (is_closed is_finished : H → Bool) (inbound_makes outbound_makes : P → ℕ → List ℕ → H → Type 0)
    (eager : ℕ → Bool) (names : List (List ℕ)) (peer : List ℕ) (role : Role) where
  -- what was routed in two parts, of which the first told this
  pub routed_behind : (log newer : List (Entry H)) (before mid after more : List (ConnEvent H)) (fed sent : List ℕ) (session : State) (streams : ℕ → Option (Streaming H))
      (past : List (Earlier H)) (n : ℕ) (rest : List Told) (making later : List (Entry H) → List (Entry H) → Type 0)
      → ((longer : List (Entry H)) → later (newer ++ log) longer → making log longer)
      → said newer ≡ more → mid ≡ before ++ more → events role (items (newer ++ log)) ≡ events role (items log) → KeepsTurn newer
      → Routed step fails is_closed is_finished inbound_makes outbound_makes eager names peer role later (newer ++ log) mid after fed sent session streams past n rest
      → Routed step fails is_closed is_finished inbound_makes outbound_makes eager names peer role making log before after fed sent session streams past n rest
  routed_behind log newer before mid after more fed sent session streams past n rest making later joins first is none_told keeps r = record {
    newer = r.newer ++ newer;
    view = r.view;
    told_is = r.told_is ∙ ap (λ t. t ++ said r.newer) (is ∙ ap (λ t. before ++ t) (sym first)) ∙ append_assoc before (said newer) (said r.newer) ∙ ap (λ t. before ++ t) (sym (said_append r.newer newer));
    untold = ap (λ t. events role (items t)) (append_assoc r.newer newer log) ∙ r.untold ∙ none_told;
    same_turn = same_turns r.newer newer r.same_turn keeps;
    makes = subst (λ t. making log t) (sym (append_assoc r.newer newer log)) (joins (r.newer ++ (newer ++ log)) r.makes);
    routes = subst (λ t. Routes step fails is_closed is_finished inbound_makes outbound_makes eager names peer role t fed sent session streams past n r.view rest)
        (sym (append_assoc r.newer newer log)) r.routes;
  }

  pub routed_on : (log : List (Entry H)) (newer : List (Entry H)) (before after : List (ConnEvent H)) (fed sent : List ℕ) (session : State) (streams : ℕ → Option (Streaming H))
      (past : List (Earlier H)) (n : ℕ) (rest : List Told) (making later : List (Entry H) → List (Entry H) → Type 0)
      → ((longer : List (Entry H)) → later (newer ++ log) longer → making log longer)
      → said newer ≡ [] → events role (items (newer ++ log)) ≡ events role (items log) → KeepsTurn newer
      → Routed step fails is_closed is_finished inbound_makes outbound_makes eager names peer role later (newer ++ log) before after fed sent session streams past n rest
      → Routed step fails is_closed is_finished inbound_makes outbound_makes eager names peer role making log before after fed sent session streams past n rest
  routed_on log newer before after fed sent session streams past n rest making later joins none none_told keeps r =
      routed_behind log newer before before after [] fed sent session streams past n rest making later joins none (sym (append-nil before)) none_told keeps r

  module _ (acts_do : ActsDo) (acts_move : ActsMove) (log : List (Entry H)) (fed sent : List ℕ) (before after : State) (streams now : ℕ → Option (Streaming H))
      (past : List (Earlier H)) (n : ℕ) (view : Seen) (rest : List Told)
      (a : Around step fails is_closed is_finished inbound_makes outbound_makes eager names peer role log fed sent before streams past n view rest)
      (given_up : IsGivenUp n log)
      (elsewhere : (m : ℕ) → (n == m) ≡ false → now m ≡ streams m) (none_here : now n ≡ None) where
    not_going : (then : List (Entry H)) → IsGivenUp n then → is_over role then n ≡ false → ⊥
    not_going [] g going = absurd g
    not_going (Of x ∷ then) g going = absurd g
    not_going (Says (event.Refused m) ∷ then) g going = absurd (over_by m (is_over role then n) g going)
    not_going (Says (event.Broken m cause) ∷ then) g going = absurd (over_by m (is_over role then n) g.0 going)
    not_going (Says (event.Agreed m index) ∷ then) g going = absurd g
    not_going (Says (event.Done m handler) ∷ then) g going = absurd g
    not_going (Says (event.Upgraded key) ∷ then) g going = absurd g
    not_going (Says (event.Fault fault) ∷ then) g going = absurd g
    not_going (Says event.Shut ∷ then) g going = absurd g
    not_going (Made m handler ∷ then) g going = absurd g
    not_going (Asks m index ∷ then) g going = absurd g
    not_going (Calls m call ∷ then) g going = absurd g

    apart : (m : ℕ) → (n == m) ≡ false → Same role log (Of (Did (Reset n)) ∷ log) m
    apart m e = same_by_act acts_do acts_move role log n m (Reset n) refl e

    -- it was live, and was reset
    was_reset : SessionStands role (Did (Reset n) ∷ items log) fed sent after
        → Routes step fails is_closed is_finished inbound_makes outbound_makes eager names peer role (Of (Did (Reset n)) ∷ log) fed sent after now past n (gone view) rest
    was_reset there = record {
      around = grown step fails is_closed is_finished inbound_makes outbound_makes eager names peer role log (Of (Did (Reset n)) ∷ []) fed sent before after streams now past n view (gone view) rest a
          (given_up, a.due) apart there elsewhere (moves_on acts_do role (items log) n view rest (Reset n) refl a.opens_none a.heard) refl (λ m. refl) (λ m. refl) refl (λ m over. over) (refl, tt);
      own = subst (λ (t : Option (Streaming H)). IfSome t (λ it. IsMoving step fails is_closed is_finished inbound_makes outbound_makes eager names peer role
          (Of (Did (Reset n)) ∷ log) n (gone view) rest it)) (sym none_here) tt;
      own_held = λ live. absurd (cc live);
      own_kept = λ made going. absurd (not_going log given_up going);
      own_to_reset = λ reset going. absurd (not_going log given_up going);
    }

    -- it wasn't live
    was_gone : after ≡ before → is_live role (items log) n ≡ false
        → Routes step fails is_closed is_finished inbound_makes outbound_makes eager names peer role log fed sent after now past n (gone view) rest
    was_gone same_session off = record {
      around = grown step fails is_closed is_finished inbound_makes outbound_makes eager names peer role log [] fed sent before after streams now past n view (gone view) rest a a.due
          (λ m e. same_refl role log m) (subst (λ (t : State). SessionStands role (items log) fed sent t) (sym same_session) a.session_stands) elsewhere
          (subst (λ (x : Seen). AgreesOn (seen role (items log) n) x) (sym (gone_first_all n view rest a.opens_none))
          (agrees_gone (seen role (items log) n) (all_heard n view rest) off a.heard)) refl (λ m. refl) (λ m. refl) refl (λ m over. over) tt;
      own = subst (λ (t : Option (Streaming H)). IfSome t (λ it. IsMoving step fails is_closed is_finished inbound_makes outbound_makes eager names peer role log n (gone view) rest it)) (sym none_here) tt;
      own_held = λ live. absurd (cc live);
      own_kept = λ made going. absurd (not_going log given_up going);
      own_to_reset = λ reset going. absurd (not_going log given_up going);
    }

    pub is_given_up : (making : List (Entry H) → List (Entry H) → Type 0) → ((newer : List (Entry H)) → MakesNone newer → said newer ≡ [] → making log (newer ++ log))
        → (told told_now : List (ConnEvent H)) → told_now ≡ told → Resets role (items log) fed sent n before after
        → Routed step fails is_closed is_finished inbound_makes outbound_makes eager names peer role making log told told_now fed sent after now past n rest
    is_given_up making keeps told told_now same_told (inl there) = record {
      newer = Of (Did (Reset n)) ∷ [];
      view = gone view;
      told_is = same_told ∙ sym (append-nil told);
      untold = append-nil (events role (items log));
      same_turn = tt;
      makes = keeps (Of (Did (Reset n)) ∷ []) tt refl;
      routes = was_reset there;
    }
    is_given_up making keeps told told_now same_told (inr over) = record {
      newer = [];
      view = gone view;
      told_is = same_told ∙ sym (append-nil told);
      untold = refl;
      same_turn = tt;
      makes = keeps [] tt refl;
      routes = was_gone over.0 over.1;
    }
