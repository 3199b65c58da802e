-- What a frame told was routed: all streams are at rest again.
use Rattle.std.proofs.Common.{◌≡◌, ◌≢◌, ◌⊎◌, inl, inr, ℕ, ◌==◌, ◌||◌, Bool, true, false, List, [], ◌∷◌, ◌++◌, Option, Some, None, refl, sym, ap, ◌∙◌, subst}
use Rattle.std.specs.List.{AllByRecursion}
use Rattle.std.specs.Prelude.{IfSome, IsSome}
use Rattle.std.proofs.lemmas.List.{append-nil}
use Rattle.std.proofs.lemmas.Bool.Decides.{eqb_tells}
use Rattle.handlers.specs.Calls.{HandlerCall, Asked}
use Rattle.yamux_session.specs.declared.event.Role.{Role}
use Rattle.yamux_session.specs.Openings.{is_live, finished}
use Rattle.yamux_session.specs.Events.{Told}
use Rattle.yamux_session.specs.Seen.{Seen, seen, hears, all_heard, AgreesOn, IsQuiet}
use Rattle.yamux_session.specs.State.{State}
use Rattle.streams.specs.State.{Streaming}
use Rattle.conn_log.specs.declared.earlier.Earlier.{Earlier}
use Rattle.conn_log.specs.declared.event.ConnEvent.{ConnEvent}
use Rattle.conn_log.specs.Entries.{Entry, items, said, is_over, made_of}
use Rattle.conn_log.specs.Due.{told_reset, was_reset, told_end}
use Rattle.conn_log.specs.Held.{IsAtRest}
use Rattle.conn_log.specs.Rests.{AreAtRest, Grows}
use Rattle.conn_log.specs.Routes.{IsStill, EndsLast, IsMoving, Routes, Routed, Awaits, IsUnderWay}
use Rattle.conn_log.proofs.Turning.{turn_unasked, rested_on}
use Rattle.conn_log.proofs.Settling.{routed_behind}

-- whether the end came: of a live stream it was told, and one that is live no more had ended
pub end_agrees : (is heard : Seen) → AgreesOn is heard → (heard.live ≡ false → heard.ended ≡ true) → is.ended ≡ heard.ended
end_agrees is heard a over = by_live is.live refl where
  by_live : (b : Bool) → is.live ≡ b → is.ended ≡ heard.ended
  by_live true e = a.live_ended e
  by_live false e = let ended : heard.ended ≡ true = over (sym a.live ∙ e) in a.ended ended ∙ sym ended

still_hears : (n : ℕ) (s : Seen) (t : Told) → IsStill t → hears n s t ≡ s
still_hears n s (Told.Accepted m) is = refl
still_hears n s (Told.GoAway code) is = refl
still_hears n s (Told.Fault fault) is = refl
still_hears n s (Told.Opened m) is = absurd is
still_hears n s (Told.Payload m b) is = absurd is
still_hears n s (Told.Ended m) is = absurd is
still_hears n s (Told.Reset m) is = absurd is
still_hears n s (Told.Credit m) is = absurd is

still_reset : (m : ℕ) (t : Told) (rest : List Told) → IsStill t → told_reset m (t ∷ rest) ≡ told_reset m rest
still_reset m (Told.Accepted k) rest is = refl
still_reset m (Told.GoAway code) rest is = refl
still_reset m (Told.Fault fault) rest is = refl
still_reset m (Told.Opened k) rest is = absurd is
still_reset m (Told.Payload k b) rest is = absurd is
still_reset m (Told.Ended k) rest is = absurd is
still_reset m (Told.Reset k) rest is = absurd is
still_reset m (Told.Credit k) rest is = absurd is

still_end : (m : ℕ) (t : Told) (rest : List Told) → IsStill t → told_end m (t ∷ rest) ≡ told_end m rest
still_end m (Told.Accepted k) rest is = refl
still_end m (Told.GoAway code) rest is = refl
still_end m (Told.Fault fault) rest is = refl
still_end m (Told.Opened k) rest is = absurd is
still_end m (Told.Payload k b) rest is = absurd is
still_end m (Told.Ended k) rest is = absurd is
still_end m (Told.Reset k) rest is = absurd is
still_end m (Told.Credit k) rest is = absurd is

still_ends : (ended : Bool) (t : Told) (rest : List Told) → IsStill t → EndsLast ended (t ∷ rest) → EndsLast ended rest
still_ends ended (Told.Accepted m) rest is last = last
still_ends ended (Told.GoAway code) rest is last = last
still_ends ended (Told.Fault fault) rest is last = last
still_ends ended (Told.Opened m) rest is last = absurd is
still_ends ended (Told.Payload m b) rest is last = absurd is
still_ends ended (Told.Ended m) rest is last = absurd is
still_ends ended (Told.Reset m) rest is last = absurd is
still_ends ended (Told.Credit m) rest is last = absurd is

still_quiet : (n : ℕ) (t : Told) → IsStill t → IsQuiet n t
still_quiet n (Told.Accepted m) is = tt
still_quiet n (Told.GoAway code) is = tt
still_quiet n (Told.Fault fault) is = tt
still_quiet n (Told.Opened m) is = absurd is
still_quiet n (Told.Payload m b) is = absurd is
still_quiet n (Told.Ended m) is = absurd is
still_quiet n (Told.Reset m) is = absurd is
still_quiet n (Told.Credit m) is = absurd is

module _ {P H : Type 0} (step : H → HandlerCall → H → Type 0) (fails : H → Asked → ℕ → Type 0)
    (is_closed is_finished : H → Bool) (inbound_makes outbound_makes : P → ℕ → List ℕ → H → Type 0)
    (eager : ℕ → Bool) (names : List (List ℕ)) (peer : List ℕ) (role : Role) where
  -- what asks nothing of the stream is passed over
  pub passed_over : (log : List (Entry H)) (fed sent : List ℕ) (session : State) (streams : ℕ → Option (Streaming H)) (past : List (Earlier H)) (n : ℕ) (view : Seen) (t : Told)
      (rest : List Told) → IsStill t
      → Routes step fails is_closed is_finished inbound_makes outbound_makes eager names peer role log fed sent session streams past n view (t ∷ rest)
      → Routes step fails is_closed is_finished inbound_makes outbound_makes eager names peer role log fed sent session streams past n view rest
  passed_over log fed sent session streams past n view t rest is r = record {
    around = record {
      session_stands = r.around.session_stands;
      due = r.around.due;
      others = r.around.others;
      others_held = r.around.others_held;
      others_kept = r.around.others_kept;
      resets_told = λ m. subst (λ b. was_reset role (items log) m ≡ true → (is_over role log m ≡ true) ⊎ (b ≡ true)) (still_reset m t rest is) (r.around.resets_told m);
      reset_came = subst (λ b. b ≡ true → was_reset role (items log) n ≡ true) (still_reset n t rest is) r.around.reset_came;
      end_told = λ told. r.around.end_told (still_end n t rest is ∙ told);
      end_came = λ reset. ap (λ b. view.ended || b) (sym (still_end n t rest is)) ∙ r.around.end_came (still_reset n t rest is ∙ reset);
      heard = subst (λ (x : Seen). AgreesOn (seen role (items log) n) (all_heard n x rest)) (still_hears n view t is) r.around.heard;
      opens_none = r.around.opens_none.1;
      ends_last = still_ends view.ended t rest is r.around.ends_last;
      earlier = r.around.earlier;
      past_is = r.around.past_is;
      in_turn = r.around.in_turn;
      turn_is = r.around.turn_is;
    };
    own = goes_on (streams n) r.own;
    own_held = r.own_held;
    own_kept = r.own_kept;
    own_to_reset = subst (λ b. b ≡ true → is_over role log n ≡ false → IsSome (streams n)) (still_reset n t rest is) r.own_to_reset;
  } where
    behind : {Q : Type 0} → AllByRecursion (IsQuiet n) (t ∷ rest) ⊎ Q → AllByRecursion (IsQuiet n) rest ⊎ Q
    behind (inl none) = inl none.1
    behind (inr other) = inr other

    goes_on : (s : Option (Streaming H)) → IfSome s (λ it. IsMoving step fails is_closed is_finished inbound_makes outbound_makes eager names peer role log n view (t ∷ rest) it)
        → IfSome s (λ it. IsMoving step fails is_closed is_finished inbound_makes outbound_makes eager names peer role log n view rest it)
    goes_on None own = tt
    goes_on (Some it) own = record { held = own.held; unfinished = own.unfinished; over_by_end = own.over_by_end; anew = behind own.anew; handed = own.handed; settled = λ quiet live. own.settled (still_quiet n t is, quiet) live; asked = λ quiet. own.asked (still_quiet n t is, quiet) }

  -- ---- event by event

  module _ (log : List (Entry H)) (before mid after : List (ConnEvent H)) (fed sent : List ℕ) (session middle : State) (streams then : ℕ → Option (Streaming H)) (past later : List (Earlier H)) (n : ℕ)
      (told rest : List Told) (making : List (Entry H) → List (Entry H) → Type 0) where
    pub begun : making log log → mid ≡ before → Awaits step fails is_closed is_finished inbound_makes outbound_makes eager names peer role log fed sent session streams past n told
        → IsUnderWay step fails is_closed is_finished inbound_makes outbound_makes eager names peer role making log before mid fed sent session streams past n told
    begun makes same a = record { newer = []; told_is = same ∙ sym (append-nil before); untold = refl; same_turn = tt; makes = makes; awaits = a }

    -- one more was routed
    pub went_on : (so_far one : List (Entry H) → List (Entry H) → Type 0)
        → ((longer last : List (Entry H)) → so_far log longer → one longer last → making log last)
        → (u : IsUnderWay step fails is_closed is_finished inbound_makes outbound_makes eager names peer role so_far log before mid fed sent session streams past n told)
        → Routed step fails is_closed is_finished inbound_makes outbound_makes eager names peer role one (u.newer ++ log) mid after fed sent middle then later n rest
        → IsUnderWay step fails is_closed is_finished inbound_makes outbound_makes eager names peer role making log before after fed sent middle then later n rest
    went_on so_far one joins u r =
        let both = routed_behind step fails is_closed is_finished inbound_makes outbound_makes eager names peer role log u.newer before mid after (said u.newer) fed sent middle then later n rest
        making one (λ last made. joins (u.newer ++ log) last u.makes made) refl u.told_is u.untold u.same_turn r in
        record { newer = both.newer; told_is = both.told_is; untold = both.untold; same_turn = both.same_turn; makes = both.makes; awaits = inr (inl (both.view, both.routes)) }

  -- ---- behind the last

  module _ (log : List (Entry H)) (fed sent : List ℕ) (session : State) (streams : ℕ → Option (Streaming H)) (past : List (Earlier H)) (n : ℕ) where
    at_rest_now : (view : Seen) (it : Streaming H) → AgreesOn (seen role (items log) n) view
        → IsMoving step fails is_closed is_finished inbound_makes outbound_makes eager names peer role log n view [] it → IsAtRest step is_closed is_finished names role log n it
    at_rest_now view it a m =
        let ended : finished role (items log) n ≡ view.ended = end_agrees (seen role (items log) n) view a m.over_by_end in
        record {
          held = record {
            so_far = m.held.so_far;
            side_is = m.held.side_is;
            got_is = m.held.got_is ∙ sym a.came;
            ended_is = m.held.ended_is ∙ sym ended;
            sent_is = m.held.sent_is;
            made_is = m.held.made_is;
            calls_is = m.held.calls_is;
            stands = m.held.stands;
            talking = m.held.talking;
            agreed_on = m.held.agreed_on;
            over = m.held.over;
            done = m.held.done;
            served = m.held.served;
          };
          settled = λ live. m.settled tt live;
          asked = m.asked tt;
          unfinished = m.unfinished;
          handed = m.handed;
          over_by_end = λ off. ended ∙ m.over_by_end (sym a.live ∙ off);
        }

    own_at_rest : (view : Seen) (s : Option (Streaming H)) → AgreesOn (seen role (items log) n) view
        → IfSome s (λ it. IsMoving step fails is_closed is_finished inbound_makes outbound_makes eager names peer role log n view [] it)
        → IfSome s (λ it. IsAtRest step is_closed is_finished names role log n it)
    own_at_rest view None a own = tt
    own_at_rest view (Some it) a own = at_rest_now view it a own

    pub rested : (view : Seen) → Routes step fails is_closed is_finished inbound_makes outbound_makes eager names peer role log fed sent session streams past n view []
        → AreAtRest step fails is_closed is_finished inbound_makes outbound_makes eager names peer role log fed sent session streams past
    rested view r = record {
      session_stands = r.around.session_stands;
      due = r.around.due;
      in_turn = r.around.in_turn;
      each = λ m. each_at m (eqb_tells n m);
      live_held = λ m live. live_at m (eqb_tells n m) live;
      made_held = λ m made going. made_at m (eqb_tells n m) made going;
      resets_told = λ m was. over_at m (r.around.resets_told m was);
      earlier = r.around.earlier;
      past_is = r.around.past_is;
    } where
      over_at : (m : ℕ) → (is_over role log m ≡ true) ⊎ (false ≡ true) → is_over role log m ≡ true
      over_at m (inl over) = over
      over_at m (inr none) = absurd (cc none)

      each_at : (m : ℕ) → (((n == m) ≡ true) × (n ≡ m)) ⊎ (((n == m) ≡ false) × (n ≢ m)) → IfSome (streams m) (λ it. IsAtRest step is_closed is_finished names role log m it)
      each_at m (inl same) = subst (λ (k : ℕ). IfSome (streams k) (λ it. IsAtRest step is_closed is_finished names role log k it)) same.1 (own_at_rest view (streams n) r.around.heard r.own)
      each_at m (inr apart) = r.around.others m apart.0

      live_at : (m : ℕ) → (((n == m) ≡ true) × (n ≡ m)) ⊎ (((n == m) ≡ false) × (n ≢ m)) → is_live role (items log) m ≡ true → IsSome (streams m)
      live_at m (inl same) live = subst (λ (k : ℕ). IsSome (streams k)) same.1 (r.own_held (sym r.around.heard.live ∙ ap (λ k. is_live role (items log) k) same.1 ∙ live))
      live_at m (inr apart) live = r.around.others_held m apart.0 live

      made_at : (m : ℕ) → (((n == m) ≡ true) × (n ≡ m)) ⊎ (((n == m) ≡ false) × (n ≢ m)) → made_of role log m ≢ None → is_over role log m ≡ false → IsSome (streams m)
      made_at m (inl same) made going = subst (λ (k : ℕ). IsSome (streams k)) same.1
          (r.own_kept (λ none. made (ap (λ k. made_of role log k) (sym same.1) ∙ none)) (ap (λ k. is_over role log k) same.1 ∙ going))
      made_at m (inr apart) made going = r.around.others_kept m apart.0 made going

  pub all_routed : (making : List (Entry H) → List (Entry H) → Type 0) (log : List (Entry H)) (before after : List (ConnEvent H)) (fed sent : List ℕ) (session : State) (streams : ℕ → Option (Streaming H)) (past : List (Earlier H)) (n : ℕ)
      → IsUnderWay step fails is_closed is_finished inbound_makes outbound_makes eager names peer role making log before after fed sent session streams past n []
      → Grows step fails is_closed is_finished inbound_makes outbound_makes eager names peer role making log before after fed sent session streams past
  all_routed making log before after fed sent session streams past n u = by_cases u.awaits where
    grows : AreAtRest step fails is_closed is_finished inbound_makes outbound_makes eager names peer role (u.newer ++ log) fed sent session streams past
        → Grows step fails is_closed is_finished inbound_makes outbound_makes eager names peer role making log before after fed sent session streams past
    grows at_rest = record {
      newer = u.newer;
      told_is = u.told_is;
      unasked = turn_unasked u.newer u.same_turn;
      makes = u.makes;
      rested = rested_on step fails is_closed is_finished inbound_makes outbound_makes eager names peer role u.newer log u.same_turn;
      at_rest = at_rest;
    }

    by_cases : Awaits step fails is_closed is_finished inbound_makes outbound_makes eager names peer role (u.newer ++ log) fed sent session streams past n []
        → Grows step fails is_closed is_finished inbound_makes outbound_makes eager names peer role making log before after fed sent session streams past
    by_cases (inl o) = absurd (let e : [] ≡ Told.Opened n ∷ o.0 = o.1 in cc e)
    by_cases (inr (inl r)) = grows (rested (u.newer ++ log) fed sent session streams past n r.0 r.1)
    by_cases (inr (inr r)) = grows r.1
