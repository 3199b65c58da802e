-- Where the streams stand once the other end's reset of one of them was told.
use Rattle.std.proofs.Common.{◌≡◌, ◌≢◌, ◌⊎◌, inl, inr, ℕ, ◌==◌, Bool, true, false, ◌||◌, cond, List, [], ◌∷◌, Option, None, refl, sym, ap, ◌∙◌, subst}
use Rattle.std.specs.Prelude.{IfSome, IsSome}
use Rattle.std.proofs.lemmas.Bool.Decides.{eqb_tells}
use Rattle.handlers.specs.Calls.{HandlerCall, Asked}
use Rattle.yamux_session.specs.declared.event.Role.{Role}
use Rattle.yamux_session.specs.Data.{inbound}
use Rattle.yamux_session.specs.Events.{Told}
use Rattle.yamux_session.specs.Seen.{Seen, seen, hears, all_heard, AgreesOn}
use Rattle.yamux_session.specs.State.{State}
use Rattle.yamux_session.proofs.Hearing.{or_none}
use Rattle.streams.specs.declared.stop.Cause.TheVariants as causes
use Rattle.streams.specs.State.{Streaming, was_handed_out}
use Rattle.conn_log.specs.declared.earlier.Earlier.{Earlier}
use Rattle.conn_log.specs.declared.event.ConnEvent.TheVariants as event
use Rattle.conn_log.specs.Entries.{Entry, items, is_over}
use Rattle.conn_log.specs.Entries.Entry.{Says}
use Rattle.conn_log.specs.Due.{IsDue, told_reset, end_was_told}
use Rattle.conn_log.specs.Held.{IsHeld, IsAtRest}
use Rattle.conn_log.specs.Routes.{EndsLast, IsMoving, Around, Routes}
use Rattle.conn_log.proofs.Views.{same, gone, none_behind}
use Rattle.conn_log.proofs.Comes.{around_event}
use Rattle.conn_log.proofs.Ends.{none_ends}

-- what ends last behind the end does so before it
last_first : (ended : Bool) (rest : List Told) → EndsLast true rest → EndsLast ended rest
last_first true rest last = last
last_first false [] last = tt
last_first false (Told.Opened m ∷ rest) last = last_first false rest last
last_first false (Told.Payload m b ∷ rest) last = absurd (let e = last.0 in cc e)
last_first false (Told.Ended m ∷ rest) last = absurd (let e = last.0 in cc e)
last_first false (Told.Reset m ∷ rest) last = last
last_first false (Told.Accepted m ∷ rest) last = last_first false rest last
last_first false (Told.Credit m ∷ rest) last = (last_first false rest last.0, last.1)
last_first false (Told.GoAway code ∷ rest) last = last_first false rest last
last_first false (Told.Fault fault ∷ rest) last = last_first false rest last

heard_reset : (n : ℕ) (view : Seen) → hears n view (Told.Reset n) ≡ gone view
heard_reset n view = ap (λ b. cond b (record view { live = false }) view) (same n)

module _ {P H : Type 0} (step : H → HandlerCall → H → Type 0) (fails : H → Asked → ℕ → Type 0)
    (is_closed is_finished : H → Bool) (inbound_makes outbound_makes : P → ℕ → List ℕ → H → Type 0)
    (eager : ℕ → Bool) (names : List (List ℕ)) (peer : List ℕ) (role : Role) (log : List (Entry H)) (fed sent : List ℕ) (session : State) (streams now : ℕ → Option (Streaming H))
    (past : List (Earlier H)) (n : ℕ) (view : Seen) (rest : List Told)
    (a : Around step fails is_closed is_finished inbound_makes outbound_makes eager names peer role log fed sent session streams past n view (Told.Reset n ∷ rest))
    (over : is_over role log n ≡ true) (elsewhere : (m : ℕ) → (n == m) ≡ false → now m ≡ streams m) (none_here : now n ≡ None) where
  reset_came : Around step fails is_closed is_finished inbound_makes outbound_makes eager names peer role log fed sent session now past n (gone view) rest
  reset_came = record {
    session_stands = a.session_stands;
    due = a.due;
    others = λ m apart. subst (λ (t : Option (Streaming H)). IfSome t (λ it. IsAtRest step is_closed is_finished names role log m it)) (sym (elsewhere m apart)) (a.others m apart);
    others_held = λ m apart live. subst (λ (t : Option (Streaming H)). IsSome t) (sym (elsewhere m apart)) (a.others_held m apart live);
    others_kept = λ m apart made going. subst (λ (t : Option (Streaming H)). IsSome t) (sym (elsewhere m apart)) (a.others_kept m apart made going);
    resets_told = λ m was. by_number m (eqb_tells n m) (a.resets_told m was);
    reset_came = λ told. a.reset_came (ap (λ b. b || told_reset n rest) (same n));
    end_told = a.end_told;
    end_came = λ told. a.end_came (ap (λ b. b || told_reset n rest) (same n));
    heard = subst (λ (x : Seen). AgreesOn (seen role (items log) n) (all_heard n x rest)) (heard_reset n view) a.heard;
    opens_none = a.opens_none.1;
    ends_last = last_first view.ended rest a.ends_last;
    earlier = a.earlier;
    past_is = a.past_is;
    in_turn = a.in_turn;
    turn_is = a.turn_is;
  } where
    by_number : (m : ℕ) → (((n == m) ≡ true) × (n ≡ m)) ⊎ (((n == m) ≡ false) × (n ≢ m)) → (is_over role log m ≡ true) ⊎ ((n == m) || told_reset m rest ≡ true)
        → (is_over role log m ≡ true) ⊎ (told_reset m rest ≡ true)
    by_number m at (inl was) = inl was
    by_number m (inl here) (inr told) = inl (ap (is_over role log) (sym here.1) ∙ over)
    by_number m (inr apart) (inr told) = inr (sym (ap (λ b. b || told_reset m rest) apart.0) ∙ told)

  going_on : is_over role log n ≡ false → ⊥
  going_on going = absurd (let e : true ≡ false = sym over ∙ going in cc e)

  -- a stream of which the last was told is told of no more
  pub forgotten : Routes step fails is_closed is_finished inbound_makes outbound_makes eager names peer role log fed sent session now past n (gone view) rest
  forgotten = record {
    around = reset_came;
    own = subst (λ (t : Option (Streaming H)). IfSome t (λ it. IsMoving step fails is_closed is_finished inbound_makes outbound_makes eager names peer role log n (gone view) rest it)) (sym none_here) tt;
    own_held = λ live. absurd (cc live);
    own_kept = λ made going. absurd (going_on going);
    own_to_reset = λ reset going. absurd (going_on going);
  }

module _ {P H : Type 0} (step : H → HandlerCall → H → Type 0) (fails : H → Asked → ℕ → Type 0)
    (is_closed is_finished : H → Bool) (inbound_makes outbound_makes : P → ℕ → List ℕ → H → Type 0)
    (eager : ℕ → Bool) (names : List (List ℕ)) (peer : List ℕ) (role : Role) (log : List (Entry H)) (fed sent : List ℕ) (session : State) (streams now : ℕ → Option (Streaming H))
    (past : List (Earlier H)) (n : ℕ) (view : Seen) (rest : List Told)
    (a : Around step fails is_closed is_finished inbound_makes outbound_makes eager names peer role log fed sent session streams past n view (Told.Reset n ∷ rest)) where
  -- no data comes behind the reset
  all_came : inbound role (items log) n ≡ view.came
  all_came = a.heard.came ∙ none_behind n (hears n view (Told.Reset n)) rest a.opens_none.1 a.ends_last ∙ ap (λ (x : Seen). x.came) (heard_reset n view)

  -- nor is the end told behind it
  end_seen : view.ended ≡ end_was_told role (items log) n
  end_seen = sym (ap (λ b. view.ended || b) (none_ends n rest a.ends_last) ∙ or_none view.ended) ∙ a.end_came (ap (λ b. b || told_reset n rest) (same n))

  -- one that is held stood by all that came, and by its end
  broken_due : (old : Streaming H) → IsMoving step fails is_closed is_finished inbound_makes outbound_makes eager names peer role log n view (Told.Reset n ∷ rest) old
      → was_handed_out old.stage ≡ false → IsDue step fails is_closed is_finished inbound_makes outbound_makes eager names peer role log (Says (event.Broken n causes.Reset))
  broken_due old moving held = (
    moving.held.over ∙ held,
    (
      a.reset_came (ap (λ b. b || told_reset n rest) (same n)),
      record {
        stream = old;
        held = subst (λ (b : Bool). IsHeld step is_closed is_finished names role log n (inbound role (items log) n) b old) end_seen
            (subst (λ (t : List ℕ). IsHeld step is_closed is_finished names role log n t view.ended old) (sym all_came) moving.held);
        unfinished = moving.unfinished;
        handed = moving.handed;
      },
    ),
  )

  -- and it is given up
  pub was_broken : (elsewhere : (m : ℕ) → (n == m) ≡ false → now m ≡ streams m) → now n ≡ None → (old : Streaming H)
      → IsMoving step fails is_closed is_finished inbound_makes outbound_makes eager names peer role log n view (Told.Reset n ∷ rest) old → was_handed_out old.stage ≡ false
      → Routes step fails is_closed is_finished inbound_makes outbound_makes eager names peer role (Says (event.Broken n causes.Reset) ∷ log) fed sent session now past n (gone view) rest
  was_broken elsewhere none_here old moving held =
      forgotten step fails is_closed is_finished inbound_makes outbound_makes eager names peer role (Says (event.Broken n causes.Reset) ∷ log) fed sent session streams now past n view rest
      (around_event step fails is_closed is_finished inbound_makes outbound_makes eager names peer role log fed sent session streams past n view (Told.Reset n ∷ rest) (event.Broken n causes.Reset) refl
      (broken_due old moving held) a)
      (ap (λ b. b || is_over role log n) (same n)) elsewhere none_here
