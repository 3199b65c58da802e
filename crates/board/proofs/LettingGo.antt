-- A stream that is live no more, and whose handler was handed out, is let go: all is at rest still.
use Rattle.std.proofs.Common.{◌≡◌, ◌≢◌, ◌⊎◌, inl, inr, ℕ, ◌==◌, Bool, true, false, List, Option, Some, None, sym, ap, ◌∙◌, subst}
use Rattle.std.specs.Prelude.{IfSome, IsSome}
use Rattle.std.proofs.lemmas.Bool.Decides.{eqb_tells}
use Rattle.handlers.specs.Calls.{HandlerCall, Asked}
use Rattle.yamux_session.specs.declared.event.Role.{Role}
use Rattle.yamux_session.specs.Openings.{is_live}
use Rattle.yamux_session.specs.State.{State}
use Rattle.streams.specs.State.{Streaming, was_handed_out}
use Rattle.conn_log.specs.declared.earlier.Earlier.{Earlier}
use Rattle.conn_log.specs.Entries.{Entry, items, is_over, made_of}
use Rattle.conn_log.specs.Held.{IsAtRest}
use Rattle.conn_log.specs.Rests.{AreAtRest}

module _ {P H : Type 0} (step : H → HandlerCall → H → Type 0) (fails : H → Asked → ℕ → Type 0)
    (is_closed is_finished : H → Bool) (inbound_makes outbound_makes : P → ℕ → List ℕ → H → Type 0)
    (eager : ℕ → Bool) (names : List (List ℕ)) (peer : List ℕ) (role : Role) (log : List (Entry H)) (fed sent : List ℕ) (session : State)
    (streams now : ℕ → Option (Streaming H)) (past : List (Earlier H)) (n : ℕ) (it : Streaming H) where
  pub let_go : AreAtRest step fails is_closed is_finished inbound_makes outbound_makes eager names peer role log fed sent session streams past
      → streams n ≡ Some it → was_handed_out it.stage ≡ true → is_live role (items log) n ≡ false
      → ((m : ℕ) → (n == m) ≡ false → now m ≡ streams m) → now n ≡ None
      → AreAtRest step fails is_closed is_finished inbound_makes outbound_makes eager names peer role log fed sent session now past
  let_go r held out dead elsewhere here = record {
    session_stands = r.session_stands;
    due = r.due;
    in_turn = r.in_turn;
    each = λ m. each_at m (eqb_tells n m);
    live_held = λ m. live_at m (eqb_tells n m);
    made_held = λ m. made_at m (eqb_tells n m);
    resets_told = r.resets_told;
    earlier = r.earlier;
    past_is = r.past_is;
  } where
    over : is_over role log n ≡ true
    over = (subst (λ (t : Option (Streaming H)). IfSome t (λ x. IsAtRest step is_closed is_finished names role log n x)) held (r.each n)).held.over ∙ out

    not_both : {b : Bool} → b ≡ true → b ≡ false → ⊥
    not_both on off = absurd (let e : true ≡ false = sym on ∙ off in cc e)

    each_at : (m : ℕ) → (((n == m) ≡ true) × (n ≡ m)) ⊎ (((n == m) ≡ false) × (n ≢ m)) → IfSome (now m) (λ x. IsAtRest step is_closed is_finished names role log m x)
    each_at m (inl same) = subst (λ (t : Option (Streaming H)). IfSome t (λ x. IsAtRest step is_closed is_finished names role log m x)) (sym (ap now (sym same.1) ∙ here)) tt
    each_at m (inr apart) = subst (λ (t : Option (Streaming H)). IfSome t (λ x. IsAtRest step is_closed is_finished names role log m x)) (sym (elsewhere m apart.0)) (r.each m)

    live_at : (m : ℕ) → (((n == m) ≡ true) × (n ≡ m)) ⊎ (((n == m) ≡ false) × (n ≢ m)) → is_live role (items log) m ≡ true → IsSome (now m)
    live_at m (inl same) live = absurd (not_both live (ap (λ k. is_live role (items log) k) (sym same.1) ∙ dead))
    live_at m (inr apart) live = subst (λ (t : Option (Streaming H)). IsSome t) (sym (elsewhere m apart.0)) (r.live_held m live)

    made_at : (m : ℕ) → (((n == m) ≡ true) × (n ≡ m)) ⊎ (((n == m) ≡ false) × (n ≢ m)) → made_of role log m ≢ None → is_over role log m ≡ false → IsSome (now m)
    made_at m (inl same) made going = absurd (not_both over (ap (λ k. is_over role log k) same.1 ∙ going))
    made_at m (inr apart) made going = subst (λ (t : Option (Streaming H)). IsSome t) (sym (elsewhere m apart.0)) (r.made_held m made going)
