-- The list has grown by entries about one stream: all others are at rest as before.
use Rattle.std.proofs.Common.{◌≡◌, ◌⊎◌, inl, inr, ℕ, ◌==◌, ◌||◌, Bool, true, false, List, [], ◌++◌, Option, Some, None, refl, sym, ap, ◌∙◌, subst}
use Rattle.std.specs.Prelude.{IfSome, IsSome}
use Rattle.std.specs.List.{AllByRecursion}
use Rattle.handlers.specs.Calls.{HandlerCall, Asked}
use Rattle.yamux_session.specs.declared.event.Role.{Role}
use Rattle.yamux_session.specs.Events.{Told}
use Rattle.yamux_session.specs.Seen.{Seen, seen, all_heard, AgreesOn}
use Rattle.yamux_session.specs.State.{State, Stands as SessionStands}
use Rattle.streams.specs.State.{Streaming}
use Rattle.conn_log.specs.declared.earlier.Earlier.{Earlier}
use Rattle.conn_log.specs.Entries.{Entry, items, is_over, left_behind}
use Rattle.conn_log.specs.Due.{AllDue, told_reset, was_reset, told_end, end_was_told}
use Rattle.conn_log.specs.Held.{IsAtRest, earlier_of}
use Rattle.conn_log.specs.Routes.{EndsLast, Around}
use Rattle.conn_log.proofs.Turning.{IsOnly, turn_on, in_turn_on, aside_on}
use Rattle.conn_log.proofs.Same.{Same, same_refl, at_rest_same, left_same}

pub if_some : {A : Type 0} {P Q : A → Type 0} (r : Option A) → ((x : A) → P x → Q x) → IfSome r P → IfSome r Q
if_some None f p = tt
if_some (Some x) f p = f x p

module _ {P H : Type 0} (step : H → HandlerCall → H → Type 0) (fails : H → Asked → ℕ → Type 0)
    (is_closed is_finished : H → Bool) (inbound_makes outbound_makes : P → ℕ → List ℕ → H → Type 0)
    (eager : ℕ → Bool) (names : List (List ℕ)) (peer : List ℕ) (role : Role) where
  pub grown : (log newer : List (Entry H)) (fed sent : List ℕ) (before after : State) (streams now : ℕ → Option (Streaming H)) (past : List (Earlier H)) (n : ℕ) (view later : Seen)
      (rest : List Told)
      → Around step fails is_closed is_finished inbound_makes outbound_makes eager names peer role log fed sent before streams past n view rest
      → AllDue step fails is_closed is_finished inbound_makes outbound_makes eager names peer role (newer ++ log)
      → ((m : ℕ) → (n == m) ≡ false → Same role log (newer ++ log) m) → SessionStands role (items (newer ++ log)) fed sent after
      → ((m : ℕ) → (n == m) ≡ false → now m ≡ streams m)
      → AgreesOn (seen role (items (newer ++ log)) n) (all_heard n later rest) → later.ended ≡ view.ended
      → ((m : ℕ) → left_behind role (newer ++ log) m ≡ left_behind role log m)
      → ((m : ℕ) → was_reset role (items (newer ++ log)) m ≡ was_reset role (items log) m)
      → end_was_told role (items (newer ++ log)) n ≡ end_was_told role (items log) n → ((m : ℕ) → is_over role log m ≡ true → is_over role (newer ++ log) m ≡ true)
      → AllByRecursion (IsOnly n) newer
      → Around step fails is_closed is_finished inbound_makes outbound_makes eager names peer role (newer ++ log) fed sent after now past n later rest
  grown log newer fed sent before after streams now past n view later rest a due others there elsewhere heard ended behind resets ends over only = record {
    session_stands = there;
    due = due;
    others = λ m apart. subst (λ (t : Option (Streaming H)). IfSome t (λ it. IsAtRest step is_closed is_finished names role (newer ++ log) m it)) (sym (elsewhere m apart))
        (if_some (streams m) (λ it. at_rest_same step is_closed is_finished names role log (newer ++ log) m it (others m apart)) (a.others m apart));
    others_held = λ m apart live. subst (λ (t : Option (Streaming H)). IsSome t) (sym (elsewhere m apart))
        (a.others_held m apart (sym (ap (λ (x : Seen). x.live) (others m apart).seen_is) ∙ live));
    others_kept = λ m apart made going. subst (λ (t : Option (Streaming H)). IsSome t) (sym (elsewhere m apart))
        (let s = others m apart in a.others_kept m apart (λ none. made (s.made_is ∙ none)) (sym s.over_is ∙ going));
    resets_told = λ m was. by_over m (a.resets_told m (sym (resets m) ∙ was));
    reset_came = λ told. resets n ∙ a.reset_came told;
    end_told = λ told. ends ∙ a.end_told told;
    end_came = λ told. ap (λ b. b || told_end n rest) ended ∙ a.end_came told ∙ sym ends;
    heard = heard;
    opens_none = a.opens_none;
    ends_last = subst (λ b. EndsLast b rest) (sym ended) a.ends_last;
    earlier = λ m. left_same step is_closed is_finished names role log newer m 0 (earlier_of m past) (behind m) (a.earlier m);
    past_is = a.past_is ∙ sym (aside_on role n newer log only);
    in_turn = in_turn_on n newer log only a.turn_is a.in_turn;
    turn_is = turn_on n newer log only ∙ a.turn_is;
  } where
    by_over : (m : ℕ) → (is_over role log m ≡ true) ⊎ (told_reset m rest ≡ true) → (is_over role (newer ++ log) m ≡ true) ⊎ (told_reset m rest ≡ true)
    by_over m (inl was) = inl (over m was)
    by_over m (inr told) = inr told

  -- nothing was done: at most this stream is another, or is there no more
  pub still : (log : List (Entry H)) (fed sent : List ℕ) (before after : State) (streams now : ℕ → Option (Streaming H)) (past : List (Earlier H)) (n : ℕ) (view : Seen) (rest : List Told)
      → after ≡ before → ((m : ℕ) → (n == m) ≡ false → now m ≡ streams m)
      → Around step fails is_closed is_finished inbound_makes outbound_makes eager names peer role log fed sent before streams past n view rest
      → Around step fails is_closed is_finished inbound_makes outbound_makes eager names peer role log fed sent after now past n view rest
  still log fed sent before after streams now past n view rest same_session elsewhere a =
      grown log [] fed sent before after streams now past n view view rest a a.due (λ m apart. same_refl role log m)
      (subst (λ (t : State). SessionStands role (items log) fed sent t) (sym same_session) a.session_stands) elsewhere a.heard refl (λ m. refl) (λ m. refl) refl (λ m was. was) tt
