-- Where the streams stand once the other end's opening of one of them was told.
use Rattle.std.proofs.Common.{◌≡◌, ℕ, ◌==◌, Bool, true, false, not, ◌&&◌, cond, List, [], ◌∷◌, ◌++◌, map, Option, None, refl, sym, ap, ◌∙◌, subst}
use Rattle.std.specs.Prelude.{IfSome, IsSome}
use Rattle.std.specs.List.{AllByRecursion}
use Rattle.handlers.specs.Calls.{HandlerCall, Asked}
use Rattle.talks.specs.Talks.{Answers}
use Rattle.yamux_session.specs.declared.event.Role.{Role}
use Rattle.yamux_session.specs.History.{is_own}
use Rattle.yamux_session.specs.Events.{Told}
use Rattle.yamux_session.specs.Seen.{Seen, hears, all_heard, just_opened}
use Rattle.yamux_session.specs.State.{State}
use Rattle.streams.specs.Streams.{fresh}
use Rattle.streams.specs.State.{Streaming, Stands, is_talking}
use Rattle.conn_log.specs.declared.earlier.Earlier.{Earlier}
use Rattle.conn_log.specs.Entries.{Entry, since, agreed_in, over_in, done_in, made_in, calls_in}
use Rattle.conn_log.specs.Held.{IsHeld, IsAtRest, AreLeft, earlier_of}
use Rattle.conn_log.specs.Routes.{IsNoOpening, Around, set_aside}
use Rattle.serving.proofs.StageKinds.{talking_kind, talking_awaits}

-- what is heard changes nothing of what was sent
pub sent_stays : (n : ℕ) (view : Seen) (rest : List Told) → AllByRecursion (IsNoOpening n) rest → (all_heard n view rest).sent ≡ view.sent
sent_stays n view [] none = refl
sent_stays n view (t ∷ rest) none = sent_stays n (hears n view t) rest none.1 ∙ kept t none.0 where
  by_test : (b : Bool) (other : Seen) → other.sent ≡ view.sent → (cond b other view).sent ≡ view.sent
  by_test true other e = e
  by_test false other e = refl

  kept : (t : Told) → IsNoOpening n t → (hears n view t).sent ≡ view.sent
  kept (Told.Opened m) e = ap (λ b. (cond b just_opened view).sent) e
  kept (Told.Payload m b) e = by_test (m == n) (record view { came = view.came ++ b ∷ [] }) refl
  kept (Told.Ended m) e = by_test (m == n) (record view { ended = true; live = view.live && not view.closed }) refl
  kept (Told.Reset m) e = by_test (m == n) (record view { live = false }) refl
  kept (Told.Accepted m) e = refl
  kept (Told.Credit m) e = refl
  kept (Told.GoAway code) e = refl
  kept (Told.Fault fault) e = refl

module _ {P H : Type 0} (step : H → HandlerCall → H → Type 0) (fails : H → Asked → ℕ → Type 0)
    (is_closed is_finished : H → Bool) (inbound_makes outbound_makes : P → ℕ → List ℕ → H → Type 0)
    (eager : ℕ → Bool) (names : List (List ℕ)) (peer : List ℕ) (role : Role) (log : List (Entry H)) (fed sent : List ℕ) (session : State) (streams now : ℕ → Option (Streaming H))
    (past later : List (Earlier H)) (n : ℕ) (rest : List Told)
    (a : Around step fails is_closed is_finished inbound_makes outbound_makes eager names peer role log fed sent session streams (past ++ set_aside n (streams n)) n just_opened rest) where
  -- the other streams stay, and that of an earlier opening is put aside
  pub put_aside : ((m : ℕ) → (n == m) ≡ false → now m ≡ streams m) → later ≡ past ++ set_aside n (streams n)
      → Around step fails is_closed is_finished inbound_makes outbound_makes eager names peer role log fed sent session now later n just_opened rest
  put_aside elsewhere aside = record {
    session_stands = a.session_stands;
    due = a.due;
    others = λ m apart. subst (λ (t : Option (Streaming H)). IfSome t (λ it. IsAtRest step is_closed is_finished names role log m it)) (sym (elsewhere m apart)) (a.others m apart);
    others_held = λ m apart live. subst (λ (t : Option (Streaming H)). IsSome t) (sym (elsewhere m apart)) (a.others_held m apart live);
    others_kept = λ m apart made going. subst (λ (t : Option (Streaming H)). IsSome t) (sym (elsewhere m apart)) (a.others_kept m apart made going);
    resets_told = a.resets_told;
    reset_came = a.reset_came;
    end_told = a.end_told;
    end_came = a.end_came;
    heard = a.heard;
    opens_none = a.opens_none;
    ends_last = a.ends_last;
    earlier = λ m. subst (λ (t : List (Earlier H)). AreLeft step is_closed is_finished names role log m 0 (earlier_of m t)) (sym aside) (a.earlier m);
    past_is = ap (λ (t : List (Earlier H)). map (λ (it : Earlier H). it.number) t) aside ∙ a.past_is;
    in_turn = a.in_turn;
    turn_is = a.turn_is;
  }

  -- the new stream answers, and nothing has come yet
  pub is_fresh : (stream : Streaming H) (known : List (List ℕ)) → known ≡ names → Stands step stream (fresh (Answers known) None) → is_talking stream.stage ≡ true → since role log n ≡ []
      → is_own role n ≡ false → IsHeld step is_closed is_finished names role log n [] false stream
  is_fresh stream known is stands talks none theirs = record {
    so_far = fresh (Answers known) None;
    side_is = (theirs, is);
    got_is = refl;
    ended_is = refl;
    sent_is = sym (a.heard.sent ∙ sent_stays n just_opened rest a.opens_none);
    made_is = sym (ap (made_in n) none);
    calls_is = sym (ap (calls_in n) none);
    stands = stands;
    talking = λ it. ap (agreed_in n) none;
    agreed_on = λ off. absurd (let e : true ≡ false = sym talks ∙ off in cc e);
    over = ap (over_in n) none ∙ sym (talking_kind stream.stage talks);
    done = ap (done_in n) none ∙ sym (talking_kind stream.stage talks);
    served = talking_awaits stream.stage talks;
  }
