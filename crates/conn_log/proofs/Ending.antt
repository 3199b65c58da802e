-- Where the streams stand once the end of one of them was told.
use Rattle.std.proofs.Common.{◌≡◌, inl, inr, ℕ, ◌==◌, Bool, true, false, not, ◌&&◌, ◌||◌, cond, List, [], ◌∷◌, Option, Some, None, refl, sym, ap, ◌∙◌, subst}
use Rattle.std.specs.List.{AllByRecursion}
use Rattle.std.proofs.lemmas.List.{append-nil}
use Rattle.handlers.specs.Calls.{HandlerCall, End, Asked, ToEnd}
use Rattle.handlers.specs.declared.handler.HandlerFault.{HandlerFault}
use Rattle.talks.specs.Talks.{IsOpen}
use Rattle.yamux_session.specs.declared.event.Role.{Role}
use Rattle.yamux_session.specs.Openings.{finished, is_live}
use Rattle.yamux_session.specs.Data.{inbound}
use Rattle.yamux_session.specs.Events.{Told}
use Rattle.yamux_session.specs.Seen.{Seen, seen, hears, all_heard, AgreesOn, ActsDo, ActsMove}
use Rattle.yamux_session.specs.State.{State}
use Rattle.streams.specs.declared.stop.Cause.TheVariants as causes
use Rattle.streams.specs.declared.stage.Stage.{Stage}
use Rattle.streams.specs.declared.stage.Stage.TheVariants as stages
use Rattle.streams.specs.Streams.{Past, with_call}
use Rattle.streams.specs.State.{Streaming, Stands, StandsAt, is_talking, handler_of, is_open as asks_open, has_finished, was_handed_out, answering, kind_of, Served}
use Rattle.serving.specs.Served.{AnswersCall, IsSettled}
use Rattle.streams.proofs.Hearing.{open_before}
use Rattle.routing.specs.declared.delivered.Outcome.{Outcome}
use Rattle.routing.specs.declared.delivered.Outcome.TheVariants as outcomes
use Rattle.routing.specs.Routing.{Came, Hands, Ends}
use Rattle.conn_log.specs.declared.earlier.Earlier.{Earlier}
use Rattle.conn_log.specs.declared.event.ConnEvent.TheVariants as event
use Rattle.conn_log.specs.Entries.{Entry, items, calls_of, has_taken}
use Rattle.conn_log.specs.Entries.Entry.{Says, Calls}
use Rattle.conn_log.specs.Asking.{is_asked_anew}
use Rattle.conn_log.specs.Due.{HasCome, MayBeAsked, IsDue, told_end, end_was_told}
use Rattle.conn_log.specs.Held.{IsHeld, WasAskedLast}
use Rattle.conn_log.specs.Routes.{IsNoCredit, Around, Comes}
use Rattle.conn_log.proofs.Arriving.{quiet_behind}
use Rattle.conn_log.proofs.Around.{still}
use Rattle.conn_log.proofs.Views.{same, none_behind}
use Rattle.serving.proofs.StageKinds.{same_talking, same_awaiting, same_handed}
use Rattle.conn_log.proofs.Served.{ended_stays}
use Rattle.conn_log.proofs.Comes.{Went, went, went_behind, around_event, around_call, IsListed, listed, listed_behind, answered_by, answered_anew, none_open, handed_still, or_on}

-- what is seen of a stream that has ended
abbrev pub ended_view : Seen → Seen
ended_view view = record view { ended = true; live = view.live && not view.closed }

pub heard_end : (n : ℕ) (view : Seen) → hears n view (Told.Ended n) ≡ ended_view view
heard_end n view = ap (λ b. cond b (record view { ended = true; live = view.live && not view.closed }) view) (same n)

talking_not_handed : {H : Type 0} (stage : Stage H) → is_talking stage ≡ true → was_handed_out stage ≡ false
talking_not_handed (stages.Talking talk handler) e = refl
talking_not_handed (stages.Agreed index) e = refl
talking_not_handed (stages.Serving handler) e = refl
talking_not_handed stages.Done e = absurd (cc e)
talking_not_handed stages.Over e = refl

module _ {P H : Type 0} (step : H → HandlerCall → H → Type 0) (fails : H → Asked → ℕ → Type 0)
    (is_closed is_finished : H → Bool) (inbound_makes outbound_makes : P → ℕ → List ℕ → H → Type 0)
    (eager : ℕ → Bool) (names : List (List ℕ)) (peer : List ℕ) (role : Role) where
  -- nothing is decided by all data of a stream whose talk goes on
  pub is_open : (x : Streaming H) (so_far : Past H) → Stands step x so_far → is_talking x.stage ≡ true → (output : List ℕ) × IsOpen so_far.side so_far.got output
  is_open x so_far s talks = by_stage x.stage s talks where
    by_stage : (stage : Stage H) → StandsAt step stage so_far x.waiting → is_talking stage ≡ true → (output : List ℕ) × IsOpen so_far.side so_far.got output
    by_stage (stages.Talking talk handler) s talks = (s.output, open_before so_far.side talk so_far.got s.output s.going)
    by_stage (stages.Agreed index) s talks = absurd (cc talks)
    by_stage (stages.Serving handler) s talks = absurd (cc talks)
    by_stage stages.Done s talks = absurd (cc talks)
    by_stage stages.Over s talks = absurd (cc talks)

  -- the end that is to be routed was told
  pub end_is_told : (log : List (Entry H)) (fed sent : List ℕ) (session : State) (streams : ℕ → Option (Streaming H)) (past : List (Earlier H)) (n : ℕ) (view : Seen) (rest : List Told)
      → Around step fails is_closed is_finished inbound_makes outbound_makes eager names peer role log fed sent session streams past n view (Told.Ended n ∷ rest)
      → end_was_told role (items log) n ≡ true
  end_is_told log fed sent session streams past n view rest a = a.end_told (ap (λ b. b || told_end n rest) (same n))

  -- the end was told, and nothing was done yet
  pub end_came : (log : List (Entry H)) (fed sent : List ℕ) (session : State) (streams : ℕ → Option (Streaming H)) (past : List (Earlier H)) (n : ℕ) (view : Seen) (rest : List Told)
      → Around step fails is_closed is_finished inbound_makes outbound_makes eager names peer role log fed sent session streams past n view (Told.Ended n ∷ rest)
      → Around step fails is_closed is_finished inbound_makes outbound_makes eager names peer role log fed sent session streams past n (ended_view view) rest
  end_came log fed sent session streams past n view rest a = record {
    session_stands = a.session_stands;
    due = a.due;
    others = a.others;
    others_held = a.others_held;
    others_kept = a.others_kept;
    resets_told = a.resets_told;
    reset_came = a.reset_came;
    end_told = λ told. a.end_told (ap (λ b. b || told_end n rest) (same n));
    end_came = λ reset. sym (ap (λ b. view.ended || (b || told_end n rest)) (same n) ∙ or_on view.ended) ∙ a.end_came reset;
    heard = subst (λ (x : Seen). AgreesOn (seen role (items log) n) (all_heard n x rest)) (heard_end n view) a.heard;
    opens_none = a.opens_none.1;
    ends_last = a.ends_last.1;
    earlier = a.earlier;
    past_is = a.past_is;
    in_turn = a.in_turn;
    turn_is = a.turn_is;
  }

  module _ (acts_do : ActsDo) (acts_move : ActsMove) (log : List (Entry H)) (fed sent : List ℕ) (before after : State) (streams now : ℕ → Option (Streaming H))
      (past : List (Earlier H)) (n : ℕ) (view : Seen) (rest : List Told) (old new : Streaming H)
      (a : Around step fails is_closed is_finished inbound_makes outbound_makes eager names peer role log fed sent before streams past n (ended_view view) rest)
      (h : IsHeld step is_closed is_finished names role log n view.came view.ended old) (going : view.ended ≡ false) (unfinished : has_finished is_finished old.stage ≡ false)
      (settled : is_live role (items log) n ≡ true → IsSettled step is_closed is_finished role (items log) n h.so_far.left old) (asked : WasAskedLast is_closed role log n old)
      (was_told : end_was_told role (items log) n ≡ true) (no_credit : AllByRecursion IsNoCredit rest)
      (handed : kind_of old.stage ≡ Served → has_taken (calls_of role log n) ≡ true)
      (elsewhere : (m : ℕ) → (n == m) ≡ false → now m ≡ streams m) (here : now n ≡ Some new) where
    -- all has come
    all_came : inbound role (items log) n ≡ h.so_far.got
    all_came = a.heard.came ∙ none_behind n (ended_view view) rest a.opens_none a.ends_last ∙ sym h.got_is

    is_finished_then : finished role (items log) n ≡ true
    is_finished_then = a.heard.ended (ended_stays step fails is_closed is_finished inbound_makes outbound_makes eager names peer role acts_do acts_move n (ended_view view) rest a.opens_none refl)

    had_come : HasCome step fails is_closed is_finished inbound_makes outbound_makes eager names peer role log n h.so_far
    had_come = record {
      side_is = h.side_is;
      rest = [];
      got_is = all_came ∙ sym (append-nil h.so_far.got);
      ended_by = λ is. (is_finished_then, refl);
      sent_is = h.sent_is;
      made_is = h.made_is;
      calls_is = h.calls_is;
    }

    -- its handler may be told of the end
    may_end : (handler : H) → old.stage ≡ stages.Serving handler → MayBeAsked step fails is_closed is_finished inbound_makes outbound_makes eager names peer role log n ToEnd
    may_end handler serves = record {
      there = record { so_far = h.so_far; stream = old; come = had_come; stands = h.stands };
      handler = handler;
      held = ap handler_of serves;
      asked_for = (all_came, was_told);
      in_turn = (
        serves,
        h.ended_is ∙ going,
        sym (ap (has_finished is_finished) serves) ∙ unfinished,
        handed (ap kind_of serves),
      );
      talking = h.talking;
      agreed_on = h.agreed_on;
      going = h.over ∙ ap was_handed_out serves;
      settled = λ _. settled;
      asked = λ _. asked;
    }

    -- and answers
    end_due : (handler : H) → old.stage ≡ stages.Serving handler → AnswersCall step old.stage End
        → IsDue step fails is_closed is_finished inbound_makes outbound_makes eager names peer role log (Calls n End)
    unfolding may_end
    end_due handler serves answers =
        let it = answers handler (ap handler_of serves) in
        record { asked = may_end handler serves; after = it.0; answers = it.1 }

    -- and the stream was served then
    heard : (then : List (Entry H)) (outcome : Outcome H) (so_far : Past H) (middle : Streaming H)
        → (around : Around step fails is_closed is_finished inbound_makes outbound_makes eager names peer role then fed sent before streams past n (ended_view view) rest)
        → (l : IsListed step fails is_closed is_finished inbound_makes outbound_makes eager names peer role then n view.came view.ended so_far old)
        → (asks_open is_closed middle.stage ≡ true → is_asked_anew role then n ≡ true)
        → (kind_of old.stage ≡ Served → has_taken (calls_of role then n) ≡ true) → Stands step middle (record so_far { ended = true; left = None }) → kind_of middle.stage ≡ kind_of old.stage
        → Came step fails is_closed is_finished role (items then) fed sent n (record so_far { ended = true; left = None }) middle before outcome after new
        → Went step fails is_closed is_finished inbound_makes outbound_makes eager names peer role then fed sent after now past n rest outcome
    heard then outcome so_far middle around l anew handed stands kind came_to =
        let by_end : IsHeld step is_closed is_finished names role then n (ended_view view).came (ended_view view).ended middle = record {
          so_far = record so_far { ended = true; left = None };
          side_is = l.side_is;
          got_is = l.got_is;
          ended_is = refl;
          sent_is = l.sent_is;
          made_is = l.made_is;
          calls_is = l.calls_is;
          stands = stands;
          talking = λ is. l.talking (sym (same_talking middle.stage old.stage kind) ∙ is);
          agreed_on = λ is. l.agreed_on (sym (same_talking middle.stage old.stage kind) ∙ is);
          over = l.over ∙ sym (same_handed middle.stage old.stage kind);
          done = l.done ∙ sym (same_handed middle.stage old.stage kind);
          served = same_awaiting middle.stage old.stage kind ∙ l.served;
        } in
        went step fails is_closed is_finished inbound_makes outbound_makes eager names peer role acts_do acts_move then fed sent before after streams now past n (ended_view view) rest middle new
        around (none_behind n (ended_view view) rest around.opens_none around.ends_last)
        (record { held = by_end; over_by_end = λ off. refl; last = inl (quiet_behind n rest around.opens_none around.ends_last no_credit); anew = anew; handed = λ serves. handed (sym kind ∙ serves) }) elsewhere here outcome came_to

    in_talk : (outcome : Outcome H) → is_talking old.stage ≡ true → outcome ≡ outcomes.Broken causes.Ended → after ≡ before → Went step fails is_closed is_finished inbound_makes outbound_makes eager names peer role log fed sent after now past n rest outcome
    in_talk outcome talks is same_session =
        let open_so_far = is_open old h.so_far h.stands talks in
        let was_due : IsDue step fails is_closed is_finished inbound_makes outbound_makes eager names peer role log (Says (event.Broken n causes.Ended)) = (
          h.over ∙ talking_not_handed old.stage talks,
          (
            was_told,
            h.talking talks,
            record {
              side = h.so_far.side;
              first = h.so_far.got;
              rest = [];
              output = open_so_far.0;
              side_is = h.side_is;
              data_is = all_came ∙ sym (append-nil h.so_far.got);
              comes_to = (sym all_came, open_so_far.1);
            },
            record {
              there = record { so_far = h.so_far; stream = old; come = had_come; stands = h.stands };
              all_came = all_came;
              talks = talks;
              settled = settled;
              asked = asked;
            },
          ),
        ) in
        record {
          newer = [];
          none_said = refl;
          untold = refl;
          same_turn = tt;
          unmade = tt;
          seen_now = ended_view view;
          comes = subst (λ (o : Outcome H). Comes step fails is_closed is_finished inbound_makes outbound_makes eager names peer role log fed sent after now past n (ended_view view) rest o) (sym is) (
            around_event step fails is_closed is_finished inbound_makes outbound_makes eager names peer role log fed sent after now past n (ended_view view) rest (event.Broken n causes.Ended) refl was_due
                (still step fails is_closed is_finished inbound_makes outbound_makes eager names peer role log fed sent before after streams now past n (ended_view view) rest same_session elsewhere a),
            λ e. absurd (cc e),
          );
        }

    failed : (outcome : Outcome H) (handler : H) (fault : HandlerFault) → old.stage ≡ stages.Serving handler → fails handler ToEnd fault.number → outcome ≡ outcomes.Broken (causes.Handler fault)
        → after ≡ before → Went step fails is_closed is_finished inbound_makes outbound_makes eager names peer role log fed sent after now past n rest outcome
    unfolding may_end
    failed outcome handler fault serves fails_by is same_session =
        let was_due : IsDue step fails is_closed is_finished inbound_makes outbound_makes eager names peer role log (Says (event.Broken n (causes.Handler fault))) = (
          h.over ∙ ap was_handed_out serves,
          record { request = ToEnd; asked = may_end handler serves; fails_by = fails_by },
        ) in
        record {
          newer = [];
          none_said = refl;
          untold = refl;
          same_turn = tt;
          unmade = tt;
          seen_now = ended_view view;
          comes = subst (λ (o : Outcome H). Comes step fails is_closed is_finished inbound_makes outbound_makes eager names peer role log fed sent after now past n (ended_view view) rest o) (sym is) (
            around_event step fails is_closed is_finished inbound_makes outbound_makes eager names peer role log fed sent after now past n (ended_view view) rest (event.Broken n (causes.Handler fault)) refl was_due
                (still step fails is_closed is_finished inbound_makes outbound_makes eager names peer role log fed sent before after streams now past n (ended_view view) rest same_session elsewhere a),
            λ e. absurd (cc e),
          );
        }

    pub has_ended : (outcome : Outcome H) → Ends step fails is_closed is_finished role (items log) fed sent n h.so_far old before outcome after new
        → Went step fails is_closed is_finished inbound_makes outbound_makes eager names peer role log fed sent after now past n rest outcome
    has_ended outcome ends = by_talk (is_talking old.stage) refl where
      by_hands : is_talking old.stage ≡ false → (answer : Option HandlerCall) → answering old.stage End ≡ answer
          → Hands step fails is_closed is_finished role (items log) fed sent n End ToEnd (with_call (record h.so_far { ended = true; left = None }) answer) old before outcome after new
          → Went step fails is_closed is_finished inbound_makes outbound_makes eager names peer role log fed sent after now past n rest outcome
      by_hands off None is (inl served) =
          heard log outcome h.so_far served.0 a (listed step fails is_closed is_finished inbound_makes outbound_makes eager names peer role log n view.came view.ended old h)
          (λ open_still. absurd (none_open is_closed old.stage served.0.stage End is served.2 off open_still)) handed served.1 served.2 served.4
      by_hands off (Some call) is (inl served) =
          let serves = answered_by old.stage End call is in
          let may : IsDue step fails is_closed is_finished inbound_makes outbound_makes eager names peer role log (Calls n call) =
          subst (λ (c : HandlerCall). IsDue step fails is_closed is_finished inbound_makes outbound_makes eager names peer role log (Calls n c)) (sym serves.0) (end_due serves.1.0 serves.1.1 served.3) in
          went_behind step fails is_closed is_finished inbound_makes outbound_makes eager names peer role log fed sent after now past n rest outcome call
          (heard (Calls n call ∷ log) outcome (with_call h.so_far (Some call)) served.0
          (around_call step fails is_closed is_finished inbound_makes outbound_makes eager names peer role log fed sent before streams past n (ended_view view) rest call may a)
          (listed_behind step fails is_closed is_finished inbound_makes outbound_makes eager names peer role log n view.came view.ended h.so_far old call
          (listed step fails is_closed is_finished inbound_makes outbound_makes eager names peer role log n view.came view.ended old h)) (λ open_still. answered_anew role n call serves.0 refl log)
          (λ serving. handed_still step fails is_closed is_finished inbound_makes outbound_makes eager names peer role log n call (handed serving)) served.1 served.2 served.4)
      by_hands off answer is (inr f) = failed outcome f.1.0 f.1.1 f.1.2 f.1.3 f.1.4 f.0

      by_talk : (b : Bool) → is_talking old.stage ≡ b → Went step fails is_closed is_finished inbound_makes outbound_makes eager names peer role log fed sent after now past n rest outcome
      by_talk true e = in_talk outcome e (ends.0 e).0 (ends.0 e).1
      by_talk false e = by_hands e (answering old.stage End) refl (ends.1 e)
