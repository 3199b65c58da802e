-- Where the streams stand once one of them was served.
use Rattle.std.proofs.Common.{◌≡◌, ◌≢◌, ◌⊎◌, inl, inr, ℕ, ◌<◌, ◌==◌, ◌-◌, Bool, true, false, not, cond, ◌||◌, List, [], ◌∷◌, ◌++◌, length, Option, Some, None, refl, sym, ap, ◌∙◌, subst}
use Rattle.std.specs.Prelude.{IfSome, IsSome}
use Rattle.std.specs.List.{AllByRecursion}
use Rattle.handlers.specs.Calls.{HandlerCall, Take, Give, End, Asked, ToGive}
use Rattle.handlers.specs.declared.handler.HandlerFault.{HandlerFault}
use Rattle.yamux_session.specs.declared.event.Role.{Role}
use Rattle.yamux_session.specs.History.{Item}
use Rattle.yamux_session.specs.Openings.{is_live, closed}
use Rattle.yamux_session.specs.Windows.{credit}
use Rattle.yamux_session.specs.Acts.{open_credit}
use Rattle.yamux_session.specs.Events.{Told, events}
use Rattle.yamux_session.specs.Seen.{Seen, all_heard, IsQuiet, ActsDo, ActsMove}
use Rattle.yamux_session.specs.State.{State, Stands as SessionStands}
use Rattle.streams.specs.declared.stop.Cause.{Cause}
use Rattle.streams.specs.declared.stop.Cause.TheVariants as causes
use Rattle.streams.specs.declared.stop.Stop.TheVariants as stops
use Rattle.streams.specs.declared.stage.Stage.TheVariants as stages
use Rattle.streams.specs.Streams.{Past, with_call}
use Rattle.streams.specs.declared.stage.Stage.{Stage}
use Rattle.streams.specs.State.{Streaming, Stands, kind_of, Served, is_talking, is_open, awaits_handler, handler_of, holds, was_handed_out, answering, has_finished}
use Rattle.serving.specs.Served.{MayBeAsked as StreamMayBeAsked, IsUnasked, Serves, GivesUp, IsSettled, with_sent}
use Rattle.serving.proofs.Refusals.{open_with}
use Rattle.routing.specs.declared.delivered.Outcome.{Outcome}
use Rattle.routing.specs.declared.delivered.Outcome.TheVariants as outcomes
use Rattle.routing.specs.Routing.{Came}
use Rattle.conn_log.specs.declared.earlier.Earlier.{Earlier}
use Rattle.conn_log.specs.declared.event.ConnEvent.{ConnEvent}
use Rattle.conn_log.specs.declared.event.ConnEvent.TheVariants as event
use Rattle.conn_log.specs.Entries.{Entry, items, said, agreed, is_last, is_over, was_done, made_of, calls_of, has_taken}
use Rattle.conn_log.specs.Entries.Entry.{Says, Calls}
use Rattle.yamux_session.specs.Data.{written}
use Rattle.std.proofs.lemmas.List.{append_assoc}
use Rattle.conn_log.specs.Asking.{is_give, is_asked_anew}
use Rattle.conn_log.specs.Due.{HasCome, MayBeAsked, IsBroken, IsDue}
use Rattle.conn_log.specs.Making.{MakesNone}
use Rattle.conn_log.specs.Held.{IsSide, IsHeld, WasAskedLast}
use Rattle.conn_log.specs.Routes.{KeepsTurn, IsMoving, MayBeServed, Around, Routes, Comes}
use Rattle.conn_log.proofs.Same.{same_by_event, same_by_call, IsOf, side_same}
use Rattle.conn_log.proofs.Settling.{said_append}
use Rattle.conn_log.proofs.Turning.{same_turns}
use Rattle.conn_log.proofs.Around.{grown, still}
use Rattle.conn_log.proofs.Views.{same}
use Rattle.serving.proofs.StageKinds.{same_talking, same_awaiting, same_handed, served_talking, served_handed}
use Rattle.conn_log.proofs.Making.{did_none, none_more}
use Rattle.conn_log.proofs.Served.{did, items_did, said_did, did_untold, did_keeps, view_by, AllOn, Own, did_own, all_on, was_open, was_live, come_of, come_on, view_came, view_ended, view_over, around_acts}

not_true : (b : Bool) → not b ≡ true → b ≡ false
not_true true e = absurd (cc e)
not_true false e = refl

-- only a handler that serves answers a call
pub answered_by : {H : Type 0} (stage : Stage H) (call answer : HandlerCall) → answering stage call ≡ Some answer → (answer ≡ call) × ((handler : H) × (stage ≡ stages.Serving handler))
answered_by (stages.Talking talk handler) call answer e = absurd (cc e)
answered_by (stages.Agreed index) call answer e = absurd (cc e)
answered_by (stages.Serving handler) call answer e = (cc e, (handler, refl))
answered_by stages.Done call answer e = absurd (cc e)
answered_by stages.Over call answer e = absurd (cc e)

-- behind what its handler was told it is asked anew
pub answered_anew : {H : Type 0} {told : HandlerCall} (role : Role) (n : ℕ) (call : HandlerCall) → call ≡ told → is_give told ≡ false → (log : List (Entry H))
    → is_asked_anew role (Calls n call ∷ log) n ≡ true
answered_anew role n call is tells log = ap (λ b. cond b (not (is_give call)) (is_asked_anew role log n)) (same n) ∙ ap (λ c. not (is_give c)) is ∙ ap not tells

-- what was handed stays so
taken_still : (calls : List HandlerCall) (call : HandlerCall) → has_taken calls ≡ true → has_taken (calls ++ call ∷ []) ≡ true
taken_still [] call taken = absurd (cc taken)
taken_still (Take bytes ∷ calls) call taken = refl
taken_still (Give room bytes ∷ calls) call taken = taken_still calls call taken
taken_still (End ∷ calls) call taken = taken_still calls call taken

taken_by : (calls : List HandlerCall) (bytes : List ℕ) → has_taken (calls ++ Take bytes ∷ []) ≡ true
taken_by [] bytes = refl
taken_by (Take some ∷ calls) bytes = refl
taken_by (Give room some ∷ calls) bytes = taken_by calls bytes
taken_by (End ∷ calls) bytes = taken_by calls bytes

taken_last : (calls : List HandlerCall) (call : HandlerCall) (bytes : List ℕ) → call ≡ Take bytes → has_taken (calls ++ call ∷ []) ≡ true
taken_last calls call bytes is = ap (λ c. has_taken (calls ++ c ∷ [])) is ∙ taken_by calls bytes

-- one that serves answers each call
pub none_serves : {H : Type 0} (old middle : Stage H) (call : HandlerCall) → answering old call ≡ None → kind_of middle ≡ kind_of old → kind_of middle ≡ Served → ⊥
none_serves (stages.Talking talk handler) middle call is kind serves = absurd (let e : Rattle.streams.specs.State.InTalk ≡ Served = sym kind ∙ serves in cc e)
none_serves (stages.Agreed index) middle call is kind serves = absurd (let e : Rattle.streams.specs.State.Awaiting ≡ Served = sym kind ∙ serves in cc e)
none_serves (stages.Serving handler) middle call is kind serves = absurd (cc is)
none_serves stages.Done middle call is kind serves = absurd (let e : Rattle.streams.specs.State.HandedOut ≡ Served = sym kind ∙ serves in cc e)
none_serves stages.Over middle call is kind serves = absurd (let e : Rattle.streams.specs.State.Ended ≡ Served = sym kind ∙ serves in cc e)

-- behind the talk a handler that is held serves, and answers
pub none_open : {H : Type 0} (closed : H → Bool) (old middle : Stage H) (call : HandlerCall) → answering old call ≡ None → kind_of middle ≡ kind_of old
    → is_talking old ≡ false → is_open closed middle ≡ true → ⊥
none_open closed (stages.Talking talk it) middle call is kind off open_still = absurd (cc off)
none_open closed old (stages.Talking talk handler) call is kind off open_still =
    absurd (let e : true ≡ false = same_talking (stages.Talking talk handler) old kind ∙ off in cc e)
none_open closed old (stages.Agreed index) call is kind off open_still = absurd (cc open_still)
none_open closed (stages.Serving it) (stages.Serving handler) call is kind off open_still = absurd (cc is)
none_open closed (stages.Agreed index) (stages.Serving handler) call is kind off open_still = absurd (cc kind)
none_open closed stages.Done (stages.Serving handler) call is kind off open_still = absurd (cc kind)
none_open closed stages.Over (stages.Serving handler) call is kind off open_still = absurd (cc kind)
none_open closed old stages.Done call is kind off open_still = absurd (cc open_still)
none_open closed old stages.Over call is kind off open_still = absurd (cc open_still)

pub or_on : (b : Bool) → b || true ≡ true
or_on true = refl
or_on false = refl

module _ {P H : Type 0} (step : H → HandlerCall → H → Type 0) (fails : H → Asked → ℕ → Type 0)
    (is_closed is_finished : H → Bool) (inbound_makes outbound_makes : P → ℕ → List ℕ → H → Type 0)
    (eager : ℕ → Bool) (names : List (List ℕ)) (peer : List ℕ) (role : Role) where
  -- an event that is due is told: all streams but this one stay at rest
  pub around_event : (log : List (Entry H)) (fed sent : List ℕ) (session : State) (streams : ℕ → Option (Streaming H)) (past : List (Earlier H)) (n : ℕ) (view : Seen)
      (rest : List Told) (told : ConnEvent H) → IsOf n told
      → IsDue step fails is_closed is_finished inbound_makes outbound_makes eager names peer role log (Says told)
      → Around step fails is_closed is_finished inbound_makes outbound_makes eager names peer role log fed sent session streams past n view rest
      → Around step fails is_closed is_finished inbound_makes outbound_makes eager names peer role (Says told ∷ log) fed sent session streams past n view rest
  around_event log fed sent session streams past n view rest told of is_due a =
      grown step fails is_closed is_finished inbound_makes outbound_makes eager names peer role log (Says told ∷ []) fed sent session session streams streams past n view view rest a
      (is_due, a.due) (λ m apart. same_by_event role log n m told of apart) a.session_stands (λ m apart. refl) a.heard refl (λ m. refl) (λ m. refl) refl
      (λ m over. ap (λ b. is_last m told || b) over ∙ or_on (is_last m told)) (of, tt)

  -- a call that may be asked for was answered: all streams but this one stay at rest
  pub around_call : (log : List (Entry H)) (fed sent : List ℕ) (session : State) (streams : ℕ → Option (Streaming H)) (past : List (Earlier H)) (n : ℕ) (view : Seen)
      (rest : List Told) (call : HandlerCall) → IsDue step fails is_closed is_finished inbound_makes outbound_makes eager names peer role log (Calls n call)
      → Around step fails is_closed is_finished inbound_makes outbound_makes eager names peer role log fed sent session streams past n view rest
      → Around step fails is_closed is_finished inbound_makes outbound_makes eager names peer role (Calls n call ∷ log) fed sent session streams past n view rest
  around_call log fed sent session streams past n view rest call is_due a =
      grown step fails is_closed is_finished inbound_makes outbound_makes eager names peer role log (Calls n call ∷ []) fed sent session session streams streams past n view view rest a
      (is_due, a.due) (λ m apart. same_by_call role log n m call apart) a.session_stands (λ m apart. refl) a.heard refl (λ m. refl) (λ m. refl) refl (λ m over. over) (refl, tt)

  -- the call is the last of those that the list has
  call_is_last : (log : List (Entry H)) (n : ℕ) (call : HandlerCall) (calls : List HandlerCall) → calls ≡ calls_of role log n
      → calls ++ call ∷ [] ≡ calls_of role (Calls n call ∷ log) n
  call_is_last log n call calls is =
      ap (λ t. t ++ call ∷ []) is ∙ sym (ap (λ b. cond b (calls_of role log n ++ call ∷ []) (calls_of role log n)) (same n))

  -- so its handler was handed something where it was before
  pub handed_still : (log : List (Entry H)) (n : ℕ) (call : HandlerCall) → has_taken (calls_of role log n) ≡ true → has_taken (calls_of role (Calls n call ∷ log) n) ≡ true
  handed_still log n call taken = ap has_taken (sym (call_is_last log n call (calls_of role log n) refl)) ∙ taken_still (calls_of role log n) call taken

  -- or where the call takes
  pub handed_by : (log : List (Entry H)) (n : ℕ) (call : HandlerCall) (bytes : List ℕ) → call ≡ Take bytes → has_taken (calls_of role (Calls n call ∷ log) n) ≡ true
  handed_by log n call bytes is = ap has_taken (sym (call_is_last log n call (calls_of role log n) refl)) ∙ taken_last (calls_of role log n) call bytes is

  -- What serving a stream came to.
  pub record Went (log : List (Entry H)) (fed sent : List ℕ) (session : State) (streams : ℕ → Option (Streaming H)) (past : List (Earlier H)) (n : ℕ) (rest : List Told)
      (outcome : Outcome H) : Type 0 where
    pub newer : List (Entry H)
    pub none_said : said newer ≡ []
    pub untold : events role (items (newer ++ log)) ≡ events role (items log)
    pub same_turn : KeepsTurn newer
    pub unmade : MakesNone newer
    pub seen_now : Seen
    pub comes : Comes step fails is_closed is_finished inbound_makes outbound_makes eager names peer role (newer ++ log) fed sent session streams past n seen_now rest outcome

  -- behind a call
  pub went_behind : (log : List (Entry H)) (fed sent : List ℕ) (session : State) (streams : ℕ → Option (Streaming H)) (past : List (Earlier H)) (n : ℕ) (rest : List Told)
      (outcome : Outcome H) (call : HandlerCall) → Went (Calls n call ∷ log) fed sent session streams past n rest outcome → Went log fed sent session streams past n rest outcome
  went_behind log fed sent session streams past n rest outcome call it =
      let behind = append_assoc it.newer (Calls n call ∷ []) log in
      record {
        newer = it.newer ++ Calls n call ∷ [];
        none_said = said_append it.newer (Calls n call ∷ []) ∙ it.none_said;
        untold = ap (λ t. events role (items t)) behind ∙ it.untold;
        same_turn = same_turns it.newer (Calls n call ∷ []) it.same_turn tt;
        unmade = none_more it.newer (Calls n call ∷ []) it.unmade tt;
        seen_now = it.seen_now;
        comes = subst (λ t. Comes step fails is_closed is_finished inbound_makes outbound_makes eager names peer role t fed sent session streams past n it.seen_now rest outcome) (sym behind) it.comes;
      }

  -- ---- a stream that was served

  -- What the list says of a stream of which so far this came, whatever its handler has given since.
  pub record IsListed (log : List (Entry H)) (n : ℕ) (got : List ℕ) (ended : Bool) (so_far : Past H) (old : Streaming H) : Type 0 where
    pub side_is : IsSide role names log n so_far.side
    pub got_is : so_far.got ≡ got
    pub ended_is : so_far.ended ≡ ended
    pub sent_is : so_far.sent ≡ written role (items log) n
    pub made_is : so_far.made ≡ made_of role log n
    pub calls_is : so_far.calls ≡ calls_of role log n
    pub talking : is_talking old.stage ≡ true → agreed role log n ≡ None
    pub agreed_on : is_talking old.stage ≡ false → agreed role log n ≢ None
    pub over : is_over role log n ≡ was_handed_out old.stage
    pub done : was_done role log n ≡ was_handed_out old.stage
    pub served : awaits_handler old.stage ≡ false

  pub listed : (log : List (Entry H)) (n : ℕ) (got : List ℕ) (ended : Bool) (old : Streaming H) → (h : IsHeld step is_closed is_finished names role log n got ended old)
      → IsListed log n got ended h.so_far old
  listed log n got ended old h = record {
    side_is = h.side_is;
    got_is = h.got_is;
    ended_is = h.ended_is;
    sent_is = h.sent_is;
    made_is = h.made_is;
    calls_is = h.calls_is;
    talking = h.talking;
    agreed_on = h.agreed_on;
    over = h.over;
    done = h.done;
    served = h.served;
  }

  -- the same behind a call
  pub listed_behind : (log : List (Entry H)) (n : ℕ) (got : List ℕ) (ended : Bool) (so_far : Past H) (old : Streaming H) (call : HandlerCall) → IsListed log n got ended so_far old
      → IsListed (Calls n call ∷ log) n got ended (with_call so_far (Some call)) old
  listed_behind log n got ended so_far old call l = record {
    side_is = side_same role names log (Calls n call ∷ log) n so_far.side refl l.side_is;
    got_is = l.got_is;
    ended_is = l.ended_is;
    sent_is = l.sent_is;
    made_is = l.made_is;
    calls_is = call_is_last log n call so_far.calls l.calls_is;
    talking = l.talking;
    agreed_on = l.agreed_on;
    over = l.over;
    done = l.done;
    served = l.served;
  }

  module _ (acts_do : ActsDo) (acts_move : ActsMove) (log : List (Entry H)) (fed sent : List ℕ) (before after : State) (streams now : ℕ → Option (Streaming H))
      (past : List (Earlier H)) (n : ℕ) (view : Seen) (rest : List Told) (so_far : Past H) (old new : Streaming H)
      (a : Around step fails is_closed is_finished inbound_makes outbound_makes eager names peer role log fed sent before streams past n view rest)
      (no_more : (all_heard n view rest).came ≡ view.came) (h : IsListed log n view.came view.ended so_far old) (over : view.live ≡ false → view.ended ≡ true)
      (anew : AllByRecursion (IsQuiet n) rest ⊎ (is_asked_anew role log n ≡ true)) (asked : WasAskedLast is_closed role log n new)
      (asked_then : WasAskedLast is_closed role log n old)
      (handed : kind_of old.stage ≡ Served → has_taken (calls_of role log n) ≡ true)
      (elsewhere : (m : ℕ) → (n == m) ≡ false → now m ≡ streams m) (here : now n ≡ Some new) where
    come : HasCome step fails is_closed is_finished inbound_makes outbound_makes eager names peer role log n so_far
    come = come_of step fails is_closed is_finished inbound_makes outbound_makes eager names peer role acts_do acts_move log n view rest so_far h.side_is h.got_is h.ended_is h.sent_is h.made_is
        h.calls_is a.opens_none a.ends_last a.heard

    around_served : (handler : Option H) → (s : Serves step is_closed is_finished old.stage role (items log) fed sent n so_far handler after new)
        → Around step fails is_closed is_finished inbound_makes outbound_makes eager names peer role (did s.goes.acts ++ log) fed sent after now past n (view_by s.goes.acts view) rest
    around_served handler s =
        around_acts step fails is_closed is_finished inbound_makes outbound_makes eager names peer role acts_do acts_move log fed sent before after streams now past n view rest so_far old.stage s.goes.acts a come
        (a.heard.came ∙ no_more ∙ sym h.got_is) (record { made = h.served; handed = handed; told = λ out. h.done ∙ out; same_over = h.over ∙ sym h.done; asked = asked_then }) s.goes.due (subst (λ (t : List Item). SessionStands role t fed sent after) s.goes.now_is s.goes.session_stands) elsewhere

    list_is : (handler : Option H) → (s : Serves step is_closed is_finished old.stage role (items log) fed sent n so_far handler after new)
        → s.goes.now ≡ items (did s.goes.acts ++ log)
    list_is handler s = s.goes.now_is ∙ sym (items_did s.goes.acts log)

    own_of : (handler : Option H) → (s : Serves step is_closed is_finished old.stage role (items log) fed sent n so_far handler after new) → Own role log (did s.goes.acts ++ log) n
    own_of handler s =
        did_own step fails is_closed is_finished inbound_makes outbound_makes eager names peer role acts_do acts_move log n s.goes.acts
        (all_on step fails is_closed is_finished inbound_makes outbound_makes eager names peer role acts_do acts_move (items log) n so_far old.stage s.goes.acts s.goes.due)

    on_acts : (handler : Option H) → (s : Serves step is_closed is_finished old.stage role (items log) fed sent n so_far handler after new)
        → AllOn step fails is_closed is_finished inbound_makes outbound_makes eager names peer role acts_do acts_move n s.goes.acts
    on_acts handler s = all_on step fails is_closed is_finished inbound_makes outbound_makes eager names peer role acts_do acts_move (items log) n so_far old.stage s.goes.acts s.goes.due

    -- what is done lets it be asked no more and no less
    anew_then : (now_anew : Bool) → now_anew ≡ is_asked_anew role log n → AllByRecursion (IsQuiet n) rest ⊎ (is_asked_anew role log n ≡ true)
        → AllByRecursion (IsQuiet n) rest ⊎ (now_anew ≡ true)
    anew_then now_anew is (inl quiet) = inl quiet
    anew_then now_anew is (inr before) = inr (is ∙ before)

    -- it goes on
    pub goes_on : (s : Serves step is_closed is_finished old.stage role (items log) fed sent n so_far None after new) → kind_of new.stage ≡ kind_of old.stage
        → Routes step fails is_closed is_finished inbound_makes outbound_makes eager names peer role (did s.goes.acts ++ log) fed sent after now past n (view_by s.goes.acts view) rest
    goes_on s kind =
        let log_now = did s.goes.acts ++ log in
        let seen_now = view_by s.goes.acts view in
        let own = own_of None s in
        let on = on_acts None s in
        let came : seen_now.came ≡ view.came = view_came step fails is_closed is_finished inbound_makes outbound_makes eager names peer role acts_do acts_move n s.goes.acts view on in
        let ended : seen_now.ended ≡ view.ended = view_ended step fails is_closed is_finished inbound_makes outbound_makes eager names peer role acts_do acts_move n s.goes.acts view on in
        let is = list_is None s in
        let held : IsHeld step is_closed is_finished names role log_now n seen_now.came seen_now.ended new = record {
          so_far = with_sent role (items log_now) n so_far s.goes.left;
          side_is = side_same role names log log_now n so_far.side own.asked_is h.side_is;
          got_is = h.got_is ∙ sym came;
          ended_is = h.ended_is ∙ sym ended;
          sent_is = refl;
          made_is = h.made_is ∙ sym own.made_is;
          calls_is = h.calls_is ∙ sym own.calls_is;
          stands = subst (λ (t : List Item). Stands step new (with_sent role t n so_far s.goes.left)) is s.goes.stream_stands;
          talking = λ it. own.agreed_is ∙ h.talking (sym (same_talking new.stage old.stage kind) ∙ it);
          agreed_on = λ it none. h.agreed_on (sym (same_talking new.stage old.stage kind) ∙ it) (sym own.agreed_is ∙ none);
          over = own.over_is ∙ h.over ∙ sym (same_handed new.stage old.stage kind);
          done = own.done_is ∙ h.done ∙ sym (same_handed new.stage old.stage kind);
          served = same_awaiting new.stage old.stage kind ∙ h.served;
        } in
        let moving : IsMoving step fails is_closed is_finished inbound_makes outbound_makes eager names peer role log_now n seen_now rest new = record {
          held = held;
          unfinished = s.handed_out.1;
          anew = anew_then (is_asked_anew role log_now n) own.anew_is anew;
          asked = λ quiet live off is. own.anew_is ∙ asked
              (was_live step fails is_closed is_finished inbound_makes outbound_makes eager names peer role acts_do acts_move log n s.goes.acts on live)
              (was_open step fails is_closed is_finished inbound_makes outbound_makes eager names peer role acts_do acts_move log n s.goes.acts on off) is;
          handed = λ serves. ap has_taken own.calls_is ∙ handed (sym kind ∙ serves);
          over_by_end = view_over step fails is_closed is_finished inbound_makes outbound_makes eager names peer role acts_do acts_move (items log) n so_far old.stage s.goes.acts view s.goes.due over;
          settled = λ still. subst (λ (t : List Item). is_live role t n ≡ true → IsSettled step is_closed is_finished role t n s.goes.left new) is s.settled;
        } in
        record {
          around = around_served None s;
          own = subst (λ (t : Option (Streaming H)). IfSome t (λ it. IsMoving step fails is_closed is_finished inbound_makes outbound_makes eager names peer role log_now n seen_now rest it)) (sym here) moving;
          own_held = λ live. subst (λ (t : Option (Streaming H)). IsSome t) (sym here) refl;
          own_kept = λ made going. subst (λ (t : Option (Streaming H)). IsSome t) (sym here) refl;
          own_to_reset = λ reset going. subst (λ (t : Option (Streaming H)). IsSome t) (sym here) refl;
        }

    -- its handler is handed out
    pub is_done : (handler : H) → (s : Serves step is_closed is_finished old.stage role (items log) fed sent n so_far (Some handler) after new) → kind_of old.stage ≡ Served
        → Routes step fails is_closed is_finished inbound_makes outbound_makes eager names peer role (Says (event.Done n handler) ∷ did s.goes.acts ++ log) fed sent after now past n
        (view_by s.goes.acts view) rest
    is_done handler s kind =
        let log_now = did s.goes.acts ++ log in
        let seen_now = view_by s.goes.acts view in
        let own = own_of (Some handler) s in
        let on = on_acts (Some handler) s in
        let came : seen_now.came ≡ view.came = view_came step fails is_closed is_finished inbound_makes outbound_makes eager names peer role acts_do acts_move n s.goes.acts view on in
        let ended : seen_now.ended ≡ view.ended = view_ended step fails is_closed is_finished inbound_makes outbound_makes eager names peer role acts_do acts_move n s.goes.acts view on in
        let is = list_is (Some handler) s in
        let came_so : Past H = with_sent role (items log_now) n so_far s.goes.left in
        let stage_is : new.stage ≡ stages.Done = s.handed_out.0.2 in
        let was_unclosed : closed role s.goes.now n ≡ false → closed role (items log) n ≡ false =
        λ now. was_open step fails is_closed is_finished inbound_makes outbound_makes eager names peer role acts_do acts_move log n s.goes.acts on (sym (ap (λ (t : List Item). closed role t n) is) ∙ now) in
        let was_alive : is_live role s.goes.now n ≡ true → is_live role (items log) n ≡ true =
        λ now. was_live step fails is_closed is_finished inbound_makes outbound_makes eager names peer role acts_do acts_move log n s.goes.acts on (sym (ap (λ (t : List Item). is_live role t n) is) ∙ now) in
        let not_talking = served_talking old.stage kind in
        let was_due : IsDue step fails is_closed is_finished inbound_makes outbound_makes eager names peer role log_now (Says (event.Done n handler)) = (
          λ none. h.agreed_on not_talking (sym own.agreed_is ∙ none),
          own.over_is ∙ h.over ∙ served_handed old.stage kind,
          record {
            so_far = came_so;
            waiting = new.waiting;
            come = come_on step fails is_closed is_finished inbound_makes outbound_makes eager names peer role acts_do acts_move log log_now n so_far s.goes.left own come;
            all_came = own.came_is ∙ a.heard.came ∙ no_more ∙ sym h.got_is;
            served = subst (λ (t : List Item). Rattle.streams.specs.Streams.IsServed step (with_sent role t n so_far s.goes.left) handler new.waiting) is s.handed_out.0.0;
            finished = s.handed_out.0.1;
            asked = subst (λ (t : List Item). is_live role t n ≡ true → closed role t n ≡ false → is_closed handler ≡ false
                → (s.goes.left ≡ Some (credit role t n)) × (is_asked_anew role log_now n ≡ false)) is
                (λ live unclosed shut. let last = s.asked_last (was_alive live) (was_unclosed unclosed) shut in
                (last.0, own.anew_is ∙ asked_then (was_alive live) (was_unclosed unclosed) last.1));
            none_waits = subst (λ (t : List Item). is_live role t n ≡ true → closed role t n ≡ false → 0 < credit role t n → new.waiting ≡ []) is
                (λ live unclosed some. (s.settled live).none_waits unclosed some);
            handed = ap has_taken own.calls_is ∙ handed kind;
          },
        ) in
        let held : IsHeld step is_closed is_finished names role (Says (event.Done n handler) ∷ log_now) n seen_now.came seen_now.ended new = record {
          so_far = came_so;
          side_is = side_same role names log log_now n so_far.side own.asked_is h.side_is;
          got_is = h.got_is ∙ sym came;
          ended_is = h.ended_is ∙ sym ended;
          sent_is = refl;
          made_is = h.made_is ∙ sym own.made_is;
          calls_is = h.calls_is ∙ sym own.calls_is;
          stands = subst (λ (t : List Item). Stands step new (with_sent role t n so_far s.goes.left)) is s.goes.stream_stands;
          talking = λ it. absurd (let e : true ≡ false = sym it ∙ ap is_talking stage_is in cc e);
          agreed_on = λ it none. h.agreed_on not_talking (sym own.agreed_is ∙ none);
          over = ap (λ b. b || is_over role log_now n) (same n) ∙ sym (ap was_handed_out stage_is);
          done = ap (λ b. b || was_done role log_now n) (same n) ∙ sym (ap was_handed_out stage_is);
          served = ap awaits_handler stage_is;
        } in
        let moving : IsMoving step fails is_closed is_finished inbound_makes outbound_makes eager names peer role (Says (event.Done n handler) ∷ log_now) n seen_now rest new = record {
          held = held;
          unfinished = ap (has_finished is_finished) stage_is;
          anew = anew_then (is_asked_anew role log_now n) own.anew_is anew;
          asked = λ quiet live off is. absurd (let e : true ≡ false = sym is ∙ ap (is_open is_closed) stage_is in cc e);
          handed = λ serves. absurd (let e : Rattle.streams.specs.State.HandedOut ≡ Served = sym (ap kind_of stage_is) ∙ serves in cc e);
          over_by_end = view_over step fails is_closed is_finished inbound_makes outbound_makes eager names peer role acts_do acts_move (items log) n so_far old.stage s.goes.acts view s.goes.due over;
          settled = λ still. subst (λ (t : List Item). is_live role t n ≡ true → IsSettled step is_closed is_finished role t n s.goes.left new) is s.settled;
        } in
        record {
          around = around_event log_now fed sent after now past n seen_now rest (event.Done n handler) refl was_due (around_served (Some handler) s);
          own = subst (λ (t : Option (Streaming H)). IfSome t (λ it. IsMoving step fails is_closed is_finished inbound_makes outbound_makes eager names peer role
              (Says (event.Done n handler) ∷ log_now) n seen_now rest it)) (sym here) moving;
          own_held = λ live. subst (λ (t : Option (Streaming H)). IsSome t) (sym here) refl;
          own_kept = λ made going. subst (λ (t : Option (Streaming H)). IsSome t) (sym here) refl;
          own_to_reset = λ reset going. subst (λ (t : Option (Streaming H)). IsSome t) (sym here) refl;
        }

    served_on : (s : Serves step is_closed is_finished old.stage role (items log) fed sent n so_far None after new) → kind_of new.stage ≡ kind_of old.stage
        → Went log fed sent after now past n rest outcomes.Going
    served_on s kind = record {
      newer = did s.goes.acts;
      none_said = said_did s.goes.acts;
      untold = did_untold role s.goes.acts log;
      same_turn = did_keeps H s.goes.acts;
      unmade = did_none H s.goes.acts;
      seen_now = view_by s.goes.acts view;
      comes = goes_on s kind;
    }

    done_with : (handler : H) → (s : Serves step is_closed is_finished old.stage role (items log) fed sent n so_far (Some handler) after new) → kind_of old.stage ≡ Served
        → Went log fed sent after now past n rest (outcomes.Done handler)
    done_with handler s kind = record {
      newer = did s.goes.acts;
      none_said = said_did s.goes.acts;
      untold = did_untold role s.goes.acts log;
      same_turn = did_keeps H s.goes.acts;
      unmade = did_none H s.goes.acts;
      seen_now = view_by s.goes.acts view;
      comes = is_done handler s kind;
    }

  -- ---- a stream that is asked

  module _ (acts_do : ActsDo) (acts_move : ActsMove) (log : List (Entry H)) (fed sent : List ℕ) (before after : State) (streams now : ℕ → Option (Streaming H))
      (past : List (Earlier H)) (n : ℕ) (view : Seen) (rest : List Told) (old new : Streaming H)
      (a : Around step fails is_closed is_finished inbound_makes outbound_makes eager names peer role log fed sent before streams past n view rest)
      (no_more : (all_heard n view rest).came ≡ view.came)
      (served : MayBeServed step fails is_closed is_finished inbound_makes outbound_makes eager names peer role log n view rest old)
      (elsewhere : (m : ℕ) → (n == m) ≡ false → now m ≡ streams m) (here : now n ≡ Some new) where
    come_so : HasCome step fails is_closed is_finished inbound_makes outbound_makes eager names peer role log n served.held.so_far
    come_so = come_of step fails is_closed is_finished inbound_makes outbound_makes eager names peer role acts_do acts_move log n view rest served.held.so_far served.held.side_is served.held.got_is served.held.ended_is served.held.sent_is served.held.made_is
        served.held.calls_is a.opens_none a.ends_last a.heard

    holding : (handler : H) (stage : Stage H) → handler_of stage ≡ Some handler → was_handed_out stage ≡ false
    holding handler (stages.Talking talk it) e = refl
    holding handler (stages.Agreed index) e = refl
    holding handler (stages.Serving it) e = refl
    holding handler stages.Done e = absurd (cc e)
    holding handler stages.Over e = refl

    in_turn_by : {handler : H} {T : Type 0} (stage : Stage H) → handler_of stage ≡ Some handler → (kind_of stage ≡ Served → T) → (is_talking stage ≡ true) ⊎ T
    in_turn_by (stages.Talking talk it) held begun = inl refl
    in_turn_by (stages.Agreed index) held begun = absurd (cc held)
    in_turn_by (stages.Serving it) held begun = inr (begun refl)
    in_turn_by stages.Done held begun = absurd (cc held)
    in_turn_by stages.Over held begun = absurd (cc held)

    -- its handler may be asked for as much as there is credit behind what waits
    may_give : (handler : H) (room : ℕ) → handler_of old.stage ≡ Some handler → is_closed handler ≡ false → is_open is_closed old.stage ≡ true → is_live role (items log) n ≡ true
        → closed role (items log) n ≡ false → room ≡ credit role (items log) n - length old.waiting
        → MayBeAsked step fails is_closed is_finished inbound_makes outbound_makes eager names peer role log n (ToGive room)
    may_give handler room held unclosed asked live open_still room_is = record {
      there = record { so_far = served.held.so_far; stream = old; come = come_so; stands = served.held.stands };
      handler = handler;
      held = held;
      asked_for = (a.heard.came ∙ no_more ∙ sym served.held.got_is, room_is);
      in_turn = (live, open_still, unclosed, served.anew asked, in_turn_by old.stage held served.handed);
      talking = served.held.talking;
      agreed_on = served.held.agreed_on;
      going = served.held.over ∙ holding handler old.stage held;
      settled = λ e. absurd (cc e);
      asked = λ e. absurd (cc e);
    }

    held_open : (held : Option H) → holds (λ handler. not (is_closed handler)) held ≡ true → (handler : H) × (held ≡ Some handler) × (is_closed handler ≡ false)
    held_open None e = absurd (cc e)
    held_open (Some handler) e = (handler, refl, not_true (is_closed handler) e)

    call_due : (call : HandlerCall) → StreamMayBeAsked step is_closed role (items log) n old call
        → IsDue step fails is_closed is_finished inbound_makes outbound_makes eager names peer role log (Calls n call)
    unfolding may_give
    call_due (Give room bytes) may =
        let it = held_open (handler_of old.stage) may.2 in
        let answered = may.4 it.0 it.1 in
        record { asked = may_give it.0 room it.1 it.2 may.2 may.0 may.1 may.3; after = answered.0; answers = answered.1 }
    call_due (Take bytes) may = absurd may
    call_due End may = absurd may

    -- its handler gives up
    pub is_broken : (credit_now : ℕ) (cause : Cause) → after ≡ before → open_credit role (items log) n ≡ Some credit_now → GivesUp fails is_closed old credit_now (stops.Broken cause)
        → Around step fails is_closed is_finished inbound_makes outbound_makes eager names peer role (Says (event.Broken n cause) ∷ log) fed sent after now past n view rest
        × (cause ≢ causes.Reset)
    unfolding may_give
    is_broken credit_now cause same_session is_open g = (
      around_event log fed sent after now past n view rest (event.Broken n cause) refl (served.held.over ∙ holding g.handler old.stage g.held, by_fault cause g.fails_by.0 (same_cause g.fails_by.1) g.fails_by.2)
          (still step fails is_closed is_finished inbound_makes outbound_makes eager names peer role log fed sent before after streams now past n view rest same_session elsewhere a),
      λ reset. absurd (let e : causes.Reset ≡ causes.Handler g.fails_by.0 = sym reset ∙ same_cause g.fails_by.1 in cc e),
    ) where
      same_cause : {x y : Cause} → stops.Broken x ≡ stops.Broken y → x ≡ y
      same_cause e = cc e

      by_fault : (why : Cause) (fault : HandlerFault) → why ≡ causes.Handler fault → fails g.handler (ToGive (credit_now - length old.waiting)) fault.number
          → IsBroken step fails is_closed is_finished inbound_makes outbound_makes eager names peer role log n why
      by_fault why fault e failed =
          let it = open_with role (items log) n credit_now is_open in
          subst (λ (t : Cause). IsBroken step fails is_closed is_finished inbound_makes outbound_makes eager names peer role log n t) (sym e) (record {
            request = ToGive (credit_now - length old.waiting);
            asked = may_give g.handler (credit_now - length old.waiting) g.held g.unclosed
                (ap (holds (λ handler. not (is_closed handler))) g.held ∙ ap not g.unclosed) it.is_live it.unclosed (ap (λ k. k - length old.waiting) (sym it.credit_is));
            fails_by = failed;
          })

    -- where it isn't asked it goes on to be asked anew where it was
    anew_unasked : AllByRecursion (IsQuiet n) rest ⊎ ((is_open is_closed old.stage ≡ false) × (is_asked_anew role log n ≡ true))
        → AllByRecursion (IsQuiet n) rest ⊎ (is_asked_anew role log n ≡ true)
    anew_unasked (inl quiet) = inl quiet
    anew_unasked (inr it) = inr it.1

    -- behind a call neither data nor credit is to be routed
    quiet_behind : {Q : Type 0} (call : HandlerCall) → StreamMayBeAsked step is_closed role (items log) n old call
        → AllByRecursion (IsQuiet n) rest ⊎ ((is_open is_closed old.stage ≡ false) × (is_asked_anew role log n ≡ true)) → AllByRecursion (IsQuiet n) rest ⊎ Q
    quiet_behind call may (inl quiet) = inl quiet
    quiet_behind (Give room bytes) may (inr it) = absurd (let e : true ≡ false = sym may.2 ∙ it.0 in cc e)
    quiet_behind (Take bytes) may (inr it) = absurd may
    quiet_behind End may (inr it) = absurd may

    -- and it was asked for bytes
    asked_now : (call : HandlerCall) → StreamMayBeAsked step is_closed role (items log) n old call → is_asked_anew role (Calls n call ∷ log) n ≡ false
    asked_now (Give room bytes) may = ap (λ b. cond b false (is_asked_anew role log n)) (same n)
    asked_now (Take bytes) may = absurd may
    asked_now End may = absurd may

    shut_before : IsUnasked step is_closed role (items log) n old → WasAskedLast is_closed role log n old
    shut_before unasked = λ live off is. absurd (let e : true ≡ false = sym is ∙ unasked live off in cc e)

    not_open : (IsUnasked step is_closed role (items log) n old × IsUnasked step is_closed role (items log) n new) → WasAskedLast is_closed role log n new
    not_open unasked = λ live off is. absurd (let e : true ≡ false = sym is ∙ unasked.1 live off in cc e)

    -- by at most one call
    pub went : (outcome : Outcome H) → Came step fails is_closed is_finished role (items log) fed sent n served.held.so_far old before outcome after new
        → Went log fed sent after now past n rest outcome
    went outcomes.Going ((None, may, s, unasked), kind) =
        served_on acts_do acts_move log fed sent before after streams now past n view rest served.held.so_far old new a no_more (listed log n view.came view.ended old served.held) served.over_by_end (anew_unasked served.last) (not_open unasked) (shut_before unasked.0) served.handed elsewhere here s kind
    went outcomes.Going ((Some call, may, s, unasked), kind) =
        went_behind log fed sent after now past n rest outcomes.Going call
        (served_on acts_do acts_move (Calls n call ∷ log) fed sent before after streams now past n view rest (with_call served.held.so_far (Some call)) old new
        (around_call log fed sent before streams past n view rest call (call_due call may) a) no_more (listed_behind log n view.came view.ended served.held.so_far old call (listed log n view.came view.ended old served.held))
        served.over_by_end (quiet_behind call may served.last) (λ live off is. asked_now call may) (λ live off is. asked_now call may) (λ serves. handed_still log n call (served.handed serves)) elsewhere here s kind)
    went (outcomes.Done handler) ((None, may, s, unasked), kind) =
        done_with acts_do acts_move log fed sent before after streams now past n view rest served.held.so_far old new a no_more (listed log n view.came view.ended old served.held) served.over_by_end (anew_unasked served.last) (not_open unasked) (shut_before unasked.0) served.handed elsewhere here handler s kind
    went (outcomes.Done handler) ((Some call, may, s, unasked), kind) =
        went_behind log fed sent after now past n rest (outcomes.Done handler) call
        (done_with acts_do acts_move (Calls n call ∷ log) fed sent before after streams now past n view rest (with_call served.held.so_far (Some call)) old new
        (around_call log fed sent before streams past n view rest call (call_due call may) a) no_more (listed_behind log n view.came view.ended served.held.so_far old call (listed log n view.came view.ended old served.held))
        served.over_by_end (quiet_behind call may served.last) (λ live off is. asked_now call may) (λ live off is. asked_now call may) (λ serves. handed_still log n call (served.handed serves)) elsewhere here handler s kind)
    went outcomes.Refused c = absurd c
    went (outcomes.Broken cause) c = record { newer = []; none_said = refl; untold = refl; same_turn = tt; unmade = tt; seen_now = view; comes = is_broken c.1.0 cause c.0 c.1.1 c.1.2 }
