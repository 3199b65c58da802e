-- Where the streams stand once data of one of them was told.
use Rattle.std.proofs.Common.{◌≡◌, ◌≢◌, ◌⊎◌, inl, inr, ℕ, ◌==◌, ◌||◌, Bool, true, false, cond, List, [], ◌∷◌, ◌++◌, map, Option, Some, None, refl, sym, ap, ◌∙◌, subst}
use Rattle.std.specs.List.{AllByRecursion}
use Rattle.std.proofs.lemmas.List.{append-nil, append_assoc}
use Rattle.handlers.specs.Calls.{HandlerCall, Take, Asked, ToTake}
use Rattle.talks.specs.Talks.{Side, Asks, Answers}
use Rattle.yamux_session.specs.declared.event.Role.{Role}
use Rattle.yamux_session.specs.Data.{inbound}
use Rattle.yamux_session.specs.Events.{Told, events}
use Rattle.yamux_session.specs.Seen.{Seen, seen, all_heard, AgreesOn, IsQuiet, ActsDo, ActsMove}
use Rattle.yamux_session.specs.State.{State}
use Rattle.streams.specs.declared.stop.Cause.TheVariants as causes
use Rattle.streams.specs.Streams.{Past, with_call}
use Rattle.streams.specs.declared.stage.Stage.{Stage}
use Rattle.streams.specs.declared.stage.Stage.TheVariants as stages
use Rattle.streams.specs.State.{Streaming, Stands, is_talking, is_open, handler_of, has_finished, was_handed_out, answering, kind_of, Served as Serves}
use Rattle.dispatch.specs.declared.direction.Direction.TheVariants.{Inbound, Outbound}
use Rattle.dispatch.specs.Dispatch.{IsKnown, IsMade, makes_once}
use Rattle.routing.specs.declared.delivered.Outcome.{Outcome}
use Rattle.routing.specs.declared.delivered.Outcome.TheVariants as outcomes
use Rattle.routing.specs.declared.delivered.Delivered.{Delivered}
use Rattle.routing.specs.Routing.{Came, Takes, HasAgreed, Stops, InTalk, Delivers}
use Rattle.serving.specs.Served.{AnswersCall}
use Rattle.conn_log.specs.declared.earlier.Earlier.{Earlier}
use Rattle.conn_log.specs.declared.event.ConnEvent.{ConnEvent}
use Rattle.conn_log.specs.declared.event.ConnEvent.TheVariants as event
use Rattle.conn_log.specs.Entries.{Entry, items, said, agreed, is_over, was_done, made_of, calls_of, has_taken, agreement}
use Rattle.conn_log.specs.Entries.Entry.{Says, Made, Calls}
use Rattle.conn_log.specs.Asking.{is_asked_anew}
use Rattle.conn_log.specs.Due.{direction_of, HasJustAgreed, MayBeAsked, IsDue, told_reset, was_reset, told_end}
use Rattle.conn_log.specs.Making.{MakesNone, MakesOn}
use Rattle.conn_log.specs.Held.{IsSide, IsHeld}
use Rattle.conn_log.specs.Routes.{KeepsTurn, IsNoOpening, IsNoCredit, EndsLast, Around, Comes}
use Rattle.conn_log.proofs.Turning.{same_turns}
use Rattle.conn_log.proofs.Making.{makes_none, mades, none_mades, mades_append, made_by}
use Rattle.conn_log.proofs.Same.{same_by_making}
use Rattle.conn_log.proofs.Around.{grown, still}
use Rattle.conn_log.proofs.Views.{same, came_front}
use Rattle.serving.proofs.StageKinds.{same_talking, same_awaiting, same_handed, served_talking, served_handed, served_awaits, talking_kind, talking_awaits}
use Rattle.conn_log.proofs.Settling.{said_append}
use Rattle.conn_log.proofs.Comes.{Went as Served, went, went_behind, around_event, around_call, IsListed, listed, listed_behind, answered_by, answered_anew, none_serves, handed_by}

-- what is seen of a stream of which these bytes came
abbrev pub with_bytes : List ℕ → Seen → Seen
with_bytes bytes view = record view { came = view.came ++ bytes }

-- and it is what was told
pub heard_bytes : (n : ℕ) (view : Seen) (bytes : List ℕ) (rest : List Told) → all_heard n view (map (Told.Payload n) bytes ++ rest) ≡ all_heard n (with_bytes bytes view) rest
heard_bytes n view [] rest = ap (λ t. all_heard n (record view { came = t }) rest) (sym (append-nil view.came))
heard_bytes n view (b ∷ bytes) rest =
    ap (λ x. all_heard n (cond x (record view { came = view.came ++ b ∷ [] }) view) (map (Told.Payload n) bytes ++ rest)) (same n)
    ∙ heard_bytes n (record view { came = view.came ++ b ∷ [] }) bytes rest
    ∙ ap (λ t. all_heard n (record view { came = t }) rest) (append_assoc view.came (b ∷ []) bytes)

none_opened : (n : ℕ) (bytes : List ℕ) (rest : List Told) → AllByRecursion (IsNoOpening n) (map (Told.Payload n) bytes ++ rest) → AllByRecursion (IsNoOpening n) rest
none_opened n [] rest none = none
none_opened n (b ∷ bytes) rest none = none_opened n bytes rest none.1

still_last : (ended : Bool) (n : ℕ) (bytes : List ℕ) (rest : List Told) → EndsLast ended (map (Told.Payload n) bytes ++ rest) → EndsLast ended rest
still_last ended n [] rest last = last
still_last ended n (b ∷ bytes) rest last = still_last ended n bytes rest last.1

none_more : (n : ℕ) (bytes : List ℕ) (rest : List Told) → AllByRecursion IsNoCredit (map (Told.Payload n) bytes ++ rest) → AllByRecursion IsNoCredit rest
none_more n [] rest none = none
none_more n (b ∷ bytes) rest none = none_more n bytes rest none.1

-- no credit is told behind data
pub no_credit_behind : (ended : Bool) (n : ℕ) (bytes : List ℕ) (rest : List Told) → bytes ≢ [] → EndsLast ended (map (Told.Payload n) bytes ++ rest) → AllByRecursion IsNoCredit rest
no_credit_behind ended n [] rest some last = absurd (some refl)
no_credit_behind ended n (b ∷ bytes) rest some last = none_more n bytes rest last.2

pub bytes_reset : (m n : ℕ) (bytes : List ℕ) (rest : List Told) → told_reset m (map (Told.Payload n) bytes ++ rest) ≡ told_reset m rest
bytes_reset m n [] rest = refl
bytes_reset m n (b ∷ bytes) rest = bytes_reset m n bytes rest

bytes_end : (m n : ℕ) (bytes : List ℕ) (rest : List Told) → told_end m (map (Told.Payload n) bytes ++ rest) ≡ told_end m rest
bytes_end m n [] rest = refl
bytes_end m n (b ∷ bytes) rest = bytes_end m n bytes rest

-- data comes before the end
pub before_the_end : (ended : Bool) (n : ℕ) (bytes : List ℕ) (rest : List Told) → bytes ≢ [] → EndsLast ended (map (Told.Payload n) bytes ++ rest) → ended ≡ false
before_the_end ended n [] rest some last = absurd (some refl)
before_the_end ended n (b ∷ bytes) rest some last = last.0

-- the talk of a stream is about the names of the connection
pub is_known : {H : Type 0} (role : Role) (names : List (List ℕ)) (log : List (Entry H)) (n : ℕ) (side : Side) → IsSide role names log n side → IsKnown names (direction_of role n) side
is_known role names log n (Asks name index) s = subst (λ (b : Bool). IsKnown names (cond b Outbound Inbound) (Asks name index)) (sym s.0) s.2
is_known role names log n (Answers known) s = subst (λ (b : Bool). IsKnown names (cond b Outbound Inbound) (Answers known)) (sym s.0) s.1

module _ {P H : Type 0} (step : H → HandlerCall → H → Type 0) (fails : H → Asked → ℕ → Type 0)
    (is_closed is_finished : H → Bool) (inbound_makes outbound_makes : P → ℕ → List ℕ → H → Type 0)
    (eager : ℕ → Bool) (names : List (List ℕ)) (peer : List ℕ) (role : Role) where
  -- data was told, and nothing was done yet
  pub data_came : (log : List (Entry H)) (fed sent : List ℕ) (session : State) (streams : ℕ → Option (Streaming H)) (past : List (Earlier H)) (n : ℕ) (view : Seen) (bytes : List ℕ) (rest : List Told)
      → Around step fails is_closed is_finished inbound_makes outbound_makes eager names peer role log fed sent session streams past n view (map (Told.Payload n) bytes ++ rest)
      → Around step fails is_closed is_finished inbound_makes outbound_makes eager names peer role log fed sent session streams past n (with_bytes bytes view) rest
  data_came log fed sent session streams past n view bytes rest a = record {
    session_stands = a.session_stands;
    due = a.due;
    others = a.others;
    others_held = a.others_held;
    others_kept = a.others_kept;
    resets_told = λ m. subst (λ b. was_reset role (items log) m ≡ true → (is_over role log m ≡ true) ⊎ (b ≡ true)) (bytes_reset m n bytes rest) (a.resets_told m);
    reset_came = subst (λ b. b ≡ true → was_reset role (items log) n ≡ true) (bytes_reset n n bytes rest) a.reset_came;
    end_told = λ told. a.end_told (bytes_end n n bytes rest ∙ told);
    end_came = λ reset. ap (λ b. view.ended || b) (sym (bytes_end n n bytes rest)) ∙ a.end_came (bytes_reset n n bytes rest ∙ reset);
    heard = subst (λ (x : Seen). AgreesOn (seen role (items log) n) x) (heard_bytes n view bytes rest) a.heard;
    opens_none = none_opened n bytes rest a.opens_none;
    ends_last = still_last view.ended n bytes rest a.ends_last;
    earlier = a.earlier;
    past_is = a.past_is;
    in_turn = a.in_turn;
    turn_is = a.turn_is;
  }

  -- its handler was made
  around_making : (log : List (Entry H)) (fed sent : List ℕ) (session : State) (streams : ℕ → Option (Streaming H)) (past : List (Earlier H)) (n : ℕ) (view : Seen) (rest : List Told) (made : H)
      → IsDue step fails is_closed is_finished inbound_makes outbound_makes eager names peer role log (Made n made)
      → Around step fails is_closed is_finished inbound_makes outbound_makes eager names peer role log fed sent session streams past n view rest
      → Around step fails is_closed is_finished inbound_makes outbound_makes eager names peer role (Made n made ∷ log) fed sent session streams past n view rest
  around_making log fed sent session streams past n view rest made is_due a =
      grown step fails is_closed is_finished inbound_makes outbound_makes eager names peer role log (Made n made ∷ []) fed sent session session streams streams past n view view rest a
      (is_due, a.due) (λ m apart. same_by_making role log n m made apart) a.session_stands (λ m apart. refl) a.heard refl (λ m. refl) (λ m. refl) refl (λ m over. over) (refl, tt)

  -- What data came to: by these entries, that tell this, and whose handlers were made so.
  pub record Went (making : List (Entry H) → List (Entry H) → Type 0) (log : List (Entry H)) (told : List (ConnEvent H)) (fed sent : List ℕ) (session : State) (streams : ℕ → Option (Streaming H)) (past : List (Earlier H)) (n : ℕ) (rest : List Told)
      (outcome : Outcome H) : Type 0 where
    pub newer : List (Entry H)
    pub said_is : said newer ≡ told
    pub untold : events role (items (newer ++ log)) ≡ events role (items log)
    pub same_turn : KeepsTurn newer
    pub makes : making log (newer ++ log)
    pub mades_are : mades newer ≡ made_by n told (made_of role log n)
    pub seen_now : Seen
    pub comes : Comes step fails is_closed is_finished inbound_makes outbound_makes eager names peer role (newer ++ log) fed sent session streams past n seen_now rest outcome

  module _ (acts_do : ActsDo) (acts_move : ActsMove) (fed sent : List ℕ) (before after : State) (streams now : ℕ → Option (Streaming H))
      (past : List (Earlier H)) (n : ℕ) (view : Seen) (rest : List Told) (new : Streaming H) (over : view.live ≡ false → view.ended ≡ true)
      (no_more : (all_heard n view rest).came ≡ view.came) (quiet : AllByRecursion (IsQuiet n) rest)
      (elsewhere : (m : ℕ) → (n == m) ≡ false → now m ≡ streams m) (here : now n ≡ Some new) where
    -- a stream that is given up, and why
    stopped : (making : List (Entry H) → List (Entry H) → Type 0) (log : List (Entry H)) → ((newer : List (Entry H)) → MakesNone newer → making log (newer ++ log))
        → (outcome : Outcome H) (told : ConnEvent H) → after ≡ before
        → Around step fails is_closed is_finished inbound_makes outbound_makes eager names peer role log fed sent before streams past n view rest
        → (Around step fails is_closed is_finished inbound_makes outbound_makes eager names peer role (Says told ∷ log) fed sent after now past n view rest
        → Comes step fails is_closed is_finished inbound_makes outbound_makes eager names peer role log fed sent after now past n view rest outcome)
        → Rattle.conn_log.proofs.Same.IsOf n told → IsDue step fails is_closed is_finished inbound_makes outbound_makes eager names peer role log (Says told)
        → Went making log [] fed sent after now past n rest outcome
    stopped making log keeps outcome told same_session a come of is_due = record {
      newer = [];
      said_is = refl;
      untold = refl;
      same_turn = tt;
      makes = keeps [] tt;
      mades_are = refl;
      seen_now = view;
      comes = come (around_event step fails is_closed is_finished inbound_makes outbound_makes eager names peer role log fed sent after now past n view rest told of is_due (still step fails is_closed is_finished inbound_makes outbound_makes eager names peer role log fed sent before after streams now past n view rest same_session elsewhere a));
    }

    -- bytes behind the talk are handed over to one that isn't finished, and was handed what stood there, or has just agreed
    abbrev MayTake : List (Entry H) → Stage H → List ℕ → Type 0
    MayTake log stage bytes =
        ((has_finished is_finished stage ≡ false) × (bytes ≢ []) × (kind_of stage ≡ Serves → has_taken (calls_of role log n) ≡ true)) ⊎ HasJustAgreed n log

    in_turn_by : (log : List (Entry H)) {stage : Stage H} {bytes : List ℕ} {handler : H} → MayTake log stage bytes → stage ≡ stages.Serving handler
        → ((is_finished handler ≡ false) × (bytes ≢ []) × (has_taken (calls_of role log n) ≡ true)) ⊎ HasJustAgreed n log
    in_turn_by log (inl (unfinished, some, begun)) serves = inl (sym (ap (has_finished is_finished) serves) ∙ unfinished, some, begun (ap kind_of serves))
    in_turn_by log (inr just_agreed) serves = inr just_agreed

    -- the handler may be told data behind the talk
    may_take : (log : List (Entry H)) (bytes : List ℕ) (old : Streaming H) (got : List ℕ) → MayTake log old.stage bytes
        → (a : Around step fails is_closed is_finished inbound_makes outbound_makes eager names peer role log fed sent before streams past n view rest)
        → view.came ≡ got ++ bytes → view.ended ≡ false → (h : IsHeld step is_closed is_finished names role log n got view.ended old)
        → (handler : H) → old.stage ≡ stages.Serving handler → MayBeAsked step fails is_closed is_finished inbound_makes outbound_makes eager names peer role log n (ToTake bytes)
    may_take log bytes old got turn a came going h handler serves =
        let data_is : inbound role (items log) n ≡ h.so_far.got ++ bytes = a.heard.came ∙ no_more ∙ came ∙ ap (λ t. t ++ bytes) (sym h.got_is) in
        record {
          there = record {
            so_far = h.so_far;
            stream = old;
            come = record {
              side_is = h.side_is;
              rest = bytes;
              got_is = data_is;
              ended_by = λ is. absurd (let e : true ≡ false = sym is ∙ h.ended_is ∙ going in cc e);
              sent_is = h.sent_is;
              made_is = h.made_is;
              calls_is = h.calls_is;
            };
            stands = h.stands;
          };
          handler = handler;
          held = ap handler_of serves;
          asked_for = data_is;
          in_turn = (serves, h.ended_is ∙ going, in_turn_by log turn serves);
          talking = h.talking;
          agreed_on = h.agreed_on;
          going = h.over ∙ ap was_handed_out serves;
          settled = λ e. absurd (cc e);
          asked = λ e. absurd (cc e);
        }

    -- and answers
    take_due : (log : List (Entry H)) (bytes : List ℕ) (old : Streaming H) (got : List ℕ) → MayTake log old.stage bytes
        → (a : Around step fails is_closed is_finished inbound_makes outbound_makes eager names peer role log fed sent before streams past n view rest)
        → view.came ≡ got ++ bytes → view.ended ≡ false → (h : IsHeld step is_closed is_finished names role log n got view.ended old)
        → (handler : H) → old.stage ≡ stages.Serving handler → AnswersCall step old.stage (Take bytes)
        → IsDue step fails is_closed is_finished inbound_makes outbound_makes eager names peer role log (Calls n (Take bytes))
    unfolding may_take
    take_due log bytes old got turn a came going h handler serves answers =
        let it = answers handler (ap handler_of serves) in
        record { asked = may_take log bytes old got turn a came going h handler serves; after = it.0; answers = it.1 }

    -- it stands by it then, and was served
    took : (log : List (Entry H)) (bytes : List ℕ) (so_far : Past H) (old middle : Streaming H) (got : List ℕ) (outcome : Outcome H)
        → (a : Around step fails is_closed is_finished inbound_makes outbound_makes eager names peer role log fed sent before streams past n view rest)
        → view.came ≡ got ++ bytes → (l : IsListed step fails is_closed is_finished inbound_makes outbound_makes eager names peer role log n got view.ended so_far old)
        → (is_open is_closed middle.stage ≡ true → is_asked_anew role log n ≡ true)
        → (kind_of middle.stage ≡ Serves → has_taken (calls_of role log n) ≡ true) → Stands step middle (record so_far { got = so_far.got ++ bytes; left = None }) → kind_of middle.stage ≡ kind_of old.stage
        → Came step fails is_closed is_finished role (items log) fed sent n (record so_far { got = so_far.got ++ bytes; left = None }) middle before outcome after new
        → Served step fails is_closed is_finished inbound_makes outbound_makes eager names peer role log fed sent after now past n rest outcome
    took log bytes so_far old middle got outcome a came l anew handed stands kind came_to =
        let held : IsHeld step is_closed is_finished names role log n view.came view.ended middle = record {
          so_far = record so_far { got = so_far.got ++ bytes; left = None };
          side_is = l.side_is;
          got_is = ap (λ t. t ++ bytes) l.got_is ∙ sym came;
          ended_is = l.ended_is;
          sent_is = l.sent_is;
          made_is = l.made_is;
          calls_is = l.calls_is;
          stands = stands;
          talking = λ is. l.talking (sym (same_talking middle.stage old.stage kind) ∙ is);
          agreed_on = λ is. l.agreed_on (sym (same_talking middle.stage old.stage kind) ∙ is);
          over = l.over ∙ sym (same_handed middle.stage old.stage kind);
          done = l.done ∙ sym (same_handed middle.stage old.stage kind);
          served = same_awaiting middle.stage old.stage kind ∙ l.served;
        } in
        went step fails is_closed is_finished inbound_makes outbound_makes eager names peer role acts_do acts_move log fed sent before after streams now past n view rest middle new a no_more
        (record { held = held; over_by_end = over; last = inl quiet; anew = anew; handed = handed }) elsewhere here outcome came_to

    -- the handler took data behind the talk
    pub takes : (making : List (Entry H) → List (Entry H) → Type 0) (log : List (Entry H)) → ((newer : List (Entry H)) → MakesNone newer → making log (newer ++ log))
        → (bytes : List ℕ) (old : Streaming H) (got : List ℕ) (outcome : Outcome H)
        → MayTake log old.stage bytes → is_asked_anew role log n ≡ true
        → (a : Around step fails is_closed is_finished inbound_makes outbound_makes eager names peer role log fed sent before streams past n view rest)
        → view.came ≡ got ++ bytes → view.ended ≡ false
        → (h : IsHeld step is_closed is_finished names role log n got view.ended old)
        → Takes step fails is_closed is_finished role (items log) fed sent n h.so_far bytes old before outcome after new
        → Went making log [] fed sent after now past n rest outcome
    unfolding may_take
    takes making log keeps bytes old got outcome turn anew a came going h (inl served) = told_none (by_answer (answering old.stage (Take bytes)) refl) where
      told_none : Served step fails is_closed is_finished inbound_makes outbound_makes eager names peer role log fed sent after now past n rest outcome → Went making log [] fed sent after now past n rest outcome
      told_none it = record {
        newer = it.newer;
        said_is = it.none_said;
        untold = it.untold;
        same_turn = it.same_turn;
        makes = keeps it.newer it.unmade;
        mades_are = none_mades it.newer it.unmade;
        seen_now = it.seen_now;
        comes = it.comes;
      }

      stands : (answer : Option HandlerCall) → answering old.stage (Take bytes) ≡ answer → Stands step served.0 (with_call (record h.so_far { got = h.so_far.got ++ bytes; left = None }) answer)
      stands answer is = subst (λ (c : Option HandlerCall). Stands step served.0 (with_call (record h.so_far { got = h.so_far.got ++ bytes; left = None }) c)) is served.1

      came_to : (answer : Option HandlerCall) → answering old.stage (Take bytes) ≡ answer
          → Came step fails is_closed is_finished role (items log) fed sent n (with_call (record h.so_far { got = h.so_far.got ++ bytes; left = None }) answer) served.0 before outcome after new
      came_to answer is = subst (λ (c : Option HandlerCall). Came step fails is_closed is_finished role (items log) fed sent n (with_call (record h.so_far { got = h.so_far.got ++ bytes; left = None }) c) served.0 before outcome after new) is served.4

      by_answer : (answer : Option HandlerCall) → answering old.stage (Take bytes) ≡ answer → Served step fails is_closed is_finished inbound_makes outbound_makes eager names peer role log fed sent after now past n rest outcome
      by_answer None is = took log bytes h.so_far old served.0 got outcome a came (listed step fails is_closed is_finished inbound_makes outbound_makes eager names peer role log n got view.ended old h)
          (λ open_still. anew)
          (λ serves. absurd (none_serves old.stage served.0.stage (Take bytes) is served.2 serves)) (stands None is) served.2 (came_to None is)
      by_answer (Some call) is =
          let serves = answered_by old.stage (Take bytes) call is in
          let may : IsDue step fails is_closed is_finished inbound_makes outbound_makes eager names peer role log (Calls n call) =
          subst (λ (c : HandlerCall). IsDue step fails is_closed is_finished inbound_makes outbound_makes eager names peer role log (Calls n c)) (sym serves.0)
          (take_due log bytes old got turn a came going h serves.1.0 serves.1.1 served.3) in
          went_behind step fails is_closed is_finished inbound_makes outbound_makes eager names peer role log fed sent after now past n rest outcome call
          (took (Calls n call ∷ log) bytes (with_call h.so_far (Some call)) old served.0 got outcome
          (around_call step fails is_closed is_finished inbound_makes outbound_makes eager names peer role log fed sent before streams past n view rest call may a) came
          (listed_behind step fails is_closed is_finished inbound_makes outbound_makes eager names peer role log n got view.ended h.so_far old call (listed step fails is_closed is_finished inbound_makes outbound_makes eager names peer role log n got view.ended old h))
          (λ open_still. answered_anew role n call serves.0 refl log)
          (λ serving. handed_by step fails is_closed is_finished inbound_makes outbound_makes eager names peer role log n call bytes serves.0)
          (stands (Some call) is) served.2 (came_to (Some call) is))
    takes making log keeps bytes old got outcome turn anew a came going h (inr f) =
        stopped making log keeps outcome (event.Broken n (causes.Handler f.1.1)) f.0 a
        (λ around. subst (λ (o : Outcome H). Comes step fails is_closed is_finished inbound_makes outbound_makes eager names peer role log fed sent after now past n view rest o) (sym f.1.4)
        (around, λ e. absurd (cc e)))
        refl (
          h.over ∙ ap was_handed_out f.1.2,
          record { request = ToTake bytes; asked = may_take log bytes old got turn a came going h f.1.0 f.1.2; fails_by = f.1.3 },
        )

    -- ---- in the talk

    module _ (inbound_leads outbound_leads : P → ℕ → List ℕ → H → P → Type 0) (protocols behind_them : P) (log : List (Entry H)) (bytes : List ℕ) (old : Streaming H) (got : List ℕ)
        (a : Around step fails is_closed is_finished inbound_makes outbound_makes eager names peer role log fed sent before streams past n view rest)
        (came : view.came ≡ got ++ bytes) (going : view.ended ≡ false) (h : IsHeld step is_closed is_finished names role log n got view.ended old)
        (unfinished : has_finished is_finished old.stage ≡ false) (some : bytes ≢ []) (anew : is_asked_anew role log n ≡ true) (begun : kind_of old.stage ≡ Serves → has_taken (calls_of role log n) ≡ true) where
      abbrev pub makes : ℕ → H → Type 0
      makes = makes_once inbound_makes outbound_makes inbound_leads outbound_leads (direction_of role n) peer protocols behind_them

      abbrev pub none_made : Type 0
      none_made = behind_them ≡ protocols

      -- the handlers of the list are made in turn
      abbrev pub making : List (Entry H) → List (Entry H) → Type 0
      making = MakesOn inbound_leads outbound_leads peer role protocols behind_them

      keeps : none_made → (newer : List (Entry H)) → MakesNone newer → making log (newer ++ log)
      keeps kept newer none = makes_none inbound_leads outbound_leads peer role protocols behind_them kept log newer none

      -- what comes behind this piece
      behind : List ℕ
      behind = (came_front n view rest a.opens_none).0

      data_is : inbound role (items log) n ≡ (h.so_far.got ++ bytes) ++ behind
      unfolding behind
      data_is = a.heard.came ∙ (came_front n view rest a.opens_none).1 ∙ ap (λ t. t ++ behind) (came ∙ ap (λ t. t ++ bytes) (sym h.got_is))

      by_front : (front more : List ℕ) → bytes ≡ front ++ more → inbound role (items log) n ≡ (h.so_far.got ++ front) ++ (more ++ behind)
      by_front front more is =
          data_is ∙ ap (λ t. (h.so_far.got ++ t) ++ behind) is ∙ ap (λ t. t ++ behind) (sym (append_assoc h.so_far.got front more)) ∙ append_assoc (h.so_far.got ++ front) more behind

      not_over : is_talking old.stage ≡ true → is_over role log n ≡ false
      not_over talks = h.over ∙ talking_kind old.stage talks

      not_done : is_talking old.stage ≡ true → was_done role log n ≡ false
      not_done talks = h.done ∙ talking_kind old.stage talks

      decided : (outcome : Outcome H) → is_talking old.stage ≡ true → after ≡ before
          → Stops step fails is_closed is_finished role (items log) fed sent n makes none_made h.so_far bytes outcome new → Went making log [] fed sent after now past n rest outcome
      decided outcomes.Refused talks same_session s =
          stopped making log (keeps s.5) outcomes.Refused (event.Refused n) same_session a (λ around. around) refl (
            h.talking talks,
            not_over talks,
            record { side = h.so_far.side; first = h.so_far.got ++ s.0; rest = s.1 ++ behind; output = s.2; side_is = h.side_is; data_is = by_front s.0 s.1 s.3; comes_to = s.4 },
          )
      decided (outcomes.Broken (causes.Select fault)) talks same_session s =
          stopped making log (keeps s.2) (outcomes.Broken (causes.Select fault)) (event.Broken n (causes.Select fault)) same_session a (λ around. (around, λ e. absurd (cc e))) refl (
            not_over talks,
            (
              s.0,
              h.talking talks,
              record { side = h.so_far.side; first = h.so_far.got ++ bytes; rest = behind; output = s.1.0; side_is = h.side_is; data_is = data_is; comes_to = s.1.1 },
            ),
          )
      decided (outcomes.Broken (causes.Handler fault)) talks same_session s = absurd s
      decided (outcomes.Broken causes.Reset) talks same_session s = absurd s
      decided (outcomes.Broken causes.Ended) talks same_session s = absurd s
      decided outcomes.Going talks same_session s = absurd s
      decided (outcomes.Done handler) talks same_session s = absurd s

      -- nothing is decided by these bytes
      undecided : (outcome : Outcome H) (middle : Streaming H) → is_talking old.stage ≡ true → Stands step middle (record h.so_far { got = h.so_far.got ++ bytes }) → is_talking middle.stage ≡ true → none_made
          → Came step fails is_closed is_finished role (items log) fed sent n (record h.so_far { got = h.so_far.got ++ bytes }) middle before outcome after new
          → Went making log [] fed sent after now past n rest outcome
      undecided outcome middle talks stands still_talks kept came_to =
          let held : IsHeld step is_closed is_finished names role log n view.came view.ended middle = record {
            so_far = record h.so_far { got = h.so_far.got ++ bytes };
            side_is = h.side_is;
            got_is = ap (λ t. t ++ bytes) h.got_is ∙ sym came;
            ended_is = h.ended_is;
            sent_is = h.sent_is;
            made_is = h.made_is;
            calls_is = h.calls_is;
            stands = stands;
            talking = λ is. h.talking talks;
            agreed_on = λ is. absurd (let e : true ≡ false = sym still_talks ∙ is in cc e);
            over = not_over talks ∙ sym (talking_kind middle.stage still_talks);
            done = not_done talks ∙ sym (talking_kind middle.stage still_talks);
            served = talking_awaits middle.stage still_talks;
          } in
          let it = went step fails is_closed is_finished inbound_makes outbound_makes eager names peer role acts_do acts_move log fed sent before after streams now past n view rest middle new a no_more
          (record { held = held; over_by_end = over; last = inl quiet; anew = λ open_still. anew; handed = λ serves. absurd (let e : true ≡ false = sym still_talks ∙ served_talking middle.stage serves in cc e) }) elsewhere here outcome came_to in
          record { newer = it.newer; said_is = it.none_said; untold = it.untold; same_turn = it.same_turn; makes = keeps kept it.newer it.unmade; mades_are = none_mades it.newer it.unmade; seen_now = it.seen_now; comes = it.comes }

      -- both ends agree by a front of these bytes, and the handler takes the rest
      agreed_on : (outcome : Outcome H) (index : ℕ) (front more : List ℕ) (middle : Streaming H) → is_talking old.stage ≡ true
          → (has : HasAgreed step makes none_made h.so_far bytes index front more middle)
          → Takes step fails is_closed is_finished role (items log) fed sent n (record h.so_far { got = h.so_far.got ++ front; made = Some has.made }) more middle before outcome after new
          → Went making log (event.Agreed n index ∷ []) fed sent after now past n rest outcome
      agreed_on outcome index front more middle talks has took = by_making has.is_made where
        told_so : List (Entry H)
        told_so = Says (event.Agreed n index) ∷ log

        told : Around step fails is_closed is_finished inbound_makes outbound_makes eager names peer role told_so fed sent before streams past n view rest
        told = around_event step fails is_closed is_finished inbound_makes outbound_makes eager names peer role log fed sent before streams past n view rest (event.Agreed n index) refl (
          h.talking talks,
          not_over talks,
          record {
            side = h.so_far.side;
            first = h.so_far.got ++ front;
            rest = more ++ behind;
            output = has.agrees.output;
            side_is = h.side_is;
            data_is = by_front front more has.agrees.bytes_are;
            comes_to = has.agrees.agrees;
          },
        ) a

        came_then : view.came ≡ (h.so_far.got ++ front) ++ more
        came_then = came ∙ ap (λ t. t ++ bytes) (sym h.got_is) ∙ ap (λ t. h.so_far.got ++ t) has.agrees.bytes_are ∙ sym (append_assoc h.so_far.got front more)

        some_index : {k : Option ℕ} → k ≡ Some index → k ≢ None
        some_index is none = absurd (let e : Some index ≡ None = sym is ∙ none in cc e)

        agreed_now : agreed role told_so n ≡ Some index
        agreed_now = ap (λ b. cond b (Some index) (agreed role log n)) (same n)

        held_at : (then : List (Entry H)) → IsSide role names then n h.so_far.side → agreed role then n ≡ Some index → is_over role then n ≡ is_over role log n → was_done role then n ≡ was_done role log n → Some has.made ≡ made_of role then n
            → h.so_far.calls ≡ calls_of role then n → h.so_far.sent ≡ Rattle.yamux_session.specs.Data.written role (items then) n
            → IsHeld step is_closed is_finished names role then n (h.so_far.got ++ front) view.ended middle
        held_at then side agrees_then over_then done_then made_then calls_then sent_then = record {
          so_far = record h.so_far { got = h.so_far.got ++ front; made = Some has.made };
          side_is = side;
          got_is = refl;
          ended_is = h.ended_is;
          sent_is = sent_then;
          made_is = made_then;
          calls_is = calls_then;
          stands = has.stands;
          talking = λ is. absurd (let e : true ≡ false = sym is ∙ served_talking middle.stage has.serving in cc e);
          agreed_on = λ is. some_index agrees_then;
          over = over_then ∙ not_over talks ∙ sym (served_handed middle.stage has.serving);
          done = done_then ∙ not_done talks ∙ sym (served_handed middle.stage has.serving);
          served = served_awaits middle.stage has.serving;
        }

        side_at : (side : Side) → IsSide role names log n side → IsSide role names told_so n side
        side_at (Asks name k) s = s
        side_at (Answers known) s = s

        side_made : (side : Side) → IsSide role names log n side → IsSide role names (Made n has.made ∷ told_so) n side
        side_made (Asks name k) s = s
        side_made (Answers known) s = s

        by_making : IsMade makes none_made h.so_far index has.made → Went making log (event.Agreed n index ∷ []) fed sent after now past n rest outcome
        by_making (inl is) =
            let it = takes making told_so (makes_none inbound_leads outbound_leads peer role protocols behind_them is.1 told_so) more middle (h.so_far.got ++ front) outcome (inr refl) anew told came_then going
            (held_at told_so (side_at h.so_far.side h.side_is) agreed_now refl refl (sym is.0 ∙ h.made_is) h.calls_is h.sent_is) took in
            record {
              newer = it.newer ++ Says (event.Agreed n index) ∷ [];
              said_is = said_append it.newer (Says (event.Agreed n index) ∷ []) ∙ ap (λ t. (event.Agreed n index ∷ []) ++ t) it.said_is;
              untold = ap (λ t. events role (items t)) (append_assoc it.newer (Says (event.Agreed n index) ∷ []) log) ∙ it.untold;
              same_turn = same_turns it.newer (Says (event.Agreed n index) ∷ []) it.same_turn tt;
              makes = subst (λ t. making log t) (sym (append_assoc it.newer (Says (event.Agreed n index) ∷ []) log)) it.makes;
              mades_are = mades_append it.newer (Says (event.Agreed n index) ∷ []) ∙ append-nil (mades it.newer) ∙ it.mades_are
                  ∙ ap (made_by n (event.Agreed n index ∷ [])) (sym is.0 ∙ h.made_is);
              seen_now = it.seen_now;
              comes = subst (λ t. Comes step fails is_closed is_finished inbound_makes outbound_makes eager names peer role t fed sent after now past n it.seen_now rest outcome)
                  (sym (append_assoc it.newer (Says (event.Agreed n index) ∷ []) log)) it.comes;
            }
        by_making (inr made) =
            let it = takes (MakesOn inbound_leads outbound_leads peer role behind_them behind_them) (Made n has.made ∷ told_so)
            (makes_none inbound_leads outbound_leads peer role behind_them behind_them refl (Made n has.made ∷ told_so)) more middle (h.so_far.got ++ front) outcome (inr (refl, refl)) (ap (λ b. b || is_asked_anew role log n) (same n))
            (around_making told_so fed sent before streams past n view rest has.made (refl, sym h.made_is ∙ made.0, (protocols, made.1.0)) told) came_then going
            (held_at (Made n has.made ∷ told_so) (side_made h.so_far.side h.side_is) agreed_now refl refl (sym (ap (λ b. cond b (Some has.made) (made_of role told_so n)) (same n))) h.calls_is h.sent_is) took in
            record {
              newer = it.newer ++ Made n has.made ∷ Says (event.Agreed n index) ∷ [];
              said_is = said_append it.newer (Made n has.made ∷ Says (event.Agreed n index) ∷ []) ∙ ap (λ t. (event.Agreed n index ∷ []) ++ t) it.said_is;
              untold = ap (λ t. events role (items t)) (append_assoc it.newer (Made n has.made ∷ Says (event.Agreed n index) ∷ []) log) ∙ it.untold;
              same_turn = same_turns it.newer (Made n has.made ∷ Says (event.Agreed n index) ∷ []) it.same_turn tt;
              makes = subst (λ t. making log t) (sym (append_assoc it.newer (Made n has.made ∷ Says (event.Agreed n index) ∷ []) log))
                  (λ first was. it.makes first (protocols, was, (refl, made.1.1)));
              mades_are = mades_append it.newer (Made n has.made ∷ Says (event.Agreed n index) ∷ []) ∙ ap (λ t. t ++ n ∷ []) it.mades_are
                  ∙ sym (ap (made_by n (event.Agreed n index ∷ [])) (sym h.made_is ∙ made.0));
              seen_now = it.seen_now;
              comes = subst (λ t. Comes step fails is_closed is_finished inbound_makes outbound_makes eager names peer role t fed sent after now past n it.seen_now rest outcome)
                  (sym (append_assoc it.newer (Made n has.made ∷ Says (event.Agreed n index) ∷ []) log)) it.comes;
            }

      in_talk : (agreed_by : Option ℕ) (outcome : Outcome H) → is_talking old.stage ≡ true
          → InTalk step fails is_closed is_finished role (items log) fed sent n makes none_made h.so_far bytes old before agreed_by outcome after new
          → Went making log (agreement n agreed_by) fed sent after now past n rest outcome
      in_talk None outcome talks (inl it) = undecided outcome it.0 talks it.1 it.2 it.3 it.4
      in_talk None outcome talks (inr it) = decided outcome talks it.0 it.2
      in_talk (Some index) outcome talks it = agreed_on outcome index it.0 it.1 it.2 talks it.3.0 it.3.1

      pub delivered_to : (delivered : Delivered H) → Delivers step fails is_closed is_finished role (items log) fed sent n makes none_made h.so_far bytes old before delivered after new
          → Went making log (agreement n delivered.agreed) fed sent after now past n rest delivered.outcome
      delivered_to delivered d = by_talk (is_talking old.stage) refl where
        by_talk : (b : Bool) → is_talking old.stage ≡ b → Went making log (agreement n delivered.agreed) fed sent after now past n rest delivered.outcome
        by_talk true e = in_talk delivered.agreed delivered.outcome e (d.0 e)
        by_talk false e = subst (λ (k : Option ℕ). Went making log (agreement n k) fed sent after now past n rest delivered.outcome) (sym (d.1 e).0)
            (takes making log (keeps (d.1 e).1) bytes old got delivered.outcome (inl (unfinished, some, begun)) anew a came going h (d.1 e).2)
