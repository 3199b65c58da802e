-- Where the streams stand once this end has opened one.
use Rattle.std.proofs.Common.{◌≡◌, ◌≢◌, ◌⊎◌, inl, inr, ℕ, ◌<◌, ◌+◌, ◌==◌, Bool, true, false, ◌||◌, cond, List, [], ◌∷◌, ◌++◌, length, Option, Some, None, refl, sym, ap, ◌∙◌, subst, arith}
use Rattle.std.specs.Prelude.{IfSome, IsSome, slice_get}
use Rattle.std.specs.List.{AllByRecursion}
use Rattle.std.proofs.lemmas.List.{append_assoc, append_cancel_left}
use Rattle.std.proofs.lemmas.Bool.Decides.{eqb_tells}
use Rattle.handlers.specs.Calls.{HandlerCall, Asked}
use Rattle.talks.specs.Talks.{Side, Asks as AsksFor, Answers}
use Rattle.yamux_session.specs.declared.event.Role.{Role}
use Rattle.yamux_session.specs.History.{Item, Act, is_own}
use Rattle.yamux_session.specs.History.Item.{Came, Did}
use Rattle.yamux_session.specs.History.Act.{Start, Write, Taken, Close, Reset}
use Rattle.yamux_session.specs.Windows.{initial_window}
use Rattle.yamux_session.specs.Data.{written}
use Rattle.yamux_session.specs.Acts.{AreAnswered, next_own}
use Rattle.yamux_session.specs.Seen.{Seen, seen, just_opened, AgreesOn, windows, ActsDo, ActsMove}
use Rattle.yamux_session.specs.State.{State, Stands as SessionStands}
use Rattle.yamux_session.proofs.Live.{own_next}
use Rattle.streams.specs.Streams.{fresh}
use Rattle.streams.specs.State.{Streaming, Stands, StandsAt, is_talking, is_open}
use Rattle.dispatch.specs.declared.direction.Direction.{Direction}
use Rattle.dispatch.specs.Dispatch.{made_by, led_by, makes_once}
use Rattle.streams.specs.declared.stage.Stage.{Stage}
use Rattle.streams.specs.declared.stage.Stage.TheVariants as stages
use Rattle.streams.specs.State.{kind_of, Served}
use Rattle.streams.specs.Streams.{Past}
use Rattle.routing.specs.declared.delivered.Outcome.{Outcome}
use Rattle.routing.specs.declared.delivered.Outcome.TheVariants as outcomes
use Rattle.routing.specs.Routing.{Came as CameTo}
use Rattle.conn_log.specs.declared.earlier.Earlier.{Earlier}
use Rattle.conn_log.specs.declared.event.ConnEvent.{ConnEvent}
use Rattle.conn_log.specs.Entries.{Entry, items, said, since, agreed_in, over_in, done_in, is_over, made_in, calls_in, left_behind, put_aside, asked}
use Rattle.conn_log.specs.Entries.Entry.{Of, Says, Made, Asks, Calls}
use Rattle.conn_log.specs.Asking.{is_asked_anew}
use Rattle.conn_log.specs.Turns.{turn, AreInTurn}
use Rattle.conn_log.specs.Due.{AllDue, direction_of, was_reset}
use Rattle.conn_log.specs.Making.{AreMadeInTurn, MakesOn}
use Rattle.conn_log.specs.Held.{IsSide, IsHeld, IsAtRest, AreLeft, earlier_of}
use Rattle.conn_log.specs.Rests.{AreAtRest}
use Rattle.conn_log.specs.Asked as ask
use Rattle.conn_log.specs.Asked.{IsEarly, told_of, IsBrokenOf}
use Rattle.conn_log.specs.Routes.{KeepsTurn, Around, Routed}
use Rattle.conn_log.proofs.Turning.{same_turns, turn_unasked, rested_on}
use Rattle.conn_log.proofs.Same.{Same, same_trans, same_by_making, at_rest_same, left_same}
use Rattle.conn_log.proofs.Around.{if_some}
use Rattle.conn_log.proofs.Views.{same}
use Rattle.serving.proofs.StageKinds.{talking_kind, talking_awaits}
use Rattle.conn_log.proofs.Settling.{said_append}
use Rattle.conn_log.proofs.Rested.{rested}

-- what the list begins with, once the stream is opened: the handler of an eager protocol is made at once
abbrev pub at_first : {H : Type 0} → ℕ → Option H → List (Entry H)
at_first n None = []
at_first n (Some handler) = Made n handler ∷ []

said_first : {H : Type 0} (n : ℕ) (handler : Option H) → said (at_first n handler) ≡ []
said_first n None = refl
said_first n (Some handler) = refl

same_turn_first : {H : Type 0} (n : ℕ) (handler : Option H) → KeepsTurn (at_first n handler)
same_turn_first n None = tt
same_turn_first n (Some handler) = tt

-- a stream that talks comes to nothing, or is given up
talks_not_served : {H : Type 0} (stage : Stage H) → is_talking stage ≡ true → kind_of stage ≡ Served → ⊥
talks_not_served (stages.Talking talk handler) talks e = absurd (cc e)
talks_not_served (stages.Agreed index) talks e = absurd (cc talks)
talks_not_served (stages.Serving handler) talks e = absurd (cc talks)
talks_not_served stages.Done talks e = absurd (cc talks)
talks_not_served stages.Over talks e = absurd (cc talks)

pub gives_up_only : {H : Type 0} (step : H → HandlerCall → H → Type 0) (fails : H → Asked → ℕ → Type 0) (is_closed is_finished : H → Bool) (role : Role) (past : List Item) (fed sent : List ℕ) (n : ℕ)
    (so_far : Past H) (old : Streaming H) (before : State) (outcome : Outcome H) (session : State) (stream : Streaming H) → is_talking old.stage ≡ true
    → CameTo step fails is_closed is_finished role past fed sent n so_far old before outcome session stream → AllByRecursion (IsBrokenOf n) (told_of n outcome)
gives_up_only step fails is_closed is_finished role past fed sent n so_far old before outcomes.Going session stream talks came = tt
gives_up_only step fails is_closed is_finished role past fed sent n so_far old before (outcomes.Done handler) session stream talks came = absurd (talks_not_served old.stage talks came.1)
gives_up_only step fails is_closed is_finished role past fed sent n so_far old before outcomes.Refused session stream talks came = absurd came
gives_up_only step fails is_closed is_finished role past fed sent n so_far old before (outcomes.Broken cause) session stream talks came = (refl, tt)

-- a stream that begins with no handler holds none
pub none_open_first : {H : Type 0} (step : H → HandlerCall → H → Type 0) (closed : H → Bool) (side : Side) (x : Streaming H) → Stands step x (fresh side None) → is_talking x.stage ≡ true
    → is_open closed x.stage ≡ false
none_open_first step closed side x stands talks = by_stage x.stage stands talks where
  by_stage : (stage : Stage _) → StandsAt step stage (fresh side None) x.waiting → is_talking stage ≡ true → is_open closed stage ≡ false
  by_stage (stages.Talking talk None) s talks = refl
  by_stage (stages.Talking talk (Some handler)) s talks = absurd (let e : None ≡ Some s.early.1.0 = s.early.1.1 in cc e)
  by_stage (stages.Agreed index) s talks = absurd (cc talks)
  by_stage (stages.Serving handler) s talks = absurd (cc talks)
  by_stage stages.Done s talks = absurd (cc talks)
  by_stage stages.Over s talks = absurd (cc talks)

-- and that with which it begins, of an eager protocol, is asked anew
pub anew_first : {H : Type 0} (step : H → HandlerCall → H → Type 0) (closed : H → Bool) (role : Role) (log : List (Entry H)) (n index : ℕ) (handler : Option H) (name : List ℕ) (x : Streaming H)
    → Stands step x (fresh (AsksFor name index) handler) → is_talking x.stage ≡ true → is_open closed x.stage ≡ true → is_asked_anew role (at_first n handler ++ Asks n index ∷ log) n ≡ true
anew_first step closed role log n index None name x stands talks open_still =
    absurd (let e : true ≡ false = sym open_still ∙ none_open_first step closed (AsksFor name index) x stands talks in cc e)
anew_first step closed role log n index (Some handler) name x stands talks open_still = ap (λ b. b || is_asked_anew role log n) (same n)

-- ---- of another stream

pub same_by_asking : {H : Type 0} → ActsDo → ActsMove → (role : Role) (log : List (Entry H)) (n index m : ℕ) → (n == m) ≡ false → Same role log (Asks n index ∷ log) m
same_by_asking acts_do acts_move role log n index m e = record {
  seen_is = acts_do role (items log) (Start n) m ∙ ap (λ b. cond b just_opened (seen role (items log) m)) e;
  windows_is = acts_move role (items log) (Start n) m ∙ ap (λ b. cond b (record { credit = initial_window; untaken = 0 }) (windows role (items log) m)) e;
  agreed_is = ap (λ b. agreed_in m (cond b [] (since role log m))) e;
  over_is = ap (λ b. over_in m (cond b [] (since role log m))) e;
  done_is = ap (λ b. done_in m (cond b [] (since role log m))) e;
  made_is = ap (λ b. made_in m (cond b [] (since role log m))) e;
  calls_is = ap (λ b. calls_in m (cond b [] (since role log m))) e;
  asked_is = ap (λ b. cond b (Some index) (asked log m)) e;
  anew_is = refl;
}

pub same_by_first : {H : Type 0} → ActsDo → ActsMove → (role : Role) (log : List (Entry H)) (n index m : ℕ) (handler : Option H) → (n == m) ≡ false
    → Same role log (at_first n handler ++ Asks n index ∷ log) m
same_by_first acts_do acts_move role log n index m None e = same_by_asking acts_do acts_move role log n index m e
same_by_first acts_do acts_move role log n index m (Some handler) e =
    same_trans role log (Asks n index ∷ log) (Made n handler ∷ Asks n index ∷ log) m (same_by_asking acts_do acts_move role log n index m e)
    (same_by_making role (Asks n index ∷ log) n m handler e)

-- ---- the number is new

-- each number for which a stream was asked for is below the next
pub asked_below : {H : Type 0} (role : Role) (log : List (Entry H)) (n index : ℕ) → AreAnswered role (items log) → asked log n ≡ Some index → n < next_own role (items log)
asked_below role [] n index a e = absurd (cc e)
asked_below role (Of (Came x) ∷ log) n index a e = asked_below role log n index a e
asked_below role (Of (Did (Start m)) ∷ log) n index a e = let lt = asked_below role log n index a.1 e in let is = a.0.1 in omega arith
asked_below role (Of (Did (Write m pieces)) ∷ log) n index a e = asked_below role log n index a.1 e
asked_below role (Of (Did (Taken m count)) ∷ log) n index a e = asked_below role log n index a.1 e
asked_below role (Of (Did (Close m)) ∷ log) n index a e = asked_below role log n index a.1 e
asked_below role (Of (Did (Reset m)) ∷ log) n index a e = asked_below role log n index a.1 e
asked_below role (Of (Did (Act.GoAway code)) ∷ log) n index a e = asked_below role log n index a.1 e
asked_below role (Says told ∷ log) n index a e = asked_below role log n index a e
asked_below role (Made m handler ∷ log) n index a e = asked_below role log n index a e
asked_below role (Asks m other ∷ log) n index a e = by_test (λ f. asked_below role log n index a.1 f) (eqb_tells m n) where
  by_test : (asked log n ≡ Some index → n < next_own role (items log)) → (((m == n) ≡ true) × (m ≡ n)) ⊎ (((m == n) ≡ false) × (m ≢ n)) → n < m + 2
  by_test below (inl it) = let is = it.1 in omega arith
  by_test below (inr it) = let lt = below (sym (ap (λ b. cond b (Some other) (asked log n)) it.0) ∙ e) in let is = a.0.1 in omega arith
asked_below role (Calls m call ∷ log) n index a e = asked_below role log n index a e

-- who talks on a stream of this end has asked for it
pub unasked : {H : Type 0} (role : Role) (names : List (List ℕ)) (log : List (Entry H)) (n : ℕ) (side : Side) → is_own role n ≡ true → asked log n ≡ None → IsSide role names log n side → ⊥
unasked role names log n (AsksFor name index) own none s = let e : Some index ≡ None = sym s.1 ∙ none in cc e
unasked role names log n (Answers known) own none s = let e : true ≡ false = sym own ∙ s.0 in cc e

module _ {P H : Type 0} (step : H → HandlerCall → H → Type 0) (fails : H → Asked → ℕ → Type 0)
    (is_closed is_finished : H → Bool) (inbound_makes outbound_makes : P → ℕ → List ℕ → H → Type 0)
    (eager : ℕ → Bool) (names : List (List ℕ)) (peer : List ℕ) (role : Role) where
  -- no stream of the next number is held
  pub none_held : (log : List (Entry H)) (fed sent : List ℕ) (session : State) (streams : ℕ → Option (Streaming H)) (past : List (Earlier H)) (n : ℕ)
      → AreAtRest step fails is_closed is_finished inbound_makes outbound_makes eager names peer role log fed sent session streams past
      → n ≡ next_own role (items log) → streams n ≡ None
  none_held log fed sent session streams past n r is = by_held (streams n) (r.each n) where
    own : is_own role n ≡ true
    own = ap (is_own role) is ∙ own_next role (items log) r.session_stands.answered

    by_side : (side : Side) → IsSide role names log n side → ⊥
    by_side (AsksFor name index) s = let lt = asked_below role log n index r.session_stands.answered s.1 in absurd (omega arith)
    by_side (Answers known) s = absurd (let e : true ≡ false = sym own ∙ s.0 in cc e)

    by_held : (it : Option (Streaming H)) → IfSome it (λ it. IsAtRest step is_closed is_finished names role log n it) → it ≡ None
    by_held None at = refl
    by_held (Some it) at = absurd (by_side at.held.so_far.side at.held.side_is)

  -- ---- the new stream

  made_first : (log : List (Entry H)) (protocols : P) (n index : ℕ) (handler : Option H) (none_made : Type 0) (makes : H → Type 0) → is_own role n ≡ true → index < length names
      → ((it : H) → makes it → outbound_makes protocols index peer it) → IsEarly (eager index) makes none_made handler
      → AllDue step fails is_closed is_finished inbound_makes outbound_makes eager names peer role log
      → AllDue step fails is_closed is_finished inbound_makes outbound_makes eager names peer role (at_first n handler ++ Asks n index ∷ log)
  made_first log protocols n index None none_made makes own within of early due = (within, due)
  made_first log protocols n index (Some handler) none_made makes own within of early due = ((refl, early.0, (protocols, makes_it)), (within, due)) where
    makes_it : made_by (inbound_makes protocols) (outbound_makes protocols) (direction_of role n) peer index handler
    makes_it = subst (λ b. made_by (inbound_makes protocols) (outbound_makes protocols) (cond b Direction.Outbound Direction.Inbound) peer index handler) (sym own) (of handler early.1)

  module _ (acts_do : ActsDo) (acts_move : ActsMove) (log : List (Entry H)) (fed sent : List ℕ) (before after : State) (streams now : ℕ → Option (Streaming H)) (past : List (Earlier H)) (n index : ℕ)
      (handler : Option H) (inbound_leads outbound_leads : P → ℕ → List ℕ → H → P → Type 0) (protocols behind : P)
      (r : AreAtRest step fails is_closed is_finished inbound_makes outbound_makes eager names peer role log fed sent before streams past)
      (there : SessionStands role (Did (Start n) ∷ items log) fed sent after) (within : index < length names)
      (early : IsEarly (eager index) (makes_once inbound_makes outbound_makes inbound_leads outbound_leads Direction.Outbound peer protocols behind index) (behind ≡ protocols) handler) where
    items_first : (handler : Option H) → items (at_first n handler ++ Asks n index ∷ log) ≡ Did (Start n) ∷ items log
    items_first None = refl
    items_first (Some handler) = refl

    left_first : (handler : Option H) (m : ℕ) → left_behind role ((at_first n handler ++ Asks n index ∷ []) ++ log) m ≡ left_behind role log m
    left_first None m = refl
    left_first (Some handler) m = refl

    -- it is this stream's turn
    turn_first : (handler : Option H) → turn (at_first n handler ++ Asks n index ∷ log) ≡ Some n
    turn_first None = refl
    turn_first (Some handler) = refl

    in_turn_first : (handler : Option H) → AreInTurn (at_first n handler ++ Asks n index ∷ log)
    in_turn_first None = (tt, r.in_turn)
    in_turn_first (Some handler) = (refl, (tt, r.in_turn))

    aside_first : (handler : Option H) → put_aside role (at_first n handler ++ Asks n index ∷ log) ≡ put_aside role log
    aside_first None = refl
    aside_first (Some handler) = refl

    own : is_own role n ≡ true
    own = ap (is_own role) there.answered.0.1 ∙ own_next role (items log) there.answered.1

    seen_is : seen role (Did (Start n) ∷ items log) n ≡ just_opened
    seen_is = acts_do role (items log) (Start n) n ∙ ap (λ b. cond b just_opened (seen role (items log) n)) (same n)

    -- the other streams are at rest, and nothing was seen of this one
    pub around_asked : ((m : ℕ) → (n == m) ≡ false → now m ≡ streams m)
        → Around step fails is_closed is_finished inbound_makes outbound_makes eager names peer role (at_first n handler ++ Asks n index ∷ log) fed sent after now past n just_opened []
    around_asked elsewhere = record {
      session_stands = subst (λ (t : List Item). SessionStands role t fed sent after) (sym (items_first handler)) there;
      due = made_first log protocols n index handler (behind ≡ protocols)
          (makes_once inbound_makes outbound_makes inbound_leads outbound_leads Direction.Outbound peer protocols behind index) own within (λ it made. made.0) early r.due;
      others = λ m apart. subst (λ (t : Option (Streaming H)). IfSome t (λ it. IsAtRest step is_closed is_finished names role (at_first n handler ++ Asks n index ∷ log) m it)) (sym (elsewhere m apart))
          (if_some (streams m) (λ it. at_rest_same step is_closed is_finished names role log (at_first n handler ++ Asks n index ∷ log) m it
          (same_by_first acts_do acts_move role log n index m handler apart)) (r.each m));
      others_held = λ m apart live. subst (λ (t : Option (Streaming H)). IsSome t) (sym (elsewhere m apart))
          (let s = same_by_first acts_do acts_move role log n index m handler apart in r.live_held m (sym (ap (λ (x : Seen). x.live) s.seen_is) ∙ live));
      others_kept = λ m apart made going. subst (λ (t : Option (Streaming H)). IsSome t) (sym (elsewhere m apart))
          (let s = same_by_first acts_do acts_move role log n index m handler apart in r.made_held m (λ none. made (s.made_is ∙ none)) (sym s.over_is ∙ going));
      resets_told = λ m was. inl (over_at m (eqb_tells n m) (sym (ap (λ (t : List Item). was_reset role t m) (items_first handler)) ∙ was));
      reset_came = λ told. absurd (cc told);
      end_told = λ told. absurd (cc told);
      end_came = λ told. absurd (cc told);
      heard = subst (λ (t : List Item). AgreesOn (seen role t n) just_opened) (sym (items_first handler)) (subst (λ (x : Seen). AgreesOn x just_opened) (sym seen_is)
          (record { live = refl; closed = refl; came = refl; sent = refl; ended = λ on. on; live_ended = λ on. refl }));
      opens_none = tt;
      ends_last = tt;
      earlier = λ m. subst (λ (t : List (Entry H)). AreLeft step is_closed is_finished names role t m 0 (earlier_of m past)) (append_assoc (at_first n handler) (Asks n index ∷ []) log)
          (left_same step is_closed is_finished names role log (at_first n handler ++ Asks n index ∷ []) m 0 (earlier_of m past) (left_first handler m) (r.earlier m));
      past_is = r.past_is ∙ sym (aside_first handler);
      in_turn = in_turn_first handler;
      turn_is = turn_first handler;
    } where
      over_at : (m : ℕ) → (((n == m) ≡ true) × (n ≡ m)) ⊎ (((n == m) ≡ false) × (n ≢ m)) → cond (n == m || false) false (false || was_reset role (items log) m) ≡ true
          → is_over role (at_first n handler ++ Asks n index ∷ log) m ≡ true
      over_at m (inl here) was = absurd (let e : false ≡ true = sym (ap (λ b. cond (b || false) false (false || was_reset role (items log) m)) here.0) ∙ was in cc e)
      over_at m (inr apart) was =
          let s = same_by_first acts_do acts_move role log n index m handler apart.0 in
          s.over_is ∙ r.resets_told m (sym (ap (λ b. cond (b || false) false (false || was_reset role (items log) m)) apart.0) ∙ was)

    since_first : (handler : Option H) → since role (at_first n handler ++ Asks n index ∷ log) n ≡ at_first n handler
    since_first None = ap (λ b. cond b [] (since role log n)) (same n)
    since_first (Some handler) = ap (λ (t : List (Entry H)). Made n handler ∷ t) (ap (λ b. cond b [] (since role log n)) (same n))

    asked_first : (handler : Option H) → asked (at_first n handler ++ Asks n index ∷ log) n ≡ Some index
    asked_first None = ap (λ b. cond b (Some index) (asked log n)) (same n)
    asked_first (Some handler) = ap (λ b. cond b (Some index) (asked log n)) (same n)

    agreed_first : (handler : Option H) → agreed_in n (at_first n handler) ≡ None
    agreed_first None = refl
    agreed_first (Some handler) = refl

    over_first : (handler : Option H) → over_in n (at_first n handler) ≡ false
    over_first None = refl
    over_first (Some handler) = refl

    done_first : (handler : Option H) → done_in n (at_first n handler) ≡ false
    done_first None = refl
    done_first (Some handler) = refl

    made_at_first : (handler : Option H) → made_in n (at_first n handler) ≡ handler
    made_at_first None = refl
    made_at_first (Some handler) = ap (λ b. cond b (Some handler) None) (same n)

    calls_at_first : (handler : Option H) → calls_in n (at_first n handler) ≡ []
    calls_at_first None = refl
    calls_at_first (Some handler) = refl

    -- the new stream asks, and nothing has come yet
    pub held_asked : (stream : Streaming H) (name : List ℕ) → slice_get names index ≡ Some name → Stands step stream (fresh (AsksFor name index) handler) → is_talking stream.stage ≡ true
        → IsHeld step is_closed is_finished names role (at_first n handler ++ Asks n index ∷ log) n [] false stream
    held_asked stream name named stands talks = record {
      so_far = fresh (AsksFor name index) handler;
      side_is = (own, asked_first handler, named);
      got_is = refl;
      ended_is = refl;
      sent_is = sym (ap (λ (t : List Item). written role t n) (items_first handler) ∙ ap (λ (x : Seen). x.sent) seen_is);
      made_is = sym (ap (made_in n) (since_first handler) ∙ made_at_first handler);
      calls_is = sym (ap (calls_in n) (since_first handler) ∙ calls_at_first handler);
      stands = stands;
      talking = λ it. ap (agreed_in n) (since_first handler) ∙ agreed_first handler;
      agreed_on = λ off. absurd (let e : true ≡ false = sym talks ∙ off in cc e);
      over = ap (over_in n) (since_first handler) ∙ over_first handler ∙ sym (talking_kind stream.stage talks);
      done = ap (done_in n) (since_first handler) ∙ done_first handler ∙ sym (talking_kind stream.stage talks);
      served = talking_awaits stream.stage talks;
    }

    -- its handler was made by the protocols, which are others then
    makes_first : (handler : Option H)
        → IsEarly (eager index) (makes_once inbound_makes outbound_makes inbound_leads outbound_leads Direction.Outbound peer protocols behind index) (behind ≡ protocols) handler
        → MakesOn inbound_leads outbound_leads peer role protocols behind log (at_first n handler ++ Asks n index ∷ log)
    makes_first None none = λ first was. subst (λ (p : P). AreMadeInTurn inbound_leads outbound_leads peer role first log p) (sym none.1) was
    makes_first (Some it) made = λ first was. (protocols, was, (refl, subst (λ b. led_by inbound_leads outbound_leads (cond b Direction.Outbound Direction.Inbound) peer protocols behind index it) (sym own) made.1.1))

    -- and it was served
    pub was_asked : (making then_making : List (Entry H) → List (Entry H) → Type 0)
        → ((longer : List (Entry H)) → MakesOn inbound_leads outbound_leads peer role protocols behind log (at_first n handler ++ Asks n index ∷ log)
        → then_making (at_first n handler ++ Asks n index ∷ log) longer → making log longer)
        → (told told_now : List (ConnEvent H)) (later : State) (then : ℕ → Option (Streaming H)) (aside : List (Earlier H))
        → Routed step fails is_closed is_finished inbound_makes outbound_makes eager names peer role then_making (at_first n handler ++ Asks n index ∷ log) told told_now fed sent later then aside n []
        → (more : List (ConnEvent H)) → told_now ≡ told ++ more → AllByRecursion (IsBrokenOf n) more
        → ask.Asked step fails is_closed is_finished inbound_makes outbound_makes eager names peer role making n index log told told_now fed sent later then aside
    was_asked making then_making joins told told_now later then aside routed more is broken = record {
      later = routed.newer ++ at_first n handler;
      number_is = there.answered.0.1;
      told_is = routed.told_is ∙ ap (λ t. told ++ t) (sym (said_append routed.newer (at_first n handler) ∙ ap (λ t. t ++ said routed.newer) (said_first n handler)));
      alone = turn_unasked (routed.newer ++ at_first n handler) (same_turns routed.newer (at_first n handler) routed.same_turn (same_turn_first n handler));
      only_broken = subst (λ (t : List (ConnEvent H)). AllByRecursion (IsBrokenOf n) t)
          (append_cancel_left told more (said routed.newer) (sym is ∙ routed.told_is) ∙ sym (said_append routed.newer (at_first n handler) ∙ ap (λ t. t ++ said routed.newer) (said_first n handler))) broken;
      at_once = λ on. by_handler handler early on;
      makes = subst (λ (t : List (Entry H)). making log t) (sym (append_assoc routed.newer (at_first n handler) (Asks n index ∷ log)))
          (joins (routed.newer ++ (at_first n handler ++ Asks n index ∷ log)) (makes_first handler early) routed.makes);
      rested = λ was. rested_on step fails is_closed is_finished inbound_makes outbound_makes eager names peer role (routed.newer ++ at_first n handler) (Asks n index ∷ log)
          (same_turns routed.newer (at_first n handler) routed.same_turn (same_turn_first n handler))
          (record { fed = fed; sent = sent; session = before; streams = streams; past = past; at_rest = r }, was);
      at_rest = subst (λ (t : List (Entry H)). AreAtRest step fails is_closed is_finished inbound_makes outbound_makes eager names peer role t fed sent later then aside)
          (sym (append_assoc routed.newer (at_first n handler) (Asks n index ∷ log)))
          (rested step fails is_closed is_finished inbound_makes outbound_makes eager names peer role (routed.newer ++ (at_first n handler ++ Asks n index ∷ log)) fed sent later then aside n routed.view routed.routes);
    } where
      by_handler : (some : Option H)
          → IsEarly (eager index) (makes_once inbound_makes outbound_makes inbound_leads outbound_leads Direction.Outbound peer protocols behind index) (behind ≡ protocols) some → eager index ≡ true
          → (it : H) × (newer : List (Entry H)) × (routed.newer ++ at_first n some ≡ newer ++ Made n it ∷ [])
      by_handler None off on = absurd (let e : true ≡ false = sym on ∙ off.0 in cc e)
      by_handler (Some it) made on = (it, routed.newer, refl)
