-- A frame arrived at streams that are at rest: what it told is to be routed.
use Rattle.std.proofs.Common.{◌≡◌, ◌≢◌, ◌⊎◌, inl, inr, ℕ, suc, ◌==◌, ◌||◌, ◌&&◌, Bool, true, false, cond, List, [], ◌∷◌, ◌++◌, map, Option, Some, None, refl, sym, ap, ◌∙◌, subst}
use Rattle.std.specs.Prelude.{IfSome, IsSome, drop}
use Rattle.std.specs.List.{AllByRecursion}
use Rattle.std.proofs.lemmas.Bool.Decides.{eqb_tells}
use Rattle.handlers.specs.Calls.{HandlerCall, Asked}
use Rattle.yamux_frames.specs.Frames.{Arrival}
use Rattle.yamux_session.specs.declared.event.Role.{Role}
use Rattle.yamux_session.specs.declared.event.Event.{Event}
use Rattle.yamux_session.specs.declared.event.Event.TheVariants as event
use Rattle.yamux_session.specs.History.{Item}
use Rattle.yamux_session.specs.History.Item.{Came}
use Rattle.yamux_session.specs.Openings.{is_live, finished}
use Rattle.yamux_session.specs.Arrives.{tellings, HasData}
use Rattle.yamux_session.specs.Naming.{IsAbout, IsNoOpening as OpensNone, NamesOne}
use Rattle.yamux_session.specs.Events.{Told}
use Rattle.yamux_session.specs.Seen.{Seen, seen, hears, all_heard, just_opened, AgreesOn, TellsFrom, EventsTell, Windows, windows, IsQuiet, CreditIsTold}
use Rattle.yamux_session.specs.Endings.{opened_in, told_opened, OpeningsAreTold, OpenedByTheOther, OpenedAnew, EndsAreLast}
use Rattle.yamux_session.specs.State.{State, Stands as SessionStands, IsOneFrame}
use Rattle.streams.specs.State.{Streaming}
use Rattle.conn_log.specs.declared.earlier.Earlier.{Earlier}
use Rattle.conn_log.specs.Entries.{Entry, items, since, agreed_in, over_in, done_in, made_in, calls_in, is_over, made_of, is_kept, left_behind, put_aside, has_taken}
use Rattle.conn_log.specs.Turns.{turn}
use Rattle.conn_log.specs.Asking.{told_more, is_asked_anew}
use Rattle.conn_log.specs.Due.{AllDue, told_reset, was_reset, told_end, end_was_told}
use Rattle.conn_log.specs.Held.{IsAtRest, AreLeft, earlier_of}
use Rattle.conn_log.specs.Rests.{AreAtRest}
use Rattle.conn_log.specs.Routes.{EndsLast, IsFor, IsNoOpening, IsMoving, Around, Awaits, set_aside}
use Rattle.conn_log.proofs.Same.{Same, side_same, settled_same, at_rest_same, left_same}
use Rattle.conn_log.proofs.Around.{if_some}
use Rattle.conn_log.proofs.Views.{same}
use Rattle.conn_log.proofs.Opening.{sent_stays}
use Rattle.conn_log.proofs.Leaving.{earlier_other, are_left, numbers_are}
use Rattle.conn_log.proofs.Rested.{end_agrees}
use Rattle.conn_log.proofs.Arriving.{arrived, items_arrived, asked_arrived, since_arrived, left_arrived, IsNamed, named, opens_none, not_heard, not_opened, quiet, unopened, all_closed_stays, was_live_before}
use Rattle.conn_log.proofs.Crediting.{more_arrived, none_arrived, quiet_tells_none, untold_is_quiet}
use Rattle.std.proofs.Math.Bool.{or_comm}
use Rattle.conn_log.proofs.Ends.{ends_unopened, ends_opened, live_ends}
use Rattle.conn_log.proofs.Heads.{stream_of, credit_first, all_named, all_about, turn_arrived, in_turn_arrived, aside_arrived}
use Rattle.conn_log.proofs.Resets.{either_true, reset_after, reset_unopened, reset_other, reset_told, AreAlive, alive_told, none_reset, CreditFirst, ends_last, told_by, told_is_by, FirstOpens, first_opens, due_arrived}

-- what holds of every session
pub record SessionLaws : Type 0 where
  pub events_tell : EventsTell
  pub credit_is_told : CreditIsTold
  pub openings_are_told : OpeningsAreTold
  pub opened_by_the_other : OpenedByTheOther
  pub opened_anew : OpenedAnew
  pub ends_are_last : EndsAreLast

-- each event is for the stream
all_for : (n : ℕ) (told : List Event) → AllByRecursion (IsAbout n) told → AllByRecursion HasData told → AllByRecursion (IsFor n) told
all_for n [] about filled = tt
all_for n (event.Opened m ∷ told) about filled = (about.0, all_for n told about.1 filled.1)
all_for n (event.Accepted m ∷ told) about filled = (about.0, all_for n told about.1 filled.1)
all_for n (event.Payload m bytes ∷ told) about filled = ((about.0, filled.0), all_for n told about.1 filled.1)
all_for n (event.Ended m ∷ told) about filled = (about.0, all_for n told about.1 filled.1)
all_for n (event.Reset m ∷ told) about filled = (about.0, all_for n told about.1 filled.1)
all_for n (event.Credit m ∷ told) about filled = (about.0, all_for n told about.1 filled.1)
all_for n (event.GoAway code ∷ told) about filled = (tt, all_for n told about.1 filled.1)
all_for n (event.Fault fault ∷ told) about filled = (tt, all_for n told about.1 filled.1)

-- ---- the streams

module _ {P H : Type 0} (step : H → HandlerCall → H → Type 0) (fails : H → Asked → ℕ → Type 0)
    (is_closed is_finished : H → Bool) (inbound_makes outbound_makes : P → ℕ → List ℕ → H → Type 0)
    (eager : ℕ → Bool) (names : List (List ℕ)) (peer : List ℕ) (role : Role) (laws : SessionLaws)
    (log : List (Entry H)) (fed sent later : List ℕ) (session now : State) (streams : ℕ → Option (Streaming H)) (past : List (Earlier H)) (came : List Arrival) (told : List Event)
    (rests : AreAtRest step fails is_closed is_finished inbound_makes outbound_makes eager names peer role log fed sent session streams past)
    (tells : TellsFrom role (items log) came (tellings told))
    (there : SessionStands role (map Came came ++ items log) later sent now)
    (frame : IsOneFrame came) (one : NamesOne told) (filled : AllByRecursion HasData told) where
  -- the stream that the last header names
  abbrev pub n : ℕ
  n = stream_of (items log) came

  abbrev pub then : List (Entry H)
  then = arrived came ++ log

  about : AllByRecursion (IsNamed n) (tellings told)
  about = subst (λ (t : List Told). AllByRecursion (IsNamed n) t) (told_is_by role (items log) came (tellings told) tells) (all_named role (items log) came frame)

  -- of one frame credit is told before the end
  credit_before : CreditFirst (tellings told)
  credit_before = subst CreditFirst (told_is_by role (items log) came (tellings told) tells) (credit_first role (items log) came frame)

  all_are_about : AllByRecursion (IsAbout n) told
  unfolding about
  all_are_about = all_about n told filled about

  items_are : items then ≡ map Came came ++ items log
  items_are = items_arrived came log

  agrees : (m : ℕ) → AgreesOn (seen role (items then) m) (all_heard m (seen role (items log) m) (tellings told))
  agrees m = subst (λ (t : List Item). AgreesOn (seen role t m) (all_heard m (seen role (items log) m) (tellings told))) (sym items_are)
      (laws.events_tell role (items log) came (tellings told) m tells)

  since_same : (m : ℕ) → told_opened m (tellings told) ≡ false → since role then m ≡ since role log m
  since_same m off = since_arrived role came log m ∙ ap (λ b. cond b [] (since role log m)) (laws.openings_are_told role (items log) came (tellings told) m tells ∙ off)

  -- where neither data nor credit of a stream was told it is asked anew where it was before
  still_asked : (m : ℕ) → AllByRecursion (IsQuiet m) (tellings told) → is_asked_anew role then m ≡ is_asked_anew role log m
  still_asked m brings_none = none_arrived role came log m (ap (told_more m) (told_is_by role (items log) came (tellings told) tells) ∙ quiet_tells_none m (tellings told) brings_none)

  -- ---- of another stream

  other_agrees : (m : ℕ) → (n == m) ≡ false → AgreesOn (seen role (items then) m) (seen role (items log) m)
  other_agrees m apart = subst (λ (x : Seen). AgreesOn (seen role (items then) m) x) (not_heard n m apart (seen role (items log) m) (tellings told) about) (agrees m)

  seen_same : (is heard : Seen) → AgreesOn is heard → is.ended ≡ heard.ended → is ≡ heard
  seen_same is heard a ended =
      ap (λ b. record { live = b; closed = is.closed; ended = is.ended; came = is.came; sent = is.sent }) a.live
      ∙ ap (λ b. record { live = heard.live; closed = b; ended = is.ended; came = is.came; sent = is.sent }) a.closed
      ∙ ap (λ b. record { live = heard.live; closed = heard.closed; ended = b; came = is.came; sent = is.sent }) ended
      ∙ ap (λ t. record { live = heard.live; closed = heard.closed; ended = heard.ended; came = t; sent = is.sent }) a.came
      ∙ ap (λ t. record { live = heard.live; closed = heard.closed; ended = heard.ended; came = heard.came; sent = t }) a.sent

  other_same : (m : ℕ) → (n == m) ≡ false → (is_live role (items log) m ≡ false → finished role (items log) m ≡ true) → Same role log then m
  other_same m apart over =
      let a = other_agrees m apart in
      let off = not_opened n m apart (tellings told) about in
      record {
        seen_is = seen_same (seen role (items then) m) (seen role (items log) m) a (end_agrees (seen role (items then) m) (seen role (items log) m) a over);
        windows_is = ap (λ (t : List Item). windows role t m) items_are ∙ laws.credit_is_told role (items log) came (tellings told) m tells (quiet n m apart (tellings told) about);
        agreed_is = ap (agreed_in m) (since_same m off);
        over_is = ap (over_in m) (since_same m off);
        done_is = ap (done_in m) (since_same m off);
        made_is = ap (made_in m) (since_same m off);
        calls_is = ap (calls_in m) (since_same m off);
        asked_is = asked_arrived came log m;
        anew_is = still_asked m (quiet n m apart (tellings told) about);
      }

  others : (m : ℕ) → (n == m) ≡ false → IfSome (streams m) (λ it. IsAtRest step is_closed is_finished names role then m it)
  others m apart = if_some (streams m) (λ it r. at_rest_same step is_closed is_finished names role log then m it (other_same m apart r.over_by_end) r) (rests.each m)

  -- a number that isn't opened leaves none behind
  none_left : (m : ℕ) → told_opened m (tellings told) ≡ false → left_behind role then m ≡ left_behind role log m
  none_left m off = left_arrived role came log m
      ∙ ap (λ b. cond (b && is_kept role log m) (suc (left_behind role log m)) (left_behind role log m)) (laws.openings_are_told role (items log) came (tellings told) m tells ∙ off)

  others_left : (m : ℕ) → (n == m) ≡ false → AreLeft step is_closed is_finished names role then m 0 (earlier_of m past)
  others_left m apart = left_same step is_closed is_finished names role log (arrived came) m 0 (earlier_of m past) (none_left m (not_opened n m apart (tellings told) about)) (rests.earlier m)

  -- whether another stream was reset stays
  other_reset : (m : ℕ) → (n == m) ≡ false → was_reset role (items then) m ≡ was_reset role (items log) m
  other_reset m apart = ap (λ (t : List Item). was_reset role t m) items_are ∙ reset_told role (items log) came (tellings told) m tells
      ∙ reset_other n m (was_reset role (items log) m) (tellings told) apart about

  -- where of the one that is named its last event was told before, or a reset is to be routed
  first_told : FirstOpens (told_by role (items log) came)
  first_told = subst FirstOpens (sym (told_is_by role (items log) came (tellings told) tells)) (first_opens told one.opened_first)

  -- whether its number is opened anew decides of what is put aside
  aside_now : (opened : Bool) → opened_in role (items log) came n ≡ opened
      → put_aside role then ≡ cond (opened && is_kept role log n) (put_aside role log ++ n ∷ []) (put_aside role log)
  aside_now opened is = aside_arrived role came log frame ∙ ap (λ b. cond (b && is_kept role log n) (put_aside role log ++ n ∷ []) (put_aside role log)) is

  around : (aside : List (Earlier H)) (view : Seen) (rest : List Told) (before : Bool) → was_reset role (items then) n ≡ told_reset n rest || before
      → (before ≡ true → is_over role then n ≡ true) → AgreesOn (seen role (items then) n) (all_heard n view rest) → AllByRecursion (IsNoOpening n) rest
      → EndsLast view.ended rest → (told_end n rest ≡ true → end_was_told role (items then) n ≡ true)
      → (told_reset n rest ≡ true → view.ended || told_end n rest ≡ end_was_told role (items then) n) → ((m : ℕ) → AreLeft step is_closed is_finished names role then m 0 (earlier_of m aside))
      → map (λ (it : Earlier H). it.number) aside ≡ put_aside role then → turn then ≡ Some n
      → Around step fails is_closed is_finished inbound_makes outbound_makes eager names peer role then later sent now streams aside n view rest
  around aside view rest before reset_is told_before heard none last end_by end_is left aside_is turn_is = record {
    session_stands = subst (λ (t : List Item). SessionStands role t later sent now) (sym items_are) there;
    due = due_arrived step fails is_closed is_finished inbound_makes outbound_makes eager names peer role laws.openings_are_told log rests.resets_told came tells.no_fault
        first_told rests.due;
    others = others;
    others_held = λ m apart live. rests.live_held m (sym (other_agrees m apart).live ∙ live);
    others_kept = λ m apart made going.
        let off = not_opened n m apart (tellings told) about in
        rests.made_held m (λ none_made. made (ap (made_in m) (since_same m off) ∙ none_made)) (sym (ap (over_in m) (since_same m off)) ∙ going);
    resets_told = λ m was. over_at m (eqb_tells n m) was;
    reset_came = λ reset. reset_is ∙ ap (λ b. b || before) reset;
    end_told = end_by;
    end_came = end_is;
    heard = heard;
    opens_none = none;
    ends_last = last;
    earlier = left;
    past_is = aside_is;
    in_turn = in_turn_arrived came log rests.in_turn;
    turn_is = turn_is;
  } where
    here : told_reset n rest || before ≡ true → (is_over role then n ≡ true) ⊎ (told_reset n rest ≡ true)
    here was = by_either (either_true (told_reset n rest) before was) where
      by_either : (told_reset n rest ≡ true) ⊎ (before ≡ true) → (is_over role then n ≡ true) ⊎ (told_reset n rest ≡ true)
      by_either (inl reset) = inr reset
      by_either (inr was) = inl (told_before was)

    over_at : (m : ℕ) → (((n == m) ≡ true) × (n ≡ m)) ⊎ (((n == m) ≡ false) × (n ≢ m)) → was_reset role (items then) m ≡ true → (is_over role then m ≡ true) ⊎ (told_reset m rest ≡ true)
    over_at m (inl same_one) was = subst (λ (k : ℕ). (is_over role then k ≡ true) ⊎ (told_reset k rest ≡ true)) same_one.1
        (here (sym reset_is ∙ ap (was_reset role (items then)) same_one.1 ∙ was))
    over_at m (inr apart) was =
        inl (ap (over_in m) (since_same m (not_opened n m apart.0 (tellings told) about)) ∙ rests.resets_told m (sym (other_reset m apart.0) ∙ was))

  -- ---- of the one that is named

  -- credit or data of it was told, or neither is
  anew_by : (rest : List Told) → AllByRecursion (IsNoOpening n) rest → told_more n (tellings told) ≡ told_more n rest → (b : Bool) → told_more n rest ≡ b
      → AllByRecursion (IsQuiet n) rest ⊎ (is_asked_anew role then n ≡ true)
  anew_by rest none tells_so true is = inr (more_arrived role came log n (ap (told_more n) (told_is_by role (items log) came (tellings told) tells) ∙ tells_so ∙ is))
  anew_by rest none tells_so false is = inl (untold_is_quiet n rest none is)

  -- it was opened before
  moving : (it : Streaming H) → AllByRecursion (IsNoOpening n) (tellings told) → IsAtRest step is_closed is_finished names role log n it
      → IsMoving step fails is_closed is_finished inbound_makes outbound_makes eager names peer role then n (seen role (items log) n) (tellings told) it
  moving it none r =
      let off = unopened n (tellings told) none in
      let a = agrees n in
      record {
        held = record {
          so_far = r.held.so_far;
          side_is = side_same role names log then n r.held.so_far.side (asked_arrived came log n) r.held.side_is;
          got_is = r.held.got_is;
          ended_is = r.held.ended_is;
          sent_is = r.held.sent_is ∙ sym (a.sent ∙ sent_stays n (seen role (items log) n) (tellings told) none);
          made_is = r.held.made_is ∙ sym (ap (made_in n) (since_same n off));
          calls_is = r.held.calls_is ∙ sym (ap (calls_in n) (since_same n off));
          stands = r.held.stands;
          talking = λ is. ap (agreed_in n) (since_same n off) ∙ r.held.talking is;
          agreed_on = λ is none_agreed. r.held.agreed_on is (sym (ap (agreed_in n) (since_same n off)) ∙ none_agreed);
          over = ap (over_in n) (since_same n off) ∙ r.held.over;
          done = ap (done_in n) (since_same n off) ∙ r.held.done;
          served = r.held.served;
        };
        unfinished = r.unfinished;
        over_by_end = r.over_by_end;
        anew = anew_by (tellings told) none refl (told_more n (tellings told)) refl;
        asked = λ brings_none live off is.
            let view = seen role (items log) n in
            still_asked n brings_none ∙ r.asked (was_live_before n view (tellings told) none (sym a.live ∙ live))
            (sym (a.closed ∙ all_closed_stays n view (tellings told) none) ∙ off) is;
        handed = λ serves. ap has_taken (ap (calls_in n) (since_same n off)) ∙ r.handed serves;
        settled = λ brings_none live.
            let view = seen role (items log) n in
            let windows_are = ap (λ (t : List Item). windows role t n) items_are ∙ laws.credit_is_told role (items log) came (tellings told) n tells brings_none in
            settled_same step is_closed is_finished role (items log) (items then) n r.held.so_far.left it (a.closed ∙ all_closed_stays n view (tellings told) none)
            (ap (λ (w : Windows). w.credit) windows_are) (ap (λ (w : Windows). w.untaken) windows_are)
            (r.settled (was_live_before n view (tellings told) none (sym a.live ∙ live)));
      }

  -- What is to be routed, and of which stream.
  pub record Faced : Type 0 where
    pub stream : ℕ
    pub all_for : AllByRecursion (IsFor stream) told
    pub awaits : Awaits step fails is_closed is_finished inbound_makes outbound_makes eager names peer role then later sent now streams past stream (tellings told)

  unopened_faced : turn then ≡ Some n → AllByRecursion OpensNone told → Faced
  unopened_faced turn_is none_opened =
      let none = opens_none n told none_opened in
      let view = seen role (items log) n in
      let off = unopened n (tellings told) none in
      let alive = alive_told laws.events_tell role (items log) came (tellings told) n tells in
      let was = was_reset role (items log) n in
      record {
        stream = n;
        all_for = all_for n told all_are_about filled;
        awaits = inr (inl (
          view,
          record {
            around = around past view (tellings told) was
                (ap (λ (t : List Item). was_reset role t n) items_are ∙ reset_told role (items log) came (tellings told) n tells ∙ reset_unopened n was (tellings told) none)
                (λ is. ap (over_in n) (since_same n off) ∙ rests.resets_told n is)
                (agrees n) none (ends_last n view.ended view (tellings told) about none (laws.ends_are_last role (items log) came (tellings told) n tells) alive credit_before)
                (λ ends. ends_then none ∙ ap (λ b. b || end_was_told role (items log) n) ends)
                (λ reset. ends_now none (was_live none alive reset))
                (λ m. left_by m none (eqb_tells n m))
                (rests.past_is ∙ sym (aside_now false (laws.openings_are_told role (items log) came (tellings told) n tells ∙ off))) turn_is;
            own = if_some (streams n) (λ it r. moving it none r) (rests.each n);
            own_held = rests.live_held n;
            own_to_reset = λ reset going. rests.live_held n (was_live none alive reset);
            own_kept = λ made going.
                rests.made_held n (λ none_made. made (ap (made_in n) (since_same n off) ∙ none_made)) (sym (ap (over_in n) (since_same n off)) ∙ going);
          },
        ));
      } where
        -- one whose reset is told was live, and of it the end was told where it came
        was_live : AllByRecursion (IsNoOpening n) (tellings told) → AreAlive n (seen role (items log) n) (tellings told) → told_reset n (tellings told) ≡ true
            → is_live role (items log) n ≡ true
        was_live none alive reset = by_live (is_live role (items log) n) refl where
          by_live : (b : Bool) → is_live role (items log) n ≡ b → b ≡ true
          by_live true live = refl
          by_live false dead = absurd (let e : true ≡ false = sym reset ∙ none_reset n (seen role (items log) n) (tellings told) dead about none alive in cc e)

        ends_then : AllByRecursion (IsNoOpening n) (tellings told) → end_was_told role (items then) n ≡ told_end n (tellings told) || end_was_told role (items log) n
        ends_then none =
            ap (λ (t : List Item). end_was_told role t n) items_are
            ∙ ends_unopened role (items log) came n (laws.openings_are_told role (items log) came (tellings told) n tells ∙ unopened n (tellings told) none)
            ∙ ap (λ t. told_end n t || end_was_told role (items log) n) (told_is_by role (items log) came (tellings told) tells)

        ends_now : AllByRecursion (IsNoOpening n) (tellings told) → is_live role (items log) n ≡ true
            → finished role (items log) n || told_end n (tellings told) ≡ end_was_told role (items then) n
        ends_now none live =
            or_comm (finished role (items log) n) (told_end n (tellings told))
            ∙ ap (λ b. told_end n (tellings told) || b) (live_ends role (items log) n rests.session_stands.no_fault live)
            ∙ sym (ends_then none)

        left_by : (m : ℕ) → AllByRecursion (IsNoOpening n) (tellings told) → (((n == m) ≡ true) × (n ≡ m)) ⊎ (((n == m) ≡ false) × (n ≢ m))
            → AreLeft step is_closed is_finished names role then m 0 (earlier_of m past)
        left_by m none (inl it) = subst (λ (k : ℕ). AreLeft step is_closed is_finished names role then k 0 (earlier_of k past)) it.1
            (left_same step is_closed is_finished names role log (arrived came) n 0 (earlier_of n past) (none_left n (unopened n (tellings told) none)) (rests.earlier n))
        left_by m none (inr it) = others_left m it.0

  -- it is opened by what arrived
  opened_faced : turn then ≡ Some n → (rest : List Event) → told ≡ event.Opened n ∷ rest → AllByRecursion OpensNone rest → AllByRecursion (IsAbout n) rest → AllByRecursion HasData rest → Faced
  opened_faced turn_is rest is none_opened rest_about rest_filled =
      let told_is : tellings told ≡ Told.Opened n ∷ tellings rest = ap tellings is in
      let none = opens_none n rest none_opened in
      let view = seen role (items log) n in
      let tells_it : TellsFrom role (items log) came (Told.Opened n ∷ tellings rest) = subst (λ (t : List Told). TellsFrom role (items log) came t) told_is tells in
      let opened : opened_in role (items log) came n ≡ true =
      laws.openings_are_told role (items log) came (Told.Opened n ∷ tellings rest) n tells_it ∙ ap (λ b. b || told_opened n (tellings rest)) (same n) in
      let once = subst (λ (b : Bool). Rattle.yamux_session.specs.Endings.EndsOnce n (cond b false view.ended) (tellings rest)) (same n)
      (laws.ends_are_last role (items log) came (Told.Opened n ∷ tellings rest) n tells_it) in
      let alive = alive_told laws.events_tell role (items log) came (Told.Opened n ∷ tellings rest) n tells_it in
      let was = was_reset role (items log) n in
      record {
        stream = n;
        all_for = subst (λ (t : List Event). AllByRecursion (IsFor n) t) (sym is) (refl, all_for n rest rest_about rest_filled);
        awaits = inl (
          tellings rest,
          told_is,
          record {
            around = around (past ++ set_aside n (streams n)) just_opened (tellings rest) false
                (ap (λ (t : List Item). was_reset role t n) items_are ∙ reset_told role (items log) came (Told.Opened n ∷ tellings rest) n tells_it
                ∙ ap (λ b. reset_after n (cond b false was) (tellings rest)) (same n) ∙ reset_unopened n false (tellings rest) none)
                (λ is. absurd (cc is))
                (subst (λ (b : Bool). AgreesOn (seen role (items then) n) (all_heard n (cond b just_opened view) (tellings rest))) (same n)
                (subst (λ (t : List Told). AgreesOn (seen role (items then) n) (all_heard n view t)) told_is (agrees n)))
                none (ends_last n false (hears n view (Told.Opened n)) (tellings rest) (named n rest rest_about) none once alive.1 (subst CreditFirst told_is credit_before))
                (λ ends. ends_then opened tells_it ∙ ends) (λ reset. sym (ends_then opened tells_it)) (λ m. left_by m opened tells_it (eqb_tells n m))
                (numbers_by opened tells_it) turn_is;
            fresh = since_arrived role came log n ∙ ap (λ b. cond b [] (since role log n)) opened;
            theirs = laws.opened_by_the_other role (items log) came n opened;
            anew = anew_by (tellings rest) none (ap (told_more n) told_is) (told_more n (tellings rest)) refl;
          },
        );
      } where
        ends_then : opened_in role (items log) came n ≡ true → TellsFrom role (items log) came (Told.Opened n ∷ tellings rest) → end_was_told role (items then) n ≡ told_end n (tellings rest)
        ends_then opened tells_it =
            ap (λ (t : List Item). end_was_told role t n) items_are ∙ ends_opened laws.openings_are_told role (items log) came n tells.no_fault first_told opened
            ∙ ap (told_end n) (told_is_by role (items log) came (Told.Opened n ∷ tellings rest) tells_it)

        numbers_by : opened_in role (items log) came n ≡ true → TellsFrom role (items log) came (Told.Opened n ∷ tellings rest)
            → map (λ (it : Earlier H). it.number) (past ++ set_aside n (streams n)) ≡ put_aside role then
        numbers_by opened tells_it =
            numbers_are step is_closed is_finished names role log (arrived came) n past (laws.opened_anew role (items log) came (tellings rest) n tells_it)
            (left_arrived role came log n ∙ ap (λ b. cond (b && is_kept role log n) (suc (left_behind role log n)) (left_behind role log n)) opened) (rests.earlier n) (streams n) (rests.each n) (rests.made_held n)
            ∙ ap (λ (t : List ℕ). cond (is_kept role log n) (t ++ n ∷ []) t) rests.past_is ∙ sym (aside_now true opened)

        left_by : (m : ℕ) → opened_in role (items log) came n ≡ true → TellsFrom role (items log) came (Told.Opened n ∷ tellings rest) → (((n == m) ≡ true) × (n ≡ m)) ⊎ (((n == m) ≡ false) × (n ≢ m))
            → AreLeft step is_closed is_finished names role then m 0 (earlier_of m (past ++ set_aside n (streams n)))
        left_by m opened tells_it (inl it) = subst (λ (k : ℕ). AreLeft step is_closed is_finished names role then k 0 (earlier_of k (past ++ set_aside n (streams n)))) it.1
            (are_left step is_closed is_finished names role log (arrived came) n past (laws.opened_anew role (items log) came (tellings rest) n tells_it)
            (left_arrived role came log n ∙ ap (λ b. cond (b && is_kept role log n) (suc (left_behind role log n)) (left_behind role log n)) opened) (rests.earlier n) (streams n) (rests.each n) (rests.made_held n))
        left_by m opened tells_it (inr it) = subst (λ (t : List (Streaming H)). AreLeft step is_closed is_finished names role then m 0 t) (sym (earlier_other n m past (streams n) it.0)) (others_left m it.0)

  -- where nothing arrived nothing is to be routed
  nothing_faced : came ≡ [] → Faced
  nothing_faced none =
      let told_none : tellings told ≡ [] = sym (told_is_by role (items log) came (tellings told) tells) ∙ ap (told_by role (items log)) none in
      record {
        stream = n;
        all_for = all_for n told all_are_about filled;
        awaits = inr (inr (
          told_none,
          record {
            session_stands = subst (λ (t : List Item). SessionStands role t later sent now) (sym items_are) there;
            due = subst (λ (c : List Arrival). AllDue step fails is_closed is_finished inbound_makes outbound_makes eager names peer role (arrived c ++ log)) (sym none) rests.due;
            in_turn = in_turn_arrived came log rests.in_turn;
            each = subst (λ (c : List Arrival). (m : ℕ) → IfSome (streams m) (λ it. IsAtRest step is_closed is_finished names role (arrived c ++ log) m it)) (sym none) rests.each;
            live_held = subst (λ (c : List Arrival). (m : ℕ) → is_live role (items (arrived c ++ log)) m ≡ true → IsSome (streams m)) (sym none) rests.live_held;
            made_held = subst (λ (c : List Arrival). (m : ℕ) → made_of role (arrived c ++ log) m ≢ None → is_over role (arrived c ++ log) m ≡ false → IsSome (streams m)) (sym none) rests.made_held;
            resets_told = subst (λ (c : List Arrival). (m : ℕ) → was_reset role (items (arrived c ++ log)) m ≡ true → is_over role (arrived c ++ log) m ≡ true) (sym none) rests.resets_told;
            earlier = subst (λ (c : List Arrival). (m : ℕ) → AreLeft step is_closed is_finished names role (arrived c ++ log) m 0 (earlier_of m past)) (sym none) rests.earlier;
            past_is = subst (λ (c : List Arrival). map (λ (it : Earlier H). it.number) past ≡ put_aside role (arrived c ++ log)) (sym none) rests.past_is;
          },
        ));
      }

  some_faced : turn then ≡ Some n → Faced
  some_faced turn_is = by_told told refl where
    later_none : (e : Event) (rest : List Event) → told ≡ e ∷ rest → AllByRecursion OpensNone rest
    later_none e rest is = subst (λ (t : List Event). AllByRecursion OpensNone (drop 1 t)) is one.opened_first

    unopened_by : (e : Event) (rest : List Event) → told ≡ e ∷ rest → OpensNone e → Faced
    unopened_by e rest is first = unopened_faced turn_is (subst (λ (t : List Event). AllByRecursion OpensNone t) (sym is) (first, later_none e rest is))

    by_told : (t : List Event) → told ≡ t → Faced
    by_told [] is = unopened_faced turn_is (subst (λ (t : List Event). AllByRecursion OpensNone t) (sym is) tt)
    by_told (event.Opened m ∷ rest) is =
        let all_about = subst (λ (t : List Event). AllByRecursion (IsAbout n) t) is all_are_about in
        let all_filled = subst (λ (t : List Event). AllByRecursion HasData t) is filled in
        opened_faced turn_is rest (is ∙ ap (λ k. event.Opened k ∷ rest) all_about.0) (later_none (event.Opened m) rest is) all_about.1 all_filled.1
    by_told (event.Accepted m ∷ rest) is = unopened_by (event.Accepted m) rest is tt
    by_told (event.Payload m bytes ∷ rest) is = unopened_by (event.Payload m bytes) rest is tt
    by_told (event.Ended m ∷ rest) is = unopened_by (event.Ended m) rest is tt
    by_told (event.Reset m ∷ rest) is = unopened_by (event.Reset m) rest is tt
    by_told (event.Credit m ∷ rest) is = unopened_by (event.Credit m) rest is tt
    by_told (event.GoAway code ∷ rest) is = unopened_by (event.GoAway code) rest is tt
    by_told (event.Fault fault ∷ rest) is = unopened_by (event.Fault fault) rest is tt

  pub faced : Faced
  faced = by_came came refl where
    by_came : (c : List Arrival) → came ≡ c → Faced
    by_came [] is = nothing_faced is
    by_came (x ∷ more) is = some_faced (subst (λ (c : List Arrival). turn (arrived c ++ log) ≡ Some (stream_of (items log) c)) (sym is) (turn_arrived x more log))
