-- What serving a stream leaves of it and of the others, and why each act of it is due.
use Rattle.std.proofs.Common.{◌≡◌, ◌⊎◌, inl, inr, ℕ, ◌<◌, ◌==◌, Bool, true, false, not, ◌&&◌, cond, List, [], ◌∷◌, ◌++◌, map, Option, refl, sym, ap, ◌∙◌, subst}
use Rattle.std.specs.List.{AllByRecursion}
use Rattle.std.proofs.lemmas.List.{append-nil}
use Rattle.handlers.specs.Calls.{HandlerCall, Asked}
use Rattle.yamux_session.specs.declared.event.Role.{Role}
use Rattle.yamux_session.specs.History.{Item, Act}
use Rattle.yamux_session.specs.History.Item.{Did}
use Rattle.yamux_session.specs.History.Act.{Start, Write, Taken, Close, Reset}
use Rattle.yamux_session.specs.Openings.{is_live, closed, finished}
use Rattle.yamux_session.specs.Windows.{credit, untaken}
use Rattle.yamux_session.specs.Data.{inbound, written}
use Rattle.yamux_session.specs.Events.{Told, events}
use Rattle.yamux_session.specs.Seen.{Seen, seen, all_heard, hears, just_opened, AgreesOn, ActsDo, ActsMove}
use Rattle.yamux_session.specs.State.{State, Stands as SessionStands}
use Rattle.streams.specs.Streams.{Past}
use Rattle.streams.specs.declared.stage.Stage.{Stage}
use Rattle.streams.specs.State.{Streaming, Stands, Served, kind_of, is_open, awaits_handler, was_handed_out}
use Rattle.serving.specs.Served.{IsDue as ActIsDue, AreDue, GaveAll as StreamGaveAll, HasSent as StreamHasSent, with_sent}
use Rattle.serving.proofs.StageKinds.{same_awaiting, same_handed}
use Rattle.conn_log.specs.declared.earlier.Earlier.{Earlier}
use Rattle.conn_log.specs.Entries.{Entry, items, said, agreed, is_over, was_done, made_of, calls_of, has_taken, asked, left_behind}
use Rattle.conn_log.specs.Asking.{is_asked_anew}
use Rattle.conn_log.specs.Entries.Entry.{Of}
use Rattle.conn_log.specs.Due.{HasCome, StandsByAll, GaveAll, HasGiven, IsDue, AllDue, was_reset, end_was_told}
use Rattle.conn_log.specs.Held.{IsSide}
use Rattle.conn_log.specs.Routes.{KeepsTurn, IsNoOpening, EndsLast, Around}
use Rattle.conn_log.proofs.Same.{Same, same_refl, same_trans, same_by_act, IsOn, side_same}
use Rattle.conn_log.proofs.Turning.{IsOnly}
use Rattle.conn_log.proofs.Around.{grown}
use Rattle.conn_log.proofs.Views.{done_by, does_is, moves_on, came_front, none_behind}

-- entries for these acts
abbrev pub did : {H : Type 0} → List Act → List (Entry H)
did [] = []
did (act ∷ acts) = Of (Did act) ∷ did acts

pub items_did : {H : Type 0} (acts : List Act) (log : List (Entry H)) → items (did acts ++ log) ≡ map Did acts ++ items log
items_did [] log = refl
items_did (act ∷ acts) log = ap (λ t. Did act ∷ t) (items_did acts log)

pub said_did : {H : Type 0} (acts : List Act) → said {H = H} (did acts) ≡ []
said_did [] = refl
said_did (act ∷ acts) = said_did acts

-- acts of this end tell nothing
pub did_untold : {H : Type 0} (role : Role) (acts : List Act) (log : List (Entry H)) → events role (items (did acts ++ log)) ≡ events role (items log)
did_untold role [] log = refl
did_untold role (act ∷ acts) log = append-nil (events role (items (did acts ++ log))) ∙ did_untold role acts log

pub did_keeps : (H : Type 0) (acts : List Act) → KeepsTurn {H = H} (did acts)
did_keeps H [] = tt
did_keeps H (act ∷ acts) = did_keeps H acts

-- what is seen of the stream behind these acts
abbrev pub view_by : List Act → Seen → Seen
view_by [] view = view
view_by (act ∷ acts) view = done_by act (view_by acts view)

-- of the stream itself: acts change neither what came of it nor what was told
pub record Own {H : Type 0} (role : Role) (log now : List (Entry H)) (n : ℕ) : Type 0 where
  pub came_is : inbound role (items now) n ≡ inbound role (items log) n
  pub ended_is : finished role (items now) n ≡ finished role (items log) n
  pub agreed_is : agreed role now n ≡ agreed role log n
  pub over_is : is_over role now n ≡ is_over role log n
  pub done_is : was_done role now n ≡ was_done role log n
  pub made_is : made_of role now n ≡ made_of role log n
  pub calls_is : calls_of role now n ≡ calls_of role log n
  pub asked_is : asked now n ≡ asked log n
  pub anew_is : is_asked_anew role now n ≡ is_asked_anew role log n

own_trans : {H : Type 0} (role : Role) (log mid now : List (Entry H)) (n : ℕ) → Own role log mid n → Own role mid now n → Own role log now n
own_trans role log mid now n a b = record {
  came_is = b.came_is ∙ a.came_is;
  ended_is = b.ended_is ∙ a.ended_is;
  agreed_is = b.agreed_is ∙ a.agreed_is;
  over_is = b.over_is ∙ a.over_is;
  done_is = b.done_is ∙ a.done_is;
  made_is = b.made_is ∙ a.made_is;
  calls_is = b.calls_is ∙ a.calls_is;
  asked_is = b.asked_is ∙ a.asked_is;
  anew_is = b.anew_is ∙ a.anew_is;
}

module _ {H : Type 0} (acts_do : ActsDo) where
  own_by : (role : Role) (log : List (Entry H)) (n : ℕ) (act : Act) → IsOn n act → Own role log (Of (Did act) ∷ log) n
  own_by role log n (Write k pieces) on =
      let is = acts_do role (items log) (Write k pieces) n ∙ does_is n (seen role (items log) n) (Write k pieces) on in
      record { came_is = ap (λ (x : Seen). x.came) is; ended_is = ap (λ (x : Seen). x.ended) is; agreed_is = refl; over_is = refl; done_is = refl; made_is = refl; calls_is = refl; asked_is = refl; anew_is = refl }
  own_by role log n (Taken k count) on =
      let is = acts_do role (items log) (Taken k count) n in
      record { came_is = ap (λ (x : Seen). x.came) is; ended_is = ap (λ (x : Seen). x.ended) is; agreed_is = refl; over_is = refl; done_is = refl; made_is = refl; calls_is = refl; asked_is = refl; anew_is = refl }
  own_by role log n (Close k) on =
      let is = acts_do role (items log) (Close k) n ∙ does_is n (seen role (items log) n) (Close k) on in
      record { came_is = ap (λ (x : Seen). x.came) is; ended_is = ap (λ (x : Seen). x.ended) is; agreed_is = refl; over_is = refl; done_is = refl; made_is = refl; calls_is = refl; asked_is = refl; anew_is = refl }
  own_by role log n (Reset k) on =
      let is = acts_do role (items log) (Reset k) n ∙ does_is n (seen role (items log) n) (Reset k) on in
      record { came_is = ap (λ (x : Seen). x.came) is; ended_is = ap (λ (x : Seen). x.ended) is; agreed_is = refl; over_is = refl; done_is = refl; made_is = refl; calls_is = refl; asked_is = refl; anew_is = refl }
  own_by role log n (Start k) on = absurd on
  own_by role log n (Act.GoAway code) on = absurd on

module _ {P H : Type 0} (step : H → HandlerCall → H → Type 0) (fails : H → Asked → ℕ → Type 0)
    (is_closed is_finished : H → Bool) (inbound_makes outbound_makes : P → ℕ → List ℕ → H → Type 0)
    (eager : ℕ → Bool) (names : List (List ℕ)) (peer : List ℕ) (role : Role) (acts_do : ActsDo) (acts_move : ActsMove) where
  on_of : (past : List Item) (n : ℕ) (so_far : Past H) (old : Stage H) (act : Act) → ActIsDue step is_closed is_finished old role past n so_far act → IsOn n act
  on_of past n so_far old (Write m pieces) due = due.0
  on_of past n so_far old (Taken m count) due = due.0
  on_of past n so_far old (Close m) due = due.0
  on_of past n so_far old (Start m) due = absurd due
  on_of past n so_far old (Reset m) due = absurd due
  on_of past n so_far old (Act.GoAway code) due = absurd due

  -- each act is on the stream
  abbrev pub AllOn : ℕ → List Act → Type 0
  AllOn n [] = Unit {0}
  AllOn n (act ∷ acts) = IsOn n act × AllOn n acts

  pub all_on : (past : List Item) (n : ℕ) (so_far : Past H) (old : Stage H) (acts : List Act) → AreDue step is_closed is_finished old role past n so_far acts → AllOn n acts
  all_on past n so_far old [] due = tt
  all_on past n so_far old (act ∷ acts) due = (on_of _ n so_far old act due.0, all_on past n so_far old acts due.1)

  pub did_own : (log : List (Entry H)) (n : ℕ) (acts : List Act) → AllOn n acts → Own role log (did acts ++ log) n
  did_own log n [] on = record { came_is = refl; ended_is = refl; agreed_is = refl; over_is = refl; done_is = refl; made_is = refl; calls_is = refl; asked_is = refl; anew_is = refl }
  did_own log n (act ∷ acts) on = own_trans role log (did acts ++ log) _ n (did_own log n acts on.1) (own_by acts_do role (did acts ++ log) n act on.0)

  -- a stream that is open behind them, and live, was so before
  pub was_open : (log : List (Entry H)) (n : ℕ) (acts : List Act) → AllOn n acts → closed role (items (did acts ++ log)) n ≡ false → closed role (items log) n ≡ false
  was_open log n [] on is = is
  was_open log n (act ∷ acts) on is =
      let before = seen role (items (did acts ++ log)) n in
      was_open log n acts on.1 (kept act before on.0 (sym (ap (λ (s : Seen). s.closed) (acts_do role (items (did acts ++ log)) act n ∙ does_is n before act on.0)) ∙ is)) where
        kept : (act : Act) (s : Seen) → IsOn n act → (done_by act s).closed ≡ false → s.closed ≡ false
        kept (Write k pieces) s on is = is
        kept (Taken k count) s on is = is
        kept (Close k) s on is = absurd (cc is)
        kept (Reset k) s on is = is
        kept (Start k) s on is = absurd on
        kept (Act.GoAway code) s on is = absurd on

  pub was_live : (log : List (Entry H)) (n : ℕ) (acts : List Act) → AllOn n acts → is_live role (items (did acts ++ log)) n ≡ true → is_live role (items log) n ≡ true
  was_live log n [] on is = is
  was_live log n (act ∷ acts) on is =
      let before = seen role (items (did acts ++ log)) n in
      was_live log n acts on.1 (kept act before on.0 (sym (ap (λ (s : Seen). s.live) (acts_do role (items (did acts ++ log)) act n ∙ does_is n before act on.0)) ∙ is)) where
        first : (a b : Bool) → a && b ≡ true → a ≡ true
        first true b e = refl
        first false b e = e

        kept : (act : Act) (s : Seen) → IsOn n act → (done_by act s).live ≡ true → s.live ≡ true
        kept (Write k pieces) s on is = is
        kept (Taken k count) s on is = is
        kept (Close k) s on is = first s.live (not s.ended) is
        kept (Reset k) s on is = absurd (cc is)
        kept (Start k) s on is = absurd on
        kept (Act.GoAway code) s on is = absurd on

  pub did_same : (log : List (Entry H)) (n m : ℕ) (acts : List Act) → (n == m) ≡ false → AllOn n acts → Same role log (did acts ++ log) m
  did_same log n m [] e on = same_refl role log m
  did_same log n m (act ∷ acts) e on = same_trans role log (did acts ++ log) _ m (did_same log n m acts e on.1) (same_by_act acts_do acts_move role (did acts ++ log) n m act on.0 e)

  pub did_heard : (log : List (Entry H)) (n : ℕ) (view : Seen) (rest : List Told) (acts : List Act) → AllOn n acts → AllByRecursion (IsNoOpening n) rest
      → AgreesOn (seen role (items log) n) (all_heard n view rest) → AgreesOn (seen role (items (did acts ++ log)) n) (all_heard n (view_by acts view) rest)
  did_heard log n view rest [] on none a = a
  did_heard log n view rest (act ∷ acts) on none a = moves_on acts_do role (items (did acts ++ log)) n (view_by acts view) rest act on.0 none (did_heard log n view rest acts on.1 none a)

  -- acts that serve a stream open none: no number leaves another stream behind
  pub did_left : (log : List (Entry H)) (n : ℕ) (acts : List Act) → AllOn n acts → (m : ℕ) → left_behind role (did acts ++ log) m ≡ left_behind role log m
  did_left log n [] on m = refl
  did_left log n (act ∷ acts) on m = by_act act on.0 ∙ did_left log n acts on.1 m where
    by_act : (act : Act) → IsOn n act → left_behind role (did (act ∷ acts) ++ log) m ≡ left_behind role (did acts ++ log) m
    by_act (Write k pieces) on = refl
    by_act (Taken k count) on = refl
    by_act (Close k) on = refl
    by_act (Reset k) on = refl
    by_act (Start k) on = absurd on
    by_act (Act.GoAway code) on = absurd on

  did_resets : (log : List (Entry H)) (n : ℕ) (acts : List Act) → AllOn n acts → (m : ℕ) → was_reset role (items (did acts ++ log)) m ≡ was_reset role (items log) m
  did_resets log n [] on m = refl
  did_resets log n (act ∷ acts) on m = by_act act on.0 ∙ did_resets log n acts on.1 m where
    by_act : (act : Act) → IsOn n act → was_reset role (items (did (act ∷ acts) ++ log)) m ≡ was_reset role (items (did acts ++ log)) m
    by_act (Write k pieces) on = refl
    by_act (Taken k count) on = refl
    by_act (Close k) on = refl
    by_act (Reset k) on = refl
    by_act (Start k) on = absurd on
    by_act (Act.GoAway code) on = absurd on

  did_ends : (log : List (Entry H)) (n : ℕ) (acts : List Act) → AllOn n acts → (m : ℕ) → end_was_told role (items (did acts ++ log)) m ≡ end_was_told role (items log) m
  did_ends log n [] on m = refl
  did_ends log n (act ∷ acts) on m = by_act act on.0 ∙ did_ends log n acts on.1 m where
    by_act : (act : Act) → IsOn n act → end_was_told role (items (did (act ∷ acts) ++ log)) m ≡ end_was_told role (items (did acts ++ log)) m
    by_act (Write k pieces) on = refl
    by_act (Taken k count) on = refl
    by_act (Close k) on = refl
    by_act (Reset k) on = refl
    by_act (Start k) on = absurd on
    by_act (Act.GoAway code) on = absurd on

  did_over : (log : List (Entry H)) (n : ℕ) (acts : List Act) → AllOn n acts → (m : ℕ) → is_over role (did acts ++ log) m ≡ is_over role log m
  did_over log n [] on m = refl
  did_over log n (act ∷ acts) on m = by_act act on.0 ∙ did_over log n acts on.1 m where
    by_act : (act : Act) → IsOn n act → is_over role (did (act ∷ acts) ++ log) m ≡ is_over role (did acts ++ log) m
    by_act (Write k pieces) on = refl
    by_act (Taken k count) on = refl
    by_act (Close k) on = refl
    by_act (Reset k) on = refl
    by_act (Start k) on = absurd on
    by_act (Act.GoAway code) on = absurd on

  -- they are about the stream
  did_only : (n : ℕ) (acts : List Act) → AllOn n acts → AllByRecursion (IsOnly {H = H} n) (did acts)
  did_only n [] on = tt
  did_only n (act ∷ acts) on = (on.0, did_only n acts on.1)

  -- ---- what came

  pub come_on : (log now : List (Entry H)) (n : ℕ) (so_far : Past H) (left : Option ℕ) → Own role log now n
      → HasCome step fails is_closed is_finished inbound_makes outbound_makes eager names peer role log n so_far
      → HasCome step fails is_closed is_finished inbound_makes outbound_makes eager names peer role now n (with_sent role (items now) n so_far left)
  come_on log now n so_far left own c = record {
    side_is = side_same role names log now n so_far.side own.asked_is c.side_is;
    rest = c.rest;
    got_is = own.came_is ∙ c.got_is;
    ended_by = λ is. (own.ended_is ∙ (c.ended_by is).0, (c.ended_by is).1);
    sent_is = refl;
    made_is = c.made_is ∙ sym own.made_is;
    calls_is = c.calls_is ∙ sym own.calls_is;
  }

  -- ---- why each act is due

  -- What is known of a stream that is served: its handler was made; one that serves it was handed what stood behind the
  -- talk; where it was handed out, that was told; it isn't given up; and one that isn't closed was asked last.
  pub record WasServed (log : List (Entry H)) (n : ℕ) (old : Stage H) : Type 0 where
    pub made : awaits_handler old ≡ false
    pub handed : kind_of old ≡ Served → has_taken (calls_of role log n) ≡ true
    pub told : was_handed_out old ≡ true → was_done role log n ≡ true
    pub same_over : is_over role log n ≡ was_done role log n
    pub asked : is_live role (items log) n ≡ true → closed role (items log) n ≡ false → is_open is_closed old ≡ true → is_asked_anew role log n ≡ false

  -- by all that came; of a stream that was served while it was there
  stands_by : (log : List (Entry H)) (n : ℕ) (so_far : Past H) (old : Stage H) → HasCome step fails is_closed is_finished inbound_makes outbound_makes eager names peer role log n so_far
      → inbound role (items log) n ≡ so_far.got → WasServed log n old → (now : List (Entry H)) → Own role log now n → (left : Option ℕ) (stream : Streaming H)
      → Stands step stream (with_sent role (items now) n so_far left) → kind_of stream.stage ≡ kind_of old
      → StandsByAll step fails is_closed is_finished inbound_makes outbound_makes eager names peer role now n
  stands_by log n so_far old c came was now own left stream stands kind = record {
    there = record { so_far = with_sent role (items now) n so_far left; stream = stream; come = come_on log now n so_far left own c; stands = stands };
    all_came = own.came_is ∙ came;
    was_made = same_awaiting stream.stage old kind ∙ was.made;
    handed = λ serves. ap has_taken own.calls_is ∙ was.handed (sym kind ∙ serves);
    was_told = λ is. own.done_is ∙ was.told (sym (same_handed stream.stage old kind) ∙ is);
  }

  -- the stream gave what it has
  all_given : (log : List (Entry H)) (n : ℕ) (so_far : Past H) (old : Stage H) (acts : List Act) → AllOn n acts
      → HasCome step fails is_closed is_finished inbound_makes outbound_makes eager names peer role log n so_far → inbound role (items log) n ≡ so_far.got
      → WasServed log n old → StreamGaveAll step is_closed is_finished old role (items (did acts ++ log)) n so_far
      → GaveAll step fails is_closed is_finished inbound_makes outbound_makes eager names peer role (did acts ++ log) n
  unfolding stands_by
  all_given log n so_far old acts all c came was gave = record {
    by_all = stands_by log n so_far old c came was (did acts ++ log) (did_own log n acts all) gave.left gave.stream gave.stands gave.kind_is;
    none_waits = gave.none_waits;
    asked = λ is. (gave.asked is).0;
    asked_last = λ live unclosed is. (did_own log n acts all).anew_is ∙ was.asked (was_live log n acts all live) (was_open log n acts all unclosed) (gave.asked is).1;
    not_given_up = (did_own log n acts all).over_is ∙ was.same_over ∙ sym (did_own log n acts all).done_is;
  }

  entry_due : (log : List (Entry H)) (n : ℕ) (so_far : Past H) (old : Stage H) (acts : List Act) (act : Act) → AllOn n acts → IsOn n act
      → HasCome step fails is_closed is_finished inbound_makes outbound_makes eager names peer role log n so_far → inbound role (items log) n ≡ so_far.got
      → WasServed log n old → ActIsDue step is_closed is_finished old role (items (did acts ++ log)) n so_far act
      → IsDue step fails is_closed is_finished inbound_makes outbound_makes eager names peer role (did acts ++ log) (Of (Did act))
  unfolding all_given
  entry_due log n so_far old acts (Write k pieces) all on c came was due =
      let now = Of (Did (Write k pieces)) ∷ did acts ++ log in
      let own = own_trans role log (did acts ++ log) _ n (did_own log n acts all) (own_by acts_do role (did acts ++ log) n (Write k pieces) on) in
      subst (λ m. StandsByAll step fails is_closed is_finished inbound_makes outbound_makes eager names peer role now m) (sym on)
      (stands_by log n so_far old c came was now own due.1.left due.1.stream due.1.stands due.1.kind_is)
  entry_due log n so_far old acts (Taken k count) all on c came was due =
      subst (λ m. (count ≡ untaken role (items (did acts ++ log)) m)
      × (((closed role (items (did acts ++ log)) m ≡ true)
      × StandsByAll step fails is_closed is_finished inbound_makes outbound_makes eager names peer role (did acts ++ log) m)
      ⊎ ((0 < credit role (items (did acts ++ log)) m)
      × GaveAll step fails is_closed is_finished inbound_makes outbound_makes eager names peer role (did acts ++ log) m))) (sym on) (due.1, by_gave due.2) where
        by_gave : ((closed role (items (did acts ++ log)) n ≡ true) × StreamHasSent step is_closed is_finished old role (items (did acts ++ log)) n so_far)
            ⊎ ((0 < credit role (items (did acts ++ log)) n) × StreamGaveAll step is_closed is_finished old role (items (did acts ++ log)) n so_far)
            → ((closed role (items (did acts ++ log)) n ≡ true)
            × StandsByAll step fails is_closed is_finished inbound_makes outbound_makes eager names peer role (did acts ++ log) n)
            ⊎ ((0 < credit role (items (did acts ++ log)) n)
            × GaveAll step fails is_closed is_finished inbound_makes outbound_makes eager names peer role (did acts ++ log) n)
        by_gave (inl shut) = inl (shut.0, stands_by log n so_far old c came was (did acts ++ log) (did_own log n acts all) shut.1.left shut.1.stream shut.1.stands shut.1.kind_is)
        by_gave (inr gave) = inr (gave.0, all_given log n so_far old acts all c came was gave.1)
  entry_due log n so_far old acts (Close k) all on c came was due =
      let given : HasGiven step fails is_closed is_finished inbound_makes outbound_makes eager names peer role (did acts ++ log) n = record {
        all = all_given log n so_far old acts all c came was due.1.all;
        over = due.1.over;
      } in
      subst (λ m. HasGiven step fails is_closed is_finished inbound_makes outbound_makes eager names peer role (did acts ++ log) m) (sym on) given
  entry_due log n so_far old acts (Reset k) all on c came was due = absurd due
  entry_due log n so_far old acts (Start k) all on c came was due = absurd due
  entry_due log n so_far old acts (Act.GoAway code) all on c came was due = absurd due

  pub did_due : (log : List (Entry H)) (n : ℕ) (so_far : Past H) (old : Stage H) (acts : List Act)
      → HasCome step fails is_closed is_finished inbound_makes outbound_makes eager names peer role log n so_far → inbound role (items log) n ≡ so_far.got
      → WasServed log n old → AreDue step is_closed is_finished old role (items log) n so_far acts
      → AllDue step fails is_closed is_finished inbound_makes outbound_makes eager names peer role log
      → AllDue step fails is_closed is_finished inbound_makes outbound_makes eager names peer role (did acts ++ log)
  did_due log n so_far old [] c came was due all = all
  did_due log n so_far old (act ∷ acts) c came was due all = (
    entry_due log n so_far old acts act (all_on (items log) n so_far old acts due.1) (on_of _ n so_far old act due.0) c came was
        (subst (λ (t : List Item). ActIsDue step is_closed is_finished old role t n so_far act) (sym (items_did acts log)) due.0),
    did_due log n so_far old acts c came was due.1 all,
  )

  -- ---- the view

  pub view_came : (n : ℕ) (acts : List Act) (view : Seen) → AllOn n acts → (view_by acts view).came ≡ view.came
  view_came n [] view on = refl
  view_came n (act ∷ acts) view on = kept act (view_by acts view) on.0 ∙ view_came n acts view on.1 where
    kept : (act : Act) (s : Seen) → IsOn n act → (done_by act s).came ≡ s.came
    kept (Write k pieces) s on = refl
    kept (Taken k count) s on = refl
    kept (Close k) s on = refl
    kept (Reset k) s on = refl
    kept (Start k) s on = absurd on
    kept (Act.GoAway code) s on = absurd on

  pub view_ended : (n : ℕ) (acts : List Act) (view : Seen) → AllOn n acts → (view_by acts view).ended ≡ view.ended
  view_ended n [] view on = refl
  view_ended n (act ∷ acts) view on = kept act (view_by acts view) on.0 ∙ view_ended n acts view on.1 where
    kept : (act : Act) (s : Seen) → IsOn n act → (done_by act s).ended ≡ s.ended
    kept (Write k pieces) s on = refl
    kept (Taken k count) s on = refl
    kept (Close k) s on = refl
    kept (Reset k) s on = refl
    kept (Start k) s on = absurd on
    kept (Act.GoAway code) s on = absurd on

  -- acts that serve a stream end it only where the other end has ended it
  pub view_over : (past : List Item) (n : ℕ) (so_far : Past H) (old : Stage H) (acts : List Act) (view : Seen) → AreDue step is_closed is_finished old role past n so_far acts
      → (view.live ≡ false → view.ended ≡ true) → (view_by acts view).live ≡ false → (view_by acts view).ended ≡ true
  view_over past n so_far old [] view due over = over
  view_over past n so_far old (act ∷ acts) view due over = kept act (view_by acts view) due.0 (view_over past n so_far old acts view due.1 over) where
    shut_over : (live ended : Bool) → (live ≡ false → ended ≡ true) → live && not ended ≡ false → ended ≡ true
    shut_over live true over off = refl
    shut_over true false over off = absurd (cc off)
    shut_over false false over off = over refl

    kept : (act : Act) (s : Seen) → ActIsDue step is_closed is_finished old role (map Did acts ++ past) n so_far act → (s.live ≡ false → s.ended ≡ true) → (done_by act s).live ≡ false → (done_by act s).ended ≡ true
    kept (Write m pieces) s due over = over
    kept (Taken m count) s due over = over
    kept (Close m) s due over = shut_over s.live s.ended over
    kept (Start m) s due over = absurd due
    kept (Reset m) s due over = absurd due
    kept (Act.GoAway code) s due over = absurd due

  -- ---- what came is what was seen, or will be

  pub ended_stays : (n : ℕ) (view : Seen) (rest : List Told) → AllByRecursion (IsNoOpening n) rest → view.ended ≡ true → (all_heard n view rest).ended ≡ true
  ended_stays n view [] none is = is
  ended_stays n view (t ∷ rest) none is = ended_stays n (hears n view t) rest none.1 (kept t none.0) where
    by_test : (b : Bool) (other : Seen) → other.ended ≡ true → (cond b other view).ended ≡ true
    by_test true other e = e
    by_test false other e = is

    kept : (t : Told) → IsNoOpening n t → (hears n view t).ended ≡ true
    kept (Told.Opened m) e = ap (λ b. (cond b just_opened view).ended) e ∙ is
    kept (Told.Payload m b) e = by_test (m == n) (record view { came = view.came ++ b ∷ [] }) is
    kept (Told.Ended m) e = by_test (m == n) (record view { ended = true; live = view.live && not view.closed }) refl
    kept (Told.Reset m) e = by_test (m == n) (record view { live = false }) is
    kept (Told.Accepted m) e = is
    kept (Told.Credit m) e = is
    kept (Told.GoAway code) e = is
    kept (Told.Fault fault) e = is

  pub not_yet : {b : Bool} → b ≡ false → b ≡ true → ⊥
  not_yet off on = absurd (let e : true ≡ false = sym on ∙ off in cc e)

  pub come_of : (log : List (Entry H)) (n : ℕ) (view : Seen) (rest : List Told) (so_far : Past H) → IsSide role names log n so_far.side
      → so_far.got ≡ view.came → so_far.ended ≡ view.ended → so_far.sent ≡ written role (items log) n → so_far.made ≡ made_of role log n
      → so_far.calls ≡ calls_of role log n → AllByRecursion (IsNoOpening n) rest → EndsLast view.ended rest → AgreesOn (seen role (items log) n) (all_heard n view rest)
      → HasCome step fails is_closed is_finished inbound_makes outbound_makes eager names peer role log n so_far
  come_of log n view rest so_far side got ended sent made calls none last a = by_end view.ended refl where
    by_end : (b : Bool) → view.ended ≡ b → HasCome step fails is_closed is_finished inbound_makes outbound_makes eager names peer role log n so_far
    by_end true e = record {
      side_is = side;
      rest = [];
      got_is = a.came ∙ none_behind n view rest none (subst (λ b. EndsLast b rest) e last) ∙ sym got ∙ sym (append-nil so_far.got);
      ended_by = λ is. (a.ended (ended_stays n view rest none e), refl);
      sent_is = sent;
      made_is = made;
      calls_is = calls;
    }
    by_end false e =
        let front = came_front n view rest none in
        record {
          side_is = side;
          rest = front.0;
          got_is = a.came ∙ front.1 ∙ ap (λ t. t ++ front.0) (sym got);
          ended_by = λ is. absurd (not_yet e (sym ended ∙ is));
          sent_is = sent;
          made_is = made;
          calls_is = calls;
        }

  -- ---- all streams but this one

  pub around_acts : (log : List (Entry H)) (fed sent : List ℕ) (before after : State) (streams now : ℕ → Option (Streaming H)) (past : List (Earlier H)) (n : ℕ) (view : Seen)
      (rest : List Told) (so_far : Past H) (old : Stage H) (acts : List Act)
      → Around step fails is_closed is_finished inbound_makes outbound_makes eager names peer role log fed sent before streams past n view rest
      → HasCome step fails is_closed is_finished inbound_makes outbound_makes eager names peer role log n so_far → inbound role (items log) n ≡ so_far.got
      → WasServed log n old → AreDue step is_closed is_finished old role (items log) n so_far acts
      → SessionStands role (map Did acts ++ items log) fed sent after
      → ((m : ℕ) → (n == m) ≡ false → now m ≡ streams m)
      → Around step fails is_closed is_finished inbound_makes outbound_makes eager names peer role (did acts ++ log) fed sent after now past n (view_by acts view) rest
  around_acts log fed sent before after streams now past n view rest so_far old acts a c came was due there elsewhere =
      let on = all_on (items log) n so_far old acts due in
      grown step fails is_closed is_finished inbound_makes outbound_makes eager names peer role log (did acts) fed sent before after streams now past n view (view_by acts view) rest a
      (did_due log n so_far old acts c came was due a.due) (λ m apart. did_same log n m acts apart on)
      (subst (λ (t : List Item). SessionStands role t fed sent after) (sym (items_did acts log)) there) elsewhere
      (did_heard log n view rest acts on a.opens_none a.heard) (view_ended n acts view on) (did_left log n acts on)
      (did_resets log n acts on) (did_ends log n acts on n) (λ m over. did_over log n acts on m ∙ over) (did_only n acts on)
