-- What entries about one stream leave of another one.
use Rattle.std.proofs.Common.{◌≡◌, ◌⊎◌, inl, inr, ℕ, suc, ◌<◌, ◌==◌, Bool, true, false, ◌||◌, ◌&&◌, ◌-◌, not, length, cond, List, [], ◌∷◌, ◌++◌, Option, Some, refl, sym, ap, ◌∙◌, arith}
use Rattle.std.specs.Prelude.{sum_by}
use Rattle.std.specs.List.{concat}
use Rattle.std.proofs.lemmas.List.{append_assoc}
use Rattle.handlers.specs.Calls.{HandlerCall}
use Rattle.talks.specs.Talks.{Side, Asks, Answers}
use Rattle.yamux_session.specs.declared.event.Role.{Role}
use Rattle.yamux_session.specs.History.{Item, Act}
use Rattle.yamux_session.specs.History.Item.{Did}
use Rattle.yamux_session.specs.History.Act.{Start, Write, Taken, Close, Reset}
use Rattle.yamux_session.specs.Openings.{is_live, closed, finished}
use Rattle.yamux_session.specs.Windows.{credit, untaken}
use Rattle.yamux_session.specs.Data.{inbound}
use Rattle.yamux_session.specs.Seen.{Seen, seen, Windows, windows, ActsDo, ActsMove}
use Rattle.streams.specs.State.{Streaming}
use Rattle.serving.specs.Served.{IsSettled}
use Rattle.conn_log.specs.declared.event.ConnEvent.{ConnEvent}
use Rattle.conn_log.specs.declared.event.ConnEvent.TheVariants as event
use Rattle.conn_log.specs.Entries.{Entry, items, agreed, is_over, was_done, made_of, calls_of, has_taken, asked, is_kept, left_behind}
use Rattle.conn_log.specs.Entries.Entry.{Of, Says, Made, Calls}
use Rattle.conn_log.specs.Asking.{is_give, is_asked_anew}
use Rattle.conn_log.specs.Held.{IsSide, IsAtRest, IsPast, AreLeft}

-- these are of the stream what they were
pub record Same {H : Type 0} (role : Role) (log now : List (Entry H)) (m : ℕ) : Type 0 where
  pub seen_is : seen role (items now) m ≡ seen role (items log) m
  pub windows_is : windows role (items now) m ≡ windows role (items log) m
  pub agreed_is : agreed role now m ≡ agreed role log m
  pub over_is : is_over role now m ≡ is_over role log m
  pub done_is : was_done role now m ≡ was_done role log m
  pub made_is : made_of role now m ≡ made_of role log m
  pub calls_is : calls_of role now m ≡ calls_of role log m
  pub asked_is : asked now m ≡ asked log m
  pub anew_is : is_asked_anew role now m ≡ is_asked_anew role log m

pub same_refl : {H : Type 0} (role : Role) (log : List (Entry H)) (m : ℕ) → Same role log log m
same_refl role log m = record { seen_is = refl; windows_is = refl; agreed_is = refl; over_is = refl; done_is = refl; made_is = refl; calls_is = refl; asked_is = refl; anew_is = refl }

pub same_trans : {H : Type 0} (role : Role) (log mid now : List (Entry H)) (m : ℕ) → Same role log mid m → Same role mid now m → Same role log now m
same_trans role log mid now m a b = record {
  seen_is = b.seen_is ∙ a.seen_is;
  windows_is = b.windows_is ∙ a.windows_is;
  agreed_is = b.agreed_is ∙ a.agreed_is;
  over_is = b.over_is ∙ a.over_is;
  done_is = b.done_is ∙ a.done_is;
  made_is = b.made_is ∙ a.made_is;
  calls_is = b.calls_is ∙ a.calls_is;
  asked_is = b.asked_is ∙ a.asked_is;
  anew_is = b.anew_is ∙ a.anew_is;
}

-- an act on the one stream
abbrev pub IsOn : ℕ → Act → Type 0
IsOn n (Write m pieces) = m ≡ n
IsOn n (Taken m count) = m ≡ n
IsOn n (Close m) = m ≡ n
IsOn n (Reset m) = m ≡ n
IsOn n (Start m) = ⊥
IsOn n (Act.GoAway code) = ⊥

other_one : (k n m : ℕ) → k ≡ n → (n == m) ≡ false → (k == m) ≡ false
other_one k n m is e = ap (λ x. x == m) is ∙ e

module _ {H : Type 0} (acts_do : ActsDo) (acts_move : ActsMove) where
  pub same_by_act : (role : Role) (log : List (Entry H)) (n m : ℕ) (act : Act) → IsOn n act → (n == m) ≡ false → Same role log (Of (Did act) ∷ log) m
  unfolding other_one
  same_by_act role log n m (Write k pieces) on e =
      let before = seen role (items log) m in
      let had = windows role (items log) m in
      let apart = other_one k n m on e in
      record {
        seen_is = acts_do role (items log) (Write k pieces) m ∙ ap (λ b. cond b (record before { sent = before.sent ++ concat pieces }) before) apart;
        windows_is = acts_move role (items log) (Write k pieces) m ∙ ap (λ b. cond b (record had { credit = had.credit - sum_by length pieces }) had) apart;
        agreed_is = refl;
        over_is = refl;
        done_is = refl;
        made_is = refl;
        calls_is = refl;
        asked_is = refl;
        anew_is = refl;
      }
  same_by_act role log n m (Taken k count) on e =
      let had = windows role (items log) m in
      let apart = other_one k n m on e in
      record {
        seen_is = acts_do role (items log) (Taken k count) m;
        windows_is = acts_move role (items log) (Taken k count) m ∙ ap (λ b. cond b (record had { untaken = had.untaken - count }) had) apart;
        agreed_is = refl;
        over_is = refl;
        done_is = refl;
        made_is = refl;
        calls_is = refl;
        asked_is = refl;
        anew_is = refl;
      }
  same_by_act role log n m (Close k) on e =
      let before = seen role (items log) m in
      let apart = other_one k n m on e in
      record {
        seen_is = acts_do role (items log) (Close k) m ∙ ap (λ b. cond b (record before { closed = true; live = before.live && not before.ended }) before) apart;
        windows_is = acts_move role (items log) (Close k) m;
        agreed_is = refl;
        over_is = refl;
        done_is = refl;
        made_is = refl;
        calls_is = refl;
        asked_is = refl;
        anew_is = refl;
      }
  same_by_act role log n m (Reset k) on e =
      let before = seen role (items log) m in
      let apart = other_one k n m on e in
      record {
        seen_is = acts_do role (items log) (Reset k) m ∙ ap (λ b. cond b (record before { live = false }) before) apart;
        windows_is = acts_move role (items log) (Reset k) m;
        agreed_is = refl;
        over_is = refl;
        done_is = refl;
        made_is = refl;
        calls_is = refl;
        asked_is = refl;
        anew_is = refl;
      }
  same_by_act role log n m (Start k) on e = absurd on
  same_by_act role log n m (Act.GoAway code) on e = absurd on

-- an event about the one stream
abbrev pub IsOf : {H : Type 0} → ℕ → ConnEvent H → Type 0
IsOf n (event.Agreed m index) = m ≡ n
IsOf n (event.Refused m) = m ≡ n
IsOf n (event.Done m handler) = m ≡ n
IsOf n (event.Broken m cause) = m ≡ n
IsOf n (event.Upgraded key) = ⊥
IsOf n (event.Fault fault) = ⊥
IsOf n event.Shut = ⊥

pub same_by_event : {H : Type 0} (role : Role) (log : List (Entry H)) (n m : ℕ) (told : ConnEvent H) → IsOf n told → (n == m) ≡ false → Same role log (Says told ∷ log) m
unfolding other_one
same_by_event role log n m (event.Agreed k index) of e = record {
  seen_is = refl;
  windows_is = refl;
  agreed_is = ap (λ b. cond b (Some index) (agreed role log m)) (other_one k n m of e);
  over_is = refl;
  done_is = refl;
  made_is = refl;
  calls_is = refl;
  asked_is = refl;
  anew_is = refl;
}
same_by_event role log n m (event.Refused k) of e = record {
  seen_is = refl;
  windows_is = refl;
  agreed_is = refl;
  over_is = ap (λ b. b || is_over role log m) (other_one k n m of e);
  done_is = refl;
  made_is = refl;
  calls_is = refl;
  asked_is = refl;
  anew_is = refl;
}
same_by_event role log n m (event.Done k handler) of e = record {
  seen_is = refl;
  windows_is = refl;
  agreed_is = refl;
  over_is = ap (λ b. b || is_over role log m) (other_one k n m of e);
  done_is = ap (λ b. b || was_done role log m) (other_one k n m of e);
  made_is = refl;
  calls_is = refl;
  asked_is = refl;
  anew_is = refl;
}
same_by_event role log n m (event.Broken k cause) of e = record {
  seen_is = refl;
  windows_is = refl;
  agreed_is = refl;
  over_is = ap (λ b. b || is_over role log m) (other_one k n m of e);
  done_is = refl;
  made_is = refl;
  calls_is = refl;
  asked_is = refl;
  anew_is = refl;
}
same_by_event role log n m (event.Upgraded key) of e = absurd of
same_by_event role log n m (event.Fault fault) of e = absurd of
same_by_event role log n m event.Shut of e = absurd of

pub same_by_making : {H : Type 0} (role : Role) (log : List (Entry H)) (n m : ℕ) (handler : H) → (n == m) ≡ false → Same role log (Made n handler ∷ log) m
same_by_making role log n m handler e = record {
  seen_is = refl;
  windows_is = refl;
  agreed_is = refl;
  over_is = refl;
  done_is = refl;
  made_is = ap (λ b. cond b (Some handler) (made_of role log m)) e;
  calls_is = refl;
  asked_is = refl;
  anew_is = ap (λ b. b || is_asked_anew role log m) e;
}

pub same_by_call : {H : Type 0} (role : Role) (log : List (Entry H)) (n m : ℕ) (call : HandlerCall) → (n == m) ≡ false → Same role log (Calls n call ∷ log) m
same_by_call role log n m call e = record {
  seen_is = refl;
  windows_is = refl;
  agreed_is = refl;
  over_is = refl;
  done_is = refl;
  made_is = refl;
  calls_is = ap (λ b. cond b (calls_of role log m ++ call ∷ []) (calls_of role log m)) e;
  asked_is = refl;
  anew_is = ap (λ b. cond b (not (is_give call)) (is_asked_anew role log m)) e;
}

-- ---- what holds of the other stream goes on holding

pub side_same : {H : Type 0} (role : Role) (names : List (List ℕ)) (log now : List (Entry H)) (n : ℕ) (side : Side) → asked now n ≡ asked log n
    → IsSide role names log n side → IsSide role names now n side
side_same role names log now n (Asks name index) e s = (s.0, e ∙ s.1, s.2)
side_same role names log now n (Answers known) e s = s

pub settled_same : {H : Type 0} (step : H → HandlerCall → H → Type 0) (is_closed is_finished : H → Bool) (role : Role) (past now : List Item) (n : ℕ) (left : Option ℕ) (stream : Streaming H)
    → closed role now n ≡ closed role past n → credit role now n ≡ credit role past n → untaken role now n ≡ untaken role past n
    → IsSettled step is_closed is_finished role past n left stream → IsSettled step is_closed is_finished role now n left stream
settled_same step is_closed is_finished role past now n left stream shut has left_over s = record {
  asked = λ off is. s.asked (sym shut ∙ off) is ∙ ap Some (sym has);
  none_waits = λ off some. s.none_waits (sym shut ∙ off) (omega (arith, some, has));
  over = λ on none. shut ∙ s.over on none;
  was_taken = λ some. left_over ∙ s.was_taken (carried some);
} where
  carried : (0 < credit role now n) ⊎ (closed role now n ≡ true) → (0 < credit role past n) ⊎ (closed role past n ≡ true)
  carried (inl some) = inl (omega (arith, some, has))
  carried (inr on) = inr (sym shut ∙ on)

module _ {H : Type 0} (step : H → HandlerCall → H → Type 0) (is_closed is_finished : H → Bool) (names : List (List ℕ)) (role : Role) where
  pub at_rest_same : (log now : List (Entry H)) (m : ℕ) (stream : Streaming H) → Same role log now m
      → IsAtRest step is_closed is_finished names role log m stream → IsAtRest step is_closed is_finished names role now m stream
  at_rest_same log now m stream s r =
      let came : inbound role (items log) m ≡ inbound role (items now) m = ap (λ (x : Seen). x.came) (sym s.seen_is) in
      let ended : finished role (items log) m ≡ finished role (items now) m = ap (λ (x : Seen). x.ended) (sym s.seen_is) in
      let live : is_live role (items now) m ≡ is_live role (items log) m = ap (λ (x : Seen). x.live) s.seen_is in
      record {
        held = record {
          so_far = r.held.so_far;
          side_is = side_same role names log now m r.held.so_far.side s.asked_is r.held.side_is;
          got_is = r.held.got_is ∙ came;
          ended_is = r.held.ended_is ∙ ended;
          sent_is = r.held.sent_is ∙ ap (λ (x : Seen). x.sent) (sym s.seen_is);
          made_is = r.held.made_is ∙ sym s.made_is;
          calls_is = r.held.calls_is ∙ sym s.calls_is;
          stands = r.held.stands;
          talking = λ is. s.agreed_is ∙ r.held.talking is;
          agreed_on = λ is none. r.held.agreed_on is (sym s.agreed_is ∙ none);
          over = s.over_is ∙ r.held.over;
          done = s.done_is ∙ r.held.done;
          served = r.held.served;
        };
        settled = λ on. settled_same step is_closed is_finished role (items log) (items now) m r.held.so_far.left stream (ap (λ (x : Seen). x.closed) s.seen_is)
            (ap (λ (w : Windows). w.credit) s.windows_is) (ap (λ (w : Windows). w.untaken) s.windows_is) (r.settled (sym live ∙ on));
        asked = λ on off is. s.anew_is ∙ r.asked (sym live ∙ on) (sym (ap (λ (x : Seen). x.closed) s.seen_is) ∙ off) is;
        unfinished = r.unfinished;
        handed = λ serves. ap has_taken s.calls_is ∙ r.handed serves;
        over_by_end = λ off. sym ended ∙ r.over_by_end (sym live ∙ off);
      }

  pub past_same : (log newer : List (Entry H)) (n place : ℕ) (stream : Streaming H) → IsPast step is_closed is_finished names role log n place stream
      → IsPast step is_closed is_finished names role (newer ++ log) n place stream
  past_same log newer n place stream p = record {
    newer = newer ++ p.newer;
    older = p.older;
    log_is = ap (λ t. newer ++ t) p.log_is ∙ sym (append_assoc newer p.newer p.older);
    over = p.over;
    kept = p.kept;
    place_is = p.place_is;
    at_rest = p.at_rest;
  }

  -- those that a number has left stay
  pub left_same : (log newer : List (Entry H)) (n place : ℕ) (streams : List (Streaming H)) → left_behind role (newer ++ log) n ≡ left_behind role log n
      → AreLeft step is_closed is_finished names role log n place streams → AreLeft step is_closed is_finished names role (newer ++ log) n place streams
  left_same log newer n place [] still all = still ∙ all
  left_same log newer n place (it ∷ streams) still all = (past_same log newer n place it all.0, left_same log newer n (suc place) streams still all.1)

  -- and one more was left
  pub left_one : (log newer : List (Entry H)) (n place : ℕ) (it : Streaming H) (streams : List (Streaming H)) → left_behind role (newer ++ log) n ≡ suc (left_behind role log n)
      → is_live role (items log) n ≡ false → is_kept role log n ≡ true → IsAtRest step is_closed is_finished names role log n it
      → AreLeft step is_closed is_finished names role log n place streams → AreLeft step is_closed is_finished names role (newer ++ log) n place (streams ++ it ∷ [])
  left_one log newer n place it [] more over kept rest all =
      (record { newer = newer; older = log; log_is = refl; over = over; kept = kept; place_is = all; at_rest = rest }, more ∙ ap suc all)
  left_one log newer n place it (one ∷ streams) more over kept rest all =
      (past_same log newer n place one all.0, left_one log newer n (suc place) it streams more over kept rest all.1)
