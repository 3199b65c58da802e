-- What arrivals tell of resets: whether a stream was reset, and that nothing is told of one that isn't live.
use Rattle.std.proofs.Common.{◌≡◌, ◌⊎◌, inl, inr, ℕ, ◌==◌, ◌||◌, ◌&&◌, not, Bool, true, false, cond, List, [], ◌∷◌, ◌++◌, map, Option, Some, None, refl, sym, ap, ◌∙◌, subst}
use Rattle.std.specs.List.{AllByRecursion}
use Rattle.std.proofs.lemmas.List.{append_assoc, append-nil, append_cancel_left}
use Rattle.std.specs.Prelude.{drop}
use Rattle.yamux_frames.specs.declared.header.Header.{Header}
use Rattle.yamux_frames.specs.Frames.{Arrival}
use Rattle.yamux_frames.specs.Frames.Arrival.{Head, Byte, Tail, Garbled}
use Rattle.handlers.specs.Calls.{HandlerCall, Asked}
use Rattle.yamux_session.specs.declared.event.Role.{Role}
use Rattle.yamux_session.specs.declared.event.Event.{Event}
use Rattle.yamux_session.specs.declared.event.Event.TheVariants as event
use Rattle.yamux_session.specs.History.{Item, ack, fin, rst, syn, is_own, is_update, is_go_away, is_of_stream}
use Rattle.yamux_session.specs.History.Item.{Came}
use Rattle.yamux_session.specs.Openings.{is_live, live, local_go_away, opens, is_let_in, contains, finished, reading, head_belongs, byte_belongs}
use Rattle.yamux_session.specs.Windows.{accepted}
use Rattle.yamux_session.specs.Faults.{HasNoFault, fault_at}
use Rattle.yamux_session.specs.Events.{Told, events, events_at, events_unless, item_events, head_events, tail_told, tail_events, taker, byte_told, when}
use Rattle.yamux_session.specs.Seen.{Seen, seen, hears, all_heard, TellsFrom, EventsTell}
use Rattle.yamux_session.specs.Arrives.{tellings}
use Rattle.yamux_session.specs.Naming.{IsNoOpening as OpensNone}
use Rattle.yamux_session.specs.Endings.{EndsOnce, opened_in, told_opened, OpeningsAreTold}
use Rattle.conn_log.specs.Entries.{Entry, items, since, over_in, is_over}
use Rattle.conn_log.specs.Due.{AllDue, told_reset, was_reset}
use Rattle.conn_log.specs.Routes.{IsNoOpening, IsNoCredit, EndsLast}
use Rattle.conn_log.proofs.Views.{same, its_own}
use Rattle.conn_log.proofs.Arriving.{arrived, items_arrived, since_arrived, IsNamed, opens_none, unopened}
use Rattle.conn_log.proofs.Comes.{or_on}

pub either_true : (b c : Bool) → b || c ≡ true → (b ≡ true) ⊎ (c ≡ true)
either_true true c e = inl refl
either_true false c e = inr e

-- what arrivals tell, one after another
abbrev pub told_by : Role → List Item → List Arrival → List Told
told_by role past [] = []
told_by role past (x ∷ came) = told_by role past came ++ events_at role (map Came came ++ past) (Came x)

events_by : (role : Role) (past : List Item) (came : List Arrival) → events role (map Came came ++ past) ≡ events role past ++ told_by role past came
events_by role past [] = sym (append-nil (events role past))
events_by role past (x ∷ came) =
    ap (λ t. t ++ events_at role (map Came came ++ past) (Came x)) (events_by role past came)
    ∙ append_assoc (events role past) (told_by role past came) (events_at role (map Came came ++ past) (Came x))

pub told_is_by : (role : Role) (past : List Item) (came : List Arrival) (told : List Told) → TellsFrom role past came told → told_by role past came ≡ told
told_is_by role past came told tells = append_cancel_left (events role past) (told_by role past came) told (sym (events_by role past came) ∙ tells.told_is)

-- what an arrival without a fault tells
unfaulted : (role : Role) (past : List Item) (x : Arrival) → fault_at role past (Came x) ≡ None → events_at role past (Came x) ≡ item_events role past (Came x)
unfaulted role past x none = ap (λ f. events_unless f (item_events role past (Came x))) none

-- ---- whether a stream was reset

-- behind these events, where it was or wasn't before them
abbrev pub reset_after : ℕ → Bool → List Told → Bool
reset_after n was [] = was
reset_after n was (Told.Opened m ∷ told) = reset_after n (cond (m == n) false was) told
reset_after n was (Told.Reset m ∷ told) = reset_after n (m == n || was) told
reset_after n was (Told.Payload m b ∷ told) = reset_after n was told
reset_after n was (Told.Ended m ∷ told) = reset_after n was told
reset_after n was (Told.Accepted m ∷ told) = reset_after n was told
reset_after n was (Told.Credit m ∷ told) = reset_after n was told
reset_after n was (Told.GoAway code ∷ told) = reset_after n was told
reset_after n was (Told.Fault fault ∷ told) = reset_after n was told

reset_append : (n : ℕ) (was : Bool) (first later : List Told) → reset_after n was (first ++ later) ≡ reset_after n (reset_after n was first) later
reset_append n was [] later = refl
reset_append n was (Told.Opened m ∷ first) later = reset_append n (cond (m == n) false was) first later
reset_append n was (Told.Reset m ∷ first) later = reset_append n (m == n || was) first later
reset_append n was (Told.Payload m b ∷ first) later = reset_append n was first later
reset_append n was (Told.Ended m ∷ first) later = reset_append n was first later
reset_append n was (Told.Accepted m ∷ first) later = reset_append n was first later
reset_append n was (Told.Credit m ∷ first) later = reset_append n was first later
reset_append n was (Told.GoAway code ∷ first) later = reset_append n was first later
reset_append n was (Told.Fault fault ∷ first) later = reset_append n was first later

or_turned : (here later was : Bool) → later || (here || was) ≡ (here || later) || was
or_turned true true was = refl
or_turned true false was = refl
or_turned false true was = refl
or_turned false false was = refl

-- of a stream that these don't open
pub reset_unopened : (n : ℕ) (was : Bool) (told : List Told) → AllByRecursion (IsNoOpening n) told → reset_after n was told ≡ told_reset n told || was
reset_unopened n was [] none = refl
reset_unopened n was (Told.Opened m ∷ told) none = ap (λ b. reset_after n (cond b false was) told) none.0 ∙ reset_unopened n was told none.1
reset_unopened n was (Told.Reset m ∷ told) none = reset_unopened n (m == n || was) told none.1 ∙ or_turned (m == n) (told_reset n told) was
reset_unopened n was (Told.Payload m b ∷ told) none = reset_unopened n was told none.1
reset_unopened n was (Told.Ended m ∷ told) none = reset_unopened n was told none.1
reset_unopened n was (Told.Accepted m ∷ told) none = reset_unopened n was told none.1
reset_unopened n was (Told.Credit m ∷ told) none = reset_unopened n was told none.1
reset_unopened n was (Told.GoAway code ∷ told) none = reset_unopened n was told none.1
reset_unopened n was (Told.Fault fault ∷ told) none = reset_unopened n was told none.1

other_one : (k n m : ℕ) → k ≡ n → (n == m) ≡ false → (k == m) ≡ false
other_one k n m is e = ap (λ x. x == m) is ∙ e

-- of another than the one that these name
pub reset_other : (n m : ℕ) (was : Bool) (told : List Told) → (n == m) ≡ false → AllByRecursion (IsNamed n) told → reset_after m was told ≡ was
reset_other n m was [] apart named = refl
reset_other n m was (Told.Opened k ∷ told) apart named = ap (λ b. reset_after m (cond b false was) told) (other_one k n m named.0 apart) ∙ reset_other n m was told apart named.1
reset_other n m was (Told.Reset k ∷ told) apart named = ap (λ b. reset_after m (b || was) told) (other_one k n m named.0 apart) ∙ reset_other n m was told apart named.1
reset_other n m was (Told.Payload k b ∷ told) apart named = reset_other n m was told apart named.1
reset_other n m was (Told.Ended k ∷ told) apart named = reset_other n m was told apart named.1
reset_other n m was (Told.Accepted k ∷ told) apart named = reset_other n m was told apart named.1
reset_other n m was (Told.Credit k ∷ told) apart named = reset_other n m was told apart named.1
reset_other n m was (Told.GoAway code ∷ told) apart named = reset_other n m was told apart named.1
reset_other n m was (Told.Fault fault ∷ told) apart named = reset_other n m was told apart named.1

-- ---- by one arrival

reset_by_byte : (n b : ℕ) (was : Bool) (taker : Option ℕ) → reset_after n was (byte_told taker b) ≡ told_reset n (byte_told taker b) || was
reset_by_byte n b was None = refl
reset_by_byte n b was (Some m) = refl

or_nothing : (b was : Bool) → b || was ≡ (b || false) || was
or_nothing true was = refl
or_nothing false was = refl

reset_by_end : (n m : ℕ) (was is_reset ends : Bool) → reset_after n was (cond is_reset (Told.Reset m ∷ []) (when ends (Told.Ended m)))
    ≡ told_reset n (cond is_reset (Told.Reset m ∷ []) (when ends (Told.Ended m))) || was
reset_by_end n m was true ends = or_nothing (m == n) was
reset_by_end n m was false true = refl
reset_by_end n m was false false = refl

reset_by_tail : (role : Role) (past : List Item) (n : ℕ) (was : Bool) (header : Option Header)
    → reset_after n was (tail_events role past header) ≡ told_reset n (tail_events role past header) || was
reset_by_tail role past n was None = refl
reset_by_tail role past n was (Some h) = by_live (is_live role past h.stream) where
  by_live : (b : Bool) → reset_after n was (cond b (tail_told h (finished role past h.stream)) []) ≡ told_reset n (cond b (tail_told h (finished role past h.stream)) []) || was
  by_live true = reset_by_end n h.stream was (rst h) (fin h && not (finished role past h.stream))
  by_live false = refl

-- what a head tells
module _ (n k code : ℕ) where
  told_then : (was accepts gives : Bool) → reset_after n was (when accepts (Told.Accepted k) ++ when gives (Told.Credit k)) ≡ was
  told_then was true true = refl
  told_then was true false = refl
  told_then was false true = refl
  told_then was false false = refl

  none_then : (accepts gives : Bool) → told_reset n (when accepts (Told.Accepted k) ++ when gives (Told.Credit k)) ≡ false
  none_then true true = refl
  none_then true false = refl
  none_then false true = refl
  none_then false false = refl

  reset_by_head : (was goes opened accepts gives : Bool)
      → reset_after n was (when goes (Told.GoAway code) ++ when opened (Told.Opened k) ++ when accepts (Told.Accepted k) ++ when gives (Told.Credit k)) ≡ cond opened (cond (k == n) false was) was
  reset_by_head was true true accepts gives = told_then (cond (k == n) false was) accepts gives
  reset_by_head was true false accepts gives = told_then was accepts gives
  reset_by_head was false true accepts gives = told_then (cond (k == n) false was) accepts gives
  reset_by_head was false false accepts gives = told_then was accepts gives

  none_by_head : (goes opened accepts gives : Bool)
      → told_reset n (when goes (Told.GoAway code) ++ when opened (Told.Opened k) ++ when accepts (Told.Accepted k) ++ when gives (Told.Credit k)) ≡ false
  none_by_head true true accepts gives = none_then accepts gives
  none_by_head true false accepts gives = none_then accepts gives
  none_by_head false true accepts gives = none_then accepts gives
  none_by_head false false accepts gives = none_then accepts gives

  opened_here : (was opens_it : Bool) → cond (contains (cond opens_it (k ∷ []) []) k) (cond (k == n) false was) was ≡ cond (contains (cond opens_it (k ∷ []) []) n) false was
  opened_here was true = ap (λ b. cond (b || false) (cond (k == n) false was) was) (same k) ∙ by_test (k == n) where
    by_test : (b : Bool) → cond b false was ≡ cond (b || false) false was
    by_test true = refl
    by_test false = refl
  opened_here was false = refl

reset_by : (role : Role) (past : List Item) (n : ℕ) (was : Bool) (x : Arrival) → fault_at role past (Came x) ≡ None
    → reset_after n was (events_at role past (Came x)) ≡ cond (opens role past (Came x) n) false (told_reset n (events_at role past (Came x)) || was)
reset_by role past n was (Byte b) none = reset_by_byte n b was (taker role past (reading role past))
reset_by role past n was Tail none = reset_by_tail role past n was (reading role past)
reset_by role past n was (Garbled bytes) none = absurd (cc none)
reset_by role past n was (Head h) none =
    let told = unfaulted role past (Head h) none in
    let goes = is_go_away h.kind in
    let opened = opens role past (Came (Head h)) h.stream in
    let accepts = head_belongs role past h h.stream && ack h && is_own role h.stream && not (accepted role past h.stream) in
    let gives = head_belongs role past h h.stream && is_update h.kind && Rattle.std.specs.Prelude.nat_lt 0 h.length in
    ap (λ t. reset_after n was t) told
    ∙ reset_by_head n h.stream h.length was goes opened accepts gives
    ∙ opened_here n h.stream h.length was (is_of_stream h && syn h && is_let_in role (live role past) (local_go_away past) h)
    ∙ sym (ap (λ t. cond (opens role past (Came (Head h)) n) false (told_reset n t || was)) told
    ∙ ap (λ b. cond (opens role past (Came (Head h)) n) false (b || was)) (none_by_head n h.stream h.length goes opened accepts gives))

reset_arrived : (role : Role) (past : List Item) (came : List Arrival) (n : ℕ) → HasNoFault role (map Came came ++ past)
    → was_reset role (map Came came ++ past) n ≡ reset_after n (was_reset role past n) (told_by role past came)
reset_arrived role past [] n none = refl
reset_arrived role past (x ∷ came) n none =
    let now = map Came came ++ past in
    sym (reset_by role now n (was_reset role now n) x none.0)
    ∙ ap (λ b. reset_after n b (events_at role now (Came x))) (reset_arrived role past came n none.1)
    ∙ sym (reset_append n (was_reset role past n) (told_by role past came) (events_at role now (Came x)))

-- what was told determines it
pub reset_told : (role : Role) (past : List Item) (came : List Arrival) (told : List Told) (n : ℕ) → TellsFrom role past came told
    → was_reset role (map Came came ++ past) n ≡ reset_after n (was_reset role past n) told
reset_told role past came told n tells = reset_arrived role past came n tells.no_fault ∙ ap (reset_after n (was_reset role past n)) (told_is_by role past came told tells)

-- ---- of a stream that isn't live neither data nor an end nor a reset is told

abbrev pub IsAlive : ℕ → Seen → Told → Type 0
IsAlive n s (Told.Payload m b) = m ≡ n → s.live ≡ true
IsAlive n s (Told.Ended m) = m ≡ n → s.live ≡ true
IsAlive n s (Told.Reset m) = m ≡ n → s.live ≡ true
IsAlive n s (Told.Opened m) = Unit {0}
IsAlive n s (Told.Accepted m) = Unit {0}
IsAlive n s (Told.Credit m) = Unit {0}
IsAlive n s (Told.GoAway code) = Unit {0}
IsAlive n s (Told.Fault fault) = Unit {0}

abbrev pub AreAlive : ℕ → Seen → List Told → Type 0
AreAlive n s [] = Unit {0}
AreAlive n s (t ∷ told) = IsAlive n s t × AreAlive n (hears n s t) told

alive_append : (n : ℕ) (s : Seen) (first later : List Told) → AreAlive n s first → AreAlive n (all_heard n s first) later → AreAlive n s (first ++ later)
alive_append n s [] later a b = b
alive_append n s (t ∷ first) later a b = (a.0, alive_append n (hears n s t) first later a.1 b)

module _ (n k code : ℕ) where
  alive_then : (s : Seen) (accepts gives : Bool) → AreAlive n s (when accepts (Told.Accepted k) ++ when gives (Told.Credit k))
  alive_then s true true = (tt, (tt, tt))
  alive_then s true false = (tt, tt)
  alive_then s false true = (tt, tt)
  alive_then s false false = tt

  alive_by_head : (s : Seen) (goes opened accepts gives : Bool)
      → AreAlive n s (when goes (Told.GoAway code) ++ when opened (Told.Opened k) ++ when accepts (Told.Accepted k) ++ when gives (Told.Credit k))
  alive_by_head s true true accepts gives = (tt, (tt, alive_then (hears n s (Told.Opened k)) accepts gives))
  alive_by_head s true false accepts gives = (tt, alive_then s accepts gives)
  alive_by_head s false true accepts gives = (tt, alive_then (hears n s (Told.Opened k)) accepts gives)
  alive_by_head s false false accepts gives = alive_then s accepts gives

and_second : (a b c : Bool) → a && b && c ≡ true → b ≡ true
and_second true true c e = refl
and_second true false c e = e
and_second false b c e = absurd (cc e)

module _ (role : Role) (past : List Item) (n : ℕ) (s : Seen) (live_is : is_live role past n ≡ s.live) where
  live_one : (m : ℕ) → is_live role past m ≡ true → m ≡ n → s.live ≡ true
  live_one m is same_one = sym live_is ∙ ap (is_live role past) (sym same_one) ∙ is

  alive_byte : (b : ℕ) (header : Option Header) → reading role past ≡ header → AreAlive n s (byte_told (taker role past header) b)
  alive_byte b None is = tt
  alive_byte b (Some h) is = by_belongs (byte_belongs role past h.stream) refl where
    by_belongs : (c : Bool) → byte_belongs role past h.stream ≡ c → AreAlive n s (byte_told (cond c (Some h.stream) None) b)
    by_belongs true e = (live_one h.stream (and_second _ (is_live role past h.stream) (not (finished role past h.stream)) e), tt)
    by_belongs false e = tt

  alive_tail : (header : Option Header) → AreAlive n s (tail_events role past header)
  alive_tail None = tt
  alive_tail (Some h) = by_live (is_live role past h.stream) refl where
    by_flags : is_live role past h.stream ≡ true → (is_reset ends : Bool) → AreAlive n s (cond is_reset (Told.Reset h.stream ∷ []) (when ends (Told.Ended h.stream)))
    by_flags e true ends = (live_one h.stream e, tt)
    by_flags e false true = (live_one h.stream e, tt)
    by_flags e false false = tt

    by_live : (b : Bool) → is_live role past h.stream ≡ b → AreAlive n s (cond b (tail_told h (finished role past h.stream)) [])
    by_live true e = by_flags e (rst h) (fin h && not (finished role past h.stream))
    by_live false e = tt

  alive_head : (h : Header) → AreAlive n s (head_events role past h)
  alive_head h = alive_by_head n h.stream h.length s (is_go_away h.kind) (opens role past (Came (Head h)) h.stream)
      (head_belongs role past h h.stream && ack h && is_own role h.stream && not (accepted role past h.stream))
      (head_belongs role past h h.stream && is_update h.kind && Rattle.std.specs.Prelude.nat_lt 0 h.length)

  alive_at : (x : Arrival) → fault_at role past (Came x) ≡ None → AreAlive n s (events_at role past (Came x))
  alive_at (Byte b) none = alive_byte b (reading role past) refl
  alive_at Tail none = alive_tail (reading role past)
  alive_at (Garbled bytes) none = absurd (cc none)
  alive_at (Head h) none = subst (λ (t : List Told). AreAlive n s t) (sym (unfaulted role past (Head h) none)) (alive_head h)

alive_arrived : EventsTell → (role : Role) (past : List Item) (came : List Arrival) (n : ℕ) → HasNoFault role (map Came came ++ past)
    → AreAlive n (seen role past n) (told_by role past came)
alive_arrived events_tell role past [] n none = tt
alive_arrived events_tell role past (x ∷ came) n none =
    let now = map Came came ++ past in
    let agrees = events_tell role past came (told_by role past came) n (record { no_fault = none.1; told_is = events_by role past came }) in
    alive_append n (seen role past n) (told_by role past came) (events_at role now (Came x)) (alive_arrived events_tell role past came n none.1)
    (alive_at role now n (all_heard n (seen role past n) (told_by role past came)) agrees.live x none.0)

pub alive_told : EventsTell → (role : Role) (past : List Item) (came : List Arrival) (told : List Told) (n : ℕ) → TellsFrom role past came told
    → AreAlive n (seen role past n) told
alive_told events_tell role past came told n tells =
    subst (λ (t : List Told). AreAlive n (seen role past n) t) (told_is_by role past came told tells) (alive_arrived events_tell role past came n tells.no_fault)

not_both : {b : Bool} → b ≡ true → b ≡ false → ⊥
not_both on off = absurd (let e : true ≡ false = sym on ∙ off in cc e)

-- credit is told once, before data and the end
abbrev pub CreditFirst : List Told → Type 0
CreditFirst [] = Unit {0}
CreditFirst (Told.Ended m ∷ told) = AllByRecursion IsNoCredit told × CreditFirst told
CreditFirst (Told.Opened m ∷ told) = CreditFirst told
CreditFirst (Told.Payload m b ∷ told) = AllByRecursion IsNoCredit told × CreditFirst told
CreditFirst (Told.Reset m ∷ told) = CreditFirst told
CreditFirst (Told.Accepted m ∷ told) = CreditFirst told
CreditFirst (Told.Credit m ∷ told) = AllByRecursion IsNoCredit told × CreditFirst told
CreditFirst (Told.GoAway code ∷ told) = CreditFirst told
CreditFirst (Told.Fault fault ∷ told) = CreditFirst told

-- it is told of no more
module _ (n : ℕ) where
  pub none_last : (s : Seen) (told : List Told) → s.live ≡ false → AllByRecursion (IsNamed n) told → AllByRecursion (IsNoOpening n) told → AreAlive n s told → CreditFirst told → EndsLast true told
  none_last s [] dead named none alive first = tt
  none_last s (Told.Opened m ∷ told) dead named none alive first = absurd (not_both (its_own m n named.0) none.0)
  none_last s (Told.Payload m b ∷ told) dead named none alive first = absurd (not_both (alive.0 named.0) dead)
  none_last s (Told.Ended m ∷ told) dead named none alive first = absurd (not_both (alive.0 named.0) dead)
  none_last s (Told.Reset m ∷ told) dead named none alive first = absurd (not_both (alive.0 named.0) dead)
  none_last s (Told.Accepted m ∷ told) dead named none alive first = none_last s told dead named.1 none.1 alive.1 first
  none_last s (Told.Credit m ∷ told) dead named none alive first = (none_last s told dead named.1 none.1 alive.1 first.1, first.0)
  none_last s (Told.GoAway code ∷ told) dead named none alive first = none_last s told dead named.1 none.1 alive.1 first
  none_last s (Told.Fault fault ∷ told) dead named none alive first = none_last s told dead named.1 none.1 alive.1 first

  pub none_reset : (s : Seen) (told : List Told) → s.live ≡ false → AllByRecursion (IsNamed n) told → AllByRecursion (IsNoOpening n) told → AreAlive n s told → told_reset n told ≡ false
  none_reset s [] dead named none alive = refl
  none_reset s (Told.Opened m ∷ told) dead named none alive = absurd (not_both (its_own m n named.0) none.0)
  none_reset s (Told.Payload m b ∷ told) dead named none alive = absurd (not_both (alive.0 named.0) dead)
  none_reset s (Told.Ended m ∷ told) dead named none alive = absurd (not_both (alive.0 named.0) dead)
  none_reset s (Told.Reset m ∷ told) dead named none alive = absurd (not_both (alive.0 named.0) dead)
  none_reset s (Told.Accepted m ∷ told) dead named none alive = none_reset s told dead named.1 none.1 alive.1
  none_reset s (Told.Credit m ∷ told) dead named none alive = none_reset s told dead named.1 none.1 alive.1
  none_reset s (Told.GoAway code ∷ told) dead named none alive = none_reset s told dead named.1 none.1 alive.1
  none_reset s (Told.Fault fault ∷ told) dead named none alive = none_reset s told dead named.1 none.1 alive.1

-- the end is the last that is told of it, or a reset is
pub ends_last : (n : ℕ) (ended : Bool) (s : Seen) (told : List Told) → AllByRecursion (IsNamed n) told → AllByRecursion (IsNoOpening n) told → EndsOnce n ended told → AreAlive n s told
    → CreditFirst told → EndsLast ended told
ends_last n ended s [] all none once alive first = tt
ends_last n ended s (Told.Opened m ∷ told) all none once alive first = absurd (not_both (its_own m n all.0) none.0)
ends_last n ended s (Told.Payload m b ∷ told) all none once alive first =
    (once.0 all.0, ends_last n ended (hears n s (Told.Payload m b)) told all.1 none.1 once.1 alive.1 first.1, first.0)
ends_last n ended s (Told.Ended m ∷ told) all none once alive first = (
  once.0 all.0,
  ends_last n true (hears n s (Told.Ended m)) told all.1 none.1 (subst (λ (b : Bool). EndsOnce n (cond b true ended) told) (its_own m n all.0) once.1) alive.1 first.1,
  first.0,
)
ends_last n ended s (Told.Reset m ∷ told) all none once alive first =
    none_last n (hears n s (Told.Reset m)) told (ap (λ b. (cond b (record s { live = false }) s).live) (its_own m n all.0)) all.1 none.1 alive.1 first
ends_last n ended s (Told.Accepted m ∷ told) all none once alive first = ends_last n ended s told all.1 none.1 once alive.1 first
ends_last n ended s (Told.Credit m ∷ told) all none once alive first = (ends_last n ended s told all.1 none.1 once alive.1 first.1, first.0)
ends_last n ended s (Told.GoAway code ∷ told) all none once alive first = ends_last n ended s told all.1 none.1 once alive.1 first
ends_last n ended s (Told.Fault fault ∷ told) all none once alive first = ends_last n ended s told all.1 none.1 once alive.1 first

-- ---- a number is opened anew

opened_append : (n : ℕ) (first later : List Told) → told_opened n later ≡ true → told_opened n (first ++ later) ≡ true
opened_append n [] later is = is
opened_append n (Told.Opened m ∷ first) later is = ap (λ b. m == n || b) (opened_append n first later is) ∙ or_on (m == n)
opened_append n (Told.Payload m b ∷ first) later is = opened_append n first later is
opened_append n (Told.Ended m ∷ first) later is = opened_append n first later is
opened_append n (Told.Reset m ∷ first) later is = opened_append n first later is
opened_append n (Told.Accepted m ∷ first) later is = opened_append n first later is
opened_append n (Told.Credit m ∷ first) later is = opened_append n first later is
opened_append n (Told.GoAway code ∷ first) later is = opened_append n first later is
opened_append n (Told.Fault fault ∷ first) later is = opened_append n first later is

-- none but the first opens a stream
abbrev pub FirstOpens : List Told → Type 0
FirstOpens told = (n : ℕ) → told_opened n (drop 1 told) ≡ true → ⊥

or_front : (a b c : Bool) → (b ≡ true → c ≡ true) → a || b ≡ true → a || c ≡ true
or_front true b c f e = refl
or_front false b c f e = f e

opened_front : (n : ℕ) (told more : List Told) → told_opened n told ≡ true → told_opened n (told ++ more) ≡ true
opened_front n [] more is = absurd (cc is)
opened_front n (Told.Opened m ∷ told) more is = or_front (m == n) (told_opened n told) (told_opened n (told ++ more)) (λ e. opened_front n told more e) is
opened_front n (Told.Payload m b ∷ told) more is = opened_front n told more is
opened_front n (Told.Ended m ∷ told) more is = opened_front n told more is
opened_front n (Told.Reset m ∷ told) more is = opened_front n told more is
opened_front n (Told.Accepted m ∷ told) more is = opened_front n told more is
opened_front n (Told.Credit m ∷ told) more is = opened_front n told more is
opened_front n (Told.GoAway code ∷ told) more is = opened_front n told more is
opened_front n (Told.Fault fault ∷ told) more is = opened_front n told more is

pub first_front : (told more : List Told) → FirstOpens (told ++ more) → FirstOpens told
first_front [] more first = λ n is. absurd (cc is)
first_front (t ∷ told) more first = λ n is. first n (opened_front n told more is)

-- what opens a stream comes first: nothing was told before it
pub opens_first : OpeningsAreTold → (role : Role) (past : List Item) (x : Arrival) (came : List Arrival) → HasNoFault role (map Came (x ∷ came) ++ past) → FirstOpens (told_by role past (x ∷ came)) → (n : ℕ)
    → opens role (map Came came ++ past) (Came x) n ≡ true → told_by role past came ≡ []
opens_first openings role past x came none first n opened = by_told (told_by role past came) first where
  told : told_opened n (events_at role (map Came came ++ past) (Came x)) ≡ true
  told = sym (openings role (map Came came ++ past) (x ∷ []) (events_at role (map Came came ++ past) (Came x)) n (record { no_fault = none; told_is = refl }))
      ∙ ap (λ b. b || false) opened

  by_told : (front : List Told) → FirstOpens (front ++ events_at role (map Came came ++ past) (Came x)) → front ≡ []
  by_told [] first = refl
  by_told (t ∷ front) first = absurd (first n (opened_append n front (events_at role (map Came came ++ past) (Came x)) told))

module _ {P H : Type 0} (step : H → HandlerCall → H → Type 0) (fails : H → Asked → ℕ → Type 0)
    (is_closed is_finished : H → Bool) (inbound_makes outbound_makes : P → ℕ → List ℕ → H → Type 0)
    (eager : ℕ → Bool) (names : List (List ℕ)) (peer : List ℕ) (role : Role) (openings : OpeningsAreTold) (log : List (Entry H))
    (over : (n : ℕ) → was_reset role (items log) n ≡ true → is_over role log n ≡ true) where
  reset_first : (x : Arrival) (came : List Arrival) → HasNoFault role (map Came (x ∷ came) ++ items log) → FirstOpens (told_by role (items log) (x ∷ came)) → (n : ℕ)
      → opens role (items (arrived came ++ log)) (Came x) n ≡ true → was_reset role (items (arrived came ++ log)) n ≡ true → is_over role (arrived came ++ log) n ≡ true
  reset_first x came none first n opened was =
      let is = items_arrived came log in
      let nothing = opens_first openings role (items log) x came none first n (sym (ap (λ (t : List Item). opens role t (Came x) n) is) ∙ opened) in
      let unopened : opened_in role (items log) came n ≡ false =
      openings role (items log) came (told_by role (items log) came) n (record { no_fault = none.1; told_is = events_by role (items log) came }) ∙ ap (told_opened n) nothing in
      let was_before : was_reset role (items log) n ≡ true =
      sym (ap (λ (t : List Item). was_reset role t n) is ∙ reset_arrived role (items log) came n none.1 ∙ ap (reset_after n (was_reset role (items log) n)) nothing) ∙ was in
      ap (over_in n) (since_arrived role came log n ∙ ap (λ b. cond b [] (since role log n)) unopened) ∙ over n was_before

  pub due_arrived : (came : List Arrival) → HasNoFault role (map Came came ++ items log) → FirstOpens (told_by role (items log) came)
      → AllDue step fails is_closed is_finished inbound_makes outbound_makes eager names peer role log
      → AllDue step fails is_closed is_finished inbound_makes outbound_makes eager names peer role (arrived came ++ log)
  due_arrived [] none first due = due
  due_arrived (x ∷ came) none first due = (
    λ n opened was. reset_first x came none first n opened was,
    due_arrived came none.1 (first_front (told_by role (items log) came) (events_at role (map Came came ++ items log) (Came x)) first) due,
  )

-- what one frame told opens a stream with the first event, if at all
opens_not : (n : ℕ) (told : List Event) → AllByRecursion OpensNone told → told_opened n (tellings told) ≡ true → ⊥
opens_not n told none is = not_both is (unopened n (tellings told) (opens_none n told none))

tail_opened : (n : ℕ) (told : List Told) → (told_opened n told ≡ true → ⊥) → told_opened n (drop 1 told) ≡ true → ⊥
tail_opened n [] none is = none is
tail_opened n (t ∷ told) none is = none (opened_append n (t ∷ []) told is)

pub first_opens : (told : List Event) → AllByRecursion OpensNone (drop 1 told) → FirstOpens (tellings told)
first_opens [] none = λ n is. absurd (cc is)
first_opens (event.Opened m ∷ told) none = λ n. opens_not n told none
first_opens (event.Accepted m ∷ told) none = λ n. opens_not n told none
first_opens (event.Payload m bytes ∷ told) none = λ n. tail_opened n (tellings (event.Payload m bytes ∷ told)) (opens_not n (event.Payload m bytes ∷ told) (tt, none))
first_opens (event.Ended m ∷ told) none = λ n. opens_not n told none
first_opens (event.Reset m ∷ told) none = λ n. opens_not n told none
first_opens (event.Credit m ∷ told) none = λ n. opens_not n told none
first_opens (event.GoAway code ∷ told) none = λ n. opens_not n told none
first_opens (event.Fault fault ∷ told) none = λ n. opens_not n told none
