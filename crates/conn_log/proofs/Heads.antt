-- What one call of the session took is a part of one frame: all that it told is about the stream that the last header
-- names.
use Rattle.std.proofs.Common.{◌≡◌, inl, inr, ℕ, ◌&&◌, not, nat_lt, Bool, true, false, cond, List, [], ◌∷◌, ◌++◌, map, Option, Some, None, refl, sym, ap}
use Rattle.std.specs.List.{AllByRecursion}
use Rattle.handlers.specs.Calls.{HandlerCall, Asked}
use Rattle.yamux_frames.specs.declared.header.Header.{Header}
use Rattle.yamux_frames.specs.Frames.{Arrival, last_stream}
use Rattle.yamux_frames.specs.Frames.Arrival.{Head, Byte, Tail, Garbled}
use Rattle.yamux_session.specs.declared.event.Role.{Role}
use Rattle.yamux_session.specs.declared.event.Fault.{Fault}
use Rattle.yamux_session.specs.declared.event.Event.{Event}
use Rattle.yamux_session.specs.declared.event.Event.TheVariants as event
use Rattle.yamux_session.specs.History.{Item, arrivals, ack, fin, rst, is_go_away, is_update, is_own}
use Rattle.yamux_session.specs.History.Item.{Came, Did}
use Rattle.yamux_session.specs.Openings.{opens, head_belongs, reading, is_for_stream, live, local_go_away, is_live, finished, byte_belongs}
use Rattle.yamux_session.specs.Windows.{accepted}
use Rattle.yamux_session.specs.Faults.{fault_at}
use Rattle.yamux_session.specs.Events.{Told, when, events_at, events_unless, head_events, tail_told, tail_events, taker, byte_told}
use Rattle.yamux_session.specs.Arrives.{tellings, HasData}
use Rattle.yamux_session.specs.Naming.{IsAbout}
use Rattle.yamux_session.specs.Endings.{opened_in}
use Rattle.yamux_session.specs.State.{IsOneFrame}
use Rattle.yamux_session.proofs.Hearing.{or_none}
use Rattle.yamux_session.proofs.Stepping.{older_came}
use Rattle.conn_log.specs.Entries.{Entry, items, is_kept, put_aside}
use Rattle.conn_log.specs.Turns.{turn, AreInTurn}
use Rattle.conn_log.specs.Rests.{IsRested, AreRested}
use Rattle.conn_log.proofs.Arriving.{arrived, items_arrived, IsNamed, all_join}
use Rattle.conn_log.specs.Routes.{IsNoCredit}
use Rattle.conn_log.proofs.Resets.{told_by, CreditFirst}

-- the stream that the last header names, behind these arrivals
abbrev pub stream_of : List Item → List Arrival → ℕ
stream_of past came = last_stream (arrivals (map Came came ++ past))

-- ---- the stream of the frame that is being read

of_head : (b : Bool) (h g : Header) → cond b (Some g) None ≡ Some h → g ≡ h
of_head true h g is = cc is
of_head false h g is = absurd (cc is)

last_read : (role : Role) (past : List Item) (h : Header) → reading role past ≡ Some h → last_stream (arrivals past) ≡ h.stream
last_read role [] h is = absurd (cc is)
last_read role (Came (Head g) ∷ past) h is = ap (λ (x : Header). x.stream) (of_head (is_for_stream role (live role past) (local_go_away past) g) h g is)
last_read role (Came (Byte b) ∷ past) h is = last_read role past h is
last_read role (Came Tail ∷ past) h is = absurd (cc is)
last_read role (Came (Garbled bytes) ∷ past) h is = absurd (cc is)
last_read role (Did act ∷ past) h is = last_read role past h is

-- ---- what is told with each arrival

when_named : (n : ℕ) (b : Bool) (t : Told) → IsNamed n t → AllByRecursion (IsNamed n) (when b t)
when_named n true t is = (is, tt)
when_named n false t is = tt

joined : (n : ℕ) (l o a c : List Told) → AllByRecursion (IsNamed n) l → AllByRecursion (IsNamed n) o → AllByRecursion (IsNamed n) a → AllByRecursion (IsNamed n) c
    → AllByRecursion (IsNamed n) (((l ++ o) ++ a) ++ c)
joined n l o a c of_l of_o of_a of_c =
    all_join (IsNamed n) ((l ++ o) ++ a) c (all_join (IsNamed n) (l ++ o) a (all_join (IsNamed n) l o of_l of_o) of_a) of_c

head_named : (role : Role) (past : List Item) (h : Header) (fault : Option Fault) → AllByRecursion (IsNamed h.stream) (events_unless fault (head_events role past h))
head_named role past h (Some fault) = (tt, tt)
head_named role past h None =
    let n = h.stream in
    let o = opens role past (Came (Head h)) n in
    let a = head_belongs role past h n && ack h && is_own role n && not (accepted role past n) in
    let c = head_belongs role past h n && is_update h.kind && nat_lt 0 h.length in
    joined n (when (is_go_away h.kind) (Told.GoAway h.length)) (when o (Told.Opened n)) (when a (Told.Accepted n)) (when c (Told.Credit n))
    (when_named n (is_go_away h.kind) (Told.GoAway h.length) tt) (when_named n o (Told.Opened n) refl) (when_named n a (Told.Accepted n) refl) (when_named n c (Told.Credit n) refl)

byte_named : (n : ℕ) (role : Role) (past : List Item) (b : ℕ) (read : Option Header) → ((h : Header) → read ≡ Some h → n ≡ h.stream)
    → AllByRecursion (IsNamed n) (byte_told (taker role past read) b)
byte_named n role past b None of = tt
byte_named n role past b (Some h) of = by_test (byte_belongs role past h.stream) where
  by_test : (belongs : Bool) → AllByRecursion (IsNamed n) (byte_told (cond belongs (Some h.stream) None) b)
  by_test true = (sym (of h refl), tt)
  by_test false = tt

tail_named : (n : ℕ) (role : Role) (past : List Item) (read : Option Header) → ((h : Header) → read ≡ Some h → n ≡ h.stream)
    → AllByRecursion (IsNamed n) (tail_events role past read)
tail_named n role past None of = tt
tail_named n role past (Some h) of = by_life (is_live role past h.stream) where
  is : h.stream ≡ n
  is = sym (of h refl)

  by_flags : (resets ends : Bool) → AllByRecursion (IsNamed n) (cond resets (Told.Reset h.stream ∷ []) (when ends (Told.Ended h.stream)))
  by_flags true ends = (is, tt)
  by_flags false ends = when_named n ends (Told.Ended h.stream) is

  by_life : (lives : Bool) → AllByRecursion (IsNamed n) (cond lives (tail_told h (finished role past h.stream)) [])
  by_life true = by_flags (rst h) (fin h && not (finished role past h.stream))
  by_life false = tt

at_named : (role : Role) (past : List Item) (x : Arrival) → AllByRecursion (IsNamed (last_stream (x ∷ arrivals past))) (events_at role past (Came x))
at_named role past (Head h) = head_named role past h (fault_at role past (Came (Head h)))
at_named role past (Byte b) = byte_named (last_stream (arrivals past)) role past b (reading role past) (last_read role past)
at_named role past Tail = tail_named (last_stream (arrivals past)) role past (reading role past) (last_read role past)
at_named role past (Garbled bytes) = (tt, tt)

pub all_named : (role : Role) (past : List Item) (came : List Arrival) → IsOneFrame came → AllByRecursion (IsNamed (stream_of past came)) (told_by role past came)
all_named role past [] one = tt
all_named role past (x ∷ []) one = at_named role past x
all_named role past (Head h ∷ y ∷ more) one = absurd one
all_named role past (Byte b ∷ y ∷ more) one =
    all_join (IsNamed (stream_of past (y ∷ more))) (told_by role past (y ∷ more)) (events_at role (map Came (y ∷ more) ++ past) (Came (Byte b)))
    (all_named role past (y ∷ more) (older_came (Byte b) (y ∷ more) one)) (at_named role (map Came (y ∷ more) ++ past) (Byte b))
all_named role past (Tail ∷ y ∷ more) one =
    all_join (IsNamed (stream_of past (y ∷ more))) (told_by role past (y ∷ more)) (events_at role (map Came (y ∷ more) ++ past) (Came Tail))
    (all_named role past (y ∷ more) (older_came Tail (y ∷ more) one)) (at_named role (map Came (y ∷ more) ++ past) Tail)
all_named role past (Garbled bytes ∷ y ∷ more) one = absurd one

-- ---- credit is told by a head, and the end behind it

module _ (n code : ℕ) where
  first_then : (accepts gives : Bool) → CreditFirst (when accepts (Told.Accepted n) ++ when gives (Told.Credit n))
  first_then true true = (tt, tt)
  first_then true false = tt
  first_then false true = (tt, tt)
  first_then false false = tt

  first_by_head : (goes opened accepts gives : Bool)
      → CreditFirst (((when goes (Told.GoAway code) ++ when opened (Told.Opened n)) ++ when accepts (Told.Accepted n)) ++ when gives (Told.Credit n))
  first_by_head true true accepts gives = first_then accepts gives
  first_by_head true false accepts gives = first_then accepts gives
  first_by_head false true accepts gives = first_then accepts gives
  first_by_head false false accepts gives = first_then accepts gives

  end_alone : (resets ends : Bool) → AllByRecursion IsNoCredit (cond resets (Told.Reset n ∷ []) (when ends (Told.Ended n)))
      × CreditFirst (cond resets (Told.Reset n ∷ []) (when ends (Told.Ended n)))
  end_alone true ends = ((tt, tt), tt)
  end_alone false true = ((tt, tt), (tt, tt))
  end_alone false false = (tt, tt)

byte_alone : (b : ℕ) (n : Option ℕ) → AllByRecursion IsNoCredit (byte_told n b) × CreditFirst (byte_told n b)
byte_alone b None = (tt, tt)
byte_alone b (Some n) = ((tt, tt), (tt, tt))

tail_alone : (role : Role) (past : List Item) (read : Option Header) → AllByRecursion IsNoCredit (tail_events role past read) × CreditFirst (tail_events role past read)
tail_alone role past None = (tt, tt)
tail_alone role past (Some h) = by_life (is_live role past h.stream) where
  by_life : (lives : Bool) → AllByRecursion IsNoCredit (cond lives (tail_told h (finished role past h.stream)) [])
      × CreditFirst (cond lives (tail_told h (finished role past h.stream)) [])
  by_life true = end_alone h.stream 0 (rst h) (fin h && not (finished role past h.stream))
  by_life false = (tt, tt)

head_alone : (role : Role) (past : List Item) (h : Header) (fault : Option Fault) → CreditFirst (events_unless fault (head_events role past h))
head_alone role past h (Some fault) = tt
head_alone role past h None =
    let n = h.stream in
    first_by_head n h.length (is_go_away h.kind) (opens role past (Came (Head h)) n) (head_belongs role past h n && ack h && is_own role n && not (accepted role past n))
    (head_belongs role past h n && is_update h.kind && nat_lt 0 h.length)

first_join : (told more : List Told) → CreditFirst told → AllByRecursion IsNoCredit more → CreditFirst more → CreditFirst (told ++ more)
first_join [] more first none later = later
first_join (Told.Ended m ∷ told) more first none later = (all_join IsNoCredit told more first.0 none, first_join told more first.1 none later)
first_join (Told.Opened m ∷ told) more first none later = first_join told more first none later
first_join (Told.Payload m b ∷ told) more first none later = (all_join IsNoCredit told more first.0 none, first_join told more first.1 none later)
first_join (Told.Reset m ∷ told) more first none later = first_join told more first none later
first_join (Told.Accepted m ∷ told) more first none later = first_join told more first none later
first_join (Told.Credit m ∷ told) more first none later = (all_join IsNoCredit told more first.0 none, first_join told more first.1 none later)
first_join (Told.GoAway code ∷ told) more first none later = first_join told more first none later
first_join (Told.Fault fault ∷ told) more first none later = first_join told more first none later

pub credit_first : (role : Role) (past : List Item) (came : List Arrival) → IsOneFrame came → CreditFirst (told_by role past came)
credit_first role past [] one = tt
credit_first role past (Head h ∷ []) one = head_alone role past h (fault_at role past (Came (Head h)))
credit_first role past (Byte b ∷ []) one = (byte_alone b (taker role past (reading role past))).1
credit_first role past (Tail ∷ []) one = (tail_alone role past (reading role past)).1
credit_first role past (Garbled bytes ∷ []) one = tt
credit_first role past (Head h ∷ y ∷ more) one = absurd one
credit_first role past (Byte b ∷ y ∷ more) one =
    let now = map Came (y ∷ more) ++ past in
    let alone = byte_alone b (taker role now (reading role now)) in
    first_join (told_by role past (y ∷ more)) (events_at role now (Came (Byte b))) (credit_first role past (y ∷ more) (older_came (Byte b) (y ∷ more) one)) alone.0 alone.1
credit_first role past (Tail ∷ y ∷ more) one =
    let now = map Came (y ∷ more) ++ past in
    let alone = tail_alone role now (reading role now) in
    first_join (told_by role past (y ∷ more)) (events_at role now (Came Tail)) (credit_first role past (y ∷ more) (older_came Tail (y ∷ more) one)) alone.0 alone.1
credit_first role past (Garbled bytes ∷ y ∷ more) one = absurd one

-- ---- and by each event

behind : (n : ℕ) (xs ys : List Told) → AllByRecursion (IsNamed n) (xs ++ ys) → AllByRecursion (IsNamed n) ys
behind n [] ys all = all
behind n (x ∷ xs) ys all = behind n xs ys all.1

pub all_about : (n : ℕ) (told : List Event) → AllByRecursion HasData told → AllByRecursion (IsNamed n) (tellings told) → AllByRecursion (IsAbout n) told
all_about n [] filled all = tt
all_about n (event.Opened m ∷ told) filled all = (all.0, all_about n told filled.1 all.1)
all_about n (event.Accepted m ∷ told) filled all = (all.0, all_about n told filled.1 all.1)
all_about n (event.Payload m [] ∷ told) filled all = absurd (filled.0 refl)
all_about n (event.Payload m (b ∷ bytes) ∷ told) filled all = (all.0, all_about n told filled.1 (behind n (map (Told.Payload m) bytes) (tellings told) all.1))
all_about n (event.Ended m ∷ told) filled all = (all.0, all_about n told filled.1 all.1)
all_about n (event.Reset m ∷ told) filled all = (all.0, all_about n told filled.1 all.1)
all_about n (event.Credit m ∷ told) filled all = (all.0, all_about n told filled.1 all.1)
all_about n (event.GoAway code ∷ told) filled all = (tt, all_about n told filled.1 all.1)
all_about n (event.Fault fault ∷ told) filled all = (tt, all_about n told filled.1 all.1)

-- ---- the list

-- it is that stream's turn
pub turn_arrived : {H : Type 0} (x : Arrival) (more : List Arrival) (log : List (Entry H)) → turn (arrived (x ∷ more) ++ log) ≡ Some (stream_of (items log) (x ∷ more))
turn_arrived x more log = ap (λ (t : List Item). Some (last_stream (x ∷ arrivals t))) (items_arrived more log)

pub in_turn_arrived : {H : Type 0} (came : List Arrival) (log : List (Entry H)) → AreInTurn log → AreInTurn (arrived came ++ log)
in_turn_arrived [] log before = before
in_turn_arrived (x ∷ came) log before = (tt, in_turn_arrived came log before)

-- its number is put aside where it is opened anew while the handler is held
pub aside_arrived : {H : Type 0} (role : Role) (came : List Arrival) (log : List (Entry H)) → IsOneFrame came
    → put_aside role (arrived came ++ log)
    ≡ cond (opened_in role (items log) came (stream_of (items log) came) && is_kept role log (stream_of (items log) came)) (put_aside role log ++ stream_of (items log) came ∷ []) (put_aside role log)
aside_arrived role [] log one = refl
aside_arrived role (Head h ∷ []) log one =
    ap (λ b. cond (b && is_kept role log h.stream) (put_aside role log ++ h.stream ∷ []) (put_aside role log)) (sym (or_none (opens role (items log) (Came (Head h)) h.stream)))
aside_arrived role (Byte b ∷ []) log one = refl
aside_arrived role (Tail ∷ []) log one = refl
aside_arrived role (Garbled bytes ∷ []) log one = refl
aside_arrived role (Head h ∷ y ∷ more) log one = absurd one
aside_arrived role (Byte b ∷ y ∷ more) log one = aside_arrived role (y ∷ more) log (older_came (Byte b) (y ∷ more) one)
aside_arrived role (Tail ∷ y ∷ more) log one = aside_arrived role (y ∷ more) log (older_came Tail (y ∷ more) one)
aside_arrived role (Garbled bytes ∷ y ∷ more) log one = absurd one

module _ {P H : Type 0} (step : H → HandlerCall → H → Type 0) (fails : H → Asked → ℕ → Type 0)
    (is_closed is_finished : H → Bool) (inbound_makes outbound_makes : P → ℕ → List ℕ → H → Type 0)
    (eager : ℕ → Bool) (names : List (List ℕ)) (peer : List ℕ) (role : Role) where
  -- all streams were at rest before it came
  pub rested_arrived : (came : List Arrival) (log : List (Entry H)) → IsOneFrame came → IsRested step fails is_closed is_finished inbound_makes outbound_makes eager names peer role log
      → AreRested step fails is_closed is_finished inbound_makes outbound_makes eager names peer role log
      → AreRested step fails is_closed is_finished inbound_makes outbound_makes eager names peer role (arrived came ++ log)
  rested_arrived [] log one rests before = before
  rested_arrived (x ∷ []) log one rests before = (inr rests, before)
  rested_arrived (Head h ∷ y ∷ more) log one rests before = absurd one
  rested_arrived (Byte b ∷ Head h ∷ more) log one rests before = absurd one
  rested_arrived (Byte b ∷ Byte c ∷ more) log one rests before =
      (inl tt, rested_arrived (Byte c ∷ more) log one rests before)
  rested_arrived (Byte b ∷ Tail ∷ more) log one rests before = absurd one
  rested_arrived (Byte b ∷ Garbled bytes ∷ more) log one rests before = absurd one
  rested_arrived (Tail ∷ Head h ∷ []) log one rests before = (inl tt, (inr rests, before))
  rested_arrived (Tail ∷ Head h ∷ y ∷ more) log one rests before = absurd one
  rested_arrived (Tail ∷ Byte b ∷ more) log one rests before = (inl tt, rested_arrived (Byte b ∷ more) log one rests before)
  rested_arrived (Tail ∷ Tail ∷ more) log one rests before = absurd one
  rested_arrived (Tail ∷ Garbled bytes ∷ more) log one rests before = absurd one
  rested_arrived (Garbled bytes ∷ y ∷ more) log one rests before = absurd one
