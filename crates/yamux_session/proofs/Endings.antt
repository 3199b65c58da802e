-- What events tell of the openings of a stream, and of its end.
use Rattle.std.proofs.Common.{◌≡◌, ℕ, ◌==◌, Bool, true, false, ◌&&◌, ◌||◌, not, cond, nat_lt, List, [], ◌∷◌, ◌++◌, Option, Some, None, refl, sym, ap, ◌∙◌, subst}
use Rattle.std.specs.Prelude.{map}
use Rattle.std.specs.List.{AllByRecursion}
use Rattle.std.proofs.lemmas.Bool.{eqb-true, eq-eqb}
use Rattle.yamux_frames.specs.declared.header.Header.{Header}
use Rattle.yamux_frames.specs.Frames.{Arrival}
use Rattle.yamux_frames.specs.Frames.Arrival.{Head, Byte, Tail, Garbled}
use Rattle.yamux_session.specs.declared.event.Role.{Role}
use Rattle.yamux_session.specs.declared.event.Fault.{Fault}
use Rattle.yamux_session.specs.History.{Item, syn, ack, rst, fin, is_of_stream, is_own, is_remote, is_go_away, is_update, is_data}
use Rattle.yamux_session.specs.History.Item.{Came}
use Rattle.yamux_session.specs.Openings.{live, is_live, contains, opens, finished, reading, is_let_in, is_for_stream, local_go_away, head_belongs, byte_belongs, is_reading, ends, closed}
use Rattle.yamux_session.specs.Windows.{accepted}
use Rattle.yamux_session.specs.Faults.{HasNoFault, fault_at}
use Rattle.yamux_session.specs.Events.{Told, when, head_events, tail_events, taker, byte_told, events_at, events_unless}
use Rattle.yamux_session.specs.Seen.{Seen, seen, just_opened, hears, all_heard}
use Rattle.yamux_session.specs.Endings.{opened_in, told_opened, OpeningsAreTold, OpenedByTheOther, OpenedAnew, EndsOnce, EndsAreLast, IsUntold, NotTold}
use Rattle.yamux_session.proofs.Lists.{and_parts, not_true, or_parts}
use Rattle.yamux_session.proofs.Live.{let_in_at, not_both}
use Rattle.yamux_session.proofs.Hearing.{told_by, told_is, agrees_by, live_after, or_none, and_false}

either : (a b : Bool) → a || b ≡ b || a
either true true = refl
either true false = refl
either false true = refl
either false false = refl

grouped : (a b c : Bool) → a || (b || c) ≡ (a || b) || c
grouped true b c = refl
grouped false b c = refl

-- ---- openings

opened_both : (n : ℕ) (xs ys : List Told) → told_opened n (xs ++ ys) ≡ told_opened n xs || told_opened n ys
opened_both n [] ys = refl
opened_both n (Told.Opened m ∷ xs) ys = ap (λ b. m == n || b) (opened_both n xs ys) ∙ grouped (m == n) (told_opened n xs) (told_opened n ys)
opened_both n (Told.Accepted m ∷ xs) ys = opened_both n xs ys
opened_both n (Told.Payload m b ∷ xs) ys = opened_both n xs ys
opened_both n (Told.Ended m ∷ xs) ys = opened_both n xs ys
opened_both n (Told.Reset m ∷ xs) ys = opened_both n xs ys
opened_both n (Told.Credit m ∷ xs) ys = opened_both n xs ys
opened_both n (Told.GoAway code ∷ xs) ys = opened_both n xs ys
opened_both n (Told.Fault fault ∷ xs) ys = opened_both n xs ys

-- the opening of a head stands among its events
opening_told : (n m : ℕ) (lets : Bool)
    → told_opened n (when (contains (cond lets (m ∷ []) []) m) (Told.Opened m)) ≡ contains (cond lets (m ∷ []) []) n
opening_told n m false = refl
opening_told n m true = ap (λ b. told_opened n (when (b || false) (Told.Opened m))) (eq-eqb m m refl)

none_opened : (n : ℕ) (t : Told) (b : Bool) → told_opened n (t ∷ []) ≡ false → told_opened n (when b t) ≡ false
none_opened n t true e = e
none_opened n t false e = refl

head_opened : (role : Role) (past : List Item) (h : Header) (n : ℕ)
    → told_opened n (head_events role past h) ≡ opens role past (Came (Head h)) n
head_opened role past h n =
    let accepts : Bool = head_belongs role past h h.stream && ack h && is_own role h.stream && not (accepted role past h.stream) in
    let credits : Bool = head_belongs role past h h.stream && is_update h.kind && nat_lt 0 h.length in
    let left : List Told = when (is_go_away h.kind) (Told.GoAway h.length) in
    let opened : List Told = when (opens role past (Came (Head h)) h.stream) (Told.Opened h.stream) in
    let accepted : List Told = when accepts (Told.Accepted h.stream) in
    let credited : List Told = when credits (Told.Credit h.stream) in
    opened_both n ((left ++ opened) ++ accepted) credited
    ∙ ap (λ b. told_opened n ((left ++ opened) ++ accepted) || b) (none_opened n (Told.Credit h.stream) credits refl)
    ∙ or_none (told_opened n ((left ++ opened) ++ accepted))
    ∙ opened_both n (left ++ opened) accepted
    ∙ ap (λ b. told_opened n (left ++ opened) || b) (none_opened n (Told.Accepted h.stream) accepts refl)
    ∙ or_none (told_opened n (left ++ opened))
    ∙ opened_both n left opened
    ∙ ap (λ b. b || told_opened n opened) (none_opened n (Told.GoAway h.length) (is_go_away h.kind) refl)
    ∙ opening_told n h.stream (is_of_stream h && syn h && is_let_in role (live role past) (local_go_away past) h)

byte_opened : (n b : ℕ) (o : Option ℕ) → told_opened n (byte_told o b) ≡ false
byte_opened n b None = refl
byte_opened n b (Some m) = refl

tail_opened : (role : Role) (past : List Item) (n : ℕ) (r : Option Header) → told_opened n (tail_events role past r) ≡ false
tail_opened role past n None = refl
tail_opened role past n (Some h) = by (is_live role past h.stream) (rst h) (fin h && not (finished role past h.stream))
  where
    by : (on reset ended : Bool) → told_opened n (cond on (cond reset (Told.Reset h.stream ∷ []) (when ended (Told.Ended h.stream))) []) ≡ false
    by false reset ended = refl
    by true true ended = refl
    by true false true = refl
    by true false false = refl

opened_at : (role : Role) (past : List Item) (a : Arrival) (n : ℕ) → fault_at role past (Came a) ≡ None
    → told_opened n (events_at role past (Came a)) ≡ opens role past (Came a) n
opened_at role past (Head h) n good =
    ap (λ (f : Option Fault). told_opened n (events_unless f (head_events role past h))) good ∙ head_opened role past h n
opened_at role past (Byte b) n good = byte_opened n b (taker role past (reading role past))
opened_at role past Tail n good = tail_opened role past n (reading role past)
opened_at role past (Garbled bytes) n good = absurd (cc good)

opened_by_all : (role : Role) (past : List Item) (came : List Arrival) (n : ℕ) → HasNoFault role (map Came came ++ past)
    → opened_in role past came n ≡ told_opened n (told_by role past came)
opened_by_all role past [] n good = refl
opened_by_all role past (a ∷ came) n good =
    let mid = map Came came ++ past in
    ap (λ b. opens role mid (Came a) n || b) (opened_by_all role past came n good.1)
    ∙ either (opens role mid (Came a) n) (told_opened n (told_by role past came))
    ∙ ap (λ b. told_opened n (told_by role past came) || b) (sym (opened_at role mid a n good.0))
    ∙ sym (opened_both n (told_by role past came) (events_at role mid (Came a)))

pub openings_are_told : OpeningsAreTold
openings_are_told role past came told n from =
    opened_by_all role past came n from.no_fault ∙ ap (told_opened n) (sym (told_is role past came told from))

not_own : (role : Role) (n : ℕ) (b : Bool) → is_own role n ≡ b → is_remote role n ≡ true → is_own role n ≡ false
not_own role n true is theirs = absurd (not_both role n is theirs)
not_own role n false is theirs = is

opened_theirs : (role : Role) (past : List Item) (a : Arrival) (n : ℕ) → opens role past (Came a) n ≡ true → is_own role n ≡ false
opened_theirs role past (Head h) n e =
    not_own role n (is_own role n) refl
    (let_in_at role past h n (is_of_stream h && syn h && is_let_in role (live role past) (local_go_away past) h) refl e).1
opened_theirs role past (Byte b) n e = absurd (cc e)
opened_theirs role past Tail n e = absurd (cc e)
opened_theirs role past (Garbled bytes) n e = absurd (cc e)

pub opened_by_the_other : OpenedByTheOther
opened_by_the_other role past [] n e = absurd (cc e)
opened_by_the_other role past (a ∷ came) n e = by (λ before. opened_by_the_other role past came n before) (opens role (map Came came ++ past) (Came a) n) refl e
  where
    by : (opened_in role past came n ≡ true → is_own role n ≡ false) → (b : Bool) → opens role (map Came came ++ past) (Came a) n ≡ b
        → b || opened_in role past came n ≡ true → is_own role n ≡ false
    by before true is e = opened_theirs role (map Came came ++ past) a n is
    by before false is e = before e

-- the first that is told is its opening, and nothing was told before
first_opens : (role : Role) (past : List Item) (a : Arrival) (n : ℕ) → opens role past (Came a) n ≡ true → is_live role past n ≡ false
first_opens role past (Head h) n e =
    (let_in_at role past h n (is_of_stream h && syn h && is_let_in role (live role past) (local_go_away past) h) refl e).2
first_opens role past (Byte b) n e = absurd (cc e)
first_opens role past Tail n e = absurd (cc e)
first_opens role past (Garbled bytes) n e = absurd (cc e)

anew_by : (role : Role) (past : List Item) (came : List Arrival) (told : List Told) (n : ℕ) → HasNoFault role (map Came came ++ past)
    → told_by role past came ≡ Told.Opened n ∷ told → is_live role past n ≡ false
anew_by role past [] told n good is = absurd (cc is)
anew_by role past (a ∷ came) told n good is = by_first (λ rest e. anew_by role past came rest n good.1 e) (told_by role past came) refl where
  by_first : ((rest : List Told) → told_by role past came ≡ Told.Opened n ∷ rest → is_live role past n ≡ false)
      → (before : List Told) → told_by role past came ≡ before → is_live role past n ≡ false
  by_first earlier [] none =
      let mid = map Came came ++ past in
      let at_it : events_at role mid (Came a) ≡ Told.Opened n ∷ told = sym (ap (λ t. t ++ events_at role mid (Came a)) none) ∙ is in
      let opened : opens role mid (Came a) n ≡ true =
      sym (opened_at role mid a n good.0) ∙ ap (told_opened n) at_it ∙ ap (λ b. b || told_opened n told) (eq-eqb n n refl) in
      let live_then : is_live role mid n ≡ is_live role past n =
      (agrees_by role past came n good.1).live ∙ ap (λ (t : List Told). (all_heard n (seen role past n) t).live) none in
      sym live_then ∙ first_opens role mid a n opened
  by_first earlier (t ∷ before) some =
      let mid = map Came came ++ past in
      let both : t ∷ (before ++ events_at role mid (Came a)) ≡ Told.Opened n ∷ told = sym (ap (λ x. x ++ events_at role mid (Came a)) some) ∙ is in
      let first : t ≡ Told.Opened n = cc both in
      earlier before (some ∙ ap (λ x. x ∷ before) first)

pub opened_anew : OpenedAnew
opened_anew role past came told n from = anew_by role past came told n from.no_fault (sym (told_is role past came (Told.Opened n ∷ told) from))

-- ---- ends

-- events that have neither data nor an end
abbrev IsPlain : Told → Type 0
IsPlain (Told.Payload m b) = ⊥
IsPlain (Told.Ended m) = ⊥
IsPlain other = Unit {0}

plain_both : (xs ys : List Told) → AllByRecursion IsPlain xs → AllByRecursion IsPlain ys → AllByRecursion IsPlain (xs ++ ys)
plain_both [] ys a b = b
plain_both (x ∷ xs) ys a b = (a.0, plain_both xs ys a.1 b)

plain_when : (b : Bool) (t : Told) → IsPlain t → AllByRecursion IsPlain (when b t)
plain_when true t plain = (plain, tt)
plain_when false t plain = tt

plain_once : (n : ℕ) (ended : Bool) (told : List Told) → AllByRecursion IsPlain told → EndsOnce n ended told
plain_once n ended [] plain = tt
plain_once n ended (Told.Opened m ∷ told) plain = plain_once n (cond (m == n) false ended) told plain.1
plain_once n ended (Told.Payload m b ∷ told) plain = absurd plain.0
plain_once n ended (Told.Ended m ∷ told) plain = absurd plain.0
plain_once n ended (Told.Accepted m ∷ told) plain = plain_once n ended told plain.1
plain_once n ended (Told.Reset m ∷ told) plain = plain_once n ended told plain.1
plain_once n ended (Told.Credit m ∷ told) plain = plain_once n ended told plain.1
plain_once n ended (Told.GoAway code ∷ told) plain = plain_once n ended told plain.1
plain_once n ended (Told.Fault fault ∷ told) plain = plain_once n ended told plain.1

-- the flag of EndsOnce is what was heard
opened_flag : (b : Bool) (s : Seen) → cond b false s.ended ≡ (cond b just_opened s).ended
opened_flag true s = refl
opened_flag false s = refl

payload_flag : (b : Bool) (s : Seen) (x : ℕ) → s.ended ≡ (cond b (record s { came = s.came ++ x ∷ [] }) s).ended
payload_flag true s x = refl
payload_flag false s x = refl

ended_flag : (b : Bool) (s : Seen) → cond b true s.ended ≡ (cond b (record s { ended = true; live = s.live && not s.closed }) s).ended
ended_flag true s = refl
ended_flag false s = refl

reset_flag : (b : Bool) (s : Seen) → s.ended ≡ (cond b (record s { live = false }) s).ended
reset_flag true s = refl
reset_flag false s = refl

once_both : (n : ℕ) (s : Seen) (xs ys : List Told) → EndsOnce n s.ended xs → EndsOnce n (all_heard n s xs).ended ys → EndsOnce n s.ended (xs ++ ys)
once_both n s [] ys a b = b
once_both n s (Told.Opened m ∷ xs) ys a b =
    subst (λ e. EndsOnce n e (xs ++ ys)) (sym (opened_flag (m == n) s))
    (once_both n (hears n s (Told.Opened m)) xs ys (subst (λ e. EndsOnce n e xs) (opened_flag (m == n) s) a) b)
once_both n s (Told.Payload m x ∷ xs) ys a b = (
  a.0,
  subst (λ e. EndsOnce n e (xs ++ ys)) (sym (payload_flag (m == n) s x))
      (once_both n (hears n s (Told.Payload m x)) xs ys (subst (λ e. EndsOnce n e xs) (payload_flag (m == n) s x) a.1) b),
)
once_both n s (Told.Ended m ∷ xs) ys a b = (
  a.0,
  subst (λ e. EndsOnce n e (xs ++ ys)) (sym (ended_flag (m == n) s))
      (once_both n (hears n s (Told.Ended m)) xs ys (subst (λ e. EndsOnce n e xs) (ended_flag (m == n) s) a.1) b),
)
once_both n s (Told.Reset m ∷ xs) ys a b =
    subst (λ e. EndsOnce n e (xs ++ ys)) (sym (reset_flag (m == n) s))
    (once_both n (hears n s (Told.Reset m)) xs ys (subst (λ e. EndsOnce n e xs) (reset_flag (m == n) s) a) b)
once_both n s (Told.Accepted m ∷ xs) ys a b = once_both n s xs ys a b
once_both n s (Told.Credit m ∷ xs) ys a b = once_both n s xs ys a b
once_both n s (Told.GoAway code ∷ xs) ys a b = once_both n s xs ys a b
once_both n s (Told.Fault fault ∷ xs) ys a b = once_both n s xs ys a b

-- what was told so far of the end is so
not_ended : (told is : Bool) → (told ≡ true → is ≡ true) → is ≡ false → told ≡ false
not_ended true is so e = absurd (let h = so refl in cc (h, e))
not_ended false is so e = refl

head_once : (role : Role) (past : List Item) (h : Header) (n : ℕ) (ended : Bool) → EndsOnce n ended (head_events role past h)
head_once role past h n ended =
    let accepts : Bool = head_belongs role past h h.stream && ack h && is_own role h.stream && not (accepted role past h.stream) in
    let credits : Bool = head_belongs role past h h.stream && is_update h.kind && nat_lt 0 h.length in
    let left : List Told = when (is_go_away h.kind) (Told.GoAway h.length) in
    let opened : List Told = when (opens role past (Came (Head h)) h.stream) (Told.Opened h.stream) in
    let accepted : List Told = when accepts (Told.Accepted h.stream) in
    let credited : List Told = when credits (Told.Credit h.stream) in
    plain_once n ended (head_events role past h)
    (plain_both ((left ++ opened) ++ accepted) credited
    (plain_both (left ++ opened) accepted
    (plain_both left opened (plain_when (is_go_away h.kind) (Told.GoAway h.length) tt)
    (plain_when (opens role past (Came (Head h)) h.stream) (Told.Opened h.stream) tt))
    (plain_when accepts (Told.Accepted h.stream) tt))
    (plain_when credits (Told.Credit h.stream) tt))

byte_once : (role : Role) (past : List Item) (b n : ℕ) (ended : Bool) (r : Option Header) → (ended ≡ true → finished role past n ≡ true)
    → EndsOnce n ended (byte_told (taker role past r) b)
byte_once role past b n ended None so = tt
byte_once role past b n ended (Some h) so = by (byte_belongs role past h.stream) refl
  where
    by : (c : Bool) → byte_belongs role past h.stream ≡ c → EndsOnce n ended (byte_told (cond c (Some h.stream) None) b)
    by true is = (
      λ same. not_ended ended (finished role past n) so
          (ap (finished role past) (sym same) ∙ not_true (finished role past h.stream)
          (and_parts (is_reading (reading role past) h.stream && is_live role past h.stream) (not (finished role past h.stream)) is).1),
      tt,
    )
    by false is = tt

tail_once : (role : Role) (past : List Item) (n : ℕ) (ended : Bool) (r : Option Header) → (ended ≡ true → finished role past n ≡ true)
    → EndsOnce n ended (tail_events role past r)
tail_once role past n ended None so = tt
tail_once role past n ended (Some h) so = by (is_live role past h.stream) (rst h) (fin h && not (finished role past h.stream)) refl
  where
    by : (on reset ends : Bool) → (fin h && not (finished role past h.stream)) ≡ ends
        → EndsOnce n ended (cond on (cond reset (Told.Reset h.stream ∷ []) (when ends (Told.Ended h.stream))) [])
    by false reset ends is = tt
    by true true ends is = tt
    by true false true is = (
      λ same. not_ended ended (finished role past n) so
          (ap (finished role past) (sym same) ∙ not_true (finished role past h.stream) (and_parts (fin h) (not (finished role past h.stream)) is).1),
      tt,
    )
    by true false false is = tt

once_at : (role : Role) (past : List Item) (a : Arrival) (n : ℕ) (ended : Bool) → fault_at role past (Came a) ≡ None → (ended ≡ true → finished role past n ≡ true)
    → EndsOnce n ended (events_at role past (Came a))
once_at role past (Head h) n ended good so =
    subst (λ (f : Option Fault). EndsOnce n ended (events_unless f (head_events role past h))) (sym good) (head_once role past h n ended)
once_at role past (Byte b) n ended good so = byte_once role past b n ended (reading role past) so
once_at role past Tail n ended good so = tail_once role past n ended (reading role past) so
once_at role past (Garbled bytes) n ended good so = absurd (cc good)

once_by : (role : Role) (past : List Item) (came : List Arrival) (n : ℕ) → HasNoFault role (map Came came ++ past)
    → EndsOnce n (finished role past n) (told_by role past came)
once_by role past [] n good = tt
once_by role past (a ∷ came) n good =
    let mid = map Came came ++ past in
    let before : Seen = all_heard n (seen role past n) (told_by role past came) in
    once_both n (seen role past n) (told_by role past came) (events_at role mid (Came a)) (once_by role past came n good.1)
    (once_at role mid a n before.ended good.0 (agrees_by role past came n good.1).ended)

pub ends_are_last : EndsAreLast
ends_are_last role past came told n from =
    subst (λ (t : List Told). EndsOnce n (finished role past n) t) (sym (told_is role past came told from))
    (once_by role past came n from.no_fault)

-- ---- nothing is told of a stream that isn't live

untold_both : (n : ℕ) (xs ys : List Told) → IsUntold n xs → IsUntold n ys → IsUntold n (xs ++ ys)
untold_both n [] ys a b = b
untold_both n (Told.Opened m ∷ xs) ys a b = untold_both n xs ys a b
untold_both n (Told.Accepted m ∷ xs) ys a b = (a.0, untold_both n xs ys a.1 b)
untold_both n (Told.Payload m x ∷ xs) ys a b = (a.0, untold_both n xs ys a.1 b)
untold_both n (Told.Ended m ∷ xs) ys a b = (a.0, untold_both n xs ys a.1 b)
untold_both n (Told.Reset m ∷ xs) ys a b = (a.0, untold_both n xs ys a.1 b)
untold_both n (Told.Credit m ∷ xs) ys a b = (a.0, untold_both n xs ys a.1 b)
untold_both n (Told.GoAway code ∷ xs) ys a b = untold_both n xs ys a b
untold_both n (Told.Fault fault ∷ xs) ys a b = untold_both n xs ys a b

-- an event whose stream is live is about another
apart : (role : Role) (past : List Item) (m n : ℕ) (same : Bool) → (m == n) ≡ same → is_live role past n ≡ false → is_live role past m ≡ true → (m == n) ≡ false
apart role past m n true is off on = absurd (let e : true ≡ false = sym on ∙ ap (is_live role past) (eqb-true m n is) ∙ off in cc e)
apart role past m n false is off on = is

-- a head that belongs to a stream opens it, or the stream is live
head_for : (role : Role) (past : List Item) (h : Header) (n : ℕ) (s : Bool) → syn h ≡ s → h.stream ≡ n → is_of_stream h ≡ true
    → cond s (is_let_in role (live role past) (local_go_away past) h) (contains (live role past) h.stream) ≡ true
    → opens role past (Came (Head h)) n ≡ false → is_live role past n ≡ true
head_for role past h n true is same about for_it unopened =
    absurd (let e : true ≡ false =
    sym (ap (λ b. b || false) (eq-eqb h.stream n same))
    ∙ sym (ap (λ b. contains (cond (b && syn h && is_let_in role (live role past) (local_go_away past) h) (h.stream ∷ []) []) n) about
    ∙ ap (λ b. contains (cond (b && is_let_in role (live role past) (local_go_away past) h) (h.stream ∷ []) []) n) is
    ∙ ap (λ b. contains (cond b (h.stream ∷ []) []) n) for_it)
    ∙ unopened in cc e)
head_for role past h n false is same about for_it unopened = ap (is_live role past) (sym same) ∙ for_it

head_apart : (role : Role) (past : List Item) (h : Header) (n : ℕ) (same : Bool) → (h.stream == n) ≡ same → is_live role past n ≡ false
    → opens role past (Came (Head h)) n ≡ false → head_belongs role past h h.stream ≡ true → (h.stream == n) ≡ false
head_apart role past h n true is off unopened belongs =
    let fits : Bool = is_for_stream role (live role past) (local_go_away past) h in
    let for_it = and_parts (h.stream == h.stream) fits (and_parts ((h.stream == h.stream) && fits) (not ((is_data h.kind && not (syn h)) && finished role past h.stream)) belongs).0 in
    let parts = and_parts (is_of_stream h) (cond (syn h) (is_let_in role (live role past) (local_go_away past) h) (contains (live role past) h.stream)) for_it.1 in
    absurd (let e : false ≡ true = sym off ∙ head_for role past h n (syn h) refl (eqb-true h.stream n is) parts.0 parts.1 unopened in cc e)
head_apart role past h n false is off unopened belongs = is

head_untold : (role : Role) (past : List Item) (h : Header) (n : ℕ) → is_live role past n ≡ false → opens role past (Came (Head h)) n ≡ false
    → IsUntold n (head_events role past h)
head_untold role past h n off unopened =
    let belongs : Bool = head_belongs role past h h.stream in
    let accepts : Bool = belongs && ack h && is_own role h.stream && not (accepted role past h.stream) in
    let credits : Bool = belongs && is_update h.kind && nat_lt 0 h.length in
    let left : List Told = when (is_go_away h.kind) (Told.GoAway h.length) in
    let opened : List Told = when (opens role past (Came (Head h)) h.stream) (Told.Opened h.stream) in
    let accepts_told : List Told = when accepts (Told.Accepted h.stream) in
    let credits_told : List Told = when credits (Told.Credit h.stream) in
    untold_both n ((left ++ opened) ++ accepts_told) credits_told
    (untold_both n (left ++ opened) accepts_told (untold_both n left opened (left_out (is_go_away h.kind)) (opened_out (opens role past (Came (Head h)) h.stream)))
    (accepted_out accepts λ is. head_apart role past h n (h.stream == n) refl off unopened
    (and_parts belongs (ack h) (and_parts (belongs && ack h) (is_own role h.stream) (and_parts ((belongs && ack h) && is_own role h.stream) (not (accepted role past h.stream)) is).0).0).0))
    (credited_out credits λ is. head_apart role past h n (h.stream == n) refl off unopened
    (and_parts belongs (is_update h.kind) (and_parts (belongs && is_update h.kind) (nat_lt 0 h.length) is).0).0)
  where
    left_out : (b : Bool) → IsUntold n (when b (Told.GoAway h.length))
    left_out true = tt
    left_out false = tt

    opened_out : (b : Bool) → IsUntold n (when b (Told.Opened h.stream))
    opened_out true = tt
    opened_out false = tt

    accepted_out : (b : Bool) → (b ≡ true → (h.stream == n) ≡ false) → IsUntold n (when b (Told.Accepted h.stream))
    accepted_out true e = (e refl, tt)
    accepted_out false e = tt

    credited_out : (b : Bool) → (b ≡ true → (h.stream == n) ≡ false) → IsUntold n (when b (Told.Credit h.stream))
    credited_out true e = (e refl, tt)
    credited_out false e = tt

byte_untold : (role : Role) (past : List Item) (b n : ℕ) (r : Option Header) → is_live role past n ≡ false → IsUntold n (byte_told (taker role past r) b)
byte_untold role past b n None off = tt
byte_untold role past b n (Some h) off = by (byte_belongs role past h.stream) refl
  where
    by : (c : Bool) → byte_belongs role past h.stream ≡ c → IsUntold n (byte_told (cond c (Some h.stream) None) b)
    by true is = (
      apart role past h.stream n (h.stream == n) refl off
          (and_parts (is_reading (reading role past) h.stream) (is_live role past h.stream)
          (and_parts (is_reading (reading role past) h.stream && is_live role past h.stream) (not (finished role past h.stream)) is).0).1,
      tt,
    )
    by false is = tt

tail_untold : (role : Role) (past : List Item) (n : ℕ) (r : Option Header) → is_live role past n ≡ false → IsUntold n (tail_events role past r)
tail_untold role past n None off = tt
tail_untold role past n (Some h) off = by (is_live role past h.stream) refl (rst h) (fin h && not (finished role past h.stream))
  where
    by : (on : Bool) → is_live role past h.stream ≡ on → (reset ends : Bool)
        → IsUntold n (cond on (cond reset (Told.Reset h.stream ∷ []) (when ends (Told.Ended h.stream))) [])
    by false is reset ends = tt
    by true is true ends = (apart role past h.stream n (h.stream == n) refl off is, tt)
    by true is false true = (apart role past h.stream n (h.stream == n) refl off is, tt)
    by true is false false = tt

untold_at : (role : Role) (past : List Item) (a : Arrival) (n : ℕ) → fault_at role past (Came a) ≡ None → is_live role past n ≡ false
    → opens role past (Came a) n ≡ false → IsUntold n (events_at role past (Came a))
untold_at role past (Head h) n good off unopened =
    subst (λ (f : Option Fault). IsUntold n (events_unless f (head_events role past h))) (sym good) (head_untold role past h n off unopened)
untold_at role past (Byte b) n good off unopened = byte_untold role past b n (reading role past) off
untold_at role past Tail n good off unopened = tail_untold role past n (reading role past) off
untold_at role past (Garbled bytes) n good off unopened = absurd (cc good)

-- an item that doesn't open the stream leaves it dead
stays_dead : (role : Role) (past : List Item) (x : Item) (n : ℕ) → is_live role past n ≡ false → opens role past x n ≡ false → is_live role (x ∷ past) n ≡ false
stays_dead role past x n off unopened =
    let end : Bool = ends (reading role past) (finished role past n) (closed role past n) x n in
    live_after role past x n ∙ ap (λ b. (not end && is_live role past n) || b) unopened ∙ or_none (not end && is_live role past n)
    ∙ ap (λ b. not end && b) off ∙ and_false (not end)

untold_by : (role : Role) (past : List Item) (came : List Arrival) (n : ℕ) → HasNoFault role (map Came came ++ past) → is_live role past n ≡ false
    → opened_in role past came n ≡ false → IsUntold n (told_by role past came) × (is_live role (map Came came ++ past) n ≡ false)
untold_by role past [] n good off unopened = (tt, off)
untold_by role past (a ∷ came) n good off unopened =
    let mid = map Came came ++ past in
    let parts = or_parts (opens role mid (Came a) n) (opened_in role past came n) unopened in
    let before = untold_by role past came n good.1 off parts.1 in (
      untold_both n (told_by role past came) (events_at role mid (Came a)) before.0 (untold_at role mid a n good.0 before.1 parts.0),
      stays_dead role mid (Came a) n before.1 parts.0,
    )

pub not_told : NotTold
not_told role past came told n from off unopened =
    let same = told_is role past came told from in
    subst (λ (t : List Told). IsUntold n t) (sym same)
    (untold_by role past came n from.no_fault off (openings_are_told role past came told n from ∙ unopened)).0
