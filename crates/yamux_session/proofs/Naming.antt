-- What the arrivals of one frame tell names one stream at most, and opens it first.
use Rattle.std.proofs.Common.{◌≡◌, ℕ, Bool, true, false, ◌&&◌, not, nat_lt, cond, List, [], ◌∷◌, ◌++◌, map, drop, Option, Some, None, refl, sym, ap, ◌∙◌, subst, append_assoc}
use Rattle.std.specs.List.{AllByRecursion}
use Rattle.std.proofs.lemmas.List.{append-nil, append_cancel_left}
use Rattle.yamux_frames.specs.declared.header.Header.{Header}
use Rattle.yamux_frames.specs.declared.header.FrameKind.{FrameKind}
use Rattle.yamux_frames.specs.declared.header.FrameKind.TheVariants.{Payload, Window, Ping, GoAway}
use Rattle.yamux_frames.specs.Frames.Arrival.{Head, Byte, Tail}
use Rattle.yamux_session.specs.declared.event.Role.{Role}
use Rattle.yamux_session.specs.declared.event.Fault.{Fault}
use Rattle.yamux_session.specs.declared.event.Event.{Event}
use Rattle.yamux_session.specs.declared.event.Event.TheVariants as event
use Rattle.yamux_session.specs.History.{Item, came_bytes, ack, fin, rst, is_go_away, is_update, is_own}
use Rattle.yamux_session.specs.History.Item.{Came}
use Rattle.yamux_session.specs.Openings.{is_live, opens, finished, reading, head_belongs, is_for_stream, byte_belongs, live, local_go_away}
use Rattle.yamux_session.specs.Windows.{accepted}
use Rattle.yamux_session.specs.Faults.{fault_at}
use Rattle.yamux_session.specs.Events.{Told, when, events, events_unless, head_events, tail_told, tail_events, taker}
use Rattle.yamux_session.specs.Arrives.{telling, tellings, HasData, Tells}
use Rattle.yamux_session.specs.Naming.{IsAbout, IsNoOpening, NamesOne}
use Rattle.yamux_session.proofs.Telling.{bytes_told, bytes_events}

-- ---- the same of what is told, data byte by byte

abbrev IsOf : ℕ → Told → Type 0
IsOf n (Told.Opened m) = m ≡ n
IsOf n (Told.Accepted m) = m ≡ n
IsOf n (Told.Payload m b) = m ≡ n
IsOf n (Told.Ended m) = m ≡ n
IsOf n (Told.Reset m) = m ≡ n
IsOf n (Told.Credit m) = m ≡ n
IsOf n (Told.GoAway code) = Unit {0}
IsOf n (Told.Fault fault) = Unit {0}

abbrev OpensNone : Told → Type 0
OpensNone (Told.Opened n) = ⊥
OpensNone other = Unit {0}

-- behind the first nothing is opened
abbrev OpensFirst : List Told → Type 0
OpensFirst told = AllByRecursion OpensNone (drop 1 told)

pub record TellsOne (told : List Told) : Type 0 where
  pub stream : ℕ
  pub named : AllByRecursion (IsOf stream) told
  pub opened_first : OpensFirst told

both : (P : Told → Type 0) (xs ys : List Told) → AllByRecursion P xs → AllByRecursion P ys → AllByRecursion P (xs ++ ys)
both P [] ys a b = b
both P (x ∷ xs) ys a b = (a.0, both P xs ys a.1 b)

prefix : (P : Told → Type 0) (xs ys : List Told) → AllByRecursion P (xs ++ ys) → AllByRecursion P xs
prefix P [] ys a = tt
prefix P (x ∷ xs) ys a = (a.0, prefix P xs ys a.1)

back : (P : Told → Type 0) (xs ys : List Told) → AllByRecursion P (xs ++ ys) → AllByRecursion P ys
back P [] ys a = a
back P (x ∷ xs) ys a = back P xs ys a.1

if_told : (P : Told → Type 0) (b : Bool) (t : Told) → P t → AllByRecursion P (when b t)
if_told P true t h = (h, tt)
if_told P false t h = tt

behind : (told : List Told) → AllByRecursion OpensNone told → OpensFirst told
behind [] none = tt
behind (t ∷ told) none = none.1

-- ---- from what is told to the events

event_named : (n : ℕ) (e : Event) → HasData e → AllByRecursion (IsOf n) (telling e) → IsAbout n e
event_named n (event.Opened m) some all = all.0
event_named n (event.Accepted m) some all = all.0
event_named n (event.Payload m []) some all = absurd (some refl)
event_named n (event.Payload m (b ∷ bytes)) some all = all.0
event_named n (event.Ended m) some all = all.0
event_named n (event.Reset m) some all = all.0
event_named n (event.Credit m) some all = all.0
event_named n (event.GoAway code) some all = tt
event_named n (event.Fault fault) some all = tt

events_named : (n : ℕ) (es : List Event) → AllByRecursion HasData es → AllByRecursion (IsOf n) (tellings es) → AllByRecursion (IsAbout n) es
events_named n [] filled all = tt
events_named n (e ∷ es) filled all =
    (event_named n e filled.0 (prefix (IsOf n) (telling e) (tellings es) all), events_named n es filled.1 (back (IsOf n) (telling e) (tellings es) all))

opens_none : (e : Event) → AllByRecursion OpensNone (telling e) → IsNoOpening e
opens_none (event.Opened m) all = all.0
opens_none (event.Accepted m) all = tt
opens_none (event.Payload m bytes) all = tt
opens_none (event.Ended m) all = tt
opens_none (event.Reset m) all = tt
opens_none (event.Credit m) all = tt
opens_none (event.GoAway code) all = tt
opens_none (event.Fault fault) all = tt

none_opens : (es : List Event) → AllByRecursion OpensNone (tellings es) → AllByRecursion IsNoOpening es
none_opens [] all = tt
none_opens (e ∷ es) all = (opens_none e (prefix OpensNone (telling e) (tellings es) all), none_opens es (back OpensNone (telling e) (tellings es) all))

-- behind the first event nothing is told that isn't behind the first that is told
opened_first : (es : List Event) → AllByRecursion HasData es → OpensFirst (tellings es) → AllByRecursion IsNoOpening (drop 1 es)
opened_first [] filled all = tt
opened_first (event.Opened m ∷ es) filled all = none_opens es all
opened_first (event.Accepted m ∷ es) filled all = none_opens es all
opened_first (event.Payload m [] ∷ es) filled all = absurd (filled.0 refl)
opened_first (event.Payload m (b ∷ bytes) ∷ es) filled all = none_opens es (back OpensNone (map (Told.Payload m) bytes) (tellings es) all)
opened_first (event.Ended m ∷ es) filled all = none_opens es all
opened_first (event.Reset m ∷ es) filled all = none_opens es all
opened_first (event.Credit m ∷ es) filled all = none_opens es all
opened_first (event.GoAway code ∷ es) filled all = none_opens es all
opened_first (event.Fault fault ∷ es) filled all = none_opens es all

pub names_one : (before after : List Event) (told : List Told) (tells : Tells before after told) → TellsOne told → NamesOne tells.more
names_one before after told tells one = record {
  stream = one.stream;
  named = events_named one.stream tells.more tells.filled (subst (AllByRecursion (IsOf one.stream)) (sym tells.telling) one.named);
  opened_first = opened_first tells.more tells.filled (subst OpensFirst (sym tells.telling) one.opened_first);
}

-- ---- what the arrivals of one frame tell

pub tells_none : TellsOne []
tells_none = record { stream = 0; named = tt; opened_first = tt }

pub tells_fault : (fault : Fault) → TellsOne (Told.Fault fault ∷ [])
tells_fault fault = record { stream = 0; named = (tt, tt); opened_first = tt }

-- the events of a head and those behind it
head_named : (n code : ℕ) (l o a c : Bool) (rest : List Told) → AllByRecursion (IsOf n) rest
    → AllByRecursion (IsOf n) ((((when l (Told.GoAway code) ++ when o (Told.Opened n)) ++ when a (Told.Accepted n)) ++ when c (Told.Credit n)) ++ rest)
head_named n code l o a c rest all =
    both (IsOf n) (((when l (Told.GoAway code) ++ when o (Told.Opened n)) ++ when a (Told.Accepted n)) ++ when c (Told.Credit n)) rest
    (both (IsOf n) ((when l (Told.GoAway code) ++ when o (Told.Opened n)) ++ when a (Told.Accepted n)) (when c (Told.Credit n))
    (both (IsOf n) (when l (Told.GoAway code) ++ when o (Told.Opened n)) (when a (Told.Accepted n))
    (both (IsOf n) (when l (Told.GoAway code)) (when o (Told.Opened n)) (if_told (IsOf n) l (Told.GoAway code) tt) (if_told (IsOf n) o (Told.Opened n) refl))
    (if_told (IsOf n) a (Told.Accepted n) refl)) (if_told (IsOf n) c (Told.Credit n) refl)) all

head_opens : (n code : ℕ) (l o a c : Bool) (rest : List Told) → l && o ≡ false → AllByRecursion OpensNone rest
    → OpensFirst ((((when l (Told.GoAway code) ++ when o (Told.Opened n)) ++ when a (Told.Accepted n)) ++ when c (Told.Credit n)) ++ rest)
head_opens n code true true a c rest h all = absurd cc
head_opens n code true false a c rest h all =
    both OpensNone (when a (Told.Accepted n) ++ when c (Told.Credit n)) rest (both OpensNone (when a (Told.Accepted n)) (when c (Told.Credit n)) (if_told OpensNone a (Told.Accepted n) tt) (if_told OpensNone c (Told.Credit n) tt)) all
head_opens n code false true a c rest h all =
    both OpensNone (when a (Told.Accepted n) ++ when c (Told.Credit n)) rest (both OpensNone (when a (Told.Accepted n)) (when c (Told.Credit n)) (if_told OpensNone a (Told.Accepted n) tt) (if_told OpensNone c (Told.Credit n) tt)) all
head_opens n code false false a c rest h all =
    behind ((when a (Told.Accepted n) ++ when c (Told.Credit n)) ++ rest)
    (both OpensNone (when a (Told.Accepted n) ++ when c (Told.Credit n)) rest (both OpensNone (when a (Told.Accepted n)) (when c (Told.Credit n)) (if_told OpensNone a (Told.Accepted n) tt) (if_told OpensNone c (Told.Credit n) tt)) all)

-- a GoAway opens no stream
leaving_opens_none : (role : Role) (past : List Item) (h : Header) (k : FrameKind) → h.kind ≡ k → is_go_away k && opens role past (Came (Head (record h { kind = k }))) h.stream ≡ false
leaving_opens_none role past h Payload e = refl
leaving_opens_none role past h Window e = refl
leaving_opens_none role past h Ping e = refl
leaving_opens_none role past h GoAway e = refl

head_tells : (role : Role) (past : List Item) (h : Header) (f : Option Fault) (rest : List Told) → AllByRecursion (IsOf h.stream) rest → AllByRecursion OpensNone rest
    → TellsOne (events_unless f (head_events role past h) ++ rest)
head_tells role past h (Some fault) rest named none = record { stream = h.stream; named = (tt, named); opened_first = none }
head_tells role past h None rest named none =
    let o : Bool = opens role past (Came (Head h)) h.stream in
    let a : Bool = head_belongs role past h h.stream && ack h && is_own role h.stream && not (accepted role past h.stream) in
    let c : Bool = head_belongs role past h h.stream && is_update h.kind && nat_lt 0 h.length in
    record {
      stream = h.stream;
      named = head_named h.stream h.length (is_go_away h.kind) o a c rest named;
      opened_first = head_opens h.stream h.length (is_go_away h.kind) o a c rest (leaving_opens_none role past h h.kind refl) none;
    }

-- a tail
tail_all : (P : Told → Type 0) (h : Header) (r e : Bool) → P (Told.Reset h.stream) → P (Told.Ended h.stream)
    → AllByRecursion P (cond r (Told.Reset h.stream ∷ []) (when e (Told.Ended h.stream)))
tail_all P h true e reset ended = (reset, tt)
tail_all P h false e reset ended = if_told P e (Told.Ended h.stream) ended

live_all : (P : Told → Type 0) (b : Bool) (told : List Told) → AllByRecursion P told → AllByRecursion P (cond b told [])
live_all P true told all = all
live_all P false told all = tt

tail_of : (P : Told → Type 0) (role : Role) (past : List Item) (h : Header) → P (Told.Reset h.stream) → P (Told.Ended h.stream) → AllByRecursion P (tail_events role past (Some h))
tail_of P role past h reset ended =
    live_all P (is_live role past h.stream) (tail_told h (finished role past h.stream))
    (tail_all P h (rst h) (fin h && not (finished role past h.stream)) reset ended)

tail_if : (P : Told → Type 0) (role : Role) (past : List Item) (h : Header) (b : Bool) → P (Told.Reset h.stream) → P (Told.Ended h.stream)
    → AllByRecursion P (tail_events role past (cond b (Some h) None))
tail_if P role past h true reset ended = tail_of P role past h reset ended
tail_if P role past h false reset ended = tt

pub head_tells_one : (role : Role) (past : List Item) (h : Header) (told : List Told) → events role (Came (Head h) ∷ past) ≡ events role past ++ told → TellsOne told
head_tells_one role past h told is =
    let f : Option Fault = fault_at role past (Came (Head h)) in
    subst TellsOne (append-nil (events_unless f (head_events role past h)) ∙ append_cancel_left (events role past) (events_unless f (head_events role past h)) told is)
    (head_tells role past h f [] tt tt)

pub frame_tells_one : (role : Role) (past : List Item) (h : Header) (told : List Told) → events role (Came Tail ∷ Came (Head h) ∷ past) ≡ events role past ++ told → TellsOne told
frame_tells_one role past h told is =
    let f : Option Fault = fault_at role past (Came (Head h)) in
    let mid : List Item = Came (Head h) ∷ past in
    let b : Bool = is_for_stream role (live role past) (local_go_away past) h in
    let head : List Told = events_unless f (head_events role past h) in
    let tail : List Told = tail_events role mid (reading role mid) in
    subst TellsOne (append_cancel_left (events role past) (head ++ tail) told (sym (append_assoc (events role past) head tail) ∙ is))
    (head_tells role past h f tail (tail_if (IsOf h.stream) role mid h b refl refl) (tail_if OpensNone role mid h b tt tt))

-- ---- a part of a payload, with its tail

data_all : (P : Told → Type 0) (n : ℕ) (bytes : List ℕ) → ((b : ℕ) → P (Told.Payload n b)) → AllByRecursion P (map (Told.Payload n) bytes)
data_all P n [] h = tt
data_all P n (b ∷ bytes) h = (h b, data_all P n bytes h)

taken_all : (P : Told → Type 0) (b : Bool) (n : ℕ) (bytes : List ℕ) → ((x : ℕ) → P (Told.Payload n x)) → AllByRecursion P (bytes_told (cond b (Some n) None) bytes)
taken_all P true n bytes h = data_all P n bytes h
taken_all P false n bytes h = tt

-- the bytes, and what is told behind them
part_tells : (role : Role) (past : List Item) (bytes : List ℕ) (r : Option Header) (rest : List Told)
    → ((P : Told → Type 0) → ((h : Header) → r ≡ Some h → P (Told.Reset h.stream) × P (Told.Ended h.stream)) → AllByRecursion P rest)
    → TellsOne (bytes_told (taker role past r) bytes ++ rest)
part_tells role past bytes None rest tail = record {
  stream = 0;
  named = tail (IsOf 0) (λ h e. absurd cc);
  opened_first = behind rest (tail OpensNone (λ h e. (tt, tt)));
}
part_tells role past bytes (Some h) rest tail =
    let n : ℕ = h.stream in
    let told : List Told = bytes_told (taker role past (Some h)) bytes in
    record {
      stream = n;
      named = both (IsOf n) told rest (taken_all (IsOf n) (byte_belongs role past n) n bytes (λ x. refl))
          (tail (IsOf n) (λ g e. let same : h ≡ g = cc in (ap (λ (k : Header). k.stream) (sym same), ap (λ (k : Header). k.stream) (sym same))));
      opened_first = behind (told ++ rest) (both OpensNone told rest (taken_all OpensNone (byte_belongs role past n) n bytes (λ x. tt)) (tail OpensNone (λ g e. (tt, tt))));
    }

reading_on : (role : Role) (bytes : List ℕ) (past : List Item) → reading role (came_bytes bytes past) ≡ reading role past
reading_on role [] past = refl
reading_on role (b ∷ bytes) past = reading_on role bytes (Came (Byte b) ∷ past)

pub part_tells_one : (role : Role) (past : List Item) (bytes : List ℕ) (told : List Told) → events role (came_bytes bytes past) ≡ events role past ++ told → TellsOne told
part_tells_one role past bytes told is =
    let data_told : List Told = bytes_told (taker role past (reading role past)) bytes in
    subst TellsOne (append-nil data_told ∙ append_cancel_left (events role past) data_told told (sym (bytes_events role bytes past) ∙ is))
    (part_tells role past bytes (reading role past) [] (λ P h. tt))

tail_at : (P : Told → Type 0) (role : Role) (past : List Item) (r : Option Header) → ((h : Header) → r ≡ Some h → P (Told.Reset h.stream) × P (Told.Ended h.stream)) → AllByRecursion P (tail_events role past r)
tail_at P role past None h = tt
tail_at P role past (Some g) h = let t = h g refl in tail_of P role past g t.0 t.1

pub last_tells_one : (role : Role) (past : List Item) (bytes : List ℕ) (told : List Told) → events role (Came Tail ∷ came_bytes bytes past) ≡ events role past ++ told → TellsOne told
last_tells_one role past bytes told is =
    let r : Option Header = reading role past in
    let data_told : List Told = bytes_told (taker role past r) bytes in
    let mid : List Item = came_bytes bytes past in
    let tail : List Told = tail_events role mid r in
    subst TellsOne (append_cancel_left (events role past) (data_told ++ tail) told
    (sym (append_assoc (events role past) data_told tail) ∙ ap (λ (xs : List Told). xs ++ tail) (sym (bytes_events role bytes past))
    ∙ ap (λ (o : Option Header). events role mid ++ tail_events role mid o) (sym (reading_on role bytes past)) ∙ is))
    (part_tells role past bytes r tail (λ P h. tail_at P role mid r h))

pub nothing_tells_one : (role : Role) (past : List Item) (told : List Told) → events role past ≡ events role past ++ told → TellsOne told
nothing_tells_one role past told is = subst TellsOne (append_cancel_left (events role past) [] told (append-nil (events role past) ∙ is)) tells_none
