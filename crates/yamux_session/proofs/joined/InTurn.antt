-- A stream's frames come behind its opening: which heads a session has sent, and that none has come before a stream is opened.
use Rattle.std.proofs.Common.{◌≡◌, ℕ, ◌+◌, ◌≤◌, Bool, true, false, not, ◌||◌, ◌&&◌, ◌==◌, nat_lt, cond, List, [], ◌∷◌, ◌++◌, length, Some, None, refl, sym, ap, ◌∙◌, arith}
use Rattle.std.proofs.lemmas.Bool.{eqb-true}
use Rattle.yamux_frames.specs.declared.header.Header.{Header}
use Rattle.yamux_frames.specs.declared.header.FrameKind.{FrameKind}
use Rattle.yamux_frames.specs.declared.header.FrameKind.TheVariants.{Payload, Window, Ping, GoAway}
use Rattle.yamux_frames.specs.Frames.{Arrival, with_bytes}
use Rattle.yamux_frames.specs.Frames.Arrival.{Head, Byte, Tail, Garbled}
use Rattle.yamux_session.specs.declared.event.Role.{Role}
use Rattle.yamux_session.specs.declared.event.ActRefused.TheVariants.{NoStream, Ended}
use Rattle.yamux_session.specs.declared.event.Fault.TheVariants.{WrongParity, DuplicateStream}
use Rattle.yamux_session.specs.History.{Item, arrivals, syn, fin, is_ping, is_of_stream, is_own, is_remote, is_data, is_update, Act}
use Rattle.yamux_session.specs.History.Item.{Came, Did}
use Rattle.yamux_session.specs.History.Act.{Start, Write, Taken, Close, Reset}
use Rattle.yamux_session.specs.Openings.{is_live, opens, closes, closed, head_belongs}
use Rattle.yamux_session.specs.Windows.{given_back}
use Rattle.yamux_session.specs.Acts.{AreAnswered}
use Rattle.yamux_session.specs.Faults.{HasNoFault, fault_at, syn_fault, window_fault, or_else}
use Rattle.yamux_session.proofs.Lists.{and_parts, or_parts}
use Rattle.yamux_session.proofs.Keeping.{and_true, and_false}
use Rattle.yamux_session.proofs.Live.{past_answered, was_or_opens, not_both, own_next}
use Rattle.yamux_session.proofs.Untaken.{live_unless, live_if}
use Rattle.yamux_session.proofs.joined.Sent.{header, bare, data_on, answer_on, sent_on, sent}
use Rattle.yamux_session.proofs.joined.Totals.{total, all_time, syn_of, starts, bytes_total, data_else, same_total}
use Rattle.yamux_session.proofs.joined.Once.{openings, IsOfLive, never_live, never_any, own_openings, other_openings, started_below, none_unless, no_one}

-- a head for the stream n
abbrev pub head_of : ℕ → Arrival → ℕ
head_of n (Head h) = cond (h.stream == n && is_of_stream h) 1 0
head_of n (Byte b) = 0
head_of n Tail = 0
head_of n (Garbled bytes) = 0

data_heads : (n k : ℕ) (pieces : List (List ℕ)) (xs : List Arrival) → (k == n) ≡ false → total (head_of n) (data_on k pieces xs) ≡ total (head_of n) xs
data_heads n k [] xs off = refl
data_heads n k (piece ∷ pieces) xs off =
    let h : Header = header Payload 0 k (length piece) in
    let rest = data_heads n k pieces (Tail ∷ with_bytes piece (Head h ∷ xs)) off in
    let part = bytes_total (head_of n) (λ b. refl) piece (Head h ∷ xs) in
    let none : head_of n (Head h) ≡ 0 = ap (λ b. cond (b && true) 1 0) off in
    omega arith

bare_off : (n k flags len : ℕ) (xs : List Arrival) → (k == n) ≡ false → total (head_of n) (bare Window flags k len xs) ≡ total (head_of n) xs
bare_off n k flags len xs off = let none : head_of n (Head (header Window flags k len)) ≡ 0 = ap (λ b. cond (b && true) 1 0) off in omega arith

-- the frames of an item that is about another stream, or none
answer_off : (n : ℕ) (h : Header) (opened : Bool) (xs : List Arrival) → (h.stream == n && (is_of_stream h && syn h)) ≡ false → total (head_of n) (answer_on h opened xs) ≡ total (head_of n) xs
answer_off n h opened xs off = by (syn h) (is_ping h.kind) (is_of_stream h) refl refl
  where
    ping_none : (k : FrameKind) → is_ping k ≡ true → (is_data k || is_update k) ≡ false
    ping_none Payload e = absurd cc
    ping_none Window e = absurd cc
    ping_none Ping e = refl
    ping_none GoAway e = absurd cc

    by : (s g o : Bool) → syn h ≡ s → is_of_stream h ≡ o
        → total (head_of n) (cond (not s) xs (cond g (bare Ping 2 0 h.length xs) (cond (not o) xs (bare Window (cond opened 2 8) h.stream 0 xs)))) ≡ total (head_of n) xs
    by false g o e f = refl
    by true true o e f = let none : head_of n (Head (header Ping 2 0 h.length)) ≡ 0 = ap (λ b. cond b 1 0) (and_false (0 == n)) in omega arith
    by true false false e f = refl
    by true false true e f =
        bare_off n h.stream (cond opened 2 8) 0 xs (sym (and_true (h.stream == n)) ∙ sym (ap (λ b. h.stream == n && (b && true)) f) ∙ sym (ap (λ b. h.stream == n && (is_of_stream h && b)) e) ∙ off)

-- the item opens no stream n
abbrev pub OpensNot : ℕ → Item → Type 0
OpensNot n (Came (Head h)) = (h.stream == n && (is_of_stream h && syn h)) ≡ false
OpensNot n (Did (Start k)) = (k == n) ≡ false
OpensNot n x = Unit {0}

apart_if : (role : Role) (past : List Item) (n k : ℕ) (b : Bool) → (k == n) ≡ b → is_live role past k ≡ true → is_live role past n ≡ false → (k == n) ≡ false
apart_if role past n k true is on off = absurd (let e : true ≡ false = sym on ∙ ap (is_live role past) (eqb-true k n is) ∙ off in cc)
apart_if role past n k false is on off = is

-- where n isn't live and isn't opened, no frame is sent for it
silent : (role : Role) (past : List Item) (x : Item) (n : ℕ) (xs : List Arrival) → AreAnswered role (x ∷ past) → is_live role past n ≡ false → OpensNot n x
    → total (head_of n) (sent_on role past x xs) ≡ total (head_of n) xs
silent role past (Came (Head h)) n xs answered off shut = answer_off n h (opens role past (Came (Head h)) h.stream) xs shut
silent role past (Came (Byte b)) n xs answered off shut = refl
silent role past (Came Tail) n xs answered off shut = refl
silent role past (Came (Garbled bytes)) n xs answered off shut = refl
silent role past (Did (Start k)) n xs answered off shut = bare_off n k 1 0 xs shut
silent role past (Did (Write k pieces)) n xs answered off shut =
    data_heads n k pieces xs (apart_if role past n k (k == n) refl (live_unless (is_live role past k) (closed role past k) answered.0.0) off)
silent role past (Did (Taken k count)) n xs answered off shut =
    let amount : ℕ = given_back role k past (Did (Taken k count)) in
    same_total (head_of n) (nat_lt 0 amount) (bare Window 0 k amount xs) xs xs (bare_off n k 0 amount xs (apart_if role past n k (k == n) refl (live_if (is_live role past k) answered.0.0) off)) refl
silent role past (Did (Close k)) n xs answered off shut = bare_off n k 4 0 xs (apart_if role past n k (k == n) refl (live_unless (is_live role past k) (closed role past k) answered.0) off)
silent role past (Did (Reset k)) n xs answered off shut = bare_off n k 8 0 xs (apart_if role past n k (k == n) refl (live_if (is_live role past k) answered.0) off)
silent role past (Did (Act.GoAway code)) n xs answered off shut = let none : head_of n (Head (header GoAway 0 0 code)) ≡ 0 = ap (λ b. cond b 1 0) (and_false (0 == n)) in omega arith

-- ---- a session is silent on its own stream before its start, and on another's before the SYN

-- a SYN for an own stream is a fault
syn_apart : (role : Role) (past : List Item) (h : Header) (n : ℕ) (b : Bool) → (h.stream == n && (is_of_stream h && syn h)) ≡ b → fault_at role past (Came (Head h)) ≡ None → is_own role n ≡ true
    → (h.stream == n && (is_of_stream h && syn h)) ≡ false
syn_apart role past h n false is good own = is
syn_apart role past h n true is good own =
    let parts = and_parts (h.stream == n) (is_of_stream h && syn h) is in
    let same : h.stream ≡ n = eqb-true h.stream n parts.0 in
    absurd (by (is_remote role h.stream) refl (sym (ap (λ b. or_else (cond b (syn_fault role past h) None) (cond (head_belongs role past h h.stream) (window_fault role past h) None)) parts.1) ∙ good)
    (ap (is_own role) same ∙ own))
  where
    by : (r : Bool) → is_remote role h.stream ≡ r
        → or_else (cond (not (is_remote role h.stream)) (Some WrongParity) (cond (is_live role past h.stream) (Some DuplicateStream) None)) (cond (head_belongs role past h h.stream) (window_fault role past h) None) ≡ None
        → is_own role h.stream ≡ true → ⊥
    by true remote e own = not_both role h.stream own remote
    by false other e own =
        let f = sym (ap (λ b. or_else (cond (not b) (Some WrongParity) (cond (is_live role past h.stream) (Some DuplicateStream) None)) (cond (head_belongs role past h h.stream) (window_fault role past h) None)) other) ∙ e in cc

own_shut : (role : Role) (past : List Item) (x : Item) (n : ℕ) → HasNoFault role (x ∷ past) → is_own role n ≡ true → starts n past x ≡ 0 → OpensNot n x
own_shut role past (Came (Head h)) n good own none = syn_apart role past h n (h.stream == n && (is_of_stream h && syn h)) refl good.0 own
own_shut role past (Came (Byte b)) n good own none = tt
own_shut role past (Came Tail) n good own none = tt
own_shut role past (Came (Garbled bytes)) n good own none = tt
own_shut role past (Did (Start k)) n good own none = no_one (k == n) none
own_shut role past (Did (Write k pieces)) n good own none = tt
own_shut role past (Did (Taken k count)) n good own none = tt
own_shut role past (Did (Close k)) n good own none = tt
own_shut role past (Did (Reset k)) n good own none = tt
own_shut role past (Did (Act.GoAway code)) n good own none = tt

pub own_silent : (role : Role) (past : List Item) (n : ℕ) → AreAnswered role past → HasNoFault role past → is_own role n ≡ true → all_time (starts n) past ≡ 0 → total (head_of n) (sent role past) ≡ 0
own_silent role [] n answered good own none = refl
own_silent role (x ∷ past) n answered good own none =
    let before = past_answered role x past answered in
    let rest = own_silent role past n before good.1 own (omega arith) in
    let few = own_openings role n past own before in
    let here = silent role past x n (sent role past) answered (never_live role past n (omega arith)) (own_shut role past x n good own (omega arith)) in
    omega arith

other_shut : (role : Role) (past : List Item) (x : Item) (n : ℕ) → AreAnswered role (x ∷ past) → is_own role n ≡ false → total (syn_of n) (arrivals (x ∷ past)) ≡ 0 → OpensNot n x
other_shut role past (Came (Head h)) n answered other none = no_one (h.stream == n && (is_of_stream h && syn h)) (omega arith)
other_shut role past (Came (Byte b)) n answered other none = tt
other_shut role past (Came Tail) n answered other none = tt
other_shut role past (Came (Garbled bytes)) n answered other none = tt
other_shut role past (Did (Start k)) n answered other none = by (k == n) refl
  where
    by : (b : Bool) → (k == n) ≡ b → (k == n) ≡ false
    by true is =
        absurd (let own : is_own role k ≡ true = ap (is_own role) answered.0.1 ∙ own_next role past answered.1 in
        let e : true ≡ false = sym own ∙ ap (is_own role) (eqb-true k n is) ∙ other in cc)
    by false is = is
other_shut role past (Did (Write k pieces)) n answered other none = tt
other_shut role past (Did (Taken k count)) n answered other none = tt
other_shut role past (Did (Close k)) n answered other none = tt
other_shut role past (Did (Reset k)) n answered other none = tt
other_shut role past (Did (Act.GoAway code)) n answered other none = tt

syn_grows : (n : ℕ) (x : Item) (past : List Item) → total (syn_of n) (arrivals past) ≤ total (syn_of n) (arrivals (x ∷ past))
syn_grows n (Came x) past = omega arith
syn_grows n (Did act) past = omega arith

pub other_silent : (role : Role) (past : List Item) (n : ℕ) → AreAnswered role past → is_own role n ≡ false → total (syn_of n) (arrivals past) ≡ 0 → total (head_of n) (sent role past) ≡ 0
other_silent role [] n answered other none = refl
other_silent role (x ∷ past) n answered other none =
    let before = past_answered role x past answered in
    let less = syn_grows n x past in
    let rest = other_silent role past n before other (omega arith) in
    let few = other_openings role n past other before in
    let here = silent role past x n (sent role past) answered (never_live role past n (omega arith)) (other_shut role past x n answered other none) in
    omega arith

-- ---- the order of what is sent

-- a head that ends the sender's direction of n
abbrev pub fin_of : ℕ → Arrival → ℕ
fin_of n (Head h) = cond (h.stream == n && (is_of_stream h && fin h)) 1 0
fin_of n (Byte b) = 0
fin_of n Tail = 0
fin_of n (Garbled bytes) = 0

-- nothing of a stream stands before its SYN, and no data at its FIN or behind it
abbrev pub IsInTurn : Arrival → List Arrival → Type 0
IsInTurn (Head h) older = (is_of_stream h && syn h ≡ true → total (head_of h.stream) older ≡ 0) × (is_data h.kind ≡ true → total (fin_of h.stream) (Head h ∷ older) ≡ 0)
IsInTurn x older = Unit {0}

abbrev pub AreInTurn : List Arrival → Type 0
AreInTurn [] = Unit {0}
AreInTurn (x ∷ older) = IsInTurn x older × AreInTurn older

pub older_turn : (newer : List Arrival) (older : List Arrival) → AreInTurn (newer ++ older) → AreInTurn older
older_turn [] older are = are
older_turn (x ∷ newer) older are = older_turn newer older are.1

abbrev closings : ℕ → List Item → Item → ℕ
closings n past x = cond (closes x n) 1 0

closed_of_live : (role : Role) (n : ℕ) → IsOfLive role n (closings n)
closed_of_live role n past (Did (Close k)) answered off = ap (λ b. cond b 1 0) (apart_if role past n k (k == n) refl (live_unless (is_live role past k) (closed role past k) answered.0) off)
closed_of_live role n past (Did (Start k)) answered off = refl
closed_of_live role n past (Did (Write k pieces)) answered off = refl
closed_of_live role n past (Did (Taken k count)) answered off = refl
closed_of_live role n past (Did (Reset k)) answered off = refl
closed_of_live role n past (Did (Act.GoAway code)) answered off = refl
closed_of_live role n past (Came x) answered off = refl

no_fin : (n k flags len : ℕ) (kind : FrameKind) → (is_of_stream (header kind flags k len) && fin (header kind flags k len)) ≡ false → fin_of n (Head (header kind flags k len)) ≡ 0
no_fin n k flags len kind off = ap (λ c. cond ((k == n) && c) 1 0) off ∙ ap (λ c. cond c 1 0) (and_false (k == n))

flag_fin : (b : Bool) (k : ℕ) → (is_of_stream (header Window (cond b 2 8) k 0) && fin (header Window (cond b 2 8) k 0)) ≡ false
flag_fin true k = refl
flag_fin false k = refl

fins_on : (n : ℕ) (role : Role) (past : List Item) (x : Item) (xs : List Arrival) → total (fin_of n) (sent_on role past x xs) ≡ total (fin_of n) xs + closings n past x
fins_on n role past (Came (Head h)) xs =
    let opened : Bool = opens role past (Came (Head h)) h.stream in
    let e = same_total (fin_of n) (not (syn h)) xs _ xs refl
    (same_total (fin_of n) (is_ping h.kind) (bare Ping 2 0 h.length xs) _ xs (let none = no_fin n 0 2 h.length Ping refl in omega arith)
    (same_total (fin_of n) (not (is_of_stream h)) xs (bare Window (cond opened 2 8) h.stream 0 xs) xs refl (let none = no_fin n h.stream (cond opened 2 8) 0 Window (flag_fin opened h.stream) in omega arith))) in
    omega arith
fins_on n role past (Came (Byte b)) xs = omega arith
fins_on n role past (Came Tail) xs = omega arith
fins_on n role past (Came (Garbled bytes)) xs = omega arith
fins_on n role past (Did (Start k)) xs = let none = no_fin n k 1 0 Window refl in omega arith
fins_on n role past (Did (Write k pieces)) xs = let e = data_else (fin_of n) k (λ b. refl) refl (λ len. no_fin n k 0 len Payload (and_false true)) pieces xs in omega arith
fins_on n role past (Did (Taken k count)) xs =
    let amount : ℕ = given_back role k past (Did (Taken k count)) in
    let e = same_total (fin_of n) (nat_lt 0 amount) (bare Window 0 k amount xs) xs xs (let none = no_fin n k 0 amount Window refl in omega arith) refl in omega arith
fins_on n role past (Did (Close k)) xs = let one : fin_of n (Head (header Window 4 k 0)) ≡ cond (k == n) 1 0 = ap (λ b. cond b 1 0) (and_true (k == n)) in omega arith
fins_on n role past (Did (Reset k)) xs = let none = no_fin n k 8 0 Window refl in omega arith
fins_on n role past (Did (Act.GoAway code)) xs = let none = no_fin n 0 0 code GoAway refl in omega arith

fins_sent : (n : ℕ) (role : Role) (past : List Item) → total (fin_of n) (sent role past) ≡ all_time (closings n) past
fins_sent n role [] = refl
fins_sent n role (x ∷ past) = let here = fins_on n role past x (sent role past) in let rest = fins_sent n role past in omega arith

-- a direction that isn't closed has sent no FIN
open_at : (role : Role) (past : List Item) (x : Item) (n : ℕ) (o l : Bool) → opens role past x n ≡ o → is_live role past n ≡ l → AreAnswered role (x ∷ past) → all_time (openings role n) (x ∷ past) ≤ 1
    → is_live role (x ∷ past) n ≡ true → closed role (x ∷ past) n ≡ false → (is_live role past n ≡ true → closed role past n ≡ false → all_time (closings n) past ≡ 0)
    → all_time (closings n) (x ∷ past) ≡ 0
open_at role past x n true l is was answered once on shut before =
    let one : openings role n past x ≡ 1 = ap (λ b. cond b 1 0) is in
    let rest = never_any role n (closings n) (closed_of_live role n) past (past_answered role x past answered) (omega arith) in
    let here = opening_closes x is in omega arith
  where
    opening_closes : (x : Item) → opens role past x n ≡ true → closings n past x ≡ 0
    opening_closes (Did (Close k)) is = absurd cc
    opening_closes (Did (Start k)) is = refl
    opening_closes (Did (Write k pieces)) is = refl
    opening_closes (Did (Taken k count)) is = refl
    opening_closes (Did (Reset k)) is = refl
    opening_closes (Did (Act.GoAway code)) is = refl
    opening_closes (Came y) is = refl
open_at role past x n false false is was answered once on shut before = absurd (let e : true ≡ false = sym (was_or_opens role x past n on was) ∙ is in cc)
open_at role past x n false true is was answered once on shut before =
    let both : (closes x n ≡ false) × (closed role past n ≡ false) = or_parts (closes x n) (closed role past n) (sym (ap (λ b. not b && (closes x n || closed role past n)) is) ∙ shut) in
    let here : closings n past x ≡ 0 = ap (λ b. cond b 1 0) both.0 in
    let rest = before was both.1 in omega arith

open_sends : (role : Role) (past : List Item) (n : ℕ) → AreAnswered role past → all_time (openings role n) past ≤ 1 → is_live role past n ≡ true → closed role past n ≡ false → all_time (closings n) past ≡ 0
open_sends role [] n answered once on shut = refl
open_sends role (x ∷ past) n answered once on shut =
    open_at role past x n (opens role past x n) (is_live role past n) refl refl answered once on shut (open_sends role past n (past_answered role x past answered) (omega arith))

-- ---- all that is sent is in turn

bare_turn : (kind : FrameKind) (flags k len : ℕ) (xs : List Arrival) → IsInTurn (Head (header kind flags k len)) xs → AreInTurn xs → AreInTurn (bare kind flags k len xs)
bare_turn kind flags k len xs here are = (tt, (here, are))

bytes_turn : (bytes : List ℕ) (xs : List Arrival) → AreInTurn xs → AreInTurn (with_bytes bytes xs)
bytes_turn [] xs are = are
bytes_turn (b ∷ bytes) xs are = bytes_turn bytes (Byte b ∷ xs) (tt, are)

data_turn : (k : ℕ) (pieces : List (List ℕ)) (xs : List Arrival) → total (fin_of k) xs ≡ 0 → AreInTurn xs → AreInTurn (data_on k pieces xs)
data_turn k [] xs none are = are
data_turn k (piece ∷ pieces) xs none are =
    let h : Header = header Payload 0 k (length piece) in
    let bytes = bytes_total (fin_of k) (λ b. refl) piece (Head h ∷ xs) in
    let head : fin_of k (Head h) ≡ 0 = ap (λ b. cond b 1 0) (and_false (k == k)) in
    data_turn k pieces (Tail ∷ with_bytes piece (Head h ∷ xs)) (omega arith) (tt, bytes_turn piece (Head h ∷ xs) (((λ e. absurd cc), (λ e. omega arith)), are))

if_turn : (b : Bool) (us vs : List Arrival) → AreInTurn us → AreInTurn vs → AreInTurn (cond b us vs)
if_turn true us vs u v = u
if_turn false us vs u v = v

flag_syn : (b : Bool) (k : ℕ) → (is_of_stream (header Window (cond b 2 8) k 0) && syn (header Window (cond b 2 8) k 0)) ≡ false
flag_syn true k = refl
flag_syn false k = refl

turn_on : (role : Role) (past : List Item) (x : Item) → AreAnswered role (x ∷ past) → HasNoFault role (x ∷ past) → ((n : ℕ) → all_time (openings role n) past ≤ 1)
    → AreInTurn (sent role past) → AreInTurn (sent_on role past x (sent role past))
turn_on role past (Came (Head h)) answered good once are =
    let opened : Bool = opens role past (Came (Head h)) h.stream in
    let xs : List Arrival = sent role past in
    if_turn (not (syn h)) xs _ are
    (if_turn (is_ping h.kind) (bare Ping 2 0 h.length xs) _ (bare_turn Ping 2 0 h.length xs ((λ e. absurd cc), (λ e. absurd cc)) are)
    (if_turn (not (is_of_stream h)) xs (bare Window (cond opened 2 8) h.stream 0 xs) are
    (bare_turn Window (cond opened 2 8) h.stream 0 xs ((λ e. absurd (let f : true ≡ false = sym e ∙ flag_syn opened h.stream in cc)), (λ e. absurd cc)) are)))
turn_on role past (Came (Byte b)) answered good once are = are
turn_on role past (Came Tail) answered good once are = are
turn_on role past (Came (Garbled bytes)) answered good once are = are
turn_on role past (Did (Start k)) answered good once are =
    let own : is_own role k ≡ true = ap (is_own role) answered.0.1 ∙ own_next role past answered.1 in
    let none = none_unless (all_time (starts k) past) (λ some. let lt = started_below role k past answered.1 some in let e = answered.0.1 in absurd (omega arith)) in
    bare_turn Window 1 k 0 (sent role past) ((λ e. own_silent role past k answered.1 good.1 own none), (λ e. absurd cc)) are
turn_on role past (Did (Write k pieces)) answered good once are =
    let on = live_unless (is_live role past k) (closed role past k) answered.0.0 in
    let none = open_sends role past k answered.1 (once k) on (not_closed (is_live role past k) (closed role past k) answered.0.0) in
    data_turn k pieces (sent role past) (fins_sent k role past ∙ none) are
  where
    not_closed : (b c : Bool) → cond b (cond c (Some Ended) None) (Some NoStream) ≡ None → c ≡ false
    not_closed true true e = absurd cc
    not_closed true false e = refl
    not_closed false c e = absurd cc
turn_on role past (Did (Taken k count)) answered good once are =
    let amount : ℕ = given_back role k past (Did (Taken k count)) in
    if_turn (nat_lt 0 amount) (bare Window 0 k amount (sent role past)) (sent role past) (bare_turn Window 0 k amount (sent role past) ((λ e. absurd cc), (λ e. absurd cc)) are) are
turn_on role past (Did (Close k)) answered good once are = bare_turn Window 4 k 0 (sent role past) ((λ e. absurd cc), (λ e. absurd cc)) are
turn_on role past (Did (Reset k)) answered good once are = bare_turn Window 8 k 0 (sent role past) ((λ e. absurd cc), (λ e. absurd cc)) are
turn_on role past (Did (Act.GoAway code)) answered good once are = bare_turn GoAway 0 0 code (sent role past) ((λ e. absurd cc), (λ e. absurd cc)) are

pub sent_turn : (role : Role) (past : List Item) → AreAnswered role past → HasNoFault role past → ((n : ℕ) → all_time (openings role n) past ≤ 1) → AreInTurn (sent role past)
sent_turn role [] answered good once = tt
sent_turn role (x ∷ past) answered good once =
    turn_on role past x answered good (λ n. let all = once n in omega arith)
    (sent_turn role past (past_answered role x past answered) good.1 (λ n. let all = once n in omega arith))
