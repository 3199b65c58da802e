-- What all frames that a session has sent say of a stream, added up.
use Rattle.std.proofs.Common.{◌≡◌, ℕ, ◌+◌, Bool, true, false, not, ◌&&◌, ◌==◌, nat_lt, cond, List, [], ◌∷◌, ◌++◌, length, refl, sym, ap, ◌∙◌, arith}
use Rattle.std.specs.Prelude.{sum_by}
use Rattle.std.proofs.lemmas.Bool.{eqb-true, ltb-false}
use Rattle.std.proofs.lemmas.List.Sums.{sum_by-cons}
use Rattle.yamux_frames.specs.declared.header.Header.{Header}
use Rattle.yamux_frames.specs.declared.header.FrameKind.TheVariants.{Payload, Window, Ping, GoAway}
use Rattle.yamux_frames.specs.Frames.{Arrival, with_bytes}
use Rattle.yamux_frames.specs.Frames.Arrival.{Head, Byte, Tail, Garbled}
use Rattle.yamux_session.specs.declared.event.Role.{Role}
use Rattle.yamux_session.specs.History.{Item, syn, is_ping, is_of_stream, Act}
use Rattle.yamux_session.specs.History.Item.{Came, Did}
use Rattle.yamux_session.specs.History.Act.{Start, Write, Taken, Close, Reset}
use Rattle.yamux_session.specs.Openings.{opens}
use Rattle.yamux_session.specs.Windows.{given_back, written_length}
use Rattle.yamux_session.specs.Joined.{length_of_data, length_of_update}
use Rattle.yamux_session.proofs.Lists.{either_way}
use Rattle.yamux_session.proofs.Keeping.{and_true, and_false}
use Rattle.yamux_session.proofs.joined.Sent.{header, bare, data_on, answer_on, sent_on, sent}

-- the sum over a list of frames, and over the items of a session
abbrev pub total : (Arrival → ℕ) → List Arrival → ℕ
total f [] = 0
total f (x ∷ xs) = f x + total f xs

abbrev pub all_time : (List Item → Item → ℕ) → List Item → ℕ
all_time amount [] = 0
all_time amount (x ∷ past) = amount past x + all_time amount past

pub total_both : (f : Arrival → ℕ) (xs ys : List Arrival) → total f (xs ++ ys) ≡ total f xs + total f ys
total_both f [] ys = omega arith
total_both f (x ∷ xs) ys = let rest = total_both f xs ys in omega arith

-- a SYN head of the stream n
abbrev pub syn_of : ℕ → Arrival → ℕ
syn_of n (Head h) = cond (h.stream == n && (is_of_stream h && syn h)) 1 0
syn_of n (Byte b) = 0
syn_of n Tail = 0
syn_of n (Garbled bytes) = 0

abbrev pub starts : ℕ → List Item → Item → ℕ
starts n past (Did (Start k)) = cond (k == n) 1 0
starts n past x = 0

-- ---- the frames of one item

pub bytes_total : (f : Arrival → ℕ) → ((b : ℕ) → f (Byte b) ≡ 0) → (bytes : List ℕ) (xs : List Arrival) → total f (with_bytes bytes xs) ≡ total f xs
bytes_total f none [] xs = refl
bytes_total f none (b ∷ bytes) xs = let rest = bytes_total f none bytes (Byte b ∷ xs) in let here = none b in omega arith

data_by : (n m : ℕ) (b : Bool) → (m == n) ≡ b → (pieces : List (List ℕ)) (xs : List Arrival) → total (length_of_data n) (data_on m pieces xs) ≡ total (length_of_data n) xs + cond b (sum_by length pieces) 0
data_by n m true is [] xs = omega arith
data_by n m false is [] xs = omega arith
data_by n m true is (piece ∷ pieces) xs =
    let h : Header = header Payload 0 m (length piece) in
    let rest = data_by n m true is pieces (Tail ∷ with_bytes piece (Head h ∷ xs)) in
    let part = bytes_total (length_of_data n) (λ b. refl) piece (Head h ∷ xs) in
    let here : length_of_data n (Head h) ≡ length piece = ap (λ b. cond (b && true) (length piece) 0) is in
    omega (arith, sum_by-cons length piece pieces)
data_by n m false is (piece ∷ pieces) xs =
    let h : Header = header Payload 0 m (length piece) in
    let rest = data_by n m false is pieces (Tail ∷ with_bytes piece (Head h ∷ xs)) in
    let part = bytes_total (length_of_data n) (λ b. refl) piece (Head h ∷ xs) in
    let here : length_of_data n (Head h) ≡ 0 = ap (λ b. cond (b && true) (length piece) 0) is in
    omega arith

-- frames of data say nothing else
pub data_else : (f : Arrival → ℕ) (m : ℕ) → ((b : ℕ) → f (Byte b) ≡ 0) → f Tail ≡ 0 → ((len : ℕ) → f (Head (header Payload 0 m len)) ≡ 0)
    → (pieces : List (List ℕ)) (xs : List Arrival) → total f (data_on m pieces xs) ≡ total f xs
data_else f m none tail head [] xs = refl
data_else f m none tail head (piece ∷ pieces) xs =
    let h : Header = header Payload 0 m (length piece) in
    let rest = data_else f m none tail head pieces (Tail ∷ with_bytes piece (Head h ∷ xs)) in
    let part = bytes_total f none piece (Head h ∷ xs) in
    let here = head (length piece) in
    omega arith

pub same_total : (f : Arrival → ℕ) (b : Bool) (us vs xs : List Arrival) → total f us ≡ total f xs → total f vs ≡ total f xs → total f (cond b us vs) ≡ total f xs
same_total f true us vs xs e g = e
same_total f false us vs xs e g = g

no_data : (n flags stream len : ℕ) → length_of_data n (Head (header Window flags stream len)) ≡ 0
no_data n flags stream len = ap (λ b. cond b len 0) (and_false (stream == n))

no_update : (n flags stream : ℕ) → length_of_update n (Head (header Window flags stream 0)) ≡ 0
no_update n flags stream = either_way ((stream == n) && true) 0

-- the answer to a head is of no length, and no SYN
answer_data : (n : ℕ) (h : Header) (opened : Bool) (xs : List Arrival) → total (length_of_data n) (answer_on h opened xs) ≡ total (length_of_data n) xs
answer_data n h opened xs =
    same_total (length_of_data n) (not (syn h)) xs _ xs refl
    (same_total (length_of_data n) (is_ping h.kind) _ _ xs (let e : length_of_data n (Head (header Ping 2 0 h.length)) ≡ 0 = ap (λ b. cond b h.length 0) (and_false (0 == n)) in omega arith)
    (same_total (length_of_data n) (not (is_of_stream h)) xs _ xs refl (let e = no_data n (cond opened 2 8) h.stream 0 in omega arith)))

answer_update : (n : ℕ) (h : Header) (opened : Bool) (xs : List Arrival) → total (length_of_update n) (answer_on h opened xs) ≡ total (length_of_update n) xs
answer_update n h opened xs =
    same_total (length_of_update n) (not (syn h)) xs _ xs refl
    (same_total (length_of_update n) (is_ping h.kind) _ _ xs (let e : length_of_update n (Head (header Ping 2 0 h.length)) ≡ 0 = ap (λ b. cond b h.length 0) (and_false (0 == n)) in omega arith)
    (same_total (length_of_update n) (not (is_of_stream h)) xs _ xs refl (let e = no_update n (cond opened 2 8) h.stream in omega arith)))

answer_syn : (n : ℕ) (h : Header) (opened : Bool) (xs : List Arrival) → total (syn_of n) (answer_on h opened xs) ≡ total (syn_of n) xs
answer_syn n h opened xs =
    same_total (syn_of n) (not (syn h)) xs _ xs refl
    (same_total (syn_of n) (is_ping h.kind) _ _ xs (let e : syn_of n (Head (header Ping 2 0 h.length)) ≡ 0 = ap (λ b. cond b 1 0) (and_false (0 == n)) in omega arith)
    (same_total (syn_of n) (not (is_of_stream h)) xs _ xs refl (let e = answers opened in omega arith)))
  where
    answers : (opened : Bool) → syn_of n (Head (header Window (cond opened 2 8) h.stream 0)) ≡ 0
    answers true = ap (λ b. cond b 1 0) (and_false (h.stream == n))
    answers false = ap (λ b. cond b 1 0) (and_false (h.stream == n))

-- ---- of all items

data_sent_on : (n : ℕ) (role : Role) (past : List Item) (x : Item) (xs : List Arrival) → total (length_of_data n) (sent_on role past x xs) ≡ total (length_of_data n) xs + written_length n past x
data_sent_on n role past (Came (Head h)) xs = let e = answer_data n h (opens role past (Came (Head h)) h.stream) xs in omega arith
data_sent_on n role past (Came (Byte b)) xs = omega arith
data_sent_on n role past (Came Tail) xs = omega arith
data_sent_on n role past (Came (Garbled bytes)) xs = omega arith
data_sent_on n role past (Did (Start k)) xs = let e = no_data n 1 k 0 in omega arith
data_sent_on n role past (Did (Write k pieces)) xs = data_by n k (k == n) refl pieces xs
data_sent_on n role past (Did (Taken k count)) xs =
    let amount : ℕ = given_back role k past (Did (Taken k count)) in
    let e = same_total (length_of_data n) (nat_lt 0 amount) (bare Window 0 k amount xs) xs xs (let none = no_data n 0 k amount in omega arith) refl in omega arith
data_sent_on n role past (Did (Close k)) xs = let e = no_data n 4 k 0 in omega arith
data_sent_on n role past (Did (Reset k)) xs = let e = no_data n 8 k 0 in omega arith
data_sent_on n role past (Did (Act.GoAway code)) xs = let e : length_of_data n (Head (header GoAway 0 0 code)) ≡ 0 = ap (λ b. cond b code 0) (and_false (0 == n)) in omega arith

pub data_sent : (n : ℕ) (role : Role) (past : List Item) → total (length_of_data n) (sent role past) ≡ all_time (written_length n) past
data_sent n role [] = refl
data_sent n role (x ∷ past) = let here = data_sent_on n role past x (sent role past) in let rest = data_sent n role past in omega arith

take_update : (n k amount given : ℕ) (b : Bool) (xs : List Arrival) → (k == n) ≡ b → (b ≡ true → given ≡ amount) → (b ≡ false → given ≡ 0)
    → total (length_of_update n) (cond (nat_lt 0 amount) (bare Window 0 k amount xs) xs) ≡ total (length_of_update n) xs + given
take_update n k amount given b xs is on off = by (nat_lt 0 amount) refl b is on off
  where
    by : (c : Bool) → nat_lt 0 amount ≡ c → (b : Bool) → (k == n) ≡ b → (b ≡ true → given ≡ amount) → (b ≡ false → given ≡ 0)
        → total (length_of_update n) (cond c (bare Window 0 k amount xs) xs) ≡ total (length_of_update n) xs + given
    by true some true is on off = let e : length_of_update n (Head (header Window 0 k amount)) ≡ amount = ap (λ b. cond (b && true) amount 0) is in let g = on refl in omega arith
    by true some false is on off = let e : length_of_update n (Head (header Window 0 k amount)) ≡ 0 = ap (λ b. cond (b && true) amount 0) is in let g = off refl in omega arith
    by false none true is on off = let g = on refl in let zero = ltb-false 0 amount none in omega arith
    by false none false is on off = let g = off refl in omega arith

update_sent_on : (n : ℕ) (role : Role) (past : List Item) (x : Item) (xs : List Arrival) → total (length_of_update n) (sent_on role past x xs) ≡ total (length_of_update n) xs + given_back role n past x
update_sent_on n role past (Came (Head h)) xs = let e = answer_update n h (opens role past (Came (Head h)) h.stream) xs in omega arith
update_sent_on n role past (Came (Byte b)) xs = omega arith
update_sent_on n role past (Came Tail) xs = omega arith
update_sent_on n role past (Came (Garbled bytes)) xs = omega arith
update_sent_on n role past (Did (Start k)) xs = let e = no_update n 1 k in omega arith
update_sent_on n role past (Did (Write k pieces)) xs =
    let e = data_else (length_of_update n) k (λ b. refl) refl (λ len. ap (λ b. cond b len 0) (and_false (k == n))) pieces xs in omega arith
update_sent_on n role past (Did (Taken k count)) xs =
    take_update n k (given_back role k past (Did (Taken k count))) (given_back role n past (Did (Taken k count))) (k == n) xs refl
    (λ same. ap (λ m. given_back role m past (Did (Taken k count))) (sym (eqb-true k n same)))
    (λ other. ap (λ b. cond b (Rattle.yamux_session.specs.Windows.given_of (Rattle.yamux_session.specs.Openings.finished role past n) (Rattle.yamux_session.specs.Windows.owed role past n + count)) 0) other)
update_sent_on n role past (Did (Close k)) xs = let e = no_update n 4 k in omega arith
update_sent_on n role past (Did (Reset k)) xs = let e = no_update n 8 k in omega arith
update_sent_on n role past (Did (Act.GoAway code)) xs = let e : length_of_update n (Head (header GoAway 0 0 code)) ≡ 0 = ap (λ b. cond b code 0) (and_false (0 == n)) in omega arith

pub update_sent : (n : ℕ) (role : Role) (past : List Item) → total (length_of_update n) (sent role past) ≡ all_time (given_back role n) past
update_sent n role [] = refl
update_sent n role (x ∷ past) = let here = update_sent_on n role past x (sent role past) in let rest = update_sent n role past in omega arith

syn_none : (n flags k : ℕ) → (is_of_stream (header Window flags k 0) && syn (header Window flags k 0)) ≡ false → syn_of n (Head (header Window flags k 0)) ≡ 0
syn_none n flags k off = ap (λ c. cond ((k == n) && c) 1 0) off ∙ ap (λ c. cond c 1 0) (and_false (k == n))

syn_sent_on : (n : ℕ) (role : Role) (past : List Item) (x : Item) (xs : List Arrival) → total (syn_of n) (sent_on role past x xs) ≡ total (syn_of n) xs + starts n past x
syn_sent_on n role past (Came (Head h)) xs = let e = answer_syn n h (opens role past (Came (Head h)) h.stream) xs in omega arith
syn_sent_on n role past (Came (Byte b)) xs = omega arith
syn_sent_on n role past (Came Tail) xs = omega arith
syn_sent_on n role past (Came (Garbled bytes)) xs = omega arith
syn_sent_on n role past (Did (Start k)) xs = let e : syn_of n (Head (header Window 1 k 0)) ≡ cond (k == n) 1 0 = ap (λ b. cond b 1 0) (and_true (k == n)) in omega arith
syn_sent_on n role past (Did (Write k pieces)) xs =
    let e = data_else (syn_of n) k (λ b. refl) refl (λ len. ap (λ b. cond b 1 0) (and_false (k == n))) pieces xs in omega arith
syn_sent_on n role past (Did (Taken k count)) xs =
    let amount : ℕ = given_back role k past (Did (Taken k count)) in
    let e = same_total (syn_of n) (nat_lt 0 amount) (bare Window 0 k amount xs) xs xs (let none : syn_of n (Head (header Window 0 k amount)) ≡ 0 = ap (λ b. cond b 1 0) (and_false (k == n)) in omega arith) refl in omega arith
syn_sent_on n role past (Did (Close k)) xs = let e = syn_none n 4 k refl in omega arith
syn_sent_on n role past (Did (Reset k)) xs = let e = syn_none n 8 k refl in omega arith
syn_sent_on n role past (Did (Act.GoAway code)) xs = let e : syn_of n (Head (header GoAway 0 0 code)) ≡ 0 = ap (λ b. cond b 1 0) (and_false (0 == n)) in omega arith

pub syn_sent : (n : ℕ) (role : Role) (past : List Item) → total (syn_of n) (sent role past) ≡ all_time (starts n) past
syn_sent n role [] = refl
syn_sent n role (x ∷ past) = let here = syn_sent_on n role past x (sent role past) in let rest = syn_sent n role past in omega arith
