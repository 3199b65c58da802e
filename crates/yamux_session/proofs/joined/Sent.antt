-- What a session without a fault has sent, as it will arrive.
use Rattle.std.proofs.Common.{◌≡◌, ℕ, Bool, true, false, not, nat_lt, cond, List, [], ◌∷◌, ◌++◌, length, refl, sym, ap, ◌∙◌, append_assoc}
use Rattle.std.proofs.lemmas.List.{append-nil}
use Rattle.std.specs.List.{flat_map}
use Rattle.yamux_frames.specs.declared.header.Header.{Header}
use Rattle.yamux_frames.specs.declared.header.FrameKind.{FrameKind}
use Rattle.yamux_frames.specs.declared.header.FrameKind.TheVariants.{Payload, Window, Ping, GoAway}
use Rattle.yamux_frames.specs.Frames.{Arrival, spelled, with_bytes}
use Rattle.yamux_frames.specs.Frames.Arrival.{Head, Byte, Tail, Garbled}
use Rattle.yamux_frames.proofs.Frames.{bytes_spelled}
use Rattle.yamux_session.specs.declared.event.Role.{Role}
use Rattle.yamux_session.specs.History.{Item, syn, is_ping, is_of_stream, Act}
use Rattle.yamux_session.specs.History.Item.{Came, Did}
use Rattle.yamux_session.specs.History.Act.{Start, Write, Taken, Close, Reset}
use Rattle.yamux_session.specs.Openings.{opens}
use Rattle.yamux_session.specs.Windows.{given_back}
use Rattle.yamux_session.specs.Faults.{HasNoFault}
use Rattle.yamux_session.specs.Output.{output, output_unless, item_output, frame, data_frame}

-- a frame without payload, and frames of data, behind others
abbrev pub header : FrameKind → ℕ → ℕ → ℕ → Header
header kind flags stream len = record { kind = kind; flags = flags; stream = stream; length = len }

abbrev pub bare : FrameKind → ℕ → ℕ → ℕ → List Arrival → List Arrival
bare kind flags stream len xs = Tail ∷ Head (header kind flags stream len) ∷ xs

abbrev pub data_on : ℕ → List (List ℕ) → List Arrival → List Arrival
data_on n [] xs = xs
data_on n (piece ∷ pieces) xs = data_on n pieces (Tail ∷ with_bytes piece (Head (header Payload 0 n (length piece)) ∷ xs))

abbrev pub answer_on : Header → Bool → List Arrival → List Arrival
answer_on h opened xs =
    cond (not (syn h)) xs (cond (is_ping h.kind) (bare Ping 2 0 h.length xs) (cond (not (is_of_stream h)) xs (bare Window (cond opened 2 8) h.stream 0 xs)))

abbrev pub sent_on : Role → List Item → Item → List Arrival → List Arrival
sent_on role past (Came (Head h)) xs = answer_on h (opens role past (Came (Head h)) h.stream) xs
sent_on role past (Came (Byte b)) xs = xs
sent_on role past (Came Tail) xs = xs
sent_on role past (Came (Garbled bytes)) xs = xs
sent_on role past (Did (Start n)) xs = bare Window 1 n 0 xs
sent_on role past (Did (Write n pieces)) xs = data_on n pieces xs
sent_on role past (Did (Taken n count)) xs = cond (nat_lt 0 (given_back role n past (Did (Taken n count)))) (bare Window 0 n (given_back role n past (Did (Taken n count))) xs) xs
sent_on role past (Did (Close n)) xs = bare Window 4 n 0 xs
sent_on role past (Did (Reset n)) xs = bare Window 8 n 0 xs
sent_on role past (Did (Act.GoAway code)) xs = bare GoAway 0 0 code xs

abbrev pub sent : Role → List Item → List Arrival
sent role [] = []
sent role (x ∷ past) = sent_on role past x (sent role past)

-- ---- its bytes are the output

bare_spelled : (kind : FrameKind) (flags stream len : ℕ) (xs : List Arrival) → spelled (bare kind flags stream len xs) ≡ spelled xs ++ frame kind flags stream len
bare_spelled kind flags stream len xs = append-nil (spelled xs ++ frame kind flags stream len)

data_spelled : (n : ℕ) (pieces : List (List ℕ)) (xs : List Arrival) → spelled (data_on n pieces xs) ≡ spelled xs ++ flat_map (data_frame n) pieces
data_spelled n [] xs = sym (append-nil (spelled xs))
data_spelled n (piece ∷ pieces) xs =
    data_spelled n pieces (Tail ∷ with_bytes piece (Head (header Payload 0 n (length piece)) ∷ xs))
    ∙ ap (λ (t : List ℕ). t ++ flat_map (data_frame n) pieces)
    (append-nil (spelled (with_bytes piece (Head (header Payload 0 n (length piece)) ∷ xs))) ∙ bytes_spelled piece (Head (header Payload 0 n (length piece)) ∷ xs)
    ∙ append_assoc (spelled xs) (frame Payload 0 n (length piece)) piece)
    ∙ append_assoc (spelled xs) (data_frame n piece) (flat_map (data_frame n) pieces)

if_spelled : (b : Bool) (us vs xs : List Arrival) (ps qs : List ℕ) → spelled us ≡ spelled xs ++ ps → spelled vs ≡ spelled xs ++ qs → spelled (cond b us vs) ≡ spelled xs ++ cond b ps qs
if_spelled true us vs xs ps qs p q = p
if_spelled false us vs xs ps qs p q = q

bare_if : (b : Bool) (stream : ℕ) (xs : List Arrival) → spelled (bare Window (cond b 2 8) stream 0 xs) ≡ spelled xs ++ frame Window (cond b 2 8) stream 0
bare_if b stream xs = bare_spelled Window (cond b 2 8) stream 0 xs

sent_on_spelled : (role : Role) (past : List Item) (x : Item) (xs : List Arrival) → spelled (sent_on role past x xs) ≡ spelled xs ++ item_output role past x
sent_on_spelled role past (Came (Head h)) xs =
    let opened : Bool = opens role past (Came (Head h)) h.stream in
    if_spelled (not (syn h)) xs _ xs [] _ (sym (append-nil (spelled xs)))
    (if_spelled (is_ping h.kind) _ _ xs _ _ (bare_spelled Ping 2 0 h.length xs)
    (if_spelled (not (is_of_stream h)) xs _ xs [] _ (sym (append-nil (spelled xs))) (bare_if opened h.stream xs)))
sent_on_spelled role past (Came (Byte b)) xs = sym (append-nil (spelled xs))
sent_on_spelled role past (Came Tail) xs = sym (append-nil (spelled xs))
sent_on_spelled role past (Came (Garbled bytes)) xs = sym (append-nil (spelled xs))
sent_on_spelled role past (Did (Start n)) xs = bare_spelled Window 1 n 0 xs
sent_on_spelled role past (Did (Write n pieces)) xs = data_spelled n pieces xs
sent_on_spelled role past (Did (Taken n count)) xs =
    let amount : ℕ = given_back role n past (Did (Taken n count)) in
    if_spelled (nat_lt 0 amount) _ xs xs _ [] (bare_spelled Window 0 n amount xs) (sym (append-nil (spelled xs)))
sent_on_spelled role past (Did (Close n)) xs = bare_spelled Window 4 n 0 xs
sent_on_spelled role past (Did (Reset n)) xs = bare_spelled Window 8 n 0 xs
sent_on_spelled role past (Did (Act.GoAway code)) xs = bare_spelled GoAway 0 0 code xs

pub sent_spelled : (role : Role) (past : List Item) → HasNoFault role past → spelled (sent role past) ≡ output role past
sent_spelled role [] good = refl
sent_spelled role (x ∷ past) good =
    sent_on_spelled role past x (sent role past)
    ∙ ap (λ (t : List ℕ). t ++ item_output role past x) (sent_spelled role past good.1)
    ∙ ap (λ f. output role past ++ output_unless f (item_output role past x)) (sym good.0)

-- ---- behind what has arrived

bytes_behind : (bytes : List ℕ) (xs ys : List Arrival) → with_bytes bytes (xs ++ ys) ≡ with_bytes bytes xs ++ ys
bytes_behind [] xs ys = refl
bytes_behind (b ∷ bytes) xs ys = bytes_behind bytes (Byte b ∷ xs) ys

data_behind : (n : ℕ) (pieces : List (List ℕ)) (xs ys : List Arrival) → data_on n pieces (xs ++ ys) ≡ data_on n pieces xs ++ ys
data_behind n [] xs ys = refl
data_behind n (piece ∷ pieces) xs ys =
    ap (λ (t : List Arrival). data_on n pieces (Tail ∷ t)) (bytes_behind piece (Head (header Payload 0 n (length piece)) ∷ xs) ys)
    ∙ data_behind n pieces (Tail ∷ with_bytes piece (Head (header Payload 0 n (length piece)) ∷ xs)) ys

if_behind : (b : Bool) (us vs ps qs ys : List Arrival) → us ≡ ps ++ ys → vs ≡ qs ++ ys → cond b us vs ≡ cond b ps qs ++ ys
if_behind true us vs ps qs ys p q = p
if_behind false us vs ps qs ys p q = q

pub sent_behind : (role : Role) (past : List Item) (x : Item) (xs ys : List Arrival) → sent_on role past x (xs ++ ys) ≡ sent_on role past x xs ++ ys
sent_behind role past (Came (Head h)) xs ys =
    if_behind (not (syn h)) _ _ xs _ ys refl (if_behind (is_ping h.kind) _ _ (bare Ping 2 0 h.length xs) _ ys refl
    (if_behind (not (is_of_stream h)) _ _ xs (bare Window (cond (opens role past (Came (Head h)) h.stream) 2 8) h.stream 0 xs) ys refl refl))
sent_behind role past (Came (Byte b)) xs ys = refl
sent_behind role past (Came Tail) xs ys = refl
sent_behind role past (Came (Garbled bytes)) xs ys = refl
sent_behind role past (Did (Start n)) xs ys = refl
sent_behind role past (Did (Write n pieces)) xs ys = data_behind n pieces xs ys
sent_behind role past (Did (Taken n count)) xs ys =
    let amount : ℕ = given_back role n past (Did (Taken n count)) in
    if_behind (nat_lt 0 amount) _ _ (bare Window 0 n amount xs) xs ys refl refl
sent_behind role past (Did (Close n)) xs ys = refl
sent_behind role past (Did (Reset n)) xs ys = refl
sent_behind role past (Did (Act.GoAway code)) xs ys = refl
