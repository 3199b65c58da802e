-- The data that arrives for a stream is a prefix of what was written on it.
use Rattle.std.proofs.Common.{◌≡◌, ℕ, ◌<◌, ◌≤◌, Bool, true, false, not, ◌||◌, ◌&&◌, ◌==◌, nat_lt, cond, List, [], ◌∷◌, ◌++◌, length, Option, Some, None, refl, sym, ap, ◌∙◌, subst, append_assoc, arith}
use Rattle.std.proofs.lemmas.List.{append-nil}
use Rattle.std.specs.List.{concat}
use mathlib.Core.List.{IsPrefix}
use Rattle.std.proofs.lemmas.Bool.{eqb-true}
use Rattle.yamux_frames.specs.declared.header.Header.{Header}
use Rattle.yamux_frames.specs.declared.header.FrameKind.{FrameKind}
use Rattle.yamux_frames.specs.declared.header.FrameKind.TheVariants.{Payload, Window, Ping, GoAway}
use Rattle.yamux_frames.specs.Spelling.{length_of}
use Rattle.yamux_frames.specs.Frames.{Arrival, bytes_left, with_bytes, AreFrames}
use Rattle.yamux_frames.specs.Frames.Arrival.{Head, Byte, Tail, Garbled}
use Rattle.yamux_session.specs.declared.event.Role.{Role}
use Rattle.yamux_session.specs.History.{Item, arrivals, syn, is_ping, is_of_stream, is_data, is_update, Act}
use Rattle.yamux_session.specs.History.Item.{Came, Did}
use Rattle.yamux_session.specs.History.Act.{Start, Write, Taken, Close, Reset}
use Rattle.yamux_session.specs.Openings.{live, is_live, contains, local_go_away, is_let_in, opens, reading, is_reading, finished, closed, byte_belongs}
use Rattle.yamux_session.specs.Windows.{given_back}
use Rattle.yamux_session.specs.Acts.{AreAnswered}
use Rattle.yamux_session.specs.Faults.{HasNoFault}
use Rattle.yamux_session.specs.Events.{when}
use Rattle.yamux_session.specs.Data.{inbound, byte_at, written_by, written}
use Rattle.yamux_session.proofs.Lists.{either_way, and_parts}
use Rattle.yamux_session.proofs.Live.{past_answered, was_or_opens}
use Rattle.yamux_session.proofs.Keeping.{quiet}
use Rattle.yamux_session.proofs.Untaken.{live_unless}
use Rattle.yamux_session.proofs.joined.Sent.{header, bare, data_on, sent_on, sent}
use Rattle.yamux_session.proofs.joined.Totals.{total, all_time}
use Rattle.yamux_session.proofs.joined.Once.{openings, never_live}
use Rattle.yamux_session.proofs.joined.InTurn.{head_of, fin_of, AreInTurn}
use Rattle.yamux_session.proofs.joined.Coming.{NoneBefore, head_at, reading_head, for_it, finished_came}

-- the bytes of Data of the stream n
abbrev pub bytes_of : ℕ → List Arrival → List ℕ
bytes_of n [] = []
bytes_of n (Byte b ∷ xs) = bytes_of n xs ++ cond (is_reading (head_at xs) n) (b ∷ []) []
bytes_of n (Head h ∷ xs) = bytes_of n xs
bytes_of n (Tail ∷ xs) = bytes_of n xs
bytes_of n (Garbled bytes ∷ xs) = bytes_of n xs

-- ---- what is sent

bytes_if : (b : Bool) (x : ℕ) (xs : List ℕ) → cond b (x ∷ []) [] ++ cond b xs [] ≡ cond b (x ∷ xs) []
bytes_if true x xs = refl
bytes_if false x xs = refl

bytes_with : (n : ℕ) (bytes : List ℕ) (xs : List Arrival) → bytes_of n (with_bytes bytes xs) ≡ bytes_of n xs ++ cond (is_reading (head_at xs) n) bytes []
bytes_with n [] xs = sym (append-nil (bytes_of n xs)) ∙ ap (λ (t : List ℕ). bytes_of n xs ++ t) (sym (either_way (is_reading (head_at xs) n) []))
bytes_with n (b ∷ bytes) xs =
    bytes_with n bytes (Byte b ∷ xs)
    ∙ append_assoc (bytes_of n xs) (cond (is_reading (head_at xs) n) (b ∷ []) []) (cond (is_reading (head_at xs) n) bytes [])
    ∙ ap (λ (t : List ℕ). bytes_of n xs ++ t) (bytes_if (is_reading (head_at xs) n) b bytes)

both_if : (b : Bool) (ps qs : List ℕ) → cond b ps [] ++ cond b qs [] ≡ cond b (ps ++ qs) []
both_if true ps qs = refl
both_if false ps qs = refl

data_bytes : (n k : ℕ) (pieces : List (List ℕ)) (xs : List Arrival) → bytes_of n (data_on k pieces xs) ≡ bytes_of n xs ++ cond (k == n) (concat pieces) []
data_bytes n k [] xs = sym (append-nil (bytes_of n xs)) ∙ ap (λ (t : List ℕ). bytes_of n xs ++ t) (sym (either_way (k == n) []))
data_bytes n k (piece ∷ pieces) xs =
    let h : Header = header Payload 0 k (length piece) in
    data_bytes n k pieces (Tail ∷ with_bytes piece (Head h ∷ xs))
    ∙ ap (λ (t : List ℕ). t ++ cond (k == n) (concat pieces) []) (bytes_with n piece (Head h ∷ xs))
    ∙ append_assoc (bytes_of n xs) (cond (k == n) piece []) (cond (k == n) (concat pieces) [])
    ∙ ap (λ (t : List ℕ). bytes_of n xs ++ t) (both_if (k == n) piece (concat pieces))

same_bytes : (n : ℕ) (b : Bool) (us vs xs : List Arrival) → bytes_of n us ≡ bytes_of n xs → bytes_of n vs ≡ bytes_of n xs → bytes_of n (cond b us vs) ≡ bytes_of n xs
same_bytes n true us vs xs e g = e
same_bytes n false us vs xs e g = g

bytes_on : (n : ℕ) (role : Role) (past : List Item) (x : Item) (xs : List Arrival) → bytes_of n (sent_on role past x xs) ≡ bytes_of n xs ++ written_by n x
bytes_on n role past (Came (Head h)) xs =
    let opened : Bool = opens role past (Came (Head h)) h.stream in
    same_bytes n (not (syn h)) xs _ xs refl
    (same_bytes n (is_ping h.kind) (bare Ping 2 0 h.length xs) _ xs refl (same_bytes n (not (is_of_stream h)) xs (bare Window (cond opened 2 8) h.stream 0 xs) xs refl refl))
    ∙ sym (append-nil (bytes_of n xs))
bytes_on n role past (Came (Byte b)) xs = sym (append-nil (bytes_of n xs))
bytes_on n role past (Came Tail) xs = sym (append-nil (bytes_of n xs))
bytes_on n role past (Came (Garbled bytes)) xs = sym (append-nil (bytes_of n xs))
bytes_on n role past (Did (Start k)) xs = sym (append-nil (bytes_of n xs))
bytes_on n role past (Did (Write k pieces)) xs = data_bytes n k pieces xs
bytes_on n role past (Did (Taken k count)) xs =
    let amount : ℕ = given_back role k past (Did (Taken k count)) in
    same_bytes n (nat_lt 0 amount) (bare Window 0 k amount xs) xs xs refl refl ∙ sym (append-nil (bytes_of n xs))
bytes_on n role past (Did (Close k)) xs = sym (append-nil (bytes_of n xs))
bytes_on n role past (Did (Reset k)) xs = sym (append-nil (bytes_of n xs))
bytes_on n role past (Did (Act.GoAway code)) xs = sym (append-nil (bytes_of n xs))

-- nothing is written on a stream that was never opened
none_written : (role : Role) (past : List Item) (x : Item) (n : ℕ) → AreAnswered role (x ∷ past) → is_live role past n ≡ false → written_by n x ≡ []
none_written role past (Did (Write k pieces)) n answered off = by (k == n) refl
  where
    by : (b : Bool) → (k == n) ≡ b → cond (k == n) (concat pieces) [] ≡ []
    by true is =
        absurd (let on : is_live role past k ≡ true = live_unless (is_live role past k) (closed role past k) answered.0.0 in
        let e : true ≡ false = sym on ∙ ap (is_live role past) (eqb-true k n is) ∙ off in cc)
    by false is = ap (λ b. cond b (concat pieces) []) is
none_written role past (Did (Start k)) n answered off = refl
none_written role past (Did (Taken k count)) n answered off = refl
none_written role past (Did (Close k)) n answered off = refl
none_written role past (Did (Reset k)) n answered off = refl
none_written role past (Did (Act.GoAway code)) n answered off = refl
none_written role past (Came x) n answered off = refl

never_sent : (role : Role) (past : List Item) (n : ℕ) → AreAnswered role past → all_time (openings role n) past ≡ 0 → bytes_of n (sent role past) ≡ []
never_sent role [] n answered none = refl
never_sent role (x ∷ past) n answered none =
    bytes_on n role past x (sent role past)
    ∙ ap (λ (t : List ℕ). t ++ written_by n x) (never_sent role past n (past_answered role x past answered) (omega arith))
    ∙ none_written role past x n answered (never_live role past n (omega arith))

sent_once : (role : Role) (past : List Item) (x : Item) (n : ℕ) (b : Bool) → opens role past x n ≡ b → all_time (openings role n) (x ∷ past) ≤ 1 → AreAnswered role past
    → bytes_of n (sent role past) ≡ written role past n → bytes_of n (sent role past) ≡ cond (opens role past x n) [] (written role past n)
sent_once role past x n true is once answered rest =
    let one : openings role n past x ≡ 1 = ap (λ b. cond b 1 0) is in
    never_sent role past n answered (omega arith) ∙ sym (ap (λ b. cond b [] (written role past n)) is)
sent_once role past x n false is once answered rest = rest ∙ sym (ap (λ b. cond b [] (written role past n)) is)

pub sent_written : (role : Role) (past : List Item) (n : ℕ) → AreAnswered role past → all_time (openings role n) past ≤ 1 → bytes_of n (sent role past) ≡ written role past n
sent_written role [] n answered once = refl
sent_written role (x ∷ past) n answered once =
    let before = past_answered role x past answered in
    bytes_on n role past x (sent role past)
    ∙ ap (λ (t : List ℕ). t ++ written_by n x) (sent_once role past x n (opens role past x n) refl once before (sent_written role past n before (omega arith)))

-- ---- what has come is a prefix of it

pub prefix_on : (xs ys zs : List ℕ) → IsPrefix xs ys → IsPrefix xs (ys ++ zs)
prefix_on xs ys zs p = (p.0 ++ zs, sym (append_assoc xs p.0 zs) ∙ ap (λ (t : List ℕ). t ++ zs) p.1)

pub older_bytes : (n : ℕ) (newer older : List Arrival) → IsPrefix (bytes_of n older) (bytes_of n (newer ++ older))
older_bytes n [] older = ([], append-nil (bytes_of n older))
older_bytes n (Byte b ∷ newer) older = prefix_on (bytes_of n older) (bytes_of n (newer ++ older)) (cond (is_reading (head_at (newer ++ older)) n) (b ∷ []) []) (older_bytes n newer older)
older_bytes n (Head h ∷ newer) older = older_bytes n newer older
older_bytes n (Tail ∷ newer) older = older_bytes n newer older
older_bytes n (Garbled bytes ∷ newer) older = older_bytes n newer older

-- ---- what belongs

payload_kind : (k : FrameKind) (len : ℕ) → 0 < length_of k len → (is_data k || is_update k) ≡ true
payload_kind Payload len some = refl
payload_kind Window len some = refl
payload_kind Ping len some = absurd (omega arith)
payload_kind GoAway len some = absurd (omega arith)

data_kind : (k : FrameKind) (len : ℕ) → 0 < length_of k len → is_data k ≡ true
data_kind Payload len some = refl
data_kind Window len some = absurd (omega arith)
data_kind Ping len some = absurd (omega arith)
data_kind GoAway len some = absurd (omega arith)

-- a frame with a payload that is being read has its head among those that came
head_in : (n : ℕ) (xs : List Arrival) → 0 < bytes_left xs → is_reading (head_at xs) n ≡ true → 0 < total (head_of n) xs
head_in n [] some is = absurd (omega arith)
head_in n (Head h ∷ xs) some is = let one : head_of n (Head h) ≡ 1 = ap (λ b. cond (b && is_of_stream h) 1 0) is ∙ ap (λ b. cond b 1 0) (payload_kind h.kind h.length some) in omega arith
head_in n (Byte b ∷ xs) some is = let rest = head_in n xs (omega arith) is in omega arith
head_in n (Tail ∷ xs) some is = absurd (omega arith)
head_in n (Garbled bytes ∷ xs) some is = absurd (omega arith)

-- no frame of a stream that wasn't opened yet is being read
not_before : (role : Role) (past : List Item) (x : Item) (n : ℕ) (b : Bool) → is_live role past n ≡ b → NoneBefore role n (x ∷ past) → is_live role (x ∷ past) n ≡ true
    → 0 < bytes_left (arrivals past) → is_reading (head_at (arrivals past)) n ≡ true → is_live role past n ≡ true
not_before role past x n true was none now some is = was
not_before role past x n false was none now some is =
    absurd (let zero = none.0 (was_or_opens role x past n now was) in let one = head_in n (arrivals past) some is in omega arith)

-- the frame of a live stream is read for it
pub reads_for : (role : Role) (past : List Item) (n : ℕ) → HasNoFault role past → NoneBefore role n past → is_live role past n ≡ true → 0 < bytes_left (arrivals past)
    → is_reading (head_at (arrivals past)) n ≡ true → is_reading (reading role past) n ≡ true
reads_for role [] n good none now some is = absurd (omega arith)
reads_for role (Did act ∷ past) n good none now some is =
    reads_for role past n good.1 none.1 (not_before role past (Did act) n (is_live role past n) refl none now some is) some is
reads_for role (Came (Head h) ∷ past) n good none now some is =
    ap (λ b. is_reading (cond b (Some h) None) n)
    (for_it role past h n good.0 now (eqb-true h.stream n is) (payload_kind h.kind h.length some) (syn h) (is_let_in role (live role past) (local_go_away past) h) refl refl) ∙ is
reads_for role (Came (Byte b) ∷ past) n good none now some is =
    reads_for role past n good.1 none.1 (sym (ap (λ ns. contains ns n) (quiet (live role past))) ∙ now) (omega arith) is
reads_for role (Came Tail ∷ past) n good none now some is = absurd (omega arith)
reads_for role (Came (Garbled bytes) ∷ past) n good none now some is = absurd (omega arith)

head_if : (role : Role) (past : List Item) (n : ℕ) (r : Option Header) → reading role past ≡ r → is_reading r n ≡ true → is_reading (head_at (arrivals past)) n ≡ true
head_if role past n None e is = absurd cc
head_if role past n (Some h) e is = ap (λ t. is_reading t n) (reading_head role past h e).0 ∙ is

no_bytes : (n : ℕ) (xs : List Arrival) → AreFrames xs → total (head_of n) xs ≡ 0 → bytes_of n xs ≡ []
no_bytes n [] frames none = refl
no_bytes n (Byte b ∷ xs) frames none =
    ap (λ (t : List ℕ). t ++ cond (is_reading (head_at xs) n) (b ∷ []) []) (no_bytes n xs frames.1 (omega arith)) ∙ off (is_reading (head_at xs) n) refl
  where
    off : (c : Bool) → is_reading (head_at xs) n ≡ c → cond (is_reading (head_at xs) n) (b ∷ []) [] ≡ []
    off true is = absurd (let one = head_in n xs frames.0 is in omega arith)
    off false is = ap (λ t. cond t (b ∷ []) []) is
no_bytes n (Head h ∷ xs) frames none = no_bytes n xs frames.2 (omega arith)
no_bytes n (Tail ∷ xs) frames none = no_bytes n xs frames.2 (omega arith)
no_bytes n (Garbled bytes ∷ xs) frames none = no_bytes n xs frames.2 (omega arith)

-- while data of a stream comes, no FIN of it has come
pub data_open : (n : ℕ) (xs : List Arrival) → AreInTurn xs → 0 < bytes_left xs → is_reading (head_at xs) n ≡ true → total (fin_of n) xs ≡ 0
data_open n [] turn some is = absurd (omega arith)
data_open n (Head h ∷ xs) turn some is = subst (λ m. total (fin_of m) (Head h ∷ xs) ≡ 0) (eqb-true h.stream n is) (turn.0.1 (data_kind h.kind h.length some))
data_open n (Byte b ∷ xs) turn some is = let rest = data_open n xs turn.1 (omega arith) is in omega arith
data_open n (Tail ∷ xs) turn some is = absurd (omega arith)
data_open n (Garbled bytes ∷ xs) turn some is = absurd (omega arith)

-- what arrived for a stream is a prefix of its data that came, and all of it while it is live
pub record IsDelivered (role : Role) (n : ℕ) (past : List Item) : Type 0 where
  pub prefix : IsPrefix (inbound role past n) (bytes_of n (arrivals past))
  pub whole : is_live role past n ≡ true → inbound role past n ≡ bytes_of n (arrivals past)

prefix_all : (xs ys : List ℕ) → xs ≡ ys → IsPrefix xs ys
prefix_all xs ys e = ([], append-nil xs ∙ e)

byte_in : (role : Role) (past : List Item) (b n : ℕ) (c : Bool) → byte_belongs role past n ≡ c → HasNoFault role past → NoneBefore role n past → AreInTurn (arrivals past) → 0 < bytes_left (arrivals past)
    → IsDelivered role n past → IsDelivered role n (Came (Byte b) ∷ past)
byte_in role past b n true is good none turn some before =
    let parts = and_parts (is_reading (reading role past) n && is_live role past n) (not (finished role past n)) is in
    let both = and_parts (is_reading (reading role past) n) (is_live role past n) parts.0 in
    let head = head_if role past n (reading role past) refl both.0 in
    let same : inbound role past n ++ when (byte_belongs role past n) b ≡ bytes_of n (arrivals past) ++ cond (is_reading (head_at (arrivals past)) n) (b ∷ []) [] =
    ap (λ (t : List ℕ). t ++ when (byte_belongs role past n) b) (before.whole both.1)
    ∙ ap (λ c. bytes_of n (arrivals past) ++ when c b) is ∙ ap (λ c. bytes_of n (arrivals past) ++ cond c (b ∷ []) []) (sym head) in
    record { prefix = prefix_all _ _ same; whole = λ on. same }
byte_in role past b n false is good none turn some before =
    let same : inbound role past n ++ when (byte_belongs role past n) b ≡ inbound role past n = ap (λ c. inbound role past n ++ when c b) is ∙ append-nil (inbound role past n) in
    record {
      prefix = subst (λ (t : List ℕ). IsPrefix t (bytes_of n (arrivals past) ++ cond (is_reading (head_at (arrivals past)) n) (b ∷ []) [])) (sym same)
          (prefix_on (inbound role past n) (bytes_of n (arrivals past)) (cond (is_reading (head_at (arrivals past)) n) (b ∷ []) []) before.prefix);
      whole = λ on.
          let was : is_live role past n ≡ true = sym (ap (λ ns. contains ns n) (quiet (live role past))) ∙ on in
          same ∙ before.whole was ∙ sym (append-nil (bytes_of n (arrivals past)))
          ∙ ap (λ (t : List ℕ). bytes_of n (arrivals past) ++ t) (sym (unread (is_reading (head_at (arrivals past)) n) (finished role past n) refl refl was));
    }
  where
    unread : (c f : Bool) → is_reading (head_at (arrivals past)) n ≡ c → finished role past n ≡ f → is_live role past n ≡ true → cond (is_reading (head_at (arrivals past)) n) (b ∷ []) [] ≡ []
    unread true false head open_still was =
        absurd (let for_it = reads_for role past n good none was some head in
        let e : true ≡ false = sym (ap (λ t. (t && is_live role past n) && not (finished role past n)) for_it ∙ ap (λ t. t && not (finished role past n)) was ∙ ap not open_still) ∙ is in cc)
    unread true true head over was = absurd (let none = data_open n (arrivals past) turn some head in let came = finished_came role past n over in omega arith)
    unread false f head is_over was = ap (λ t. cond t (b ∷ []) []) head

-- an item that brings no byte
other_in : (role : Role) (past : List Item) (x : Item) (n : ℕ) (o l : Bool) → opens role past x n ≡ o → is_live role past n ≡ l → byte_at role past x n ≡ [] → bytes_of n (arrivals (x ∷ past)) ≡ bytes_of n (arrivals past)
    → NoneBefore role n (x ∷ past) → AreFrames (arrivals past) → IsDelivered role n past → IsDelivered role n (x ∷ past)
other_in role past x n true l is was no_byte same none frames before =
    let empty : cond (opens role past x n) [] (inbound role past n) ++ byte_at role past x n ≡ [] =
    ap (λ (t : List ℕ). cond (opens role past x n) [] (inbound role past n) ++ t) no_byte ∙ append-nil (cond (opens role past x n) [] (inbound role past n)) ∙ ap (λ b. cond b [] (inbound role past n)) is in
    let zero : bytes_of n (arrivals (x ∷ past)) ≡ [] = same ∙ no_bytes n (arrivals past) frames (none.0 is) in
    record { prefix = prefix_all _ _ (empty ∙ sym zero); whole = λ on. empty ∙ sym zero }
other_in role past x n false l is was no_byte same none frames before =
    let kept : cond (opens role past x n) [] (inbound role past n) ++ byte_at role past x n ≡ inbound role past n =
    ap (λ (t : List ℕ). cond (opens role past x n) [] (inbound role past n) ++ t) no_byte ∙ append-nil (cond (opens role past x n) [] (inbound role past n)) ∙ ap (λ b. cond b [] (inbound role past n)) is in
    record {
      prefix = subst (λ (t : List ℕ). IsPrefix t (bytes_of n (arrivals (x ∷ past)))) (sym kept) (subst (λ (t : List ℕ). IsPrefix (inbound role past n) t) (sym same) before.prefix);
      whole = λ on. kept ∙ before.whole (still_on l was on) ∙ sym same;
    }
  where
    still_on : (l : Bool) → is_live role past n ≡ l → is_live role (x ∷ past) n ≡ true → is_live role past n ≡ true
    still_on true was on = was
    still_on false was on = absurd (let e : true ≡ false = sym (was_or_opens role x past n on was) ∙ is in cc)

pub delivered : (role : Role) (past : List Item) (n : ℕ) → HasNoFault role past → NoneBefore role n past → AreFrames (arrivals past) → AreInTurn (arrivals past) → IsDelivered role n past
delivered role [] n good none frames turn = record { prefix = ([], refl); whole = λ on. refl }
delivered role (Came (Byte b) ∷ past) n good none frames turn =
    byte_in role past b n (byte_belongs role past n) refl good.1 none.1 turn.1 frames.0 (delivered role past n good.1 none.1 frames.1 turn.1)
delivered role (Came (Head h) ∷ past) n good none frames turn =
    other_in role past (Came (Head h)) n (opens role past (Came (Head h)) n) (is_live role past n) refl refl refl refl none frames.2 (delivered role past n good.1 none.1 frames.2 turn.1)
delivered role (Came Tail ∷ past) n good none frames turn =
    other_in role past (Came Tail) n false (is_live role past n) refl refl refl refl none frames.2 (delivered role past n good.1 none.1 frames.2 turn.1)
delivered role (Came (Garbled bytes) ∷ past) n good none frames turn =
    other_in role past (Came (Garbled bytes)) n false (is_live role past n) refl refl refl refl none frames.2 (delivered role past n good.1 none.1 frames.2 turn.1)
delivered role (Did act ∷ past) n good none frames turn =
    other_in role past (Did act) n (opens role past (Did act) n) (is_live role past n) refl refl refl refl none frames (delivered role past n good.1 none.1 frames turn)
