-- How often a stream is opened in a session, and what was written and given back since its only opening.
use Rattle.std.proofs.Common.{◌≡◌, ℕ, zero, suc, ◌+◌, ◌<◌, ◌≤◌, Bool, true, false, not, ◌||◌, ◌&&◌, ◌==◌, cond, List, [], ◌∷◌, length, Option, Some, None, refl, sym, ap, ◌∙◌, arith}
use Rattle.std.specs.Prelude.{sum_by}
use Rattle.std.proofs.lemmas.Bool.{eqb-true}
use Rattle.yamux_frames.specs.declared.header.Header.{Header}
use Rattle.yamux_frames.specs.Frames.{AreFrames}
use Rattle.yamux_frames.specs.Frames.Arrival.{Head, Byte, Tail, Garbled}
use Rattle.yamux_session.specs.declared.event.Role.{Role}
use Rattle.yamux_session.specs.declared.streams.Row.{Row}
use Rattle.yamux_session.specs.History.{Item, arrivals, syn, is_of_stream, is_own, is_data, is_update, Act}
use Rattle.yamux_session.specs.History.Item.{Came, Did}
use Rattle.yamux_session.specs.History.Act.{Start, Write, Taken, Close, Reset}
use Rattle.yamux_session.specs.Openings.{contains, live, is_live, local_go_away, is_let_in, opens, head_belongs, is_for_stream, finished, closed}
use Rattle.yamux_session.specs.Windows.{since_opening, written_length, given_back, data_length, update_length, given_of, owed}
use Rattle.yamux_session.specs.Acts.{AreAnswered, next_own}
use Rattle.yamux_session.specs.Faults.{HasNoFault}
use Rattle.yamux_session.specs.Keeps.{IsRowAt}
use Rattle.yamux_session.specs.Joined.{length_of_data, length_of_update}
use Rattle.yamux_session.proofs.Keeping.{quiet}
use Rattle.yamux_session.proofs.Live.{past_answered, let_in_at, was_or_opens, not_both, own_next}
use Rattle.yamux_session.proofs.Untaken.{row_there, frames_before, live_unless, live_if}
use Rattle.yamux_session.proofs.joined.Totals.{total, all_time, syn_of, starts}

-- an opening of the stream n
abbrev pub openings : Role → ℕ → List Item → Item → ℕ
openings role n past x = cond (opens role past x n) 1 0

-- ---- a stream that was never opened

never_live_at : (role : Role) (past : List Item) (x : Item) (n : ℕ) (b : Bool) → opens role past x n ≡ b → b ≡ false → is_live role past n ≡ false
    → (c : Bool) → is_live role (x ∷ past) n ≡ c → is_live role (x ∷ past) n ≡ false
never_live_at role past x n true is none before c now = absurd (let e : true ≡ false = none in cc)
never_live_at role past x n false is none before true now = absurd (let e : true ≡ false = sym (was_or_opens role x past n now before) ∙ is in cc)
never_live_at role past x n false is none before false now = now

pub no_one : (b : Bool) → (let one : ℕ = cond b 1 0 in one ≡ 0) → b ≡ false
no_one true e = absurd (omega arith)
no_one false e = refl

pub never_live : (role : Role) (past : List Item) (n : ℕ) → all_time (openings role n) past ≡ 0 → is_live role past n ≡ false
never_live role [] n none = refl
never_live role (x ∷ past) n none =
    never_live_at role past x n (opens role past x n) refl (no_one (opens role past x n) (omega arith)) (never_live role past n (omega arith)) (is_live role (x ∷ past) n) refl

-- what is nothing for a stream that isn't live is nothing for one that was never opened
abbrev pub IsOfLive : Role → ℕ → (List Item → Item → ℕ) → Type 0
IsOfLive role n amount = (past : List Item) (x : Item) → AreAnswered role (x ∷ past) → is_live role past n ≡ false → amount past x ≡ 0

pub never_any : (role : Role) (n : ℕ) (amount : List Item → Item → ℕ) → IsOfLive role n amount → (past : List Item) → AreAnswered role past
    → all_time (openings role n) past ≡ 0 → all_time amount past ≡ 0
never_any role n amount of_live [] answered none = refl
never_any role n amount of_live (x ∷ past) answered none =
    let rest = never_any role n amount of_live past (past_answered role x past answered) (omega arith) in
    let here = of_live past x answered (never_live role past n (omega arith)) in
    omega arith

once_at : (role : Role) (n : ℕ) (amount : List Item → Item → ℕ) (past : List Item) (x : Item) (b : Bool) → opens role past x n ≡ b
    → all_time amount past ≡ since_opening amount role past n → (all_time (openings role n) past ≡ 0 → all_time amount past ≡ 0)
    → all_time (openings role n) (x ∷ past) ≤ 1 → all_time amount (x ∷ past) ≡ since_opening amount role (x ∷ past) n
once_at role n amount past x true is rest never once =
    let one : openings role n past x ≡ 1 = ap (λ b. cond b 1 0) is in
    let none = never (omega arith) in
    let e : cond (opens role past x n) 0 (since_opening amount role past n) ≡ 0 = ap (λ b. cond b 0 (since_opening amount role past n)) is in
    omega arith
once_at role n amount past x false is rest never once =
    let e : cond (opens role past x n) 0 (since_opening amount role past n) ≡ since_opening amount role past n = ap (λ b. cond b 0 (since_opening amount role past n)) is in
    omega arith

-- all of it is since the only opening
pub once_since : (role : Role) (n : ℕ) (amount : List Item → Item → ℕ) → IsOfLive role n amount → (past : List Item) → AreAnswered role past
    → all_time (openings role n) past ≤ 1 → all_time amount past ≡ since_opening amount role past n
once_since role n amount of_live [] answered once = refl
once_since role n amount of_live (x ∷ past) answered once =
    once_at role n amount past x (opens role past x n) refl (once_since role n amount of_live past (past_answered role x past answered) (omega arith))
    (λ none. never_any role n amount of_live past (past_answered role x past answered) none) once

-- ---- what was written and given back

written_of_live : (role : Role) (n : ℕ) → IsOfLive role n (written_length n)
written_of_live role n past (Did (Write k pieces)) answered off = other (k == n) refl
  where
    other : (b : Bool) → (k == n) ≡ b → cond (k == n) (sum_by length pieces) 0 ≡ 0
    other true is =
        absurd (let on : is_live role past k ≡ true = live_unless (is_live role past k) (closed role past k) answered.0.0 in
        let e : true ≡ false = sym on ∙ ap (is_live role past) (eqb-true k n is) ∙ off in cc)
    other false is = ap (λ b. cond b (sum_by length pieces) 0) is
written_of_live role n past (Did (Start k)) answered off = refl
written_of_live role n past (Did (Taken k count)) answered off = refl
written_of_live role n past (Did (Close k)) answered off = refl
written_of_live role n past (Did (Reset k)) answered off = refl
written_of_live role n past (Did (Act.GoAway code)) answered off = refl
written_of_live role n past (Came x) answered off = refl

given_of_live : (role : Role) (n : ℕ) → IsOfLive role n (given_back role n)
given_of_live role n past (Did (Taken k count)) answered off = other (k == n) refl
  where
    other : (b : Bool) → (k == n) ≡ b → cond (k == n) (given_of (finished role past n) (owed role past n + count)) 0 ≡ 0
    other true is =
        absurd (let on : is_live role past k ≡ true = live_if (is_live role past k) answered.0.0 in
        let e : true ≡ false = sym on ∙ ap (is_live role past) (eqb-true k n is) ∙ off in cc)
    other false is = ap (λ b. cond b (given_of (finished role past n) (owed role past n + count)) 0) is
given_of_live role n past (Did (Start k)) answered off = refl
given_of_live role n past (Did (Write k pieces)) answered off = refl
given_of_live role n past (Did (Close k)) answered off = refl
given_of_live role n past (Did (Reset k)) answered off = refl
given_of_live role n past (Did (Act.GoAway code)) answered off = refl
given_of_live role n past (Came x) answered off = refl

pub written_once : (role : Role) (n : ℕ) (past : List Item) → AreAnswered role past → all_time (openings role n) past ≤ 1
    → all_time (written_length n) past ≡ since_opening (written_length n) role past n
written_once role n past answered once = once_since role n (written_length n) (written_of_live role n) past answered once

pub given_once : (role : Role) (n : ℕ) (past : List Item) → AreAnswered role past → all_time (openings role n) past ≤ 1
    → all_time (given_back role n) past ≡ since_opening (given_back role n) role past n
given_once role n past answered once = once_since role n (given_back role n) (given_of_live role n) past answered once

-- ---- what belongs has arrived

came_at : (b : Bool) (since all here there : ℕ) → here ≤ there → since ≤ all → here + cond b 0 since ≤ there + all
came_at true since all here there less rest = omega arith
came_at false since all here there less rest = omega arith

belongs_here : (role : Role) (past : List Item) (h : Header) (n : ℕ) (b : Bool) (kind : Bool) (len : ℕ) → (h.stream == n) ≡ b
    → cond (head_belongs role past h n && kind) len 0 ≤ cond (h.stream == n && kind) len 0
belongs_here role past h n b kind len is =
    by (h.stream == n) (is_for_stream role (live role past) (local_go_away past) h) (not ((is_data h.kind && not (syn h)) && finished role past n)) kind
  where
    by : (a b c k : Bool) → cond (((a && b) && c) && k) len 0 ≤ cond (a && k) len 0
    by true true true k = omega arith
    by true true false true = omega arith
    by true true false false = omega arith
    by true false c true = omega arith
    by true false c false = omega arith
    by false b c k = omega arith

pub data_came : (role : Role) (n : ℕ) (past : List Item) → since_opening (data_length role n) role past n ≤ total (length_of_data n) (arrivals past)
data_came role n [] = omega arith
data_came role n (Did act ∷ past) =
    let less = came_at (opens role past (Did act) n) (since_opening (data_length role n) role past n) (total (length_of_data n) (arrivals past)) 0 0 (omega arith) (data_came role n past) in
    omega arith
data_came role n (Came (Head h) ∷ past) =
    came_at (opens role past (Came (Head h)) n) (since_opening (data_length role n) role past n) (total (length_of_data n) (arrivals past)) (data_length role n past (Came (Head h))) (length_of_data n (Head h))
    (belongs_here role past h n (h.stream == n) (is_data h.kind) h.length refl) (data_came role n past)
data_came role n (Came (Byte b) ∷ past) = came_at (opens role past (Came (Byte b)) n) (since_opening (data_length role n) role past n) (total (length_of_data n) (arrivals past)) 0 0 (omega arith) (data_came role n past)
data_came role n (Came Tail ∷ past) = came_at (opens role past (Came Tail) n) (since_opening (data_length role n) role past n) (total (length_of_data n) (arrivals past)) 0 0 (omega arith) (data_came role n past)
data_came role n (Came (Garbled bytes) ∷ past) = came_at (opens role past (Came (Garbled bytes)) n) (since_opening (data_length role n) role past n) (total (length_of_data n) (arrivals past)) 0 0 (omega arith) (data_came role n past)

pub update_came : (role : Role) (n : ℕ) (past : List Item) → since_opening (update_length role n) role past n ≤ total (length_of_update n) (arrivals past)
update_came role n [] = omega arith
update_came role n (Did act ∷ past) =
    let less = came_at (opens role past (Did act) n) (since_opening (update_length role n) role past n) (total (length_of_update n) (arrivals past)) 0 0 (omega arith) (update_came role n past) in
    omega arith
update_came role n (Came (Head h) ∷ past) =
    came_at (opens role past (Came (Head h)) n) (since_opening (update_length role n) role past n) (total (length_of_update n) (arrivals past)) (update_length role n past (Came (Head h))) (length_of_update n (Head h))
    (belongs_here role past h n (h.stream == n) (is_update h.kind) h.length refl) (update_came role n past)
update_came role n (Came (Byte b) ∷ past) = came_at (opens role past (Came (Byte b)) n) (since_opening (update_length role n) role past n) (total (length_of_update n) (arrivals past)) 0 0 (omega arith) (update_came role n past)
update_came role n (Came Tail ∷ past) = came_at (opens role past (Came Tail) n) (since_opening (update_length role n) role past n) (total (length_of_update n) (arrivals past)) 0 0 (omega arith) (update_came role n past)
update_came role n (Came (Garbled bytes) ∷ past) = came_at (opens role past (Came (Garbled bytes)) n) (since_opening (update_length role n) role past n) (total (length_of_update n) (arrivals past)) 0 0 (omega arith) (update_came role n past)

-- ---- the windows of a stream that was opened once, live or not

-- less was written than the window and its updates; no more was given back than data was announced
pub record WindowsHold (role : Role) (n : ℕ) (past : List Item) : Type 0 where
  pub written : since_opening (written_length n) role past n ≤ 262144 + since_opening (update_length role n) role past n
  pub given : since_opening (given_back role n) role past n ≤ since_opening (data_length role n) role past n

row_holds : (role : Role) (n : ℕ) (past : List Item) (row : Option Row) → IsRowAt role past n row → is_live role past n ≡ true → WindowsHold role n past
row_holds role n past None off on = absurd (let e : true ≡ false = sym on ∙ off in cc)
row_holds role n past (Some s) at on = record {
  written = let sum = at.1.credit in omega arith;
  given = let sum = at.1.window in let rest = at.1.untaken in let bound = at.1.bound in omega arith;
}

written_now : (role : Role) (n : ℕ) (past : List Item) (x : Item) → AreAnswered role (x ∷ past) → is_live role (x ∷ past) n ≡ false → written_length n past x ≡ 0
written_now role n past (Did (Write k pieces)) answered off =
    written_of_live role n past (Did (Write k pieces)) answered (sym (ap (λ ns. contains ns n) (quiet (live role past))) ∙ off)
written_now role n past (Did (Start k)) answered off = refl
written_now role n past (Did (Taken k count)) answered off = refl
written_now role n past (Did (Close k)) answered off = refl
written_now role n past (Did (Reset k)) answered off = refl
written_now role n past (Did (Act.GoAway code)) answered off = refl
written_now role n past (Came x) answered off = refl

given_now : (role : Role) (n : ℕ) (past : List Item) (x : Item) → AreAnswered role (x ∷ past) → is_live role (x ∷ past) n ≡ false → given_back role n past x ≡ 0
given_now role n past (Did (Taken k count)) answered off =
    given_of_live role n past (Did (Taken k count)) answered (sym (ap (λ ns. contains ns n) (quiet (live role past))) ∙ off)
given_now role n past (Did (Start k)) answered off = refl
given_now role n past (Did (Write k pieces)) answered off = refl
given_now role n past (Did (Close k)) answered off = refl
given_now role n past (Did (Reset k)) answered off = refl
given_now role n past (Did (Act.GoAway code)) answered off = refl
given_now role n past (Came x) answered off = refl

goes_on : (b : Bool) (less more here there limit : ℕ) → less ≤ limit + more → here ≡ 0 → here + cond b 0 less ≤ limit + (there + cond b 0 more)
goes_on true less more here there limit h none = omega arith
goes_on false less more here there limit h none = omega arith

windows_at : (role : Role) (n : ℕ) (past : List Item) (x : Item) (b : Bool) → is_live role (x ∷ past) n ≡ b → AreAnswered role (x ∷ past) → HasNoFault role (x ∷ past)
    → AreFrames (arrivals (x ∷ past)) → WindowsHold role n past → WindowsHold role n (x ∷ past)
windows_at role n past x true on answered good frames before =
    let row = row_there role (x ∷ past) n answered good frames in row_holds role n (x ∷ past) row.0 row.1 on
windows_at role n past x false off answered good frames before =
    let b : Bool = opens role past x n in
    record {
      written = goes_on b (since_opening (written_length n) role past n) (since_opening (update_length role n) role past n) (written_length n past x) (update_length role n past x) 262144
          before.written (written_now role n past x answered off);
      given = (let less = goes_on b (since_opening (given_back role n) role past n) (since_opening (data_length role n) role past n) (given_back role n past x) (data_length role n past x) 0
          (let g = before.given in omega arith) (given_now role n past x answered off) in omega arith);
    }

pub windows_hold : (role : Role) (n : ℕ) (past : List Item) → AreAnswered role past → HasNoFault role past → AreFrames (arrivals past) → WindowsHold role n past
windows_hold role n [] answered good frames = record { written = omega arith; given = omega arith }
windows_hold role n (x ∷ past) answered good frames =
    windows_at role n past x (is_live role (x ∷ past) n) refl answered good frames
    (windows_hold role n past (past_answered role x past answered) good.1 (frames_before x past frames))

-- ---- each number is opened once by its owner, and by the other end where a SYN has come

pub none_unless : (m : ℕ) → (0 < m → ⊥) → m ≡ 0
none_unless zero off = refl
none_unless (suc m) off = absurd (off (omega arith))

pub started_below : (role : Role) (n : ℕ) (past : List Item) → AreAnswered role past → 0 < all_time (starts n) past → n < next_own role past
started_below role n [] answered some = absurd (omega arith)
started_below role n (Did (Start k) ∷ past) answered some = by (k == n) refl (started_below role n past answered.1)
  where
    by : (b : Bool) → (k == n) ≡ b → (0 < all_time (starts n) past → n < next_own role past) → n < k + 2
    by true is before = let e = eqb-true k n is in omega arith
    by false is before =
        let none : starts n past (Did (Start k)) ≡ 0 = ap (λ b. cond b 1 0) is in
        let lt = before (omega arith) in let e = answered.0.1 in omega arith
started_below role n (Did (Write k pieces) ∷ past) answered some = started_below role n past answered.1 (omega arith)
started_below role n (Did (Taken k count) ∷ past) answered some = started_below role n past answered.1 (omega arith)
started_below role n (Did (Close k) ∷ past) answered some = started_below role n past answered.1 (omega arith)
started_below role n (Did (Reset k) ∷ past) answered some = started_below role n past answered.1 (omega arith)
started_below role n (Did (Act.GoAway code) ∷ past) answered some = started_below role n past answered.1 (omega arith)
started_below role n (Came x ∷ past) answered some = started_below role n past answered (omega arith)

start_once : (role : Role) (n k : ℕ) (past : List Item) (b : Bool) → (k == n) ≡ b → k ≡ next_own role past → AreAnswered role past → all_time (starts n) past ≤ 1
    → cond (k == n) 1 0 + all_time (starts n) past ≤ 1
start_once role n k past true is next answered rest =
    let none = none_unless (all_time (starts n) past) (λ some. let lt = started_below role n past answered some in let e = eqb-true k n is in absurd (omega arith)) in
    let one : starts n past (Did (Start k)) ≡ 1 = ap (λ b. cond b 1 0) is in omega arith
start_once role n k past false is next answered rest = let one : starts n past (Did (Start k)) ≡ 0 = ap (λ b. cond b 1 0) is in omega arith

pub starts_once : (role : Role) (n : ℕ) (past : List Item) → AreAnswered role past → all_time (starts n) past ≤ 1
starts_once role n [] answered = omega arith
starts_once role n (Did (Start k) ∷ past) answered = start_once role n k past (k == n) refl answered.0.1 answered.1 (starts_once role n past answered.1)
starts_once role n (Did (Write k pieces) ∷ past) answered = let rest = starts_once role n past answered.1 in omega arith
starts_once role n (Did (Taken k count) ∷ past) answered = let rest = starts_once role n past answered.1 in omega arith
starts_once role n (Did (Close k) ∷ past) answered = let rest = starts_once role n past answered.1 in omega arith
starts_once role n (Did (Reset k) ∷ past) answered = let rest = starts_once role n past answered.1 in omega arith
starts_once role n (Did (Act.GoAway code) ∷ past) answered = let rest = starts_once role n past answered.1 in omega arith
starts_once role n (Came x ∷ past) answered = let rest = starts_once role n past answered in omega arith

head_opens : (role : Role) (n : ℕ) (past : List Item) (h : Header) (b : Bool) → opens role past (Came (Head h)) n ≡ b → is_own role n ≡ true → b ≡ false
head_opens role n past h true is own =
    absurd (not_both role n own (let_in_at role past h n (is_of_stream h && syn h && is_let_in role (live role past) (local_go_away past) h) refl is).1)
head_opens role n past h false is own = refl

pub own_openings : (role : Role) (n : ℕ) (past : List Item) → is_own role n ≡ true → AreAnswered role past → all_time (openings role n) past ≤ all_time (starts n) past
own_openings role n [] own answered = omega arith
own_openings role n (Did (Start k) ∷ past) own answered = let rest = own_openings role n past own answered.1 in let here : openings role n past (Did (Start k)) ≡ cond (k == n) 1 0 = ap (λ b. cond b 1 0) (or_none (k == n)) in omega arith
  where
    or_none : (b : Bool) → b || false ≡ b
    or_none true = refl
    or_none false = refl
own_openings role n (Did (Write k pieces) ∷ past) own answered = let rest = own_openings role n past own answered.1 in omega arith
own_openings role n (Did (Taken k count) ∷ past) own answered = let rest = own_openings role n past own answered.1 in omega arith
own_openings role n (Did (Close k) ∷ past) own answered = let rest = own_openings role n past own answered.1 in omega arith
own_openings role n (Did (Reset k) ∷ past) own answered = let rest = own_openings role n past own answered.1 in omega arith
own_openings role n (Did (Act.GoAway code) ∷ past) own answered = let rest = own_openings role n past own answered.1 in omega arith
own_openings role n (Came (Head h) ∷ past) own answered =
    let rest = own_openings role n past own answered in
    let none : openings role n past (Came (Head h)) ≡ 0 = ap (λ b. cond b 1 0) (head_opens role n past h (opens role past (Came (Head h)) n) refl own) in omega arith
own_openings role n (Came (Byte b) ∷ past) own answered = let rest = own_openings role n past own answered in omega arith
own_openings role n (Came Tail ∷ past) own answered = let rest = own_openings role n past own answered in omega arith
own_openings role n (Came (Garbled bytes) ∷ past) own answered = let rest = own_openings role n past own answered in omega arith

-- a head opens at most what its SYN names
syn_opens : (s k l : Bool) (m n : ℕ) → (let one : ℕ = cond (contains (cond (s && l) (m ∷ []) []) n) 1 0 in one ≤ cond (m == n && s) 1 0)
syn_opens true k true m n = by (m == n)
  where
    by : (b : Bool) → (let one : ℕ = cond (b || false) 1 0 in one ≤ cond (b && true) 1 0)
    by true = omega arith
    by false = omega arith
syn_opens true k false m n = omega arith
syn_opens false k l m n = omega arith

pub other_openings : (role : Role) (n : ℕ) (past : List Item) → is_own role n ≡ false → AreAnswered role past → all_time (openings role n) past ≤ total (syn_of n) (arrivals past)
other_openings role n [] other answered = omega arith
other_openings role n (Did (Start k) ∷ past) other answered = let rest = other_openings role n past other answered.1 in let none = apart (k == n) refl in omega arith
  where
    apart : (b : Bool) → (k == n) ≡ b → openings role n past (Did (Start k)) ≡ 0
    apart true is =
        absurd (let own : is_own role k ≡ true = ap (is_own role) answered.0.1 ∙ own_next role past answered.1 in
        let e : true ≡ false = sym own ∙ ap (is_own role) (eqb-true k n is) ∙ other in cc)
    apart false is = ap (λ b. cond (b || false) 1 0) is
other_openings role n (Did (Write k pieces) ∷ past) other answered = let rest = other_openings role n past other answered.1 in omega arith
other_openings role n (Did (Taken k count) ∷ past) other answered = let rest = other_openings role n past other answered.1 in omega arith
other_openings role n (Did (Close k) ∷ past) other answered = let rest = other_openings role n past other answered.1 in omega arith
other_openings role n (Did (Reset k) ∷ past) other answered = let rest = other_openings role n past other answered.1 in omega arith
other_openings role n (Did (Act.GoAway code) ∷ past) other answered = let rest = other_openings role n past other answered.1 in omega arith
other_openings role n (Came (Head h) ∷ past) other answered =
    let rest = other_openings role n past other answered in
    let here = syn_opens (is_of_stream h && syn h) true (is_let_in role (live role past) (local_go_away past) h) h.stream n in omega arith
other_openings role n (Came (Byte b) ∷ past) other answered = let rest = other_openings role n past other answered in omega arith
other_openings role n (Came Tail ∷ past) other answered = let rest = other_openings role n past other answered in omega arith
other_openings role n (Came (Garbled bytes) ∷ past) other answered = let rest = other_openings role n past other answered in omega arith
