-- What has arrived for a stream that is live belongs to it, where none came before its opening.
use Rattle.std.proofs.Common.{◌≡◌, ℕ, ◌+◌, ◌<◌, ◌≤◌, Bool, true, false, not, ◌||◌, ◌&&◌, ◌==◌, cond, List, [], ◌∷◌, Option, Some, None, refl, sym, ap, ◌∙◌, subst, arith}
use Rattle.std.proofs.lemmas.Bool.{eqb-true, eq-eqb}
use Rattle.yamux_frames.specs.declared.header.Header.{Header}
use Rattle.yamux_frames.specs.declared.header.FrameKind.{FrameKind}
use Rattle.yamux_frames.specs.declared.header.FrameKind.TheVariants.{Payload, Window, Ping, GoAway}
use Rattle.yamux_frames.specs.Frames.{Arrival}
use Rattle.yamux_frames.specs.Frames.Arrival.{Head, Byte, Tail, Garbled}
use Rattle.yamux_session.specs.declared.event.Role.{Role}
use Rattle.yamux_session.specs.declared.event.Fault.TheVariants.{WrongParity, DuplicateStream}
use Rattle.yamux_session.specs.History.{Item, arrivals, syn, fin, is_of_stream, is_remote, is_data, is_update}
use Rattle.yamux_session.specs.History.Item.{Came, Did}
use Rattle.yamux_session.specs.Openings.{live, is_live, contains, local_go_away, is_let_in, opens, reading, is_for_stream, finished, finishes, tail_finishes, head_belongs}
use Rattle.yamux_session.specs.Windows.{since_opening, data_length, update_length}
use Rattle.yamux_session.specs.Faults.{HasNoFault, fault_at, syn_fault, window_fault, or_else}
use Rattle.yamux_session.specs.Joined.{length_of_data, length_of_update}
use Rattle.yamux_session.proofs.Lists.{and_parts}
use Rattle.yamux_session.proofs.Keeping.{and_false}
use Rattle.yamux_session.proofs.Live.{was_or_opens}
use Rattle.yamux_session.proofs.joined.Totals.{total}
use Rattle.yamux_session.proofs.joined.InTurn.{head_of, fin_of, AreInTurn}

-- none of the stream's heads came before it was opened
abbrev pub NoneBefore : Role → ℕ → List Item → Type 0
NoneBefore role n [] = Unit {0}
NoneBefore role n (x ∷ past) = (opens role past x n ≡ true → total (head_of n) (arrivals past) ≡ 0) × NoneBefore role n past

-- ---- no heads, no data and no updates

small_data : (s : Bool) (k : FrameKind) (len : ℕ) → (let one : ℕ = cond (s && (is_data k || is_update k)) 1 0 in one ≡ 0) → cond (s && is_data k) len 0 ≡ 0
small_data true Payload len none = absurd (omega arith)
small_data true Window len none = refl
small_data true Ping len none = refl
small_data true GoAway len none = refl
small_data false k len none = refl

small_update : (s : Bool) (k : FrameKind) (len : ℕ) → (let one : ℕ = cond (s && (is_data k || is_update k)) 1 0 in one ≡ 0) → cond (s && is_update k) len 0 ≡ 0
small_update true Payload len none = refl
small_update true Window len none = absurd (omega arith)
small_update true Ping len none = refl
small_update true GoAway len none = refl
small_update false k len none = refl

pub no_data : (n : ℕ) (xs : List Arrival) → total (head_of n) xs ≡ 0 → total (length_of_data n) xs ≡ 0
no_data n [] none = refl
no_data n (Head h ∷ xs) none =
    let rest = no_data n xs (omega arith) in
    let zero : head_of n (Head h) ≡ 0 = omega arith in
    let here = small_data (h.stream == n) h.kind h.length zero in omega arith
no_data n (Byte b ∷ xs) none = let rest = no_data n xs (omega arith) in omega arith
no_data n (Tail ∷ xs) none = let rest = no_data n xs (omega arith) in omega arith
no_data n (Garbled bytes ∷ xs) none = let rest = no_data n xs (omega arith) in omega arith

pub no_update : (n : ℕ) (xs : List Arrival) → total (head_of n) xs ≡ 0 → total (length_of_update n) xs ≡ 0
no_update n [] none = refl
no_update n (Head h ∷ xs) none =
    let rest = no_update n xs (omega arith) in
    let zero : head_of n (Head h) ≡ 0 = omega arith in
    let here = small_update (h.stream == n) h.kind h.length zero in omega arith
no_update n (Byte b ∷ xs) none = let rest = no_update n xs (omega arith) in omega arith
no_update n (Tail ∷ xs) none = let rest = no_update n xs (omega arith) in omega arith
no_update n (Garbled bytes ∷ xs) none = let rest = no_update n xs (omega arith) in omega arith

-- ---- the frame that is being read

abbrev pub head_at : List Arrival → Option Header
head_at [] = None
head_at (Head h ∷ xs) = Some h
head_at (Byte b ∷ xs) = head_at xs
head_at (Tail ∷ xs) = None
head_at (Garbled bytes ∷ xs) = None

kept_if : (b : Bool) (g h : Header) → cond b (Some g) None ≡ Some h → (Some g ≡ Some h) × (b ≡ true)
kept_if true g h e = (e, refl)
kept_if false g h e = absurd cc

pub reading_head : (role : Role) (past : List Item) (h : Header) → reading role past ≡ Some h → (head_at (arrivals past) ≡ Some h) × (is_of_stream h ≡ true)
reading_head role [] h e = absurd cc
reading_head role (Did act ∷ past) h e = reading_head role past h e
reading_head role (Came (Head g) ∷ past) h e =
    let kept = kept_if (is_for_stream role (live role past) (local_go_away past) g) g h e in
    let same : g ≡ h = cc kept.0 in
    (kept.0, ap is_of_stream (sym same) ∙ (and_parts (is_of_stream g) (cond (syn g) (is_let_in role (live role past) (local_go_away past) g) (contains (live role past) g.stream)) kept.1).0)
reading_head role (Came (Byte b) ∷ past) h e = reading_head role past h e
reading_head role (Came Tail ∷ past) h e = absurd cc
reading_head role (Came (Garbled bytes) ∷ past) h e = absurd cc

fin_here : (xs : List Arrival) (h : Header) (n : ℕ) → head_at xs ≡ Some h → (h.stream == n && (is_of_stream h && fin h)) ≡ true → 0 < total (fin_of n) xs
fin_here [] h n e is = absurd cc
fin_here (Head g ∷ xs) h n e is =
    let same : g ≡ h = cc e in
    let one : fin_of n (Head g) ≡ 1 = ap (λ (k : Header). cond (k.stream == n && (is_of_stream k && fin k)) 1 0) same ∙ ap (λ b. cond b 1 0) is in
    omega arith
fin_here (Byte b ∷ xs) h n e is = let rest = fin_here xs h n e is in omega arith
fin_here (Tail ∷ xs) h n e is = absurd cc
fin_here (Garbled bytes ∷ xs) h n e is = absurd cc

fin_grows : (n : ℕ) (x : Item) (past : List Item) → total (fin_of n) (arrivals past) ≤ total (fin_of n) (arrivals (x ∷ past))
fin_grows n (Came x) past = omega arith
fin_grows n (Did act) past = omega arith

tail_fin : (role : Role) (past : List Item) (n : ℕ) (r : Option Header) → reading role past ≡ r → tail_finishes r n ≡ true → 0 < total (fin_of n) (arrivals past)
tail_fin role past n None e is = absurd cc
tail_fin role past n (Some h) e is =
    let parts = and_parts (h.stream == n) (fin h) is in
    let head = reading_head role past h e in
    fin_here (arrivals past) h n head.0 (ap (λ b. b && (is_of_stream h && fin h)) parts.0 ∙ ap (λ b. b && fin h) head.1 ∙ parts.1)

finishes_fin : (role : Role) (past : List Item) (x : Item) (n : ℕ) → finishes (reading role past) x n ≡ true → 0 < total (fin_of n) (arrivals past)
finishes_fin role past (Came Tail) n is = tail_fin role past n (reading role past) refl is
finishes_fin role past (Came (Head h)) n is = absurd cc
finishes_fin role past (Came (Byte b)) n is = absurd cc
finishes_fin role past (Came (Garbled bytes)) n is = absurd cc
finishes_fin role past (Did act) n is = absurd cc

finished_if : (role : Role) (past : List Item) (x : Item) (n : ℕ) (f : Bool) → finishes (reading role past) x n ≡ f → finished role (x ∷ past) n ≡ true
    → (finished role past n ≡ true → 0 < total (fin_of n) (arrivals past)) → 0 < total (fin_of n) (arrivals (x ∷ past))
finished_if role past x n true is now before = let some = finishes_fin role past x n is in let more = fin_grows n x past in omega arith
finished_if role past x n false is now before =
    let parts = and_parts (not (opens role past x n)) (finishes (reading role past) x n || finished role past n) now in
    let was : finished role past n ≡ true = sym (ap (λ b. b || finished role past n) is) ∙ parts.1 in
    let some = before was in let more = fin_grows n x past in omega arith

-- the other end's direction ends by a FIN that came
pub finished_came : (role : Role) (past : List Item) (n : ℕ) → finished role past n ≡ true → 0 < total (fin_of n) (arrivals past)
finished_came role [] n is = absurd cc
finished_came role (x ∷ past) n is = finished_if role past x n (finishes (reading role past) x n) refl is (finished_came role past n)

unfinished : (role : Role) (past : List Item) (n : ℕ) (f : Bool) → finished role past n ≡ f → total (fin_of n) (arrivals past) ≡ 0 → finished role past n ≡ false
unfinished role past n true is none = absurd (let some = finished_came role past n is in omega arith)
unfinished role past n false is none = is

-- ---- a head for a live stream belongs to it

module _ (role : Role) (past : List Item) (h : Header) (n : ℕ) (good : fault_at role past (Came (Head h)) ≡ None) (now : is_live role (Came (Head h) ∷ past) n ≡ true)
    (same : h.stream ≡ n) (kind : is_of_stream h ≡ true) where
  was_live : opens role past (Came (Head h)) n ≡ false → is_live role past n ≡ true
  was_live shut = by (is_live role past n) refl
    where
      by : (b : Bool) → is_live role past n ≡ b → is_live role past n ≡ true
      by true is = is
      by false is = absurd (let e : true ≡ false = sym (was_or_opens role (Came (Head h)) past n now is) ∙ shut in cc)

  syn_live : syn h ≡ true → is_live role past h.stream ≡ true → ⊥
  syn_live opening on =
      let first : or_else (syn_fault role past h) (cond (head_belongs role past h h.stream) (window_fault role past h) None) ≡ None =
      sym (ap (λ b. or_else (cond b (syn_fault role past h) None) (cond (head_belongs role past h h.stream) (window_fault role past h) None)) (ap (λ b. b && syn h) kind ∙ opening)) ∙ good in
      by (is_remote role h.stream) refl first
    where
      by : (r : Bool) → is_remote role h.stream ≡ r → or_else (syn_fault role past h) (cond (head_belongs role past h h.stream) (window_fault role past h) None) ≡ None → ⊥
      by true remote e =
          let f = sym (ap (λ b. or_else (cond (not b) (Some WrongParity) (cond (is_live role past h.stream) (Some DuplicateStream) None)) (cond (head_belongs role past h h.stream) (window_fault role past h) None)) remote
          ∙ ap (λ b. or_else (cond b (Some DuplicateStream) None) (cond (head_belongs role past h h.stream) (window_fault role past h) None)) on) ∙ e in cc
      by false other e =
          let f = sym (ap (λ b. or_else (cond (not b) (Some WrongParity) (cond (is_live role past h.stream) (Some DuplicateStream) None)) (cond (head_belongs role past h h.stream) (window_fault role past h) None)) other) ∙ e in cc

  pub for_it : (s e : Bool) → syn h ≡ s → is_let_in role (live role past) (local_go_away past) h ≡ e → is_for_stream role (live role past) (local_go_away past) h ≡ true
  for_it true true opening let_in =
      ap (λ b. b && cond (syn h) (is_let_in role (live role past) (local_go_away past) h) (contains (live role past) h.stream)) kind
      ∙ ap (λ b. cond b (is_let_in role (live role past) (local_go_away past) h) (contains (live role past) h.stream)) opening ∙ let_in
  for_it true false opening shut =
      absurd (let none : opens role past (Came (Head h)) n ≡ false =
      ap (λ b. contains (cond ((is_of_stream h && syn h) && b) (h.stream ∷ []) []) n) shut ∙ ap (λ b. contains (cond b (h.stream ∷ []) []) n) (and_false (is_of_stream h && syn h)) in
      syn_live opening (ap (is_live role past) same ∙ was_live none))
  for_it false e plain let_in =
      let none : opens role past (Came (Head h)) n ≡ false =
      ap (λ b. contains (cond ((is_of_stream h && b) && is_let_in role (live role past) (local_go_away past) h) (h.stream ∷ []) []) n) plain
      ∙ ap (λ b. contains (cond (b && is_let_in role (live role past) (local_go_away past) h) (h.stream ∷ []) []) n) (and_false (is_of_stream h)) in
      ap (λ b. b && cond (syn h) (is_let_in role (live role past) (local_go_away past) h) (contains (live role past) h.stream)) kind
      ∙ ap (λ b. cond b (is_let_in role (live role past) (local_go_away past) h) (contains (live role past) h.stream)) plain ∙ ap (is_live role past) same ∙ was_live none

  pub belongs : (is_data h.kind && finished role past n) ≡ false → head_belongs role past h n ≡ true
  belongs going =
      ap (λ b. (b && is_for_stream role (live role past) (local_go_away past) h) && not ((is_data h.kind && not (syn h)) && finished role past n)) (eq-eqb h.stream n same)
      ∙ ap (λ b. b && not ((is_data h.kind && not (syn h)) && finished role past n)) (for_it (syn h) (is_let_in role (live role past) (local_go_away past) h) refl refl)
      ∙ ap not (still (is_data h.kind) (not (syn h)) (finished role past n) going)
    where
      still : (d s f : Bool) → d && f ≡ false → (d && s) && f ≡ false
      still true true f e = e
      still true false f e = refl
      still false s f e = refl

-- ---- all data and updates that came belong

same_if : (b s k : Bool) (len : ℕ) → (s ≡ true → k ≡ true → b ≡ true) → (s ≡ false → b ≡ false) → cond (b && k) len 0 ≡ cond (s && k) len 0
same_if b true true len on off = ap (λ c. cond (c && true) len 0) (on refl refl)
same_if true true false len on off = refl
same_if false true false len on off = refl
same_if b false k len on off = ap (λ c. cond (c && k) len 0) (off refl)

belongs_to : (role : Role) (past : List Item) (h : Header) (n : ℕ) → (h.stream == n) ≡ false → head_belongs role past h n ≡ false
belongs_to role past h n other = ap (λ b. (b && is_for_stream role (live role past) (local_go_away past) h) && not ((is_data h.kind && not (syn h)) && finished role past n)) other

data_kind : (k : FrameKind) → is_data k ≡ true → (is_data k || is_update k) ≡ true
data_kind Payload e = refl
data_kind Window e = absurd cc
data_kind Ping e = absurd cc
data_kind GoAway e = absurd cc

update_kind : (k : FrameKind) → is_update k ≡ true → ((is_data k || is_update k) ≡ true) × (is_data k ≡ false)
update_kind Payload e = absurd cc
update_kind Window e = (refl, refl)
update_kind Ping e = absurd cc
update_kind GoAway e = absurd cc

-- what the item adds to a sum over arrivals
abbrev amount_of : (Arrival → ℕ) → Item → ℕ
amount_of f (Came x) = f x
amount_of f (Did act) = 0

amount_adds : (f : Arrival → ℕ) (x : Item) (past : List Item) → total f (arrivals (x ∷ past)) ≡ amount_of f x + total f (arrivals past)
amount_adds f (Came x) past = refl
amount_adds f (Did act) past = omega arith

data_belongs : (role : Role) (past : List Item) (x : Item) (n : ℕ) → HasNoFault role (x ∷ past) → AreInTurn (arrivals (x ∷ past)) → is_live role (x ∷ past) n ≡ true
    → data_length role n past x ≡ amount_of (length_of_data n) x
data_belongs role past (Came (Head h)) n good turn now =
    same_if (head_belongs role past h n) (h.stream == n) (is_data h.kind) h.length
    (λ s k. let same = eqb-true h.stream n s in
    let none : total (fin_of n) (arrivals past) ≡ 0 = subst (λ m. total (fin_of m) (arrivals past) ≡ 0) same (let all = turn.0.1 k in omega arith) in
    belongs role past h n good.0 now same (data_kind h.kind k)
    (ap (λ b. b && finished role past n) k ∙ unfinished role past n (finished role past n) refl none))
    (belongs_to role past h n)
data_belongs role past (Came (Byte b)) n good turn now = refl
data_belongs role past (Came Tail) n good turn now = refl
data_belongs role past (Came (Garbled bytes)) n good turn now = refl
data_belongs role past (Did act) n good turn now = refl

update_belongs : (role : Role) (past : List Item) (x : Item) (n : ℕ) → HasNoFault role (x ∷ past) → is_live role (x ∷ past) n ≡ true → update_length role n past x ≡ amount_of (length_of_update n) x
update_belongs role past (Came (Head h)) n good now =
    same_if (head_belongs role past h n) (h.stream == n) (is_update h.kind) h.length
    (λ s k. let kind = update_kind h.kind k in belongs role past h n good.0 now (eqb-true h.stream n s) kind.0 (ap (λ b. b && finished role past n) kind.1))
    (belongs_to role past h n)
update_belongs role past (Came (Byte b)) n good now = refl
update_belongs role past (Came Tail) n good now = refl
update_belongs role past (Came (Garbled bytes)) n good now = refl
update_belongs role past (Did act) n good now = refl

pub past_turn : (x : Item) (past : List Item) → AreInTurn (arrivals (x ∷ past)) → AreInTurn (arrivals past)
past_turn (Came x) past turn = turn.1
past_turn (Did act) past turn = turn

-- the sum goes on, or begins at the opening
sum_on : (role : Role) (past : List Item) (x : Item) (n : ℕ) (o l : Bool) (amount here since all : ℕ) → opens role past x n ≡ o → is_live role past n ≡ l → is_live role (x ∷ past) n ≡ true
    → amount ≡ here → (o ≡ true → all ≡ 0) → (is_live role past n ≡ true → since ≡ all) → amount + cond (opens role past x n) 0 since ≡ here + all
sum_on role past x n true l amount here since all is was now same first later =
    let none = first refl in let e : cond (opens role past x n) 0 since ≡ 0 = ap (λ b. cond b 0 since) is in omega arith
sum_on role past x n false true amount here since all is was now same first later =
    let rest = later was in let e : cond (opens role past x n) 0 since ≡ since = ap (λ b. cond b 0 since) is in omega arith
sum_on role past x n false false amount here since all is was now same first later = absurd (let e : true ≡ false = sym (was_or_opens role x past n now was) ∙ is in cc)

pub all_data : (role : Role) (past : List Item) (n : ℕ) → HasNoFault role past → NoneBefore role n past → AreInTurn (arrivals past) → is_live role past n ≡ true
    → since_opening (data_length role n) role past n ≡ total (length_of_data n) (arrivals past)
all_data role [] n good none turn now = refl
all_data role (x ∷ past) n good none turn now =
    sum_on role past x n (opens role past x n) (is_live role past n) (data_length role n past x) (amount_of (length_of_data n) x) (since_opening (data_length role n) role past n) (total (length_of_data n) (arrivals past))
    refl refl now (data_belongs role past x n good turn now) (λ o. no_data n (arrivals past) (none.0 o)) (all_data role past n good.1 none.1 (past_turn x past turn))
    ∙ sym (amount_adds (length_of_data n) x past)

pub all_updates : (role : Role) (past : List Item) (n : ℕ) → HasNoFault role past → NoneBefore role n past → is_live role past n ≡ true
    → since_opening (update_length role n) role past n ≡ total (length_of_update n) (arrivals past)
all_updates role [] n good none now = refl
all_updates role (x ∷ past) n good none now =
    sum_on role past x n (opens role past x n) (is_live role past n) (update_length role n past x) (amount_of (length_of_update n) x) (since_opening (update_length role n) role past n) (total (length_of_update n) (arrivals past))
    refl refl now (update_belongs role past x n good now) (λ o. no_update n (arrivals past) (none.0 o)) (all_updates role past n good.1 none.1)
    ∙ sym (amount_adds (length_of_update n) x past)
