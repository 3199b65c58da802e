-- Two joined sessions meet no fault.
use Rattle.std.proofs.Common.{◌≡◌, ℕ, ◌+◌, ◌≤◌, Bool, true, false, not, ◌&&◌, ◌||◌, ◌==◌, nat_lt, cond, inl, inr, List, [], ◌∷◌, ◌++◌, length, map, Option, Some, None, refl, sym, ap, ◌∙◌, subst, append_assoc, arith}
use Rattle.std.specs.Prelude.{sum_by}
use Rattle.std.proofs.lemmas.Bool.{eqb-true, eq-eqb, le-ltb}
use Rattle.std.proofs.lemmas.List.Sums.{sum_by-cons}
use Rattle.std.proofs.lemmas.List.{append-nil, length-append, append_cancel_left}
use mathlib.Core.List.{IsPrefix}
use Rattle.yamux_frames.specs.declared.header.Header.{Header}
use Rattle.yamux_frames.specs.declared.header.FrameKind.{FrameKind}
use Rattle.yamux_frames.specs.declared.header.FrameKind.TheVariants.{Payload, Window, Ping, GoAway}
use Rattle.yamux_frames.specs.Frames.{Arrival, spelling, spelled, IsBetween, IsRest, IsSound, AreFrames, Reads}
use Rattle.yamux_frames.specs.Frames.Arrival.{Head, Byte, Tail, Garbled}
use Rattle.yamux_frames.proofs.Front as prefixes
use Rattle.yamux_frames.proofs.Readings.{one_reading}
use Rattle.yamux_session.specs.declared.event.Role.{Role}
use Rattle.yamux_session.specs.declared.event.Role.TheVariants.{Client, Server}
use Rattle.yamux_session.specs.declared.event.Fault.{Fault}
use Rattle.yamux_session.specs.declared.event.Fault.TheVariants.{WrongParity, DuplicateStream, WindowExceeded, WindowTooLarge}
use Rattle.yamux_session.specs.History.{Item, Act, arrivals, syn, is_of_stream, is_own, is_remote, is_data, is_update}
use Rattle.yamux_session.specs.History.Item.{Came, Did}
use Rattle.yamux_session.specs.History.Act.{Start, Write, Taken, Close, Reset}
use Rattle.yamux_session.specs.Openings.{live, is_live, contains, local_go_away, is_let_in, opens, head_belongs}
use Rattle.yamux_session.specs.Windows.{initial_window, since_opening, written_length, given_back, credit, receiving_window}
use Rattle.yamux_session.specs.Acts.{AreAnswered, IsAnswered}
use Rattle.yamux_session.specs.Faults.{HasNoFault, fault_at, syn_fault, window_fault, window_at, credit_at, or_else}
use Rattle.yamux_session.specs.Data.{inbound, written}
use Rattle.yamux_session.specs.Output.{output}
use Rattle.yamux_session.specs.Joined.{End, IsFed, IsDone, Joined, NoFault, length_of_data, length_of_update, IsOnTheWay, IsBalanced, Balance, IsWhole, NothingIsLost}
use Rattle.yamux_session.specs.Joined.Joined.{Begin, Client_fed, Server_fed, Client_acts, Server_acts}
use Rattle.yamux_session.proofs.Keeping.{and_false}
use Rattle.yamux_session.proofs.Lists.{either_way, and_parts}
use Rattle.yamux_session.proofs.Live.{not_both, own_next, let_in_at, or_none_true}
use Rattle.yamux_session.proofs.joined.Sent.{sent, sent_on, sent_spelled, sent_behind}
use Rattle.yamux_session.proofs.joined.Totals.{total, total_both, all_time, syn_of, starts, data_sent, update_sent, syn_sent}
use Rattle.yamux_session.proofs.joined.Once.{openings, never_live, written_once, given_once, data_came, update_came, windows_hold, starts_once, started_below, none_unless, own_openings, other_openings}
use Rattle.yamux_session.proofs.joined.InTurn.{head_of, AreInTurn, older_turn, sent_turn, other_silent}
use Rattle.yamux_session.proofs.joined.Coming.{NoneBefore, all_data, all_updates}
use Rattle.yamux_session.proofs.joined.Delivered.{bytes_of, older_bytes, sent_written, delivered}
use Rattle.yamux_session.proofs.joined.WholeFrames.{IsSent, sent_frames, sent_one}

-- each end has read a prefix of the frames that the other has sent
pub record Linked (p q : Role) (far near : List Item) : Type 0 where
  pub q_remote : (n : ℕ) → is_remote q n ≡ is_own p n
  pub p_remote : (n : ℕ) → is_remote p n ≡ is_own q n
  pub p_answered : AreAnswered p far
  pub q_answered : AreAnswered q near
  pub p_good : HasNoFault p far
  pub q_good : HasNoFault q near
  pub p_frames : AreFrames (arrivals far)
  pub q_frames : AreFrames (arrivals near)
  pub p_none : (n : ℕ) → NoneBefore p n far
  pub q_none : (n : ℕ) → NoneBefore q n near
  pub way : (newer : List Arrival) × (sent p far ≡ newer ++ arrivals near)
  pub back : (newer : List Arrival) × (sent q near ≡ newer ++ arrivals far)

pub turned : (p q : Role) (far near : List Item) → Linked p q far near → Linked q p near far
turned p q far near l = record {
  q_remote = l.p_remote;
  p_remote = l.q_remote;
  p_answered = l.q_answered;
  q_answered = l.p_answered;
  p_good = l.q_good;
  q_good = l.p_good;
  p_frames = l.q_frames;
  q_frames = l.p_frames;
  p_none = l.q_none;
  q_none = l.p_none;
  way = l.back;
  back = l.way;
}

-- what has arrived was sent
came_within : (f : Arrival → ℕ) (all newer some : List Arrival) → all ≡ newer ++ some → total f some ≤ total f all
came_within f all newer some split = let e : total f all ≡ total f (newer ++ some) = ap (total f) split in omega (arith, total_both f newer some)

module _ (p q : Role) (far near : List Item) (l : Linked p q far near) where
  syn_once : (n : ℕ) → total (syn_of n) (sent p far) ≤ 1
  syn_once n = let few = starts_once p n far l.p_answered in let e = syn_sent n p far in omega arith

  once_if : (n : ℕ) (b : Bool) → is_own q n ≡ b → all_time (openings q n) near ≤ 1
  once_if n true own = let few = starts_once q n near l.q_answered in let less = own_openings q n near own l.q_answered in omega arith
  once_if n false other =
      let less = other_openings q n near other l.q_answered in
      let came = came_within (syn_of n) (sent p far) l.way.0 (arrivals near) l.way.1 in
      let few = syn_once n in omega arith

  -- the other end opens each stream once at most
  once : (n : ℕ) → all_time (openings q n) near ≤ 1
  once n = once_if n (is_own q n) refl

  -- all data that was sent fits the window and what was given back
  pub data_fits : ((n : ℕ) → all_time (openings p n) far ≤ 1) → (n : ℕ) → total (length_of_data n) (sent p far) ≤ 262144 + since_opening (given_back q n) q near n
  data_fits p_once n =
      let wrote = data_sent n p far in
      let since = written_once p n far l.p_answered (p_once n) in
      let room = (windows_hold p n far l.p_answered l.p_good l.p_frames).written in
      let credited = update_came p n far in
      let came = came_within (length_of_update n) (sent q near) l.back.0 (arrivals far) l.back.1 in
      let gave = update_sent n q near in
      let given = given_once q n near l.q_answered (once n) in
      omega arith

  -- all credit that was given is for data that was sent
  pub updates_fit : ((n : ℕ) → all_time (openings p n) far ≤ 1) → (n : ℕ) → total (length_of_update n) (sent p far) ≤ since_opening (written_length n) q near n
  updates_fit p_once n =
      let gave = update_sent n p far in
      let since = given_once p n far l.p_answered (p_once n) in
      let least = (windows_hold p n far l.p_answered l.p_good l.p_frames).given in
      let announced = data_came p n far in
      let came = came_within (length_of_data n) (sent q near) l.back.0 (arrivals far) l.back.1 in
      let wrote = data_sent n q near in
      let written = written_once q n near l.q_answered (once n) in
      omega arith

  -- ---- the next frame that arrives has no fault

  window_good : (h : Header) → ((n : ℕ) → all_time (openings p n) far ≤ 1) → syn h ≡ false → total (length_of_data h.stream) (Head h ∷ arrivals near) ≤ total (length_of_data h.stream) (sent p far)
      → total (length_of_update h.stream) (Head h ∷ arrivals near) ≤ total (length_of_update h.stream) (sent p far) → window_fault q near h ≡ None
  window_good h p_once plain of_data of_updates = by (is_data h.kind) (is_update h.kind) refl refl
    where
      n : ℕ
      n = h.stream

      here : (k : Bool) → (h.stream == h.stream && k) ≡ k
      here k = ap (λ b. b && k) (eq-eqb h.stream h.stream refl)

      by_data : is_data h.kind ≡ true → nat_lt (window_at q near h) h.length ≡ false
      by_data is =
          let its : length_of_data n (Head h) ≡ h.length = ap (λ b. cond b h.length 0) (here (is_data h.kind) ∙ is) in
          let fits = data_fits p_once n in
          let less = data_came q n near in
          let window : window_at q near h ≡ receiving_window q near n = ap (λ b. cond b initial_window (receiving_window q near n)) plain in
          le-ltb (window_at q near h) h.length (omega arith)

      by_update : is_update h.kind ≡ true → nat_lt 4294967295 (credit_at q near h + h.length) ≡ false
      by_update is =
          let its : length_of_update n (Head h) ≡ h.length = ap (λ b. cond b h.length 0) (here (is_update h.kind) ∙ is) in
          let fits = updates_fit p_once n in
          let less = update_came q n near in
          let room = (windows_hold q n near l.q_answered l.q_good l.q_frames).written in
          let window : credit_at q near h ≡ credit q near n = ap (λ b. cond b initial_window (credit q near n)) plain in
          le-ltb 4294967295 (credit_at q near h + h.length) (omega arith)

      by : (d u : Bool) → is_data h.kind ≡ d → is_update h.kind ≡ u → window_fault q near h ≡ None
      by true u data_is update_is =
          ap (λ b. cond (is_data h.kind && b) (Some WindowExceeded) (cond (is_update h.kind && nat_lt 4294967295 (credit_at q near h + h.length)) (Some WindowTooLarge) None)) (by_data data_is)
          ∙ ap (λ b. cond b (Some WindowExceeded) (cond (is_update h.kind && nat_lt 4294967295 (credit_at q near h + h.length)) (Some WindowTooLarge) None)) (and_false (is_data h.kind))
          ∙ by_kind h.kind data_is
        where
          by_kind : (k : FrameKind) → is_data k ≡ true → cond (is_update k && nat_lt 4294967295 (credit_at q near h + h.length)) (Some WindowTooLarge) None ≡ None
          by_kind Payload e = refl
          by_kind Window e = absurd cc
          by_kind Ping e = refl
          by_kind GoAway e = refl
      by false true data_is update_is =
          ap (λ b. cond (b && nat_lt (window_at q near h) h.length) (Some WindowExceeded) (cond (is_update h.kind && nat_lt 4294967295 (credit_at q near h + h.length)) (Some WindowTooLarge) None)) data_is
          ∙ ap (λ b. cond (is_update h.kind && b) (Some WindowTooLarge) None) (by_update update_is)
          ∙ ap (λ b. cond b (Some WindowTooLarge) None) (and_false (is_update h.kind))
      by false false data_is update_is =
          ap (λ b. cond (b && nat_lt (window_at q near h) h.length) (Some WindowExceeded) (cond (is_update h.kind && nat_lt 4294967295 (credit_at q near h + h.length)) (Some WindowTooLarge) None)) data_is
          ∙ ap (λ b. cond (b && nat_lt 4294967295 (credit_at q near h + h.length)) (Some WindowTooLarge) None) update_is

  -- a SYN opens one of the other end's own streams, which wasn't opened before
  syn_good : (h : Header) (newer : List Arrival) → sent p far ≡ newer ++ Head h ∷ arrivals near → is_of_stream h && syn h ≡ true → fault_at q near (Came (Head h)) ≡ None
  syn_good h newer split opening =
      let n : ℕ = h.stream in
      let one = sent_one p far newer (Head h) (arrivals near) l.p_answered split opening in
      let remote : is_remote q n ≡ true = l.q_remote n ∙ one.0 in
      let here : syn_of n (Head h) ≡ 1 = ap (λ b. cond (b && (is_of_stream h && syn h)) 1 0) (eq-eqb n n refl) ∙ ap (λ b. cond b 1 0) opening in
      let once = syn_once n in
      let all : total (syn_of n) (sent p far) ≡ total (syn_of n) (newer ++ Head h ∷ arrivals near) = ap (total (syn_of n)) split in
      let none : total (syn_of n) (arrivals near) ≡ 0 = omega (arith, total_both (syn_of n) newer (Head h ∷ arrivals near)) in
      let few = other_openings q n near (not_own (is_own q n) refl remote) l.q_answered in
      let off : is_live q near n ≡ false = never_live q near n (omega arith) in
      let parts : syn h ≡ true = (and_parts (is_of_stream h) (syn h) opening).1 in
      ap (λ b. or_else (cond b (syn_fault q near h) None) (cond (head_belongs q near h n) (window_fault q near h) None)) opening
      ∙ ap (λ b. or_else (cond (not b) (Some WrongParity) (cond (is_live q near n) (Some DuplicateStream) None)) (cond (head_belongs q near h n) (window_fault q near h) None)) remote
      ∙ ap (λ b. or_else (cond b (Some DuplicateStream) None) (cond (head_belongs q near h n) (window_fault q near h) None)) off
      ∙ ap (λ (f : Option Fault). cond (head_belongs q near h n) f None) (empty_good parts one.1 one.2) ∙ either_way (head_belongs q near h n) None
    where
      not_own : (b : Bool) → is_own q h.stream ≡ b → is_remote q h.stream ≡ true → is_own q h.stream ≡ false
      not_own true own remote = absurd (not_both q h.stream own remote)
      not_own false own remote = own

      empty_good : syn h ≡ true → is_data h.kind ≡ false → h.length ≡ 0 → window_fault q near h ≡ None
      empty_good opening no_data empty =
          ap (λ b. cond (b && nat_lt (window_at q near h) h.length) (Some WindowExceeded) (cond (is_update h.kind && nat_lt 4294967295 (credit_at q near h + h.length)) (Some WindowTooLarge) None)) no_data
          ∙ ap (λ b. cond (is_update h.kind && b) (Some WindowTooLarge) None)
          (let first : credit_at q near h ≡ 262144 = ap (λ b. cond b initial_window (credit q near h.stream)) opening in le-ltb 4294967295 (credit_at q near h + h.length) (omega arith))
          ∙ ap (λ b. cond b (Some WindowTooLarge) None) (and_false (is_update h.kind))

  plain_good : (h : Header) (newer : List Arrival) (b : Bool) → syn h ≡ b → ((n : ℕ) → all_time (openings p n) far ≤ 1) → sent p far ≡ newer ++ Head h ∷ arrivals near
      → is_of_stream h && syn h ≡ false → fault_at q near (Came (Head h)) ≡ None
  plain_good h newer b is p_once split plain =
      ap (λ b. or_else (cond b (syn_fault q near h) None) (cond (head_belongs q near h h.stream) (window_fault q near h) None)) plain ∙ belonging b is
    where
      -- with SYN it is of no stream, and belongs to none
      off : (o s : Bool) (rest : Bool) → o && s ≡ false → s ≡ true → o ≡ false
      off true true rest e f = absurd cc
      off true false rest e f = absurd (let g : true ≡ false = sym f in cc)
      off false s rest e f = refl

      belonging : (b : Bool) → syn h ≡ b → cond (head_belongs q near h h.stream) (window_fault q near h) None ≡ None
      belonging true is =
          let none : is_of_stream h ≡ false = off (is_of_stream h) (syn h) true plain is in
          ap (λ (f : Option Fault). cond (head_belongs q near h h.stream) f None) (other_kind h.kind none) ∙ either_way (head_belongs q near h h.stream) None
        where
          other_kind : (k : FrameKind) → (is_data k || is_update k) ≡ false
              → cond (is_data k && nat_lt (window_at q near h) h.length) (Some WindowExceeded) (cond (is_update k && nat_lt 4294967295 (credit_at q near h + h.length)) (Some WindowTooLarge) None) ≡ None
          other_kind Payload e = absurd cc
          other_kind Window e = absurd cc
          other_kind Ping e = refl
          other_kind GoAway e = refl
      belonging false is =
          ap (λ (f : Option Fault). cond (head_belongs q near h h.stream) f None)
          (window_good h p_once is (came_within (length_of_data h.stream) (sent p far) newer (Head h ∷ arrivals near) split) (came_within (length_of_update h.stream) (sent p far) newer (Head h ∷ arrivals near) split))
          ∙ either_way (head_belongs q near h h.stream) None

  next_good : (newer : List Arrival) (x : Arrival) → ((n : ℕ) → all_time (openings p n) far ≤ 1) → sent p far ≡ newer ++ x ∷ arrivals near → fault_at q near (Came x) ≡ None
  next_good newer (Head h) p_once split = by (is_of_stream h && syn h) refl
    where
      by : (b : Bool) → (is_of_stream h && syn h) ≡ b → fault_at q near (Came (Head h)) ≡ None
      by true opening = syn_good h newer split opening
      by false plain = plain_good h newer (syn h) refl p_once split plain
  next_good newer (Byte b) p_once split = refl
  next_good newer Tail p_once split = refl
  next_good newer (Garbled bytes) p_once split = absurd (sent_one p far newer (Garbled bytes) (arrivals near) l.p_answered split)

  -- ---- nothing of a stream comes before it is opened

  came_first : (newer : List Arrival) (x : Arrival) (n : ℕ) → ((n : ℕ) → all_time (openings p n) far ≤ 1) → sent p far ≡ newer ++ x ∷ arrivals near
      → opens q near (Came x) n ≡ true → total (head_of n) (arrivals near) ≡ 0
  came_first newer (Head h) n p_once split is =
      let lets = opening (is_of_stream h && syn h) (is_let_in q (live q near) (local_go_away near) h) is in
      let same : h.stream ≡ n = (let_in_at q near h n (is_of_stream h && syn h && is_let_in q (live q near) (local_go_away near) h) refl is).0 in
      let turn = older_turn newer (Head h ∷ arrivals near) (subst AreInTurn split (sent_turn p far l.p_answered l.p_good p_once)) in
      subst (λ m. total (head_of m) (arrivals near) ≡ 0) same (turn.0.0 lets)
    where
      opening : (s e : Bool) → contains (cond (s && e) (h.stream ∷ []) []) n ≡ true → s ≡ true
      opening true e is = refl
      opening false e is = absurd cc
  came_first newer (Byte b) n p_once split is = absurd cc
  came_first newer Tail n p_once split is = absurd cc
  came_first newer (Garbled bytes) n p_once split is = absurd cc

  started_first : (act : Act) (n : ℕ) → IsAnswered q near act → opens q near (Did act) n ≡ true → total (head_of n) (arrivals near) ≡ 0
  started_first (Start k) n answered is =
      let same : k ≡ n = eqb-true k n (or_none_true (k == n) is) in
      let own : is_own q n ≡ true = ap (is_own q) (sym same ∙ answered.1) ∙ own_next q near l.q_answered in
      let unstarted = none_unless (all_time (starts n) near) (λ some. let lt = started_below q n near l.q_answered some in let e = answered.1 in absurd (omega arith)) in
      let asked = syn_sent n q near in
      let came = came_within (syn_of n) (sent q near) l.back.0 (arrivals far) l.back.1 in
      let quiet = other_silent p far n l.p_answered (not_own (is_own p n) refl own) (omega arith) in
      let less = came_within (head_of n) (sent p far) l.way.0 (arrivals near) l.way.1 in omega arith
    where
      not_own : (b : Bool) → is_own p n ≡ b → is_own q n ≡ true → is_own p n ≡ false
      not_own true mine own = absurd (not_both q n own (l.q_remote n ∙ mine))
      not_own false mine own = mine
  started_first (Write k pieces) n answered is = absurd cc
  started_first (Taken k count) n answered is = absurd cc
  started_first (Close k) n answered is = absurd cc
  started_first (Reset k) n answered is = absurd cc
  started_first (Act.GoAway code) n answered is = absurd cc

  -- ---- one step

  reads : (newer : List Arrival) (x : Arrival) → ((n : ℕ) → all_time (openings p n) far ≤ 1) → sent p far ≡ newer ++ x ∷ arrivals near → AreFrames (x ∷ arrivals near) → Linked p q far (Came x ∷ near)
  reads newer x p_once split frames = record {
    q_remote = l.q_remote;
    p_remote = l.p_remote;
    p_answered = l.p_answered;
    q_answered = l.q_answered;
    p_good = l.p_good;
    q_good = (next_good newer x p_once split, l.q_good);
    p_frames = l.p_frames;
    q_frames = frames;
    p_none = l.p_none;
    q_none = λ n. (came_first newer x n p_once split, l.q_none n);
    way = (newer, split);
    back = (sent_on q near (Came x) l.back.0, ap (sent_on q near (Came x)) l.back.1 ∙ sent_behind q near (Came x) l.back.0 (arrivals far));
  }

  acts : (act : Act) → IsAnswered q near act → Linked p q far (Did act ∷ near)
  acts act answered = record {
    q_remote = l.q_remote;
    p_remote = l.p_remote;
    p_answered = l.p_answered;
    q_answered = (answered, l.q_answered);
    p_good = l.p_good;
    q_good = (refl, l.q_good);
    p_frames = l.p_frames;
    q_frames = l.q_frames;
    p_none = l.p_none;
    q_none = λ n. (started_first act n answered, l.q_none n);
    way = l.way;
    back = (sent_on q near (Did act) l.back.0, ap (sent_on q near (Did act)) l.back.1 ∙ sent_behind q near (Did act) l.back.0 (arrivals far));
  }

-- ---- all that a byte brings

pub opened_once : (p q : Role) (far near : List Item) → Linked p q far near → (n : ℕ) → all_time (openings p n) far ≤ 1
opened_once p q far near l = once q p near far (turned p q far near l)

reads_all : (p q : Role) (far near : List Item) (came : List Arrival) (newer : List Arrival) → Linked p q far near → sent p far ≡ newer ++ arrivals (map Came came ++ near)
    → AreFrames (arrivals (map Came came ++ near)) → Linked p q far (map Came came ++ near)
reads_all p q far near [] newer l split frames = l
reads_all p q far near (x ∷ came) newer l split frames =
    let now : List Item = map Came came ++ near in
    let before = reads_all p q far near came (newer ++ x ∷ []) l (split ∙ sym (append_assoc newer (x ∷ []) (arrivals now))) (prefixes.past_frames x (arrivals now) frames) in
    reads p q far now before newer x (opened_once p q far now before) split frames

between_sound : (past : List Arrival) → IsBetween past → IsSound past
between_sound [] between = tt
between_sound (Tail ∷ past) between = tt
between_sound (Head h ∷ past) between = tt
between_sound (Byte b ∷ past) between = tt
between_sound (Garbled bytes ∷ past) between = between

-- what is no header isn't sent, so it doesn't arrive
nothing_garbled : (p : Role) (far : List Item) (some : List Arrival) (rest : List ℕ) → AreAnswered p far → AreFrames (sent p far) → IsBetween (sent p far) → AreFrames some
    → spelled (sent p far) ≡ spelled some ++ rest → IsSound some
nothing_garbled p far (Garbled bytes ∷ past) rest answered frames between some e =
    let whole = e ∙ append_assoc (spelled past) bytes rest in
    let before = prefixes.prefix (sent p far) past (bytes ++ rest) frames between some.2 (between_sound past some.0) whole in
    elim (prefixes.oldest_of before.0) [
      | inl none ↦
          let same : sent p far ≡ past = before.1 ∙ ap (λ (t : List Arrival). t ++ past) none in
          let size : length (spelled past) ≡ length (spelled past ++ (bytes ++ rest)) = ap length (sym (ap spelled same) ∙ whole) in
          let twelve = prefixes.twelve bytes some.1.0 some.1.1 in
          absurd (omega (arith, length-append (spelled past) (bytes ++ rest), length-append bytes rest))
      | inr more ↦
          let w : List Arrival = more.newer in
          let y : Arrival = more.oldest in
          let split : sent p far ≡ w ++ (y ∷ past) = before.1 ∙ ap (λ (t : List Arrival). t ++ past) more.whole ∙ append_assoc w (y ∷ []) past in
          let same : Garbled bytes ≡ y = prefixes.same_next (Garbled bytes) y past rest (spelled w) some (prefixes.older_frames w (y ∷ past) (subst AreFrames split frames))
          (append_cancel_left (spelled past) (bytes ++ rest) (spelling y ++ spelled w)
          (sym whole ∙ ap spelled split ∙ prefixes.spelled_both w (y ∷ past) ∙ append_assoc (spelled past) (spelling y) (spelled w))) in
          absurd (subst (IsSent p) (sym same) (sent_one p far w y past answered split))
    ]
nothing_garbled p far [] rest answered frames between some e = tt
nothing_garbled p far (Head h ∷ past) rest answered frames between some e = tt
nothing_garbled p far (Byte b ∷ past) rest answered frames between some e = tt
nothing_garbled p far (Tail ∷ past) rest answered frames between some e = tt

fed_linked : (p q : Role) (from old new : End) (byte : ℕ) → Linked p q from.items old.items → IsFed q p old new from byte → Linked p q from.items new.items
fed_linked p q from old new byte l fed =
    let far : List Item = from.items in
    let reading = fed.read.1 in
    let whole = sent_frames p far l.p_answered l.p_good l.p_frames in
    let bytes : spelled (sent p far) ≡ spelled (arrivals new.items) ++ (fed.read.0 ++ fed.sent.0) =
    sent_spelled p far l.p_good ∙ sym fed.sent.1 ∙ ap (λ (t : List ℕ). t ++ fed.sent.0) reading.whole ∙ append_assoc (spelled (arrivals new.items)) fed.read.0 fed.sent.0 in
    let sound = nothing_garbled p far (arrivals new.items) (fed.read.0 ++ fed.sent.0) l.p_answered whole.0 whole.1 reading.frames_are bytes in
    let way = prefixes.prefix (sent p far) (arrivals new.items) (fed.read.0 ++ fed.sent.0) whole.0 whole.1 reading.frames_are sound bytes in
    subst (Linked p q far) (sym fed.came.1)
    (reads_all p q far old.items fed.came.0 way.0 l (way.1 ∙ ap (λ (xs : List Item). way.0 ++ arrivals xs) fed.came.1) (subst (λ (xs : List Item). AreFrames (arrivals xs)) fed.came.1 reading.frames_are))

done_linked : (p q : Role) (far : List Item) (old new : End) (act : Act) → Linked p q far old.items → IsDone q old new act → Linked p q far new.items
done_linked p q far old new act l done = subst (Linked p q far) (sym done.items) (acts p q far old.items l act done.answered)

pub linked : (client server : End) → Joined client server → Linked Client Server client.items server.items
linked client server Begin = record {
  q_remote = λ n. refl;
  p_remote = λ n. refl;
  p_answered = tt;
  q_answered = tt;
  p_good = tt;
  q_good = tt;
  p_frames = tt;
  q_frames = tt;
  p_none = λ n. tt;
  q_none = λ n. tt;
  way = ([], refl);
  back = ([], refl);
}
linked _ _ (Client_fed {client} {server} {new} {byte} before fed) =
    turned Server Client server.items new.items (fed_linked Server Client server client new byte (turned Client Server client.items server.items (linked client server before)) fed)
linked _ _ (Server_fed {client} {server} {new} {byte} before fed) = fed_linked Client Server client server new byte (linked client server before) fed
linked _ _ (Client_acts {client} {server} {new} {act} before done) =
    turned Server Client server.items new.items (done_linked Server Client server.items client new act (turned Client Server client.items server.items (linked client server before)) done)
linked _ _ (Server_acts {client} {server} {new} {act} before done) = done_linked Client Server client.items server new act (linked client server before) done

-- ---- the laws

prefix_then : (xs ys zs : List ℕ) → IsPrefix xs ys → IsPrefix ys zs → IsPrefix xs zs
prefix_then xs ys zs p q = (p.0 ++ q.0, sym (append_assoc xs p.0 q.0) ∙ ap (λ (t : List ℕ). t ++ q.0) p.1 ∙ q.1)

-- what has come is in turn
pub came_turn : (p q : Role) (far near : List Item) → Linked p q far near → AreInTurn (arrivals near)
came_turn p q far near l = older_turn l.way.0 (arrivals near) (subst AreInTurn l.way.1 (sent_turn p far l.p_answered l.p_good (opened_once p q far near l)))

front_of_written : (p q : Role) (far near : List Item) → Linked p q far near → (n : ℕ) → IsPrefix (inbound q near n) (written p far n)
front_of_written p q far near l n =
    let came = (delivered q near n l.q_good (l.q_none n) l.q_frames (came_turn p q far near l)).prefix in
    let older = older_bytes n l.way.0 (arrivals near) in
    let same : bytes_of n (l.way.0 ++ arrivals near) ≡ written p far n = ap (bytes_of n) (sym l.way.1) ∙ sent_written p far n l.p_answered (opened_once p q far near l n) in
    prefix_then (inbound q near n) (bytes_of n (arrivals near)) (written p far n) came (subst (IsPrefix (bytes_of n (arrivals near))) same older)

pub no_fault : NoFault
no_fault client server joined =
    let l = linked client server joined in (
      l.p_good,
      l.q_good,
      front_of_written Client Server client.items server.items l,
      front_of_written Server Client server.items client.items (turned Client Server client.items server.items l),
    )

sum_total : (f : Arrival → ℕ) (xs : List Arrival) → sum_by f xs ≡ total f xs
sum_total f [] = refl
sum_total f (x ∷ xs) = let rest = sum_total f xs in omega (arith, sum_by-cons f x xs)

whole_rest : (xs : List Arrival) → IsBetween xs → IsRest xs []
whole_rest [] between = omega arith
whole_rest (Tail ∷ xs) between = omega arith
whole_rest (Head h ∷ xs) between = absurd between
whole_rest (Byte b ∷ xs) between = absurd between
whole_rest (Garbled bytes ∷ xs) between = tt

-- the output is read as the frames that were sent
all_read : (p q : Role) (far near : List Item) → Linked p q far near → Reads (output p far) (sent p far) []
all_read p q far near l =
    let whole = sent_frames p far l.p_answered l.p_good l.p_frames in
    record { whole = sym (sent_spelled p far l.p_good) ∙ sym (append-nil (spelled (sent p far))); frames_are = whole.0; rest_is = whole_rest (sent p far) whole.1 }

-- what is on its way is what was sent and hasn't come
pub way_is : (p q : Role) (far near : List Item) (way : List Arrival) → Linked p q far near → IsOnTheWay p far near way → sent p far ≡ way ++ arrivals near
way_is p q far near way l on_way = (one_reading (output p far) (sent p far) (way ++ arrivals near) [] on_way.0 (all_read p q far near l) on_way.1).0

pub on_its_way : (p q : Role) (far near : List Item) → Linked p q far near → (way : List Arrival) × IsOnTheWay p far near way
on_its_way p q far near l = (l.way.0, ([], subst (λ (xs : List Arrival). Reads (output p far) xs []) l.way.1 (all_read p q far near l)))

whole_when_quiet : (p q : Role) (far near : List Item) → Linked p q far near → IsWhole p q far near
whole_when_quiet p q far near l n on none =
    (delivered q near n l.q_good (l.q_none n) l.q_frames (came_turn p q far near l)).whole on
    ∙ ap (bytes_of n) (sym (way_is p q far near [] l none))
    ∙ sent_written p far n l.p_answered (opened_once p q far near l n)

pub nothing_is_lost : NothingIsLost
nothing_is_lost client server joined =
    let l = linked client server joined in
    (whole_when_quiet Client Server client.items server.items l, whole_when_quiet Server Client server.items client.items (turned Client Server client.items server.items l))

pub balanced : (p q : Role) (far near : List Item) → Linked p q far near → IsBalanced p q far near
balanced p q far near l n way back p_live q_live on_way on_back =
    let p_once = opened_once p q far near l in
    let q_once = opened_once q p near far (turned p q far near l) in
    let announced = all_data q near n l.q_good (l.q_none n) (came_turn p q far near l) q_live in
    let credited = all_updates p far n l.p_good (l.p_none n) p_live in
    let wrote = data_sent n p far in
    let written = written_once p n far l.p_answered (p_once n) in
    let gave = update_sent n q near in
    let given = given_once q n near l.q_answered (q_once n) in
    let room = (windows_hold p n far l.p_answered l.p_good l.p_frames).written in
    let to_q : total (length_of_data n) (sent p far) ≡ total (length_of_data n) (way ++ arrivals near) = ap (total (length_of_data n)) (way_is p q far near way l on_way) in
    let to_p : total (length_of_update n) (sent q near) ≡ total (length_of_update n) (back ++ arrivals far) = ap (total (length_of_update n)) (way_is q p near far back (turned p q far near l) on_back) in
    omega (arith, total_both (length_of_data n) way (arrivals near), total_both (length_of_update n) back (arrivals far), sum_total (length_of_data n) way, sum_total (length_of_update n) back)

pub balance : Balance
balance client server joined =
    let l = linked client server joined in
    (balanced Client Server client.items server.items l, balanced Server Client server.items client.items (turned Client Server client.items server.items l))
