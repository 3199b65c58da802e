-- The data that events hand out for a stream, joined, is what arrived for it.
use Rattle.std.proofs.Common.{◌≡◌, ◌≢◌, ◌⊎◌, inl, inr, append_assoc, ℕ, ◌≤◌, Bool, true, false, ◌&&◌, ◌||◌, not, ◌==◌, cond, List, [], ◌∷◌, ◌++◌, refl, sym, ap, ◌∙◌, subst, arith}
use Rattle.std.proofs.lemmas.List.{append-nil}
use Rattle.std.specs.List.{AllByRecursion, flat_map}
use Rattle.std.proofs.lemmas.Bool.{eqb-true, eq-eqb}
use Rattle.yamux_frames.specs.Frames.Arrival.{Head, Byte, Tail, Garbled}
use Rattle.yamux_session.specs.declared.event.Role.{Role}
use Rattle.yamux_session.specs.History.{Item, Act, is_own}
use Rattle.yamux_session.specs.History.Item.{Came, Did}
use Rattle.yamux_session.specs.History.Act.{Start, Write, Taken, Close, Reset}
use Rattle.yamux_session.specs.Openings.{is_live, opens, finished, reading, is_reading}
use Rattle.yamux_session.specs.Faults.{HasNoFault}
use Rattle.yamux_session.specs.Events.{Told, when, events, events_at}
use Rattle.yamux_session.specs.Data.{inbound, byte_at}
use Rattle.yamux_session.specs.Acts.{AreAnswered, next_own}
use Rattle.yamux_session.specs.Received.{data_in, AreSinceOpening, ReceivedData, SomeSince}
use Rattle.yamux_session.specs.Seen.{Seen, seen, just_opened, hears, all_heard}
use Rattle.yamux_session.proofs.Hearing.{all_both, heard_step}
use Rattle.yamux_session.proofs.Live.{below, own_next}

-- ---- what came, as it was heard

abbrev nothing : Seen
nothing = record { live = false; closed = false; ended = false; came = []; sent = [] }

-- what is heard of data asks for nothing but the data before
came_alone : (n : ℕ) (s t : Seen) (told : List Told) → s.came ≡ t.came → (all_heard n s told).came ≡ (all_heard n t told).came
came_alone n s t [] e = e
came_alone n s t (x ∷ told) e = came_alone n (hears n s x) (hears n t x) told (one x)
  where
    opened : (same : Bool) → (cond same just_opened s).came ≡ (cond same just_opened t).came
    opened true = refl
    opened false = e

    more : (b : ℕ) (same : Bool) → (cond same (record s { came = s.came ++ b ∷ [] }) s).came ≡ (cond same (record t { came = t.came ++ b ∷ [] }) t).came
    more b true = ap (λ k. k ++ b ∷ []) e
    more b false = e

    as_it_was : (u v : Seen) (same : Bool) → u.came ≡ s.came → v.came ≡ t.came → (cond same u s).came ≡ (cond same v t).came
    as_it_was u v true f g = f ∙ e ∙ sym g
    as_it_was u v false f g = e

    one : (x : Told) → (hears n s x).came ≡ (hears n t x).came
    one (Told.Opened m) = opened (m == n)
    one (Told.Payload m b) = more b (m == n)
    one (Told.Ended m) =
        as_it_was (record s { ended = true; live = s.live && not s.closed }) (record t { ended = true; live = t.live && not t.closed }) (m == n) refl refl
    one (Told.Reset m) = as_it_was (record s { live = false }) (record t { live = false }) (m == n) refl refl
    one (Told.Accepted m) = e
    one (Told.Credit m) = e
    one (Told.GoAway code) = e
    one (Told.Fault fault) = e

-- ---- an own stream that isn't open yet

not_yet : (role : Role) (past : List Item) (n : ℕ) (b : Bool) → is_live role past n ≡ b → AreAnswered role past → is_own role n ≡ true → next_own role past ≤ n → is_live role past n ≡ false
not_yet role past n true is a own later = absurd (let lt = below role past a n is own in omega arith)
not_yet role past n false is a own later = is

no_byte : (role : Role) (past : List Item) (n b : ℕ) → is_live role past n ≡ false → byte_at role past (Came (Byte b)) n ≡ []
no_byte role past n b off = ap (λ c. when ((is_reading (reading role past) n && c) && not (finished role past n)) b) off ∙ none (is_reading (reading role past) n)
  where
    none : (a : Bool) → when ((a && false) && not (finished role past n)) b ≡ []
    none true = refl
    none false = refl

none_or : (b : Bool) (bytes more : List ℕ) → bytes ≡ [] → more ≡ [] → cond b [] bytes ++ more ≡ []
none_or true bytes more e f = f
none_or false bytes more e f = ap (λ (t : List ℕ). t ++ more) e ∙ f

nothing_yet : (role : Role) (past : List Item) (n : ℕ) → AreAnswered role past → is_own role n ≡ true → next_own role past ≤ n → inbound role past n ≡ []
nothing_yet role [] n a own later = refl
nothing_yet role (Did (Start k) ∷ past) n a own later =
    none_or (opens role past (Did (Start k)) n) (inbound role past n) [] (nothing_yet role past n a.1 own (let e = a.0.1 in omega arith)) refl
nothing_yet role (Did (Write k ps) ∷ past) n a own later = none_or false (inbound role past n) [] (nothing_yet role past n a.1 own later) refl
nothing_yet role (Did (Taken k c) ∷ past) n a own later = none_or false (inbound role past n) [] (nothing_yet role past n a.1 own later) refl
nothing_yet role (Did (Close k) ∷ past) n a own later = none_or false (inbound role past n) [] (nothing_yet role past n a.1 own later) refl
nothing_yet role (Did (Reset k) ∷ past) n a own later = none_or false (inbound role past n) [] (nothing_yet role past n a.1 own later) refl
nothing_yet role (Did (Act.GoAway code) ∷ past) n a own later = none_or false (inbound role past n) [] (nothing_yet role past n a.1 own later) refl
nothing_yet role (Came (Head h) ∷ past) n a own later = none_or (opens role past (Came (Head h)) n) (inbound role past n) [] (nothing_yet role past n a own later) refl
nothing_yet role (Came (Byte b) ∷ past) n a own later =
    none_or false (inbound role past n) (byte_at role past (Came (Byte b)) n) (nothing_yet role past n a own later) (no_byte role past n b (not_yet role past n (is_live role past n) refl a own later))
nothing_yet role (Came Tail ∷ past) n a own later = none_or false (inbound role past n) [] (nothing_yet role past n a own later) refl
nothing_yet role (Came (Garbled bytes) ∷ past) n a own later = none_or false (inbound role past n) [] (nothing_yet role past n a own later) refl

-- ---- the law

start_kept : (role : Role) (past : List Item) (k n : ℕ) (same : Bool) → (k == n) ≡ same → AreAnswered role (Did (Start k) ∷ past)
    → inbound role past n ≡ inbound role (Did (Start k) ∷ past) n
start_kept role past k n true is a =
    let own : is_own role n ≡ true = ap (is_own role) (sym (eqb-true k n is) ∙ a.0.1) ∙ own_next role past a.1 in
    nothing_yet role past n a.1 own (let e = a.0.1 in let f = eqb-true k n is in omega arith)
    ∙ sym (ap (λ b. cond (b || false) [] (inbound role past n) ++ []) is)
start_kept role past k n false is a = sym (append-nil (inbound role past n)) ∙ sym (ap (λ b. cond (b || false) [] (inbound role past n) ++ []) is)

all_received : (role : Role) (past : List Item) (n : ℕ) → AreAnswered role past → HasNoFault role past
    → (all_heard n nothing (events role past)).came ≡ inbound role past n
all_received role [] n a good = refl
all_received role (Came x ∷ past) n a good =
    ap (λ (s : Seen). s.came) (all_both n nothing (events role past) (events_at role past (Came x)))
    ∙ came_alone n (all_heard n nothing (events role past)) (seen role past n) (events_at role past (Came x)) (all_received role past n a good.1)
    ∙ sym (heard_step role past x n good.0).came
all_received role (Did act ∷ past) n a good =
    ap (λ (s : Seen). s.came) (all_both n nothing (events role past) [])
    ∙ all_received role past n a.1 good.1 ∙ kept act a
  where
    kept : (act : Act) → AreAnswered role (Did act ∷ past) → inbound role past n ≡ inbound role (Did act ∷ past) n
    kept (Start k) a = start_kept role past k n (k == n) refl a
    kept (Write k ps) a = sym (append-nil (inbound role past n))
    kept (Taken k c) a = sym (append-nil (inbound role past n))
    kept (Close k) a = sym (append-nil (inbound role past n))
    kept (Reset k) a = sym (append-nil (inbound role past n))
    kept (Act.GoAway code) a = sym (append-nil (inbound role past n))

-- ---- since the opening

other_opened : (n m : ℕ) (same : Bool) → (m == n) ≡ same → Told.Opened m ≢ Told.Opened n → (m == n) ≡ false
other_opened n m true e other = absurd (other (ap Told.Opened (eqb-true m n e)))
other_opened n m false e other = e

since_came : (n : ℕ) (s : Seen) (since : List Told) → AllByRecursion (λ t. t ≢ Told.Opened n) since
    → (all_heard n s since).came ≡ s.came ++ flat_map (data_in n) since
since_came n s [] none = sym (append-nil s.came)
since_came n s (x ∷ since) none =
    since_came n (hears n s x) since none.1 ∙ ap (λ k. k ++ flat_map (data_in n) since) (one x none.0)
    ∙ append_assoc s.came (data_in n x) (flat_map (data_in n) since)
  where
    as_it_was : (u : Seen) (same : Bool) → u.came ≡ s.came → (cond same u s).came ≡ s.came ++ []
    as_it_was u true e = e ∙ sym (append-nil s.came)
    as_it_was u false e = sym (append-nil s.came)

    more : (b : ℕ) (same : Bool) → (cond same (record s { came = s.came ++ b ∷ [] }) s).came ≡ s.came ++ cond same (b ∷ []) []
    more b true = refl
    more b false = sym (append-nil s.came)

    one : (x : Told) → x ≢ Told.Opened n → (hears n s x).came ≡ s.came ++ data_in n x
    one (Told.Opened m) other = ap (λ c. (cond c just_opened s).came) (other_opened n m (m == n) refl other) ∙ sym (append-nil s.came)
    one (Told.Payload m b) other = more b (m == n)
    one (Told.Ended m) other = as_it_was (record s { ended = true; live = s.live && not s.closed }) (m == n) refl
    one (Told.Reset m) other = as_it_was (record s { live = false }) (m == n) refl
    one (Told.Accepted m) other = sym (append-nil s.came)
    one (Told.Credit m) other = sym (append-nil s.came)
    one (Told.GoAway code) other = sym (append-nil s.came)
    one (Told.Fault fault) other = sym (append-nil s.came)

since_opening_came : (n : ℕ) (told since : List Told) → AreSinceOpening n told since → (all_heard n nothing told).came ≡ flat_map (data_in n) since
since_opening_came n told since at = by at.parts
  where
    by : (told ≡ at.before ++ Told.Opened n ∷ since) ⊎ (told ≡ since) → (all_heard n nothing told).came ≡ flat_map (data_in n) since
    by (inl e) =
        ap (λ t. (all_heard n nothing t).came) e ∙ ap (λ (s : Seen). s.came) (all_both n nothing at.before (Told.Opened n ∷ since))
        ∙ ap (λ c. (all_heard n (cond c just_opened (all_heard n nothing at.before)) since).came) (eq-eqb n n refl)
        ∙ since_came n just_opened since at.opens_none
    by (inr e) = ap (λ t. (all_heard n nothing t).came) e ∙ since_came n nothing since at.opens_none

pub received : ReceivedData
received role past n since a good at = sym (since_opening_came n (events role past) since at) ∙ all_received role past n a good

-- there are always events since the opening
since_none : (n : ℕ) (x : Told) (told : List Told) → x ≢ Told.Opened n → (since : List Told) × AreSinceOpening n told since → (since : List Told) × AreSinceOpening n (x ∷ told) since
since_none n x told other before = elim before.1.parts [
  | inl e ↦ (before.0, record { before = x ∷ before.1.before; parts = inl (ap (λ (t : List Told). x ∷ t) e); opens_none = before.1.opens_none })
  | inr e ↦ (x ∷ told, record { before = []; parts = inr refl; opens_none = (other, subst (AllByRecursion (λ t. t ≢ Told.Opened n)) (sym e) before.1.opens_none) })
]

since_one : (n m : ℕ) (told : List Told) (same : Bool) → (m == n) ≡ same → (since : List Told) × AreSinceOpening n told since → (since : List Told) × AreSinceOpening n (Told.Opened m ∷ told) since
since_one n m told false other before = since_none n (Told.Opened m) told (λ e. let same : m ≡ n = cc e in let is : (m == n) ≡ true = eq-eqb m n same in (let f : true ≡ false = sym is ∙ other in cc)) before
since_one n m told true is before = elim before.1.parts [
  | inl e ↦ (before.0, record { before = Told.Opened m ∷ before.1.before; parts = inl (ap (λ (t : List Told). Told.Opened m ∷ t) e); opens_none = before.1.opens_none })
  | inr e ↦ (
    told,
    record {
      before = [];
      parts = inl (ap (λ k. Told.Opened k ∷ told) (eqb-true m n is));
      opens_none = subst (AllByRecursion (λ t. t ≢ Told.Opened n)) (sym e) before.1.opens_none;
    },
  )
]

pub some_since : SomeSince
some_since n [] = ([], record { before = []; parts = inr refl; opens_none = tt })
some_since n (Told.Opened m ∷ told) = since_one n m told (m == n) refl (some_since n told)
some_since n (Told.Payload m b ∷ told) = since_none n (Told.Payload m b) told (λ e. cc) (some_since n told)
some_since n (Told.Accepted m ∷ told) = since_none n (Told.Accepted m) told (λ e. cc) (some_since n told)
some_since n (Told.Ended m ∷ told) = since_none n (Told.Ended m) told (λ e. cc) (some_since n told)
some_since n (Told.Reset m ∷ told) = since_none n (Told.Reset m) told (λ e. cc) (some_since n told)
some_since n (Told.Credit m ∷ told) = since_none n (Told.Credit m) told (λ e. cc) (some_since n told)
some_since n (Told.GoAway code ∷ told) = since_none n (Told.GoAway code) told (λ e. cc) (some_since n told)
some_since n (Told.Fault fault ∷ told) = since_none n (Told.Fault fault) told (λ e. cc) (some_since n told)
