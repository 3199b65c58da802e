-- What arrives changes: the list grows by it, and of the streams only the one that is named moves.
use Rattle.std.proofs.Common.{◌≡◌, ℕ, suc, ◌==◌, ◌||◌, ◌&&◌, not, Bool, true, false, cond, List, [], ◌∷◌, ◌++◌, map, refl, sym, ap, ◌∙◌}
use Rattle.std.specs.Prelude.{is_some}
use Rattle.std.specs.List.{AllByRecursion}
use Rattle.yamux_frames.specs.Frames.{Arrival}
use Rattle.yamux_session.specs.declared.event.Role.{Role}
use Rattle.yamux_session.specs.declared.event.Event.{Event}
use Rattle.yamux_session.specs.declared.event.Event.TheVariants as event
use Rattle.yamux_session.specs.History.{Item}
use Rattle.yamux_session.specs.History.Item.{Came}
use Rattle.yamux_session.specs.Openings.{opens}
use Rattle.yamux_session.specs.Arrives.{tellings}
use Rattle.yamux_session.specs.Naming.{IsAbout, IsNoOpening as OpensNone}
use Rattle.yamux_session.specs.Events.{Told}
use Rattle.yamux_session.specs.Seen.{Seen, hears, all_heard, just_opened, IsQuiet}
use Rattle.yamux_session.specs.Endings.{opened_in, told_opened}
use Rattle.conn_log.specs.Entries.{Entry, items, since, made_in, over_in, is_kept, left_behind, asked}
use Rattle.conn_log.specs.Entries.Entry.{Of}
use Rattle.conn_log.specs.Routes.{IsNoOpening, IsNoCredit, EndsLast}

-- entries for what arrived
abbrev pub arrived : {H : Type 0} → List Arrival → List (Entry H)
arrived [] = []
arrived (x ∷ came) = Of (Came x) ∷ arrived came

pub items_arrived : {H : Type 0} (came : List Arrival) (log : List (Entry H)) → items (arrived came ++ log) ≡ map Came came ++ items log
items_arrived [] log = refl
items_arrived (x ∷ came) log = ap (λ t. Came x ∷ t) (items_arrived came log)

pub said_arrived : {H : Type 0} (came : List Arrival) → Rattle.conn_log.specs.Entries.said {H = H} (arrived came) ≡ []
said_arrived [] = refl
said_arrived (x ∷ came) = said_arrived came

pub asks_arrived : (H : Type 0) (came : List Arrival) → Rattle.conn_log.specs.Entries.asks {H = H} (arrived came) ≡ []
asks_arrived H [] = refl
asks_arrived H (x ∷ came) = asks_arrived H came

pub asked_arrived : {H : Type 0} (came : List Arrival) (log : List (Entry H)) (n : ℕ) → asked (arrived came ++ log) n ≡ asked log n
asked_arrived [] log n = refl
asked_arrived (x ∷ came) log n = asked_arrived came log n

either : {A : Type 0} (b c : Bool) (s : List A) → cond b [] (cond c [] s) ≡ cond (b || c) [] s
either true c s = refl
either false c s = refl

pub since_arrived : {H : Type 0} (role : Role) (came : List Arrival) (log : List (Entry H)) (n : ℕ)
    → since role (arrived came ++ log) n ≡ cond (opened_in role (items log) came n) [] (since role log n)
since_arrived role [] log n = refl
since_arrived role (x ∷ came) log n =
    ap (λ (t : List Item). cond (opens role t (Came x) n) [] (since role (arrived came ++ log) n)) (items_arrived came log)
    ∙ ap (λ t. cond (opens role (map Came came ++ items log) (Came x) n) [] t) (since_arrived role came log n)
    ∙ either (opens role (map Came came ++ items log) (Came x) n) (opened_in role (items log) came n) (since role log n)

-- a number leaves a stream behind where it is opened anew while the handler is held
pub left_arrived : {H : Type 0} (role : Role) (came : List Arrival) (log : List (Entry H)) (n : ℕ)
    → left_behind role (arrived came ++ log) n ≡ cond (opened_in role (items log) came n && is_kept role log n) (suc (left_behind role log n)) (left_behind role log n)
left_arrived role [] log n = refl
left_arrived {H = H} role (x ∷ came) log n =
    ap (λ k. cond (opens role (items (arrived came ++ log)) (Came x) n && is_kept role (arrived came ++ log) n) (suc k) k) (left_arrived role came log n)
    ∙ ap (λ (t : List Item). cond (opens role t (Came x) n && is_kept role (arrived came ++ log) n) (suc (left (opened_in role (items log) came n))) (left (opened_in role (items log) came n)))
    (items_arrived came log)
    ∙ by_opening (opens role (map Came came ++ items log) (Came x) n) (opened_in role (items log) came n) refl where
      left : Bool → ℕ
      left before = cond (before && is_kept role log n) (suc (left_behind role log n)) (left_behind role log n)

      kept_behind : (since_then : List (Entry H)) → since role (arrived came ++ log) n ≡ since_then
          → is_kept role (arrived came ++ log) n ≡ is_some (made_in n since_then) && not (over_in n since_then)
      kept_behind since_then is = ap (λ t. is_some (made_in n t) && not (over_in n t)) is

      by_opening : (now before : Bool) → opened_in role (items log) came n ≡ before
          → cond (now && is_kept role (arrived came ++ log) n) (suc (left before)) (left before) ≡ left (now || before)
      by_opening false before is = refl
      by_opening true true is = ap (λ b. cond b (suc (left true)) (left true))
          (kept_behind [] (since_arrived role came log n ∙ ap (λ b. cond b [] (since role log n)) is))
      by_opening true false is = ap (λ b. cond b (suc (left_behind role log n)) (left_behind role log n))
          (kept_behind (since role log n) (since_arrived role came log n ∙ ap (λ b. cond b [] (since role log n)) is))

-- ---- what names one stream

-- it is about this stream, or about none
abbrev pub IsNamed : ℕ → Told → Type 0
IsNamed n (Told.Opened m) = m ≡ n
IsNamed n (Told.Accepted m) = m ≡ n
IsNamed n (Told.Payload m b) = m ≡ n
IsNamed n (Told.Ended m) = m ≡ n
IsNamed n (Told.Reset m) = m ≡ n
IsNamed n (Told.Credit m) = m ≡ n
IsNamed n (Told.GoAway code) = Unit {0}
IsNamed n (Told.Fault fault) = Unit {0}

pub all_join : {A : Type 0} (Q : A → Type 0) (xs ys : List A) → AllByRecursion Q xs → AllByRecursion Q ys → AllByRecursion Q (xs ++ ys)
all_join Q [] ys a b = b
all_join Q (x ∷ xs) ys a b = (a.0, all_join Q xs ys a.1 b)

bytes_named : (n m : ℕ) (bytes : List ℕ) → m ≡ n → AllByRecursion (IsNamed n) (map (Told.Payload m) bytes)
bytes_named n m [] is = tt
bytes_named n m (b ∷ bytes) is = (is, bytes_named n m bytes is)

pub named : (n : ℕ) (told : List Event) → AllByRecursion (IsAbout n) told → AllByRecursion (IsNamed n) (tellings told)
named n [] all = tt
named n (event.Opened m ∷ told) all = (all.0, named n told all.1)
named n (event.Accepted m ∷ told) all = (all.0, named n told all.1)
named n (event.Payload m bytes ∷ told) all = all_join (IsNamed n) (map (Told.Payload m) bytes) (tellings told) (bytes_named n m bytes all.0) (named n told all.1)
named n (event.Ended m ∷ told) all = (all.0, named n told all.1)
named n (event.Reset m ∷ told) all = (all.0, named n told all.1)
named n (event.Credit m ∷ told) all = (all.0, named n told all.1)
named n (event.GoAway code ∷ told) all = (tt, named n told all.1)
named n (event.Fault fault ∷ told) all = (tt, named n told all.1)

bytes_open : (n m : ℕ) (bytes : List ℕ) → AllByRecursion (IsNoOpening n) (map (Told.Payload m) bytes)
bytes_open n m [] = tt
bytes_open n m (b ∷ bytes) = (tt, bytes_open n m bytes)

pub opens_none : (n : ℕ) (told : List Event) → AllByRecursion OpensNone told → AllByRecursion (IsNoOpening n) (tellings told)
opens_none n [] all = tt
opens_none n (event.Opened m ∷ told) all = absurd all.0
opens_none n (event.Accepted m ∷ told) all = (tt, opens_none n told all.1)
opens_none n (event.Payload m bytes ∷ told) all = all_join (IsNoOpening n) (map (Told.Payload m) bytes) (tellings told) (bytes_open n m bytes) (opens_none n told all.1)
opens_none n (event.Ended m ∷ told) all = (tt, opens_none n told all.1)
opens_none n (event.Reset m ∷ told) all = (tt, opens_none n told all.1)
opens_none n (event.Credit m ∷ told) all = (tt, opens_none n told all.1)
opens_none n (event.GoAway code ∷ told) all = (tt, opens_none n told all.1)
opens_none n (event.Fault fault ∷ told) all = (tt, opens_none n told all.1)

other_one : (k n m : ℕ) → k ≡ n → (n == m) ≡ false → (k == m) ≡ false
other_one k n m is e = ap (λ x. x == m) is ∙ e

-- of another stream nothing is heard
module _ (n m : ℕ) (apart : (n == m) ≡ false) where
  pub not_heard : (s : Seen) (told : List Told) → AllByRecursion (IsNamed n) told → all_heard m s told ≡ s
  not_heard s [] all = refl
  not_heard s (t ∷ told) all = ap (λ (x : Seen). all_heard m x told) (one t all.0) ∙ not_heard s told all.1 where
    one : (t : Told) → IsNamed n t → hears m s t ≡ s
    one (Told.Opened k) is = ap (λ b. cond b just_opened s) (other_one k n m is apart)
    one (Told.Payload k b) is = ap (λ x. cond x (record s { came = s.came ++ b ∷ [] }) s) (other_one k n m is apart)
    one (Told.Ended k) is = ap (λ b. cond b (record s { ended = true; live = s.live && not s.closed }) s) (other_one k n m is apart)
    one (Told.Reset k) is = ap (λ b. cond b (record s { live = false }) s) (other_one k n m is apart)
    one (Told.Accepted k) is = refl
    one (Told.Credit k) is = refl
    one (Told.GoAway code) is = refl
    one (Told.Fault fault) is = refl

  pub not_opened : (told : List Told) → AllByRecursion (IsNamed n) told → told_opened m told ≡ false
  not_opened [] all = refl
  not_opened (Told.Opened k ∷ told) all = ap (λ b. b || told_opened m told) (other_one k n m all.0 apart) ∙ not_opened told all.1
  not_opened (Told.Payload k b ∷ told) all = not_opened told all.1
  not_opened (Told.Ended k ∷ told) all = not_opened told all.1
  not_opened (Told.Reset k ∷ told) all = not_opened told all.1
  not_opened (Told.Accepted k ∷ told) all = not_opened told all.1
  not_opened (Told.Credit k ∷ told) all = not_opened told all.1
  not_opened (Told.GoAway code ∷ told) all = not_opened told all.1
  not_opened (Told.Fault fault ∷ told) all = not_opened told all.1

  pub quiet : (told : List Told) → AllByRecursion (IsNamed n) told → AllByRecursion (IsQuiet m) told
  quiet [] all = tt
  quiet (Told.Opened k ∷ told) all = (other_one k n m all.0 apart, quiet told all.1)
  quiet (Told.Payload k b ∷ told) all = (other_one k n m all.0 apart, quiet told all.1)
  quiet (Told.Ended k ∷ told) all = (tt, quiet told all.1)
  quiet (Told.Reset k ∷ told) all = (tt, quiet told all.1)
  quiet (Told.Accepted k ∷ told) all = (tt, quiet told all.1)
  quiet (Told.Credit k ∷ told) all = (other_one k n m all.0 apart, quiet told all.1)
  quiet (Told.GoAway code ∷ told) all = (tt, quiet told all.1)
  quiet (Told.Fault fault ∷ told) all = (tt, quiet told all.1)

-- ---- of the stream that is named

-- it isn't opened
pub unopened : (n : ℕ) (told : List Told) → AllByRecursion (IsNoOpening n) told → told_opened n told ≡ false
unopened n [] none = refl
unopened n (Told.Opened k ∷ told) none = ap (λ b. b || told_opened n told) none.0 ∙ unopened n told none.1
unopened n (Told.Payload k b ∷ told) none = unopened n told none.1
unopened n (Told.Ended k ∷ told) none = unopened n told none.1
unopened n (Told.Reset k ∷ told) none = unopened n told none.1
unopened n (Told.Accepted k ∷ told) none = unopened n told none.1
unopened n (Told.Credit k ∷ told) none = unopened n told none.1
unopened n (Told.GoAway code ∷ told) none = unopened n told none.1
unopened n (Told.Fault fault ∷ told) none = unopened n told none.1

-- behind its end nothing is told that brings it data or credit
pub quiet_behind : (n : ℕ) (rest : List Told) → AllByRecursion (IsNoOpening n) rest → EndsLast true rest → AllByRecursion IsNoCredit rest → AllByRecursion (IsQuiet n) rest
quiet_behind n [] none last without = tt
quiet_behind n (Told.Opened m ∷ rest) none last without = (none.0, quiet_behind n rest none.1 last without.1)
quiet_behind n (Told.Payload m b ∷ rest) none last without = absurd (cc last.0)
quiet_behind n (Told.Ended m ∷ rest) none last without = absurd (cc last.0)
quiet_behind n (Told.Reset m ∷ rest) none last without = (tt, quiet_behind n rest none.1 last without.1)
quiet_behind n (Told.Accepted m ∷ rest) none last without = (tt, quiet_behind n rest none.1 last without.1)
quiet_behind n (Told.Credit m ∷ rest) none last without = absurd without.0
quiet_behind n (Told.GoAway code ∷ rest) none last without = (tt, quiet_behind n rest none.1 last without.1)
quiet_behind n (Told.Fault fault ∷ rest) none last without = (tt, quiet_behind n rest none.1 last without.1)

-- what doesn't open it closes nothing, and brings it no life
module _ (n : ℕ) where
  closed_stays : (s : Seen) (t : Told) → IsNoOpening n t → (hears n s t).closed ≡ s.closed
  closed_stays s (Told.Opened m) none = ap (λ b. (cond b just_opened s).closed) none
  closed_stays s (Told.Payload m b) none = by_test (m == n) where
    by_test : (it : Bool) → (cond it (record s { came = s.came ++ b ∷ [] }) s).closed ≡ s.closed
    by_test true = refl
    by_test false = refl
  closed_stays s (Told.Ended m) none = by_test (m == n) where
    by_test : (it : Bool) → (cond it (record s { ended = true; live = s.live && not s.closed }) s).closed ≡ s.closed
    by_test true = refl
    by_test false = refl
  closed_stays s (Told.Reset m) none = by_test (m == n) where
    by_test : (it : Bool) → (cond it (record s { live = false }) s).closed ≡ s.closed
    by_test true = refl
    by_test false = refl
  closed_stays s (Told.Accepted m) none = refl
  closed_stays s (Told.Credit m) none = refl
  closed_stays s (Told.GoAway code) none = refl
  closed_stays s (Told.Fault fault) none = refl

  was_alive : (s : Seen) (t : Told) → IsNoOpening n t → (hears n s t).live ≡ true → s.live ≡ true
  was_alive s (Told.Opened m) none live = sym (ap (λ b. (cond b just_opened s).live) none) ∙ live
  was_alive s (Told.Payload m b) none live = by_test (m == n) live where
    by_test : (it : Bool) → (cond it (record s { came = s.came ++ b ∷ [] }) s).live ≡ true → s.live ≡ true
    by_test true e = e
    by_test false e = e
  was_alive s (Told.Ended m) none live = by_test (m == n) live where
    both : (b c : Bool) → b && c ≡ true → b ≡ true
    both true c e = refl
    both false c e = e

    by_test : (it : Bool) → (cond it (record s { ended = true; live = s.live && not s.closed }) s).live ≡ true → s.live ≡ true
    by_test true e = both s.live (not s.closed) e
    by_test false e = e
  was_alive s (Told.Reset m) none live = by_test (m == n) live where
    by_test : (it : Bool) → (cond it (record s { live = false }) s).live ≡ true → s.live ≡ true
    by_test true e = absurd (cc e)
    by_test false e = e
  was_alive s (Told.Accepted m) none live = live
  was_alive s (Told.Credit m) none live = live
  was_alive s (Told.GoAway code) none live = live
  was_alive s (Told.Fault fault) none live = live

  pub all_closed_stays : (s : Seen) (told : List Told) → AllByRecursion (IsNoOpening n) told → (all_heard n s told).closed ≡ s.closed
  all_closed_stays s [] none = refl
  all_closed_stays s (t ∷ told) none = all_closed_stays (hears n s t) told none.1 ∙ closed_stays s t none.0

  pub was_live_before : (s : Seen) (told : List Told) → AllByRecursion (IsNoOpening n) told → (all_heard n s told).live ≡ true → s.live ≡ true
  was_live_before s [] none live = live
  was_live_before s (t ∷ told) none live = was_alive s t none.0 (was_live_before (hears n s t) told none.1 live)
