-- Whether credit or data of a stream was told by what arrived: its handler is asked anew then.
use Rattle.std.proofs.Common.{◌≡◌, ◌≢◌, ◌⊎◌, inl, inr, ℕ, ◌==◌, ◌||◌, Bool, true, false, List, [], ◌∷◌, ◌++◌, map, refl, sym, ap, ◌∙◌}
use Rattle.std.specs.List.{AllByRecursion}
use Rattle.yamux_frames.specs.Frames.{Arrival}
use Rattle.yamux_session.specs.declared.event.Role.{Role}
use Rattle.yamux_session.specs.History.{Item}
use Rattle.yamux_session.specs.History.Item.{Came}
use Rattle.yamux_session.specs.Events.{Told, events_at}
use Rattle.yamux_session.specs.Seen.{IsQuiet}
use Rattle.conn_log.specs.Entries.{Entry, items}
use Rattle.conn_log.specs.Asking.{told_credit, told_data, told_more, is_asked_anew}
use Rattle.conn_log.specs.Routes.{IsNoOpening, IsNoData, IsNoCredit}
use Rattle.conn_log.proofs.Arriving.{arrived, items_arrived}
use Rattle.conn_log.proofs.Resets.{told_by, either_true}
use Rattle.conn_log.proofs.Ends.{or_assoc}
use Rattle.conn_log.proofs.Comes.{or_on}
use Rattle.conn_log.proofs.Views.{same}

credit_append : (n : ℕ) (first later : List Told) → told_credit n (first ++ later) ≡ told_credit n first || told_credit n later
credit_append n [] later = refl
credit_append n (Told.Credit m ∷ first) later = ap (λ b. m == n || b) (credit_append n first later) ∙ or_assoc (m == n) (told_credit n first) (told_credit n later)
credit_append n (Told.Opened m ∷ first) later = credit_append n first later
credit_append n (Told.Payload m b ∷ first) later = credit_append n first later
credit_append n (Told.Ended m ∷ first) later = credit_append n first later
credit_append n (Told.Reset m ∷ first) later = credit_append n first later
credit_append n (Told.Accepted m ∷ first) later = credit_append n first later
credit_append n (Told.GoAway code ∷ first) later = credit_append n first later
credit_append n (Told.Fault fault ∷ first) later = credit_append n first later

data_append : (n : ℕ) (first later : List Told) → told_data n (first ++ later) ≡ told_data n first || told_data n later
data_append n [] later = refl
data_append n (Told.Payload m b ∷ first) later = ap (λ t. m == n || t) (data_append n first later) ∙ or_assoc (m == n) (told_data n first) (told_data n later)
data_append n (Told.Opened m ∷ first) later = data_append n first later
data_append n (Told.Credit m ∷ first) later = data_append n first later
data_append n (Told.Ended m ∷ first) later = data_append n first later
data_append n (Told.Reset m ∷ first) later = data_append n first later
data_append n (Told.Accepted m ∷ first) later = data_append n first later
data_append n (Told.GoAway code ∷ first) later = data_append n first later
data_append n (Told.Fault fault ∷ first) later = data_append n first later

both_parts : (a b c d : Bool) → (a || b) || (c || d) ≡ (a || c) || (b || d)
both_parts true b c d = refl
both_parts false true true d = refl
both_parts false true false d = refl
both_parts false false c d = refl

more_append : (n : ℕ) (first later : List Told) → told_more n (first ++ later) ≡ told_more n first || told_more n later
more_append n first later =
    ap (λ b. b || told_data n (first ++ later)) (credit_append n first later)
    ∙ ap (λ b. (told_credit n first || told_credit n later) || b) (data_append n first later)
    ∙ both_parts (told_credit n first) (told_credit n later) (told_data n first) (told_data n later)

-- by credit or data that arrived a handler is asked anew
pub more_arrived : {H : Type 0} (role : Role) (came : List Arrival) (log : List (Entry H)) (n : ℕ) → told_more n (told_by role (items log) came) ≡ true
    → is_asked_anew role (arrived came ++ log) n ≡ true
more_arrived role [] log n told = absurd (cc told)
more_arrived role (x ∷ came) log n told =
    by_part (more_arrived role came log n) (either_true (told_more n (told_by role (items log) came)) (told_more n here) (sym (more_append n (told_by role (items log) came) here) ∙ told)) where
      here : List Told
      here = events_at role (map Came came ++ items log) (Came x)

      at_once : Bool
      at_once = told_more n (events_at role (items (arrived came ++ log)) (Came x))

      by_part : (told_more n (told_by role (items log) came) ≡ true → is_asked_anew role (arrived came ++ log) n ≡ true)
          → (told_more n (told_by role (items log) came) ≡ true) ⊎ (told_more n here ≡ true) → at_once || is_asked_anew role (arrived came ++ log) n ≡ true
      by_part before (inl was) = ap (λ b. at_once || b) (before was) ∙ or_on at_once
      by_part before (inr now) = ap (λ b. b || is_asked_anew role (arrived came ++ log) n) (ap (λ (t : List Item). told_more n (events_at role t (Came x))) (items_arrived came log) ∙ now)

first_false : (a b : Bool) → a || b ≡ false → a ≡ false
first_false true b off = absurd (cc off)
first_false false b off = refl

then_false : (a b : Bool) → a || b ≡ false → b ≡ false
then_false true b off = absurd (cc off)
then_false false b off = off

-- where neither is told it is as before
pub none_arrived : {H : Type 0} (role : Role) (came : List Arrival) (log : List (Entry H)) (n : ℕ) → told_more n (told_by role (items log) came) ≡ false
    → is_asked_anew role (arrived came ++ log) n ≡ is_asked_anew role log n
none_arrived role [] log n none = refl
none_arrived role (x ∷ came) log n none =
    ap (λ b. b || is_asked_anew role (arrived came ++ log) n)
    (ap (λ (t : List Item). told_more n (events_at role t (Came x))) (items_arrived came log) ∙ then_false (told_more n (told_by role (items log) came)) (told_more n here) neither)
    ∙ none_arrived role came log n (first_false (told_more n (told_by role (items log) came)) (told_more n here) neither) where
      here : List Told
      here = events_at role (map Came came ++ items log) (Came x)

      neither : told_more n (told_by role (items log) came) || told_more n here ≡ false
      neither = sym (more_append n (told_by role (items log) came) here) ∙ none

-- what is quiet of a stream tells neither
pub quiet_tells_none : (n : ℕ) (told : List Told) → AllByRecursion (IsQuiet n) told → told_more n told ≡ false
quiet_tells_none n told quiet = ap (λ b. b || told_data n told) (no_credit told quiet) ∙ no_data told quiet where
  no_credit : (told : List Told) → AllByRecursion (IsQuiet n) told → told_credit n told ≡ false
  no_credit [] quiet = refl
  no_credit (Told.Credit m ∷ told) quiet = ap (λ b. b || told_credit n told) quiet.0 ∙ no_credit told quiet.1
  no_credit (Told.Opened m ∷ told) quiet = no_credit told quiet.1
  no_credit (Told.Payload m b ∷ told) quiet = no_credit told quiet.1
  no_credit (Told.Ended m ∷ told) quiet = no_credit told quiet.1
  no_credit (Told.Reset m ∷ told) quiet = no_credit told quiet.1
  no_credit (Told.Accepted m ∷ told) quiet = no_credit told quiet.1
  no_credit (Told.GoAway code ∷ told) quiet = no_credit told quiet.1
  no_credit (Told.Fault fault ∷ told) quiet = no_credit told quiet.1

  no_data : (told : List Told) → AllByRecursion (IsQuiet n) told → told_data n told ≡ false
  no_data [] quiet = refl
  no_data (Told.Payload m b ∷ told) quiet = ap (λ t. t || told_data n told) quiet.0 ∙ no_data told quiet.1
  no_data (Told.Opened m ∷ told) quiet = no_data told quiet.1
  no_data (Told.Credit m ∷ told) quiet = no_data told quiet.1
  no_data (Told.Ended m ∷ told) quiet = no_data told quiet.1
  no_data (Told.Reset m ∷ told) quiet = no_data told quiet.1
  no_data (Told.Accepted m ∷ told) quiet = no_data told quiet.1
  no_data (Told.GoAway code ∷ told) quiet = no_data told quiet.1
  no_data (Told.Fault fault ∷ told) quiet = no_data told quiet.1

-- and what opens no stream, and tells neither, is quiet
pub untold_is_quiet : (n : ℕ) (told : List Told) → AllByRecursion (IsNoOpening n) told → told_more n told ≡ false → AllByRecursion (IsQuiet n) told
untold_is_quiet n told none untold = by_both told none (first_false (told_credit n told) (told_data n told) untold) (then_false (told_credit n told) (told_data n told) untold) where
  by_both : (told : List Told) → AllByRecursion (IsNoOpening n) told → told_credit n told ≡ false → told_data n told ≡ false → AllByRecursion (IsQuiet n) told
  by_both [] none no_credit no_data = tt
  by_both (Told.Credit m ∷ told) none no_credit no_data =
      (first_false (m == n) (told_credit n told) no_credit, by_both told none.1 (then_false (m == n) (told_credit n told) no_credit) no_data)
  by_both (Told.Payload m b ∷ told) none no_credit no_data =
      (first_false (m == n) (told_data n told) no_data, by_both told none.1 no_credit (then_false (m == n) (told_data n told) no_data))
  by_both (Told.Opened m ∷ told) none no_credit no_data = (none.0, by_both told none.1 no_credit no_data)
  by_both (Told.Ended m ∷ told) none no_credit no_data = (tt, by_both told none.1 no_credit no_data)
  by_both (Told.Reset m ∷ told) none no_credit no_data = (tt, by_both told none.1 no_credit no_data)
  by_both (Told.Accepted m ∷ told) none no_credit no_data = (tt, by_both told none.1 no_credit no_data)
  by_both (Told.GoAway code ∷ told) none no_credit no_data = (tt, by_both told none.1 no_credit no_data)
  by_both (Told.Fault fault ∷ told) none no_credit no_data = (tt, by_both told none.1 no_credit no_data)

-- as where neither data nor credit is told
pub quiet_rest : (n : ℕ) (rest : List Told) → AllByRecursion (IsNoOpening n) rest → AllByRecursion IsNoData rest → AllByRecursion IsNoCredit rest → AllByRecursion (IsQuiet n) rest
quiet_rest n [] none no_data no_credit = tt
quiet_rest n (Told.Opened m ∷ rest) none no_data no_credit = (none.0, quiet_rest n rest none.1 no_data.1 no_credit.1)
quiet_rest n (Told.Payload m b ∷ rest) none no_data no_credit = absurd no_data.0
quiet_rest n (Told.Credit m ∷ rest) none no_data no_credit = absurd no_credit.0
quiet_rest n (Told.Ended m ∷ rest) none no_data no_credit = (tt, quiet_rest n rest none.1 no_data.1 no_credit.1)
quiet_rest n (Told.Reset m ∷ rest) none no_data no_credit = (tt, quiet_rest n rest none.1 no_data.1 no_credit.1)
quiet_rest n (Told.Accepted m ∷ rest) none no_data no_credit = (tt, quiet_rest n rest none.1 no_data.1 no_credit.1)
quiet_rest n (Told.GoAway code ∷ rest) none no_data no_credit = (tt, quiet_rest n rest none.1 no_data.1 no_credit.1)
quiet_rest n (Told.Fault fault ∷ rest) none no_data no_credit = (tt, quiet_rest n rest none.1 no_data.1 no_credit.1)

-- by credit, or by data that is to be routed, its handler is asked anew
pub anew_by_credit : {Q : Type 0} (n : ℕ) (rest : List Told) → AllByRecursion (IsQuiet n) (Told.Credit n ∷ rest) ⊎ Q → Q
anew_by_credit n rest (inl quiet) = absurd (let e : true ≡ false = sym (same n) ∙ quiet.0 in cc e)
anew_by_credit n rest (inr anew) = anew

pub anew_by_data : {Q : Type 0} (n : ℕ) (bytes : List ℕ) (rest : List Told) → bytes ≢ [] → AllByRecursion (IsQuiet n) (map (Told.Payload n) bytes ++ rest) ⊎ Q → Q
anew_by_data n [] rest some it = absurd (some refl)
anew_by_data n (b ∷ bytes) rest some (inl quiet) = absurd (let e : true ≡ false = sym (same n) ∙ quiet.0 in cc e)
anew_by_data n (b ∷ bytes) rest some (inr anew) = anew
