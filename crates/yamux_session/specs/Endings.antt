-- What events tell of the openings of a stream, and of its end.
-- Source: hashicorp yamux, "Flag Field": SYN opens a stream, and FIN ends one direction of it.
use Rattle.std.specs.Prelude.{◌≡◌, ℕ, ◌==◌, ◌||◌, Bool, true, false, if◌then◌else◌, List, [], ◌∷◌, ◌++◌, map}
use Rattle.yamux_frames.specs.Frames.{Arrival}
use Rattle.yamux_session.specs.declared.event.Role.{Role}
use Rattle.yamux_session.specs.History.{Item, is_own}
use Rattle.yamux_session.specs.History.Item.{Came}
use Rattle.yamux_session.specs.Openings.{is_live, opens, finished}
use Rattle.yamux_session.specs.Events.{Told}
use Rattle.yamux_session.specs.Seen.{TellsFrom}

-- ---- openings

-- whether one of these arrivals opens the stream
abbrev pub opened_in : Role → List Item → List Arrival → ℕ → Bool
opened_in role past [] n = false
opened_in role past (x ∷ came) n = opens role (map Came came ++ past) (Came x) n || opened_in role past came n

-- whether one of these events tells that the stream was opened
abbrev pub told_opened : ℕ → List Told → Bool
told_opened n [] = false
told_opened n (Told.Opened m ∷ told) = m == n || told_opened n told
told_opened n (other ∷ told) = told_opened n told

-- a stream was opened where an event tells so, and nowhere else
abbrev pub OpeningsAreTold : Type 0
OpeningsAreTold = (role : Role) (past : List Item) (came : List Arrival) (told : List Told) (n : ℕ)
    → TellsFrom role past came told → opened_in role past came n ≡ told_opened n told

-- what arrives opens no stream with a number of this end
abbrev pub OpenedByTheOther : Type 0
OpenedByTheOther = (role : Role) (past : List Item) (came : List Arrival) (n : ℕ)
    → opened_in role past came n ≡ true → is_own role n ≡ false

-- a stream whose opening is told first wasn't live before
abbrev pub OpenedAnew : Type 0
OpenedAnew = (role : Role) (past : List Item) (came : List Arrival) (told : List Told) (n : ℕ)
    → TellsFrom role past came (Told.Opened n ∷ told) → is_live role past n ≡ false

-- ---- ends

-- Since each opening of the stream its end is told once at most, and no data behind it. The flag: whether its end
-- was told before these events
abbrev pub EndsOnce : ℕ → Bool → List Told → Type 0
EndsOnce n ended [] = Unit {0}
EndsOnce n ended (Told.Opened m ∷ told) = EndsOnce n (if m == n then false else ended) told
EndsOnce n ended (Told.Payload m b ∷ told) = (m ≡ n → ended ≡ false) × EndsOnce n ended told
EndsOnce n ended (Told.Ended m ∷ told) =
    (m ≡ n → ended ≡ false) × EndsOnce n (if m == n then true else ended) told
EndsOnce n ended (other ∷ told) = EndsOnce n ended told

abbrev pub EndsAreLast : Type 0
EndsAreLast = (role : Role) (past : List Item) (came : List Arrival) (told : List Told) (n : ℕ)
    → TellsFrom role past came told → EndsOnce n (finished role past n) told

-- no event is about the stream, but perhaps its opening
abbrev pub IsUntold : ℕ → List Told → Type 0
IsUntold n [] = Unit {0}
IsUntold n (Told.Accepted m ∷ told) = ((m == n) ≡ false) × IsUntold n told
IsUntold n (Told.Payload m b ∷ told) = ((m == n) ≡ false) × IsUntold n told
IsUntold n (Told.Ended m ∷ told) = ((m == n) ≡ false) × IsUntold n told
IsUntold n (Told.Reset m ∷ told) = ((m == n) ≡ false) × IsUntold n told
IsUntold n (Told.Credit m ∷ told) = ((m == n) ≡ false) × IsUntold n told
IsUntold n (other ∷ told) = IsUntold n told

-- of a stream that isn't live, and isn't opened, nothing is told
abbrev pub NotTold : Type 0
NotTold = (role : Role) (past : List Item) (came : List Arrival) (told : List Told) (n : ℕ)
    → TellsFrom role past came told → is_live role past n ≡ false → told_opened n told ≡ false → IsUntold n told
