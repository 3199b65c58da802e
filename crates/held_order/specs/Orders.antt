-- In which order the handlers that a connection holds were made.
-- Source: this project's profile.
use Rattle.std.specs.Prelude.{ℕ, ◌==◌, Bool, if◌then◌else◌, List, [], ◌∷◌, ◌++◌, take, drop, Option, Some, None}
use Rattle.std.specs.Prelude.{is_some}
use Rattle.std.specs.List.{position, remove}
use Rattle.yamux_session.specs.declared.event.Role.{Role}
use Rattle.conn_log.specs.declared.event.ConnEvent.{ConnEvent}
use Rattle.conn_log.specs.declared.event.ConnEvent.TheVariants as event
use Rattle.conn_log.specs.Entries.{Entry, made_of}
use Rattle.conn_log.specs.Entries.Entry.{Of, Says, Made, Asks, Calls}

-- ---- what is held

-- all but what stands at this place, if there is one
abbrev pub all_but : {X : Type 0} → Option ℕ → List X → List X
all_but (Some at) xs = remove xs at
all_but None xs = xs

-- the newest handler of this stream is held no more
abbrev pub without : ℕ → List ℕ → List ℕ
without n newest = all_but (position (λ m. m == n) newest) newest

-- the newest handler is that of this stream, where one was made for it
abbrev pub with_if : Bool → ℕ → List ℕ → List ℕ
with_if was_made n newest = if was_made then n ∷ newest else newest

-- the newest handler of this stream is held no more, where one was made for it
abbrev pub without_if : Bool → ℕ → List ℕ → List ℕ
without_if was_made n newest = if was_made then without n newest else newest

-- The newest handler of this stream goes, if one was made for it since its opening: that of an earlier opening of its
-- number is held still.
abbrev pub lets_go : {H : Type 0} → Role → List (Entry H) → ℕ → List ℕ → List ℕ
lets_go role log n newest = without_if (is_some (made_of role log n)) n newest

-- by its Done, Refused and Broken the handler of a stream goes
abbrev pub heard : {H : Type 0} → Role → List (Entry H) → ConnEvent H → List ℕ → List ℕ
heard role log (event.Refused n) newest = lets_go role log n newest
heard role log (event.Done n handler) newest = lets_go role log n newest
heard role log (event.Broken n cause) newest = lets_go role log n newest
heard role log (event.Upgraded key) newest = newest
heard role log (event.Agreed n index) newest = newest
heard role log (event.Fault fault) newest = newest
heard role log event.Shut newest = newest

-- the streams whose handlers are held where the list ends, that of the newest handler first
abbrev pub newest_held : {H : Type 0} → Role → List (Entry H) → List ℕ
newest_held role [] = []
newest_held role (Of x ∷ log) = newest_held role log
newest_held role (Says e ∷ log) = heard role log e (newest_held role log)
newest_held role (Made n handler ∷ log) = n ∷ newest_held role log
newest_held role (Asks n index ∷ log) = newest_held role log
newest_held role (Calls n call ∷ log) = newest_held role log

-- ---- putting what is held in order

-- what stands at this place, if there is one
abbrev pub only : {X : Type 0} → Option ℕ → List X → List X
only (Some at) xs = take 1 (drop at xs)
only None xs = []

-- For each number in turn the first that has it; what no number names comes last.
abbrev pub arranged : {H : Type 0} → List ℕ → List (ℕ × H) → List (ℕ × H)
arranged [] held = held
arranged (n ∷ order) held =
    only (position (λ one. one.0 == n) held) held
    ++ arranged order (all_but (position (λ one. one.0 == n) held) held)
