-- What a reader holds within a message, and its room. Inside: no public clause cites it.
use Rattle.std.specs.Prelude.{◌≡◌, ◌+◌, ◌≤◌, ◌<◌, ◌==◌, ℕ, Bool, false, if◌then◌else◌, List, length, Option, None, Some}
use Rattle.std.specs.List.{concat}
use Rattle.varint_proto.specs.Incoming as framed
use Rattle.varint_proto.specs.Incoming.{Arriving}
use Rattle.identify_h.specs.Streams.{most_messages, Begins, left_behind}
use Rattle.identify_h.specs.Sending.{most_bytes}
use Rattle.identify_h.specs.Reading.{Reader}

-- once the length of the next body is known there is room for it
pub record HasRoom (failed : Bool) (count len capacity : ℕ) (next : Arriving) : Type 0 where
  pub few_messages : count ≤ most_messages
  pub next_goes : failed ≡ false → next.failed ≡ false
  pub few_bytes : failed ≡ false → len + next.limit ≡ most_bytes
  pub room : (n : ℕ) → failed ≡ false → next.expected ≡ Some n → (len + n ≤ capacity) × (n ≤ next.limit)

-- behind this input a message has begun, which may be whole
pub record Holds (input : List ℕ) (r : Reader) : Type 0 where
  pub bodies : List (List ℕ)
  pub rest : List ℕ
  pub begins : Begins input bodies rest
  pub few : length bodies < most_messages
  pub count : r.count ≡ length bodies
  pub joined : r.joined ≡ concat bodies
  pub next : framed.Stands rest r.next
  pub limit : r.next.limit ≡ left_behind bodies

-- a body that is whole and was not yet put behind those before it
abbrev pub waits : ℕ → Option ℕ → ℕ
waits len None = 0
waits len (Some n) = if n == len then 1 else 0

abbrev pub waiting : Arriving → ℕ
waiting x = waits (length x.body) x.expected
