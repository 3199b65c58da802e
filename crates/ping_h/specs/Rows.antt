-- Worked rows of the definitions, each with its place in the standard, or in this project's profile.
use Rattle.std.specs.Prelude.{◌≡◌, ◌↔◌, ℕ, List, [], ◌∷◌, ◌++◌, true, false, replicate}
use Rattle.handlers.specs.Calls.{Take, End, ToTake, ToGive, ToEnd}
use Rattle.ping_h.specs.Echoes.{Echo, EchoFails, whole_rounds}
use Rattle.ping_h.specs.Rounds.{Round, RoundStep, RoundFails, round}

-- an echo that was handed so many bytes of 7, of which so many are of a round that isn't whole
abbrev pub echo_of : ℕ → ℕ → Echo
echo_of count begun = record { owed = replicate count 7; begun = begun; ended = false; failed = false }

-- a ping that was sent, of which these bytes are still to come back
abbrev pub awaits : List ℕ → Round
awaits bytes = record { unsent = []; awaited = bytes; ended = false; failed = false }

pub record WorkedRows : Type 0 where
  -- libp2p ping 1.0.0, "Protocol": 32 bytes are echoed, again and again
  pub echo_of_31_bytes : whole_rounds (replicate 31 7) ≡ []
  pub echo_of_33_bytes : whole_rounds (replicate 32 7 ++ 8 ∷ []) ≡ replicate 32 7
  pub echo_of_64_bytes : whole_rounds (replicate 64 7) ≡ replicate 64 7
  -- profile: an echo that ends within a round is Cut (3), and between rounds it isn't
  pub echo_ends_within_a_round : (n : ℕ) → EchoFails (echo_of 31 31) ToEnd n ↔ (n ≡ 3)
  pub echo_ends_between_rounds : (n : ℕ) → ¬ EchoFails (echo_of 32 0) ToEnd n
  -- libp2p ping 1.0.0, "Protocol": the same 32 bytes come back, and then the end
  pub ping_comes_back : RoundStep (awaits (replicate 32 7)) (Take (replicate 32 7)) (awaits [])
  pub ping_ends : RoundStep (awaits []) End (record (awaits []) { ended = true })
  -- profile: Failed (1), WrongEcho (2), Cut (3) and out of memory (4)
  pub changed_byte : (n : ℕ) → RoundFails (awaits (replicate 32 7)) (ToTake (6 ∷ [])) n ↔ (n ≡ 2)
  pub byte_after_the_echo : (n : ℕ) → RoundFails (awaits []) (ToTake (7 ∷ [])) n ↔ (n ≡ 2)
  pub ping_ends_after_31_bytes : (n : ℕ) → RoundFails (awaits (7 ∷ [])) ToEnd n ↔ (n ≡ 3)
  pub out_of_memory : (n : ℕ) → RoundFails (round (replicate 32 7)) (ToGive 1) n ↔ (n ≡ 4)
  pub call_after_a_fault : (n : ℕ) → RoundFails (record (awaits []) { failed = true }) (ToTake []) n ↔ (n ≡ 1)
