-- The name of an agent, and how its bytes are kept (this project's profile).
use Rattle.std.specs.Prelude.{◌≡◌, ℕ, ◌≤◌, List, length, take, All}
use Rattle.std.proofs.Common.{ap, ◌∙◌}
use Rattle.peer_ids.specs.Padded.{IsPadded, padded, padded_again, size_again}
use Rattle.pool_state.specs.declared.row.Agent.TheInside.{Inside}

-- 1 to 64 printable ASCII characters, from the space to the tilde
pub record IsAgentName (name : List ℕ) : Type 0 where
  pub some : 1 ≤ length name
  pub few : length name ≤ 64
  pub printable : All (λ byte. (32 ≤ byte) × (byte ≤ 126)) name

-- the name stands in an array of 64 bytes, with zeros behind it
abbrev pub name_in : Inside → List ℕ
name_in a = take a.len a.bytes

pub record HoldsName (a : Inside) : Type 0 where
  pub padded : IsPadded 64 a.len a.bytes
  pub name : IsAgentName (name_in a)

abbrev pub inside_of : List ℕ → Inside
inside_of name = record { bytes = padded 64 name; len = length name }

made : List ℕ → ℕ → Inside
made bytes len = record { bytes = bytes; len = len }

pub inside_again : (a : Inside) → HoldsName a → inside_of (name_in a) ≡ a
unfolding made
inside_again a h =
    ap (λ (n : ℕ). made (padded 64 (name_in a)) n) (size_again 64 a.len a.bytes h.padded)
    ∙ ap (λ (t : List ℕ). made t a.len) (padded_again 64 a.len a.bytes h.padded)
