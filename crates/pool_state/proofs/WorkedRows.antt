-- Worked rows of pools, computed by the definitions.
use Rattle.std.proofs.Common.{ℕ, ◌≤◌, List, [], ◌∷◌, refl, arith}
use Rattle.std.proofs.lemmas.List.{length-replicate}
use Rattle.std.proofs.lemmas.List.Elements.{All-nil, All-cons, All-head, All-replicate}
use Rattle.pool_state.specs.AgentName.{IsAgentName}
use Rattle.pool_state.specs.Rows.{WorkedRows}

abbrev IsPrintable : ℕ → Type 0
IsPrintable byte = (32 ≤ byte) × (byte ≤ 126)

first_of : (byte : ℕ) (rest : List ℕ) → IsAgentName (byte ∷ rest) → IsPrintable byte
first_of byte rest name = All-head IsPrintable byte rest name.printable

pub worked_rows : WorkedRows
worked_rows = record {
  refusals_in_order = record { replies = refl; listing_is = refl };
  block_closes_its_peer = record { replies = refl; listing_is = refl };
  sides_and_allow_mode = record { replies = refl; listing_is = refl };
  agent_of_a_live_connection = record { replies = refl; listing_is = refl };
  front_before_the_last = record { replies = refl; listing_is = refl };
  spent_at_the_last_front = refl;
  last_number = record { replies = refl; listing_is = refl };
  room_below_the_limits = (refl, refl, refl, refl, refl);
  full_at_the_limits = (refl, refl, refl, refl, refl);
  ranges_of_the_limits = (
    record {
      some_conns = (omega arith, omega arith);
      some_per_peer = (omega arith, omega arith);
      some_streams = (omega arith, omega arith);
      few_blocked = omega arith;
      few_inbound = omega arith;
      few_outbound = omega arith;
      few_allowed = omega arith;
    },
    record {
      some_conns = (omega arith, omega arith);
      some_per_peer = (omega arith, omega arith);
      some_streams = (omega arith, omega arith);
      few_blocked = omega arith;
      few_inbound = omega arith;
      few_outbound = omega arith;
      few_allowed = omega arith;
    },
    λ h. omega (arith, h.some_conns.0),
    λ h. omega (arith, h.some_per_peer.0),
    λ h. omega (arith, h.some_streams.0),
    λ h. omega (arith, h.some_conns.1),
    λ h. omega (arith, h.some_per_peer.1),
    λ h. omega (arith, h.some_streams.1),
    λ h. omega (arith, h.few_blocked),
    λ h. omega (arith, h.few_inbound),
    λ h. omega (arith, h.few_outbound),
    λ h. omega (arith, h.few_allowed),
  );
  names_of_agents = (
    record {
      some = omega arith;
      few = omega arith;
      printable = All-cons IsPrintable 32 (126 ∷ []) (omega arith, omega arith)
          (All-cons IsPrintable 126 [] (omega arith, omega arith) (All-nil IsPrintable));
    },
    record {
      some = omega (arith, length-replicate {A = ℕ} 64 126);
      few = omega (arith, length-replicate {A = ℕ} 64 126);
      printable = All-replicate IsPrintable 64 126 (omega arith, omega arith);
    },
    λ name. omega (arith, name.some),
    λ name. omega (arith, name.few, length-replicate {A = ℕ} 65 126),
    λ name. omega (arith, (first_of 31 [] name).0),
    λ name. omega (arith, (first_of 127 [] name).1),
  );
  refusal_numbers = refl;
}
