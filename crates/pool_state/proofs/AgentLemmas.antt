-- A name of 64 bytes at most, with zeros behind it.
use Rattle.std.proofs.Common.{ℕ, ◌-◌, List, ◌++◌, length, replicate, sym, subst, arith}
use Rattle.std.proofs.Math.Seq.{take-append_seam, drop-append_seam}
use Rattle.std.proofs.lemmas.List.{length-append, length-replicate}
use Rattle.pool_state.specs.AgentName.{IsAgentName, HoldsName}

pub is_padded : (name : List ℕ) → IsAgentName name → HoldsName record { bytes = name ++ replicate (64 - length name) 0; len = length name }
is_padded name is = record {
  padded = record {
    fits = is.few;
    whole = omega (arith, is.few, length-append name (replicate (64 - length name) 0), length-replicate {A = ℕ} (64 - length name) 0);
    zeros = drop-append_seam name (replicate (64 - length name) 0);
  };
  name = subst IsAgentName (sym (take-append_seam name (replicate (64 - length name) 0))) is;
}
