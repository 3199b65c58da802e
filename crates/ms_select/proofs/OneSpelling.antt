-- Bytes that begin with a number in the shortest form.
use Rattle.std.proofs.Common.{◌≡◌, ℕ, zero, suc, ◌<◌, List, [], ◌∷◌, ◌++◌, get_or, take, drop, sym, ap, ◌∙◌}
use Rattle.std.specs.Prelude.{All}
use Rattle.std.proofs.lemmas.List.{take-append-drop}
use Rattle.std.proofs.lemmas.List.Elements.{All-nil, All-cons}
use Rattle.varint_proto.specs.Varint.{SpellsShortest, shortest}
use Rattle.varint_proto.proofs.Least.{only_shortest}

bytes_in : (n : ℕ) (bytes : List ℕ) → ((i : ℕ) → get_or bytes i 0 < 256) → All (λ b. b < 256) (take n bytes)
bytes_in zero bytes h = All-nil (λ b. b < 256)
bytes_in (suc n) [] h = All-nil (λ b. b < 256)
bytes_in (suc n) (b ∷ bytes) h = All-cons (λ b. b < 256) b (take n bytes) (h 0) (bytes_in n bytes (λ i. h (suc i)))

pub number_leads : (bytes : List ℕ) (n len : ℕ) → ((i : ℕ) → get_or bytes i 0 < 256) → SpellsShortest (take len bytes) n → bytes ≡ shortest n ++ drop len bytes
number_leads bytes n len h p = sym (take-append-drop len bytes) ∙ ap (λ (t : List ℕ). t ++ drop len bytes) (only_shortest (take len bytes) n (bytes_in len bytes h) p)
