-- Bytes in an array, with zeros behind them. Inside: no public clause cites it.
use Rattle.std.specs.Prelude.{◌≡◌, ℕ, ◌-◌, ◌≤◌, List, ◌++◌, length, take, drop, replicate}
use Rattle.std.proofs.Common.{ap, sym, ◌∙◌, arith}
use Rattle.std.proofs.lemmas.List.{take-append-drop, length-take-le}

-- the first `len` bytes of an array of `room`, and zeros
pub record IsPadded (room len : ℕ) (bytes : List ℕ) : Type 0 where
  pub fits : len ≤ room
  pub whole : length bytes ≡ room
  pub zeros : drop len bytes ≡ replicate (room - len) 0

abbrev pub padded : ℕ → List ℕ → List ℕ
padded room bytes = bytes ++ replicate (room - length bytes) 0

pub size_again : (room len : ℕ) (bytes : List ℕ) → IsPadded room len bytes → length (take len bytes) ≡ len
size_again room len bytes h = length-take-le len bytes (omega (arith, h.fits, h.whole))

pub padded_again : (room len : ℕ) (bytes : List ℕ) → IsPadded room len bytes → padded room (take len bytes) ≡ bytes
padded_again room len bytes h =
    ap (λ (n : ℕ). take len bytes ++ replicate (room - n) 0) (size_again room len bytes h)
    ∙ ap (λ (z : List ℕ). take len bytes ++ z) (sym h.zeros) ∙ take-append-drop len bytes
