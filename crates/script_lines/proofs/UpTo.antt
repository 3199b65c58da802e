-- Input that is read up to a limit.
use Rattle.std.proofs.Common.{◌≡◌, ℕ, ◌≤◌, ◌+◌, List, length, take, Option, None, Some, ap, ◌∙◌, arith}
use Rattle.std.specs.Prelude.{IfSome, option_map}
use Rattle.std.proofs.lemmas.List.{length-take, take_all}

-- what is no longer than allowed is all of it
pub read_all : (most : ℕ) (held : Option (List ℕ)) (bytes : List ℕ) → IfSome (option_map (take (most + 1)) held) (λ xs. bytes ≡ xs)
    → length bytes ≤ most → IfSome held (λ h. bytes ≡ h)
read_all most None bytes read within = tt
read_all most (Some h) bytes read within = read ∙ take_all (most + 1) h (omega (arith, within, ap length read, length-take (most + 1) h))
