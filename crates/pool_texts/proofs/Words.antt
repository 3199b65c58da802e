-- What single words say: numbers, and pairs with a space between them.
use Rattle.std.proofs.Common.{◌≡◌, ℕ, ◌<◌, ◌^◌, List, length, Option, Some, None, Result, Ok, Err, Bor, ap, ◌∙◌, arith, rules}
use Rattle.std.specs.Prelude.{slice_index, IfSome, IsSome}
use Rattle.std.proofs.lemmas.Str.Pattern.{IsSplitOnceResult, split_parts, split_after}
use Rattle.std.specs.Int.{IsInRange}
use Rattle.std.specs.Result.{OkIff}
use Rattle.std.specs.Str.Parse.{digits_value, ParsesUnsigned}
use Rattle.std.proofs.lemmas.Bool.Decides.{nat_tests}
use Rattle.std.proofs.lemmas.Str.Parse.{IsNumeralModel, numerals_by_value, tells_by_index, parse_digits}
use Rattle.pool_texts.specs.Lines.{IsDigits, IsNumber, ArePair, HasNoSpace}

AreDigits : List ℕ → Type 0
AreDigits word = (place : ℕ) → place < length word → IsInRange 48 57 (slice_index word place)

own : IsNumeralModel AreDigits (digits_value 10)
unfolding AreDigits
own = numerals_by_value _ tells_by_index

are_digits : (word : List ℕ) → IsDigits word → AreDigits word
unfolding AreDigits
are_digits word h place inside = grind (arith, nat_tests, h.1 place 0 inside)

-- a word of digits is read as the number that they write, where it fits
number_read : {E : Type 0} (bits : ℕ) (word : List ℕ) (read : Result ℕ E) → ParsesUnsigned bits 10 word read
    → IsDigits word → OkIff read ((0 < length word) × (digits_value 10 word < 2 ^ bits)) (digits_value 10 word)
number_read bits word read h digits = parse_digits own bits word read h (are_digits word digits)

-- a number that a word writes is what is read of it
pub number_known : {E : Type 0} (bits : ℕ) (word : List ℕ) (read : Result ℕ E) → ParsesUnsigned bits 10 word read
    → (number : ℕ) → IsNumber bits word number → read ≡ Ok number
number_known {E} bits word (Ok n) h number is = ap Ok ((number_read {E = E} bits word (Ok n) h is.0).1 ∙ is.1)
number_known {E} bits word (Err e) h number is = absurd (number_read {E = E} bits word (Err e) h is.0 (is.0.0, rw is.1 (is.2)))

-- what stands before and behind the first space
pub pair_parted : (words : List ℕ) (parts : Option (Bor (List ℕ) × Bor (List ℕ))) → IsSplitOnceResult 32 words parts
    → IfSome parts (λ pair. ArePair words pair.0.now pair.1.now × HasNoSpace pair.0.now)
pair_parted words None h = tt
pair_parted words (Some pair) h = split_parts 32 words (Some pair) h (omega arith)

pub pair_known : (words first second : List ℕ) (parts : Option (Bor (List ℕ) × Bor (List ℕ))) → IsSplitOnceResult 32 words parts
    → ArePair words first second → HasNoSpace first
    → IfSome parts (λ pair. (pair.0.now ≡ first) × (pair.1.now ≡ second)) × IsSome parts
pair_known words first second None h pair spaceless = absurd (split_after 32 words first second None h (omega arith) pair spaceless)
pair_known words first second (Some it) h pair spaceless = (split_after 32 words first second (Some it) h (omega arith) pair spaceless, search rules)
