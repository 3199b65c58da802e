-- Which texts are hexadecimal.
use Rattle.std.proofs.Common.{◌≡◌, ℕ, ◌%◌, true, List, length, Ok, sym, ◌∙◌, arith}
use Rattle.std.specs.List.{AllPass}
use Rattle.std.specs.Char.{is_ascii_hexdigit}
use Rattle.std.proofs.lemmas.Bool.Decides.{nat_tests}
use Rattle.std.proofs.lemmas.List.Elements.{All-weaker}
use Rattle.hex.specs.Hex.{decode_of, is_hex_digit}
use Rattle.hex.proofs.HexLemmas.{decode_of-ok, decode_of-digits}

same_digits : (c : ℕ) → is_hex_digit c ≡ is_ascii_hexdigit c
same_digits c = grind (arith, nat_tests)

-- pairs of digits decode
pub pairs_decode : (text : List ℕ) → length text % 2 ≡ 0 → AllPass is_ascii_hexdigit text → (bytes : List ℕ) × (decode_of text ≡ Ok bytes)
pairs_decode text even digits =
    decode_of-digits text even (All-weaker (λ c. is_ascii_hexdigit c ≡ true) (λ c. is_hex_digit c ≡ true) (λ c e. same_digits c ∙ e) text digits)

-- what decodes is pairs of digits
pub decoded_is_pairs : (text bytes : List ℕ) → decode_of text ≡ Ok bytes → (length text % 2 ≡ 0) × AllPass is_ascii_hexdigit text
decoded_is_pairs text bytes e =
    let read = decode_of-ok text bytes e in
    (read.0, All-weaker (λ c. is_hex_digit c ≡ true) (λ c. is_ascii_hexdigit c ≡ true) (λ c h. sym (same_digits c) ∙ h) text read.1)
