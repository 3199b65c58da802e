-- No text of a value has a slash, and no text of groups has a dot.
use Rattle.std.proofs.Common.{◌≢◌, ℕ, ◌^◌, ◌<◌, List, [], ◌∷◌, get_or, map, decimal, arith, inl, inr}
use Rattle.std.specs.Int.{IsInRange}
use Rattle.std.specs.Net.Text.{ipv4_text, hex_groups_text}
use Rattle.std.proofs.lemmas.Bool.{cases_lt, lt-ltb, le-ltb}
use Rattle.std.proofs.lemmas.Fmt.{decimal_is_IsNumeral}
use Rattle.std.proofs.lemmas.Str.Parse.{digit_at}
use Rattle.std.proofs.lemmas.List.Elements.{All-from_get_or, All-weaker, All-cons, All-nil, recursion_from_All}
use Rattle.std.proofs.NetLemmas.Texts.{AllSegments}
use Rattle.std.proofs.NetLemmas.Alphabet.{IsDigitOrDot, IsHexOrColon, All-ipv4_text, All-hex_groups_text}
use Rattle.peer_ids.specs.Base32.{letter_of}
use Rattle.multiaddr.specs.Text.{NoSlash}
use Rattle.multiaddr.proofs.Ip6Text.{NoDot}

digit_or_dot : (c : ℕ) → IsDigitOrDot c → c ≢ 47
digit_or_dot c (inl h) e = omega (arith, h.0, e)
digit_or_dot c (inr h) e = omega (arith, h, e)

pub dotted_no_slash : (octets : List ℕ) → ((k : ℕ) → get_or octets k 0 < 2 ^ 8) → NoSlash (ipv4_text octets)
dotted_no_slash octets h = All-weaker IsDigitOrDot (λ b. b ≢ 47) digit_or_dot (ipv4_text octets) (All-ipv4_text octets h)

hex_or_colon : (c : ℕ) → IsHexOrColon c → (c ≢ 47) × (c ≢ 46)
hex_or_colon c (inl h) = ((λ e. omega (arith, h.0, e)), (λ e. omega (arith, h.0, e)))
hex_or_colon c (inr h) = ((λ e. omega (arith, h.0, e)), (λ e. omega (arith, h.0, e)))

pub groups_no_slash : (groups : List ℕ) → AllSegments groups → NoSlash (hex_groups_text groups)
groups_no_slash groups h = All-weaker IsHexOrColon (λ b. b ≢ 47) (λ c k. (hex_or_colon c k).0) (hex_groups_text groups) (All-hex_groups_text groups h)

pub groups_no_dot : (groups : List ℕ) → AllSegments groups → NoDot (hex_groups_text groups)
groups_no_dot groups h = recursion_from_All (λ b. b ≢ 46) (hex_groups_text groups) (All-weaker IsHexOrColon (λ b. b ≢ 46) (λ c k. (hex_or_colon c k).1) (hex_groups_text groups) (All-hex_groups_text groups h))

digit_no_slash : (c : ℕ) → IsInRange 48 57 c → c ≢ 47
digit_no_slash c h e = omega (arith, h.0, e)

pub decimal_no_slash : (n : ℕ) → n < 2 ^ 64 → NoSlash (decimal n)
decimal_no_slash n lt = All-from_get_or (λ b. b ≢ 47) (decimal n) 0 (λ i h. digit_no_slash _ (digit_at (decimal n) i (decimal_is_IsNumeral n lt).0.1 h))

letter_no_slash : (v : ℕ) → letter_of v ≢ 47
letter_no_slash v = elim (cases_lt v 26) [
  | inl less ↦ rw (lt-ltb v 26 less) (λ e. omega (arith, e))
  | inr more ↦ rw (le-ltb v 26 more) (λ e. omega (arith, e, more))
]

pub letters_no_slash : (values : List ℕ) → NoSlash (map letter_of values)
letters_no_slash [] = All-nil (λ b. b ≢ 47)
letters_no_slash (v ∷ values) = All-cons (λ b. b ≢ 47) (letter_of v) (map letter_of values) (letter_no_slash v) (letters_no_slash values)
