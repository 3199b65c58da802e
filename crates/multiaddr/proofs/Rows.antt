-- The worked rows.
use Rattle.std.proofs.Common.{◌≡◌, ◌≢◌, ℕ, zero, suc, ◌<◌, ◌≤◌, ◌==◌, ◌&&◌, not, Bool, true, inl, inr, List, [], ◌∷◌, length, replicate, get_or, refl, sym, ap, ◌∙◌, arith, decimal}
use Rattle.std.specs.Prelude.{All, codes}
use Rattle.std.proofs.lemmas.List.Elements.{All-from_recursion}
use Rattle.std.specs.List.{AllByRecursion}
use Rattle.std.proofs.lemmas.Str.Ascii.{IsAscii-from_all}
use Rattle.std.specs.Net.Text.{dotted_text, hex_groups_text, hex}
use Rattle.std.proofs.lemmas.List.{length-replicate}
use Rattle.std.proofs.lemmas.Bool.{and_parts}
use Rattle.std.proofs.lemmas.Bool.Decides.{nat_tests}
use Rattle.std.proofs.lemmas.Str.{IsUtf8-from_ascii}
use Rattle.varint_proto.specs.Varint.{shortest, shortest_within}
use Rattle.multiaddr.specs.declared.protocol.Protocol.{Protocol}
use Rattle.multiaddr.specs.declared.protocol.Protocol.TheVariants.{Ip4, Tcp, Ip6, Dns, Dns4, Dns6, P2p}
use Rattle.multiaddr.specs.Part.{IsName, IsOpaque, code_of}
use Rattle.multiaddr.specs.Text.{ReadsValue, NoSlash}
use Rattle.multiaddr.proofs.Ip6Text.{prints}
use Rattle.multiaddr.proofs.Values.{decimal_first}
use Rattle.std.proofs.lemmas.Fmt.{decimal_injective}
use Rattle.std.specs.Fmt.{digits}
use Rattle.multiaddr.specs.Rows.{local, udp, WorkedRows}

repeated : (P : ℕ → Type 0) (n b : ℕ) → P b → All P (replicate n b)
repeated P n b h = All-from_recursion P (replicate n b) (each n)
  where
    each : (k : ℕ) → AllByRecursion P (replicate k b)
    each zero = tt
    each (suc k) = (h, each k)

-- a name of so many of one letter
letters : (n : ℕ) → 1 ≤ n → n ≤ 255 → IsName (replicate n 97)
letters n some few = record {
  some = omega (arith, length-replicate {A = ℕ} n 97);
  within = omega (arith, length-replicate {A = ℕ} n 97);
  utf8 = IsUtf8-from_ascii (replicate n 97) (IsAscii-from_all (replicate n 97) (repeated (λ b. b < 128) n 97 (omega arith)));
  whole = repeated (λ b. b ≢ 47) n 97 (λ e. omega (arith, e));
}

long_name : ¬ IsName (replicate 256 97)
long_name h = omega (arith, h.within)

not_273 : (p : Protocol) → code_of p ≢ 273
not_273 Ip4 e = omega (arith, e)
not_273 Tcp e = omega (arith, e)
not_273 Ip6 e = omega (arith, e)
not_273 Dns e = omega (arith, e)
not_273 Dns4 e = omega (arith, e)
not_273 Dns6 e = omega (arith, e)
not_273 P2p e = omega (arith, e)

udp_is_opaque : IsOpaque udp
unfolding shortest shortest_within
udp_is_opaque = (273, 15 ∷ 161 ∷ [], omega arith, refl, not_273)

dotted : (a b c d : ℕ) → a < 256 → b < 256 → c < 256 → d < 256 → ReadsValue Ip4 (dotted_text a b c d) (a ∷ b ∷ c ∷ d ∷ [])
dotted a b c d p q r s = (record { a = a; b = b; c = c; d = d; fit = (p, q, r, s); value = refl; spelled = refl }, refl)

read_4001 : ReadsValue Tcp (codes "4001") (15 ∷ 161 ∷ [])
unfolding digits
read_4001 = ((4001, omega arith, refl, refl), refl)

-- texts without a slash
unslashed : List ℕ → Bool
unslashed [] = true
unslashed (b ∷ text) = not (b == 47) && unslashed text

no_slash : (text : List ℕ) → unslashed text ≡ true → NoSlash text
unfolding unslashed
no_slash text is = All-from_recursion (λ b. b ≢ 47) text (each text is)
  where
    each : (xs : List ℕ) → unslashed xs ≡ true → AllByRecursion (λ b. b ≢ 47) xs
    each [] is' = tt
    each (x ∷ xs) is' = let parts = and_parts (not (x == 47)) (unslashed xs) is' in (other_than x parts.0, each xs parts.1)
      where
        other_than : (y : ℕ) → not (y == 47) ≡ true → y ≢ 47
        other_than y known e = grind (arith, nat_tests, known, e)

pub worked_rows : WorkedRows
unfolding shortest shortest_within digits unslashed hex_groups_text hex
worked_rows = record {
  table = refl;
  bytes_of_a_socket = (record { some = omega arith; parts = (refl, (refl, tt)); opaque = inl refl }, refl);
  text_of_a_socket = (
    (
      omega arith,
      (
        codes "127.0.0.1",
        codes "/tcp/4001",
        no_slash (codes "127.0.0.1") refl,
        dotted 127 0 0 1 (omega arith) (omega arith) (omega arith) (omega arith),
        refl,
        (codes "4001", [], no_slash (codes "4001") refl, read_4001, refl, refl),
      ),
    ),
    (
      codes "127.0.0.1",
      codes "/tcp/4001",
      (dotted 127 0 0 1 (omega arith) (omega arith) (omega arith) (omega arith)).0,
      refl,
      (codes "4001", [], read_4001.0, refl, refl),
    ),
  );
  bytes_of_a_peer = refl;
  first_of_equal_runs = prints (0 ∷ 0 ∷ 1 ∷ 0 ∷ 0 ∷ 1 ∷ 0 ∷ 0 ∷ []);
  one_zero_group_stays = prints (8193 ∷ 3512 ∷ 0 ∷ 1 ∷ 1 ∷ 1 ∷ 1 ∷ 1 ∷ []);
  cut_by_a_byte = inr (local ∷ [], 6 ∷ 15 ∷ [], (refl, tt), refl, omega arith, inr (Tcp, 15 ∷ [], refl, (refl, omega arith)));
  empty_text = inl (refl, refl);
  port_with_a_leading_zero = λ value h. elim (decimal_first h.0.0 h.0.1) [
    | inl zero_alone ↦ let lengths : 5 ≡ 1 = ap length (h.0.2 ∙ zero_alone) in omega (arith, lengths)
    | inr first ↦ let zero_first : 48 ≡ get_or (decimal h.0.0) 0 0 = ap (λ (t : List ℕ). get_or t 0 0) h.0.2 in omega (arith, first.0, zero_first)
  ];
  largest_port = (
    ((65535, omega arith, refl, refl), refl),
    λ value h. let same = decimal_injective h.0.0 65536 (omega (arith, h.0.1)) (omega arith) (sym h.0.2) in omega (arith, h.0.1, same),
  );
  longest_name = (letters 255 (omega arith) (omega arith), long_name);
  unknown_protocol_is_kept = (record { some = omega arith; parts = (refl, tt); opaque = inr udp_is_opaque }, refl);
}
