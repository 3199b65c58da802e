-- The worked rows.
use Rattle.std.proofs.Common.{◌≡◌, ◌≢◌, ℕ, ◌+◌, ◌<◌, ◌≤◌, List, [], ◌∷◌, replicate, length, get_or, Option, Some, None, refl, ap, append-nil, sym, inr, arith, lit<}
use Rattle.std.specs.Prelude.{unwrap_or}
use Rattle.std.specs.List.{All}
use Rattle.std.proofs.lemmas.List.{length-replicate}
use Rattle.std.proofs.lemmas.List.Elements.{All-nil, All-cons}
use Rattle.varint_proto.specs.Varint.{BeginsShortest, shortest, shortest_within}
use Rattle.ms_select.specs.Messages.{header, na, message, IsShort}
use Rattle.ms_select.specs.Listening.{choice}
use Rattle.ms_select.specs.Rows.{x, y, y_bytes, WorkedRows}

-- a length of one byte
one_byte : (n : ℕ) (rest : List ℕ) → n < 128 → BeginsShortest (n ∷ rest) n rest
one_byte n rest lt = (n ∷ [], record { ends = lt; within = omega arith; shortest = λ h. absurd (omega arith); value = omega arith }, refl)

-- and of two
two_bytes : (b : ℕ) (rest : List ℕ) → 128 ≤ b → b < 130 → BeginsShortest (b ∷ 8 ∷ rest) (b + 896) rest
two_bytes b rest le lt = (b ∷ 8 ∷ [], record { ends = (le, omega arith); within = omega arith; shortest = λ _. omega arith; value = omega arith }, refl)

short_both : All IsShort (header ∷ x ∷ [])
short_both = All-cons IsShort header (x ∷ []) (lit< tt) (All-cons IsShort x [] (lit< tt) (All-nil IsShort))

x_not_chosen : All (λ t. choice (y ∷ []) t ≡ None) (x ∷ [])
x_not_chosen = All-cons (λ t. choice (y ∷ []) t ≡ None) x [] refl (All-nil (λ t. choice (y ∷ []) t ≡ None))

no_na : All (λ t. t ≡ na) []
no_na = All-nil (λ t. t ≡ na)

one_na : All (λ t. t ≡ na) (na ∷ [])
one_na = All-cons (λ t. t ≡ na) na [] refl no_na

two_na : All (λ t. t ≡ na) (na ∷ na ∷ [])
two_na = All-cons (λ t. t ≡ na) na (na ∷ []) refl one_na

-- texts that differ at a place
differs : (i : ℕ) (s t : List ℕ) → get_or s i 0 ≢ get_or t i 0 → s ≢ t
differs i s t ne e = ne (ap (λ (u : List ℕ). get_or u i 0) e)

not_proposed : (i : ℕ) (s t : List ℕ) → get_or s i 0 ≢ get_or t i 0 → Some s ≢ Some t
not_proposed i s t ne e = ne (ap (λ (o : Option (List ℕ)). get_or (unwrap_or o []) i 0) e)

pub worked_rows : WorkedRows
unfolding message shortest shortest_within
worked_rows = record {
  header_message = refl;
  na_message = refl;
  longest_message = ([], record { parts = sym (append-nil (message (replicate 1023 97))); short = omega (arith, length-replicate {A = ℕ} 1023 97) });
  longer_message = inr (1025, [], two_bytes 129 [] (omega arith) (omega arith), inr (omega arith));
  message_without_a_newline = (2, 97 ∷ 98 ∷ [], one_byte 2 (97 ∷ 98 ∷ []) (omega arith), (omega arith, omega arith), omega arith, omega arith);
  longest_name = ((omega (arith, length-replicate {A = ℕ} 1023 97), omega (arith, length-replicate {A = ℕ} 1023 97)), (λ h. omega (arith, h.1, length-replicate {A = ℕ} 1024 97)));
  dialer_agrees_on_its_second_name = (na ∷ [], y, [], record { parts = refl; refusals = (refl, one_na) }, record { short = lit< tt; place = refl; proposed = refl; other = λ e. cc }, refl, refl);
  dialer_has_no_name_left = (header ∷ na ∷ na ∷ [], 7 ∷ [], record { parts = refl; refusals = (refl, two_na) }, record { all = refl; none = λ e. absurd (omega (arith, ap length e)) }, refl, refl);
  answer_that_was_not_proposed = (
    header ∷ [],
    y_bytes,
    record { answered = record { parts = refl; refusals = (refl, no_na) }; left = omega arith },
    inr (y, ([], record { parts = refl; short = lit< tt }), differs 0 y na (omega arith), not_proposed 1 x y (omega arith), refl),
    refl,
    refl,
  );
  listener_agrees_on_the_second_proposal = (
    x ∷ [],
    y,
    7 ∷ [],
    record { parts = refl; short = short_both; undecided = (refl, x_not_chosen) },
    record { short = lit< tt; chosen = refl },
    refl,
    refl,
  );
  proposal_before_the_header = ([], y_bytes, record { parts = refl; short = All-nil IsShort; undecided = tt }, inr (y, ([], record { parts = refl; short = lit< tt }), (λ e. cc), refl), refl, refl);
  ls_is_not_supported = refl;
}
