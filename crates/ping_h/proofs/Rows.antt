-- The worked rows.
use Rattle.std.proofs.Common.{[], ◌<◌, refl, arith}
use Rattle.ping_h.specs.Rows.{WorkedRows}

pub worked_rows : WorkedRows
worked_rows = record {
  echo_of_31_bytes = refl;
  echo_of_33_bytes = refl;
  echo_of_64_bytes = refl;
  echo_ends_within_a_round = λ n. (λ h. h.0, λ e. (e, λ going. omega arith));
  echo_ends_between_rounds = λ n h. let some : 0 < 0 = h.1 refl in omega arith;
  ping_comes_back = (refl, ([], refl), refl);
  ping_ends = (refl, refl, refl);
  changed_byte = λ n. (λ h. h.0, λ e. (e, λ going prefix. cc prefix.1));
  byte_after_the_echo = λ n. (λ h. h.0, λ e. (e, λ going prefix. cc prefix.1));
  ping_ends_after_31_bytes = λ n. (λ h. h.0, λ e. (e, λ going. omega arith));
  out_of_memory = λ n. (λ h. h.0, λ e. (e, λ going. omega arith));
  call_after_a_fault = λ n. (λ h. h.0, λ e. (e, λ going. absurd (cc going)));
}
