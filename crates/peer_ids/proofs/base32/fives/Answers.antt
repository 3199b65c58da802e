use Rattle.std.proofs.Common.{◌≡◌, ℕ, ◌-◌, ◌*◌, ◌%◌, ◌^◌, ◌<◌, take, get_or, refl, arith}
use Rattle.std.proofs.lemmas.List.{take_more, take_all}
use Rattle.std.proofs.lemmas.List.Elements.{All-from_get_or}
use Rattle.std.proofs.lemmas.Nat.{one_shl}
use Rattle.peer_ids.proofs.Bits.{IsCut, cut_none, cut_byte, cut_fits, cut_one, end_fits, cut_end, cut_even}
use Rattle.peer_ids.proofs.base32.fives.Goals as goal

pub loop-byte-init : goal.loop-byte-init
loop-byte-init c = record { cut = rw c.new-values.ensures cut_none; few = omega arith; size = rw c.new-values.ensures refl }

pub loop-count-init : goal.loop-count-init
loop-count-init c =
    let bytes = c.args.bytes.now in
    let i = c.loop-byte.byte-index in
    record {
      cut = rw (take_more bytes i 0 c.loop-byte-test.true, c.from.ensures) (cut_byte (take i bytes) c.loop-byte.values.items c.loop-byte.held c.loop-byte.count (get_or bytes i 0) (omega (arith, c.type_inv.bytes i)) c.loop-byte.invariant.cut);
      few = omega arith;
      size = omega arith;
    }

pub overflow_cast-held : goal.overflow_cast-held
overflow_cast-held c = omega (arith, cut_fits _ _ c.loop-count.held c.loop-count.count c.loop-count-test.true c.loop-count.invariant.cut)

pub loop-count-preserved : goal.loop-count-preserved
loop-count-preserved c =
    let one : 1 * 2 ^ (c.loop-count.count - 5) % 2 ^ 32 ≡ 2 ^ (c.loop-count.count - 5) = one_shl (c.loop-count.count - 5) 32 (omega arith) in
    record {
      cut = rw (c.push.ensures.items, one) (cut_one _ _ c.loop-count.held c.loop-count.count c.loop-count-test.true c.loop-count.invariant.cut);
      few = omega arith;
      size = omega (arith, c.push.ensures.len);
    }

pub returns-else-count-gt0-clause-fives : goal.returns-else-count-gt0-clause-fives
returns-else-count-gt0-clause-fives c =
    let bytes = c.args.bytes.now in
    let whole : IsCut bytes c.loop-byte.values.items c.loop-byte.held c.loop-byte.count = rw (take_all c.loop-byte.byte-index bytes c.loop-byte-test.false) at c.loop-byte.invariant.cut in
    cut_even bytes c.loop-byte.values.items c.loop-byte.held (All-from_get_or (λ b. b < 256) bytes 0 (λ i l. omega (arith, c.type_inv.bytes i))) (let none : c.loop-byte.count ≡ 0 = omega arith in rw none at whole)

small : (held count : ℕ) → held * 2 ^ (5 - count) < 32 → held * 2 ^ (5 - count) % 2 ^ 32 ≡ held * 2 ^ (5 - count)
small held count lt = omega arith

pub overflow_cast-held-then-count-gt0 : goal.overflow_cast-held-then-count-gt0
overflow_cast-held-then-count-gt0 c =
    let lt = end_fits _ _ c.loop-byte.held c.loop-byte.count c.loop-byte.invariant.few c.loop-byte.invariant.cut in
    rw (small c.loop-byte.held c.loop-byte.count lt) (omega (arith, lt))

pub returns-then-count-gt0-clause-fives : goal.returns-then-count-gt0-clause-fives
returns-then-count-gt0-clause-fives c =
    let bytes = c.args.bytes.now in
    let whole : IsCut bytes c.loop-byte.values.items c.loop-byte.held c.loop-byte.count = rw (take_all c.loop-byte.byte-index bytes c.loop-byte-test.false) at c.loop-byte.invariant.cut in
    let lt = end_fits _ _ c.loop-byte.held c.loop-byte.count c.loop-byte.invariant.few whole in
    rw (c.push-then-count-gt0.ensures.items, small c.loop-byte.held c.loop-byte.count lt) (cut_end bytes c.loop-byte.values.items c.loop-byte.held c.loop-byte.count (All-from_get_or (λ b. b < 256) bytes 0 (λ i l. omega (arith, c.type_inv.bytes i))) c.loop-byte.invariant.few (omega arith) whole)
