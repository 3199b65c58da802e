use Rattle.std.proofs.Common.{◌≡◌, map, sym, ap, subst, ◌∙◌}
use Rattle.std.proofs.lemmas.List.{take_all}
use Rattle.std.specs.Prelude.{IsAscii}
use Rattle.peer_ids.specs.Base32.{letter_of}
use Rattle.peer_ids.proofs.Texts.{letters_ascii}
use Rattle.peer_ids.proofs.base32.letters_of.Goals as goal

pub returns-clause-ascii : goal.returns-clause-ascii
returns-clause-ascii c =
    let values = c.as_slice-value-items.ensures.value in
    let all : map letter_of c.fives-values.result.items ≡ c.loop-value.letters.items = ap (map letter_of) (sym values ∙ sym (take_all c.loop-value.value-index _ c.loop-value-test.false)) ∙ sym c.loop-value.invariant in
    subst IsAscii all (letters_ascii c.fives-values.result.items c.fives-values.ensures.fives.five)
