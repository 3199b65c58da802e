use Rattle.std.proofs.Common.{Ok, Some, ap, sym, ◌∙◌}
use Rattle.std.specs.Result.{result_ok}
use Rattle.pool_texts.proofs.Peers.{behind_the_sign, of_key, of_key_alone, of_text_alone}
use Rattle.pool_texts.proofs.line.peer_of.Goals as goal

pub returns-in_ok-byte-in-Some-clause-named : goal.returns-in_ok-byte-in-Some-clause-named
returns-in_ok-byte-in-Some-clause-named c =
    of_key c.args.word.now c.in-Some.digits.now c.in_ok-byte-in-Some.field-0 c.of_ed25519.result c.from_hex.result
    (behind_the_sign c.args.word.now c.in-Some.digits c.in-Some.ensures.cases)
    c.from_hex.ensures
    (sym c.ok.ensures.value ∙ c.in_ok-byte-in-Some.was)
    c.of_ed25519.ensures.id

pub returns-in_ok-byte-in-Some-clause-only : goal.returns-in_ok-byte-in-Some-clause-only
returns-in_ok-byte-in-Some-clause-only c = λ id is. ap Some (
    of_key_alone c.args.word.now c.in-Some.digits.now c.in_ok-byte-in-Some.field-0 c.of_ed25519.result id c.from_hex.result
    (behind_the_sign c.args.word.now c.in-Some.digits c.in-Some.ensures.cases)
    c.from_hex.ensures
    (sym c.ok.ensures.value ∙ c.in_ok-byte-in-Some.was)
    c.of_ed25519.ensures.id
    is)

pub returns-in-None-clause-only : goal.returns-in-None-clause-only
returns-in-None-clause-only c = λ id is.
    c.ok-in-None.ensures.value ∙ ap result_ok (c.from_text.ensures.only (Ok id) (of_text_alone c.args.word.now id c.in-None.ensures.cases is))
