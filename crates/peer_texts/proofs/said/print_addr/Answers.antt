use Rattle.std.proofs.Common.{inl, inr, refl, sym, subst}
use Rattle.std.proofs.lemmas.Result.{on_ok_weaker}
use Rattle.multiaddr.specs.Part.{SpellsAddress}
use Rattle.multiaddr.specs.Text.{PrintsParts}
use Rattle.peer_texts.specs.Said.{said_line, hex_line}
use Rattle.peer_texts.proofs.said.print_addr.Goals as goal

pub returns-in-Ok-print : goal.returns-in-Ok-print
returns-in-Ok-print g c =
    let found = c.in-Ok-print.ensures.found in record {
      printed = on_ok_weaker c.print_text.result (λ appended. (
        said_line c.args.word.now c.as_bytes.result.now,
        inl (
          found.0,
          c.as_bytes.result.now,
          subst (λ it. SpellsAddress it found.0) c.in-Ok.ensures.found found.1,
          found.2,
          subst (λ it. PrintsParts it found.0.parts) (sym c.as_bytes.ensures.value) found.3,
          refl,
        ),
        appended,
      )) c.print_text.ensures.printed;
    }

pub returns : goal.returns
returns g c = record {
  printed = on_ok_weaker c.print_hex_line.result
      (λ appended. (hex_line c.args.word.now c.args.bytes.now, inr refl, appended)) c.print_hex_line.ensures.printed;
}
