use Rattle.std.proofs.Common.{ap, subst, ◌∙◌, string_bytes}
use Rattle.hex.specs.Hex.{encode_lower}
use Rattle.multiaddr.specs.Text.{PrintsParts}
use Rattle.node_texts.proofs.Addresses.{parts_are, unprinted}
use Rattle.node_texts.proofs.addr.lines_of.Goals as goal

pub returns-in-Err-print-clause-refused : goal.returns-in-Err-print-clause-refused
returns-in-Err-print-clause-refused c =
    let found = c.in-Ok.ensures.found in
    unprinted c.args.text.now c.in-Ok.address c.in-Err-print.fault found.0 found.1 found.2 c.in-Err-print.ensures.fault

pub returns-in-Ok-encode-clause-found : goal.returns-in-Ok-encode-clause-found
returns-in-Ok-encode-clause-found c =
    let found = c.in-Ok.ensures.found in
    let text = c.in-Ok-print.ensures.found in
    let parts = (parts_are c.args.text.now c.in-Ok.address found.0 text.0 found.1 found.2 text.1).0 in
    (found.0, found.1, c.in-Ok-encode.ensures ∙ ap encode_lower (c.bytes.ensures.value ∙ found.2), subst (PrintsParts (string_bytes c.in-Ok-print.text)) parts text.3)
