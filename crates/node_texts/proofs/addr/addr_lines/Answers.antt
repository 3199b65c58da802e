use Rattle.multiaddr.proofs.OneText.{only_text_fault}
use Rattle.node_texts.proofs.addr.addr_lines.Goals as goal

pub returns-clause-only_fault : goal.returns-clause-only_fault
returns-clause-only_fault c = λ fault h.
    only_text_fault c.args.text.now c.lines_of.result fault (λ a e. let read = rw e at c.lines_of.ensures.found in (read.0, read.1)) c.lines_of.ensures.refused h
