use Rattle.multiaddr.proofs.OneText.{only_text, only_text_fault}
use Rattle.multiaddr.proofs.address.Multiaddr.parse.Goals as goal

pub returns-clause-only_address : goal.returns-clause-only_address
returns-clause-only_address c = λ parts h. only_text c.args.text.now c.address_of.result parts c.address_of.ensures.found c.address_of.ensures.fault h

pub returns-clause-only_fault : goal.returns-clause-only_fault
returns-clause-only_fault c = λ fault h.
    only_text_fault c.args.text.now c.address_of.result fault (λ a e. let read = rw e at c.address_of.ensures.found in (read.0, read.1)) c.address_of.ensures.fault h
