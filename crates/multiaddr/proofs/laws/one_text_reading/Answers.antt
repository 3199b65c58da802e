use Rattle.multiaddr.proofs.OneText.{one_text_reading, one_text_fault, text_or_fault}
use Rattle.multiaddr.proofs.laws.one_text_reading.Goals as goal

pub returns : goal.returns
returns c = record { parts = one_text_reading; fault = one_text_fault; either = text_or_fault }
