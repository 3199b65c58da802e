use Rattle.multiaddr.proofs.OneText.{one_printed, printed_is_read, printed_alike}
use Rattle.multiaddr.proofs.laws.printing.Goals as goal

pub returns : goal.returns
returns c = record { one = λ text other parts v g h. one_printed text other parts g h; read = printed_is_read; alike = printed_alike }
