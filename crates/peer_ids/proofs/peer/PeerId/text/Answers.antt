use Rattle.std.proofs.Common.{rules}
use Rattle.peer_ids.proofs.Texts.{text_is}
use Rattle.peer_ids.proofs.peer.PeerId.text.Goals as goal

pub returns-clause-is : goal.returns-clause-is
returns-clause-is c = text_is _ c.args.self.now (search rules)
