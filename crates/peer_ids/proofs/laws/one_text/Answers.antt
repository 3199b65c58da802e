use Rattle.peer_ids.proofs.Texts.{text_once, id_once, text_is}
use Rattle.peer_ids.proofs.laws.one_text.Goals as goal

pub returns : goal.returns
returns c = record { text = text_once; id = id_once; function = λ id text. text_is text id }
