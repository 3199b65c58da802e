use Rattle.std.proofs.Common.{◌≢◌, ℕ, [], take, None}
use Rattle.plaintext_x.specs.Exchange.{Stands}
use Rattle.varint_proto.proofs.Pieces.{joined}
use Rattle.plaintext_x.proofs.run.exchange_keys.Given as goal

abbrev pub invariant-loop-piece : goal.invariant-loop-piece
invariant-loop-piece l = record {
  some : l.exchange.answer ≢ None;
  told : (used : ℕ) × Stands l.own l.exchange (joined (take l.piece-index l.pieces)) used [];
}
