use Rattle.std.proofs.Common.{◌≡◌, [], take}
use Rattle.varint_proto.proofs.Pieces.{joined}
use Rattle.upgrade.specs.State.{Stands}
use Rattle.upgrade.proofs.run.bring_up.Given as goal

abbrev pub invariant-loop-piece : goal.invariant-loop-piece
invariant-loop-piece l = record {
  role : l.upgrade.role ≡ l.fn.role;
  own : l.upgrade.own ≡ l.fn.key;
  stands : Stands l.upgrade (joined (take l.piece-index l.pieces)) [];
}
