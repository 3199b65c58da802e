use Rattle.std.proofs.Common.{◌≡◌, ◌≢◌, ℕ, [], take, Some}
use Rattle.ms_select.specs.declared.answer.Answer.TheVariants.{Going}
use Rattle.ms_select.specs.Sides.{Stands}
use Rattle.varint_proto.proofs.Pieces.{joined}
use Rattle.ms_select.proofs.run.whole_talk.Given as goal

abbrev pub invariant-loop-piece : goal.invariant-loop-piece
invariant-loop-piece l = record {
  role : l.side.role ≡ l.initial.side.role;
  names : l.side.names ≡ l.initial.side.names;
  answer : l.side.answer ≡ Some l.answer;
  decided : l.initial.answer ≢ Going → l.answer ≡ l.initial.answer;
  told : (used : ℕ) × Stands l.side (joined (take l.piece-index l.pieces)) used [];
}
