use Rattle.std.proofs.Common.{◌≡◌, ℕ, List, [], take, Some, Ok}
use Rattle.talks.specs.Talks.{ComesTo}
use Rattle.talks.specs.State.{Stands}
use Rattle.varint_proto.proofs.Pieces.{joined}
use Rattle.talks.proofs.run.whole_talk.Given as goal

abbrev pub invariant-loop-piece : goal.invariant-loop-piece
invariant-loop-piece l = record {
  side : l.talk.side ≡ l.initial.talk.side;
  answer : l.talk.answer ≡ Some l.answer;
  come : (first : List ℕ) × Stands l.talk first [] × ComesTo l.talk.side (joined (take l.piece-index l.pieces)) first (Ok l.answer) l.talk.pending;
}
