use Rattle.std.proofs.Common.{◌≡◌, ◌++◌, false, take, None, []}
use Rattle.varint_proto.specs.Incoming.{Stands, Whenever}
use Rattle.varint_proto.proofs.incoming.Incoming.feed_length.Given as goal

abbrev pub invariant-loop-index : goal.invariant-loop-index
invariant-loop-index l = record {
  limit : l.self.limit ≡ l.fn.self.limit;
  room : l.self.room ≡ l.fn.self.room;
  going : l.self.failed ≡ false;
  unknown : l.self.expected ≡ None;
  empty : l.self.body ≡ [];
  stands : Whenever l.fn.self (λ input. Stands (input ++ take l.index l.piece) l.self);
}
