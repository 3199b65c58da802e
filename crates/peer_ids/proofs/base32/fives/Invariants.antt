use Rattle.std.proofs.Common.{◌≡◌, ◌<◌, ◌+◌, ◌*◌, length, take}
use Rattle.peer_ids.proofs.Bits.{IsCut}
use Rattle.peer_ids.proofs.base32.fives.Given as goal

abbrev pub invariant-loop-byte : goal.invariant-loop-byte
invariant-loop-byte l = record {
  cut : IsCut (take l.byte-index l.bytes) l.values.items l.held l.count;
  few : l.count < 5;
  size : 5 * length l.values.items + l.count ≡ 8 * l.byte-index;
}

abbrev pub invariant-loop-count : goal.invariant-loop-count
invariant-loop-count l = record {
  cut : IsCut (take (l.byte-index + 1) l.bytes) l.values.items l.held l.count;
  few : l.count < 13;
  size : 5 * length l.values.items + l.count ≡ 8 * (l.byte-index + 1);
}

abbrev pub decreases-loop-count : goal.decreases-loop-count
decreases-loop-count l = l.count
