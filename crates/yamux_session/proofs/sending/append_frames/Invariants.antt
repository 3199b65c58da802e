use Rattle.std.proofs.Common.{◌+◌, ◌-◌, ◌≤◌, length, take, vec_len}
use Rattle.std.specs.Vec.{vec_capacity}
use Rattle.yamux_session.specs.Acts.{Carries, frames_length}
use Rattle.yamux_session.proofs.sending.append_frames.Given as goal

abbrev pub invariant-loop-at : goal.invariant-loop-at
invariant-loop-at l = record {
  within : l.at ≤ length l.bytes;
  room : vec_len l.output + frames_length (length l.bytes - l.at) ≤ vec_capacity l.output;
  carried : Carries l.stream (take l.at l.bytes) l.fn.output.items l.output.items;
}

abbrev pub decreases-loop-at : goal.decreases-loop-at
decreases-loop-at l = length l.bytes - l.at
