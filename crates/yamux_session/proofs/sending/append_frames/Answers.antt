use Rattle.std.proofs.Common.{ℕ, ◌+◌, ◌-◌, ◌*◌, ◌/◌, ◌<◌, ◌≤◌, ◌≡◌, ◌∙◌, min, length, take, drop, arith}
use Rattle.std.proofs.lemmas.List.{length-take-le, length-drop}
use Rattle.std.specs.Prelude.{vec_len}
use Rattle.std.specs.Vec.{vec_capacity}
use Rattle.yamux_session.proofs.Pieces.{one_piece}
use Rattle.yamux_session.proofs.sending.append_frames.Goals as goal

-- a piece and its header fit, and behind them what is left
still_room : (len cap left count : ℕ) → 0 < left → count ≡ min 16384 left → len + (left + (left + 16383) / 16384 * 12) ≤ cap
    → len + 12 + count + (left - count + (left - count + 16383) / 16384 * 12) ≤ cap
still_room len cap left count some least room = omega arith

pub loop-at-preserved : goal.loop-at-preserved
loop-at-preserved c =
    let going : c.loop-at.at < length c.args.bytes.now = c.loop-at-test.true in
    let count : ℕ = c.min-count.result in
    let least = c.min-count.ensures in
    let within : c.loop-at.at + count ≤ length c.args.bytes.now = omega arith in
    record {
      within = within;
      room = (
          let header = c.put_frame.ensures in
          let payload = c.put.ensures in
          let fits = still_room (vec_len c.loop-at.output) (vec_capacity c.loop-at.output) (length c.args.bytes.now - c.loop-at.at) count (omega arith) least c.loop-at.invariant.room in
          let size : length (take (c.loop-at.at + count - c.loop-at.at) (drop c.loop-at.at c.args.bytes.now)) ≡ count =
          length-take-le (c.loop-at.at + count - c.loop-at.at) (drop c.loop-at.at c.args.bytes.now) (omega (arith, length-drop c.loop-at.at c.args.bytes.now)) ∙ omega arith in
          omega arith
          );
      carried = one_piece c.args.stream c.args.bytes.now c.loop-at.at count c.args.output.now.items c.loop-at.output.items c.put_frame.new.output.items c.put.new.output.items
          within (omega arith) (omega arith) c.put_frame.ensures.items c.put.ensures.items c.loop-at.invariant.carried;
    }
