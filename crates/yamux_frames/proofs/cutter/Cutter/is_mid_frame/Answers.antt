use Rattle.std.proofs.Common.{IsTrue, ◌↔◌, sym, subst}
use Rattle.yamux_frames.specs.Frames.{EndsWithin}
use Rattle.yamux_frames.proofs.Ends.{ends_within}
use Rattle.yamux_frames.proofs.cutter.Cutter.is_mid_frame.Goals as goal

pub returns-clause-within : goal.returns-clause-within
returns-clause-within c = λ bytes past at. subst (λ b. IsTrue b ↔ EndsWithin bytes) (sym c.is_within.ensures) (ends_within bytes past c.args.self.now at)
