use Rattle.std.proofs.Common.{refl, subst, Option}
use Rattle.yamux_frames.specs.declared.header.FrameFault.{FrameFault}
use Rattle.yamux_frames.specs.Cuts.{CutsAt}
use Rattle.yamux_frames.proofs.Frames.{frames, uses, longest, exact, streams, stops, stays}
use Rattle.yamux_frames.proofs.cutter.Cutter.feed.Goals as goal

pub returns-clause-uses : goal.returns-clause-uses
returns-clause-uses c = uses c.args.self.now.fault c.args.self.now c.cut.new.self c.args.piece.now c.cut.result c.cut.ensures

pub returns-clause-frames : goal.returns-clause-frames
returns-clause-frames c = frames c.args.self.now.fault c.args.self.now c.cut.new.self c.args.piece.now c.cut.result c.cut.ensures

pub returns-clause-longest : goal.returns-clause-longest
returns-clause-longest c = longest c.args.self.now.fault c.args.self.now c.cut.new.self c.args.piece.now c.cut.result c.cut.ensures

pub returns-clause-exact : goal.returns-clause-exact
returns-clause-exact c = exact c.args.self.now.fault c.args.self.now c.cut.new.self c.args.piece.now c.cut.result c.cut.ensures

pub returns-clause-stream : goal.returns-clause-stream
returns-clause-stream c = streams c.args.self.now.fault c.args.self.now c.cut.new.self c.args.piece.now c.cut.result c.cut.ensures

pub returns-clause-garbled : goal.returns-clause-garbled
returns-clause-garbled c = stops c.args.self.now.fault c.args.self.now c.cut.new.self c.args.piece.now c.cut.result refl c.cut.ensures

pub returns-clause-fault : goal.returns-clause-fault
returns-clause-fault c = stays c.args.self.now.fault c.args.self.now c.cut.new.self c.args.piece.now c.cut.result refl c.cut.ensures

pub returns-clause-again : goal.returns-clause-again
returns-clause-again c = λ fault e. subst (λ (f : Option FrameFault). CutsAt f c.args.self.now c.args.piece.now c.cut.result c.cut.new.self) e c.cut.ensures
