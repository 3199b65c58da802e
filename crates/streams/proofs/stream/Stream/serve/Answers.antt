use Rattle.std.proofs.Common.{subst}
use Rattle.streams.specs.State.{Streaming}
use Rattle.streams.specs.Streams.{IsServed}
use Rattle.std.proofs.Common.{Some, List, ℕ, sym, ap}
use Rattle.streams.proofs.Moving.{handed_in}
use Rattle.streams.proofs.stream.Stream.serve.Goals as goal

pub returns-clause-stands : goal.returns-clause-stands
returns-clause-stands g c = λ past s.
    let kept = ap (λ (x : Streaming _). x.waiting) (sym c.self.view_is) in
    subst (λ (waiting : List ℕ). IsServed g.H.Handler.steps (record past { made = Some c.args.new_handler }) c.args.new_handler waiting) kept
    (handed_in g.H.Handler.steps past c.args.self.now.stage c.args.new_handler c.args.self.now.waiting c.requires s)
