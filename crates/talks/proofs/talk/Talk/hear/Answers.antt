use Rattle.std.proofs.Common.{ap, sym, ◌∙◌, ◌≡◌}
use Rattle.talks.specs.declared.talk.Talk.TheInside.{Inside}
use Rattle.talks.specs.Talks.{Asks, Answers}
use Rattle.talks.specs.Fields.{first_of, talking, talking_of}
use Rattle.talks.proofs.Hearing.{heard_as}
use Rattle.talks.proofs.talk.Talk.hear.Goals as goal
use Rattle.talks.proofs.talk.Talk.hear.Goals.{in-Asking, in-Answering}

pub returns-clause-only : goal.returns-clause-only
returns-clause-only c =
    let pending = (talking_of c.match-self.self-inside.kind).pending in
    elim c.match-self.branch [
      | in-Asking w ↦
          let side = Asks (first_of w.in-Asking.dialer.names) w.in-Asking.index in
          let is : talking side w.in-Asking.dialer ≡ c.args.self.now = ap talking_of (sym w.in-Asking.is) ∙ c.self.view_is in
          let kept : w.heard_by_dialer.new.dialer.pending ≡ pending = ap (λ (i : Inside). (talking_of i.kind).pending) (sym w.self-inside-is) in
          heard_as (talking side w.in-Asking.dialer) (talking side w.heard_by_dialer.new.dialer) c.args.self.now pending c.args.piece.now w.heard_by_dialer.result c.match-self.result w.heard_by_dialer.ensures.hears is kept (sym w.result-is)
      | in-Answering w ↦
          let side = Answers w.in-Answering.listener.names in
          let is : talking side w.in-Answering.listener ≡ c.args.self.now = ap talking_of (sym w.in-Answering.is) ∙ c.self.view_is in
          let kept : w.heard_by_listener.new.listener.pending ≡ pending = ap (λ (i : Inside). (talking_of i.kind).pending) (sym w.self-inside-is) in
          heard_as (talking side w.in-Answering.listener) (talking side w.heard_by_listener.new.listener) c.args.self.now pending c.args.piece.now w.heard_by_listener.result c.match-self.result w.heard_by_listener.ensures.hears is kept (sym w.result-is)
    ]
