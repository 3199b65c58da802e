use Rattle.std.proofs.Common.{◌≡◌, ◌-◌, min, length, take, drop, refl, ap, ◌∙◌, subst}
use Rattle.streams.specs.declared.stage.Stage.{Stage}
use Rattle.streams.specs.Giving.{StageGives}
use Rattle.streams.specs.State.{Streaming}
use Rattle.streams.proofs.Sending.{Sent, asked_on, sent_on, given_short}
use Rattle.streams.proofs.stream.Stream.give.Goals as goal

-- what was gathered is given out
sent : (g : Rattle.streams.proofs.stream.Stream.give.Given.Over) (c : goal.After-drop_front g)
    → Sent c.args.self.now.waiting (take c.min-count.result c.args.self.now.waiting) c.drop_front.new.waiting.items c.in-Ok.ensures.gives.0 c.in-Ok.bytes.items c.args.room c.min-count.result
sent g c = record {
  count_is = c.min-count.ensures ∙ ap (λ n. min c.args.room n) (c.len.ensures ∙ c.self.inside.waiting.ok.0 ∙ ap (λ (x : Streaming _). length x.waiting) c.self.view_is);
  front_is = refl;
  left_is = c.drop_front.ensures ∙ ap (λ (x : Streaming _). drop c.min-count.result x.waiting) c.self-2.view_is ∙ ap (drop c.min-count.result) c.in-Ok.ensures.kept;
  bytes_are = c.in-Ok.ensures.gives.1;
  short = given_short g.H.Handler.steps g.H.Handler.is_closed c.args.self.now.stage c.gather.new.self.stage (c.args.room - c.min-count.result) c.in-Ok.ensures.gives.0 c.in-Ok.ensures.gives.2;
}

pub returns-in-Ok-clause-asked : goal.returns-in-Ok-clause-asked
returns-in-Ok-clause-asked g c = λ past s open_one.
    let stage_is : c.gather.new.self.stage ≡ c.self-2.inside.stage = cc in
    let gives = subst (λ (t : Stage _). StageGives g.H.Handler.steps g.H.Handler.is_closed c.args.self.now.stage (c.args.room - c.min-count.result) t c.in-Ok.ensures.gives.0) stage_is c.in-Ok.ensures.gives.2 in
    asked_on g.H.Handler.steps g.H.Handler.is_closed c.args.self.now past c.args.self.now.stage c.self-2.inside.stage c.args.self.now.waiting
    (take c.min-count.result c.args.self.now.waiting) c.drop_front.new.waiting.items c.in-Ok.ensures.gives.0 c.in-Ok.bytes.items c.args.room c.min-count.result refl (sent g c) s open_one gives

pub returns-in-Ok-clause-not_asked : goal.returns-in-Ok-clause-not_asked
returns-in-Ok-clause-not_asked g c = λ past s shut.
    let stage_is : c.gather.new.self.stage ≡ c.self-2.inside.stage = cc in
    let gives = subst (λ (t : Stage _). StageGives g.H.Handler.steps g.H.Handler.is_closed c.args.self.now.stage (c.args.room - c.min-count.result) t c.in-Ok.ensures.gives.0) stage_is c.in-Ok.ensures.gives.2 in
    sent_on g.H.Handler.steps g.H.Handler.is_closed c.args.self.now past c.args.self.now.stage c.self-2.inside.stage c.args.self.now.waiting
    (take c.min-count.result c.args.self.now.waiting) c.drop_front.new.waiting.items c.in-Ok.ensures.gives.0 c.in-Ok.bytes.items c.args.room c.min-count.result refl (sent g c) s shut gives
