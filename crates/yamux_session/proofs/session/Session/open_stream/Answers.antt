use Rattle.std.proofs.Common.{ℕ, ◌++◌, ◌∷◌, List, refl, sym, ap, ◌∙◌, subst}
use Rattle.yamux_session.specs.History.Item.{Did}
use Rattle.yamux_session.specs.History.Act.{Start}
use Rattle.yamux_session.specs.Keeps.{Keeps}
use Rattle.yamux_session.specs.Output.{frame}
use Rattle.yamux_frames.specs.declared.header.FrameKind.TheVariants.{Window}
use Rattle.yamux_session.specs.Table.{table_of}
use Rattle.yamux_session.specs.State.{State, Stands}
use Rattle.yamux_session.proofs.Keeping.{did, started}
use Rattle.yamux_session.proofs.session.Session.open_stream.Goals as goal

pub returns-in-Ok-clause-ok : goal.returns-in-Ok-clause-ok
returns-in-Ok-clause-ok c = λ role past fed sent stands.
    let at = subst (λ (s : State). Stands role past fed sent s) (sym c.self.view_is) stands in
    let number = c.in-Ok.ensures.number in
    did role past fed sent (Start c.in-Ok.number) _ _ at (sym (c.start_refused.ensures.why role past at.table) ∙ c.in_default.is, number ∙ at.table.next_is)
    (subst (λ k. Keeps role (Did (Start k) ∷ past) (table_of c.start.new.self)) (sym number) (started role past (table_of c.self.inside.streams) (table_of c.start.new.self) at.answered at.table c.in-Ok.ensures.ok))
    refl c.if-self.false
    (c.put_frame.ensures.items ∙ ap (λ (t : List ℕ). t ++ frame Window 1 c.in-Ok.number 0) c.reserve.ensures.items)
