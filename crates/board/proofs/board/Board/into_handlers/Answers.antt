use Rattle.std.proofs.Common.{◌≡◌, ℕ, List, ◌++◌, ap, ◌∙◌, reverse, subst}
use Rattle.std.specs.Prelude.{IfOk}
use Rattle.held_order.specs.Orders.{arranged}
use Rattle.board.specs.Handlers.{handlers_of, handlers_past}
use Rattle.board.proofs.board.Board.into_handlers.Goals as goal

pub returns-clause-held : goal.returns-clause-held
returns-clause-held g c =
    let past = handlers_past c.args.self.past.items in
    let table = handlers_of c.args.self.streams.entries in
    let all : c.add_table.new.held.items ≡ past ++ table =
    c.in_ok-add_table.ensures.added ∙ ap (λ (t : List (ℕ × _)). t ++ table) (c.in_ok-add_past.ensures ∙ ap (λ (t : List (ℕ × _)). t ++ past) c.new-held.ensures.items) in
    subst (λ (t : List (ℕ × _)). IfOk c.arrange.result (λ held. held.items ≡ arranged (reverse c.args.self.order) t)) all c.arrange.ensures.arranged
