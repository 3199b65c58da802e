use Rattle.std.proofs.Common.{ap, ◌∙◌}
use Rattle.identify_h.specs.contracts.identify.Identify.{the_view}
use Rattle.identify_h.specs.Messages.{Message, merged}
use Rattle.identify_h.specs.Parts.{text}
use Rattle.identify_h.proofs.Messages.{same_message, newer_or, newer_text}
use Rattle.identify_h.proofs.identify.Identify.merged_with.Goals as goal

pub returns : goal.returns
returns c =
    let known : Message = the_view c.self.inside in
    let push : Message = the_view c.push.inside in
    same_message _ (merged known push)
    (c.or.ensures ∙ newer_or c.push.inside.key c.self.inside.key) c.newer.ensures c.newer-2.ensures
    (ap text c.or-2.ensures ∙ newer_text c.push.inside.observed c.self.inside.observed)
    (ap text c.or-3.ensures ∙ newer_text c.push.inside.version c.self.inside.version)
    (ap text c.or-4.ensures ∙ newer_text c.push.inside.agent c.self.inside.agent)
    ∙ ap (λ (m : Message). merged m push) c.self.view_is ∙ ap (merged c.args.self) c.push.view_is
