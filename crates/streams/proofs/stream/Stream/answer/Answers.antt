use Rattle.std.proofs.Common.{◌∙◌}
use Rattle.streams.proofs.Beginning.{header_waits}
use Rattle.streams.proofs.stream.Stream.answer.Goals as goal

pub returns-clause-waits : goal.returns-clause-waits
returns-clause-waits g c =
    let e = c.in_ok-talk.ensures in
    c.begin.ensures.waits ∙ header_waits c.in_ok-talk.talk _ e.side e.fresh.0 e.fresh.1

pub returns-clause-bad_length : goal.returns-clause-bad_length
returns-clause-bad_length g c = ((λ e. absurd cc), (λ no. let wrong = c.in_ok-talk.ensures.bad_length.1 no in absurd cc))
