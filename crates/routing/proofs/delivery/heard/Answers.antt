use Rattle.std.proofs.Common.{◌≡◌, ◌++◌, true, false, Some, Ok, refl, sym, ap, subst, inl, inr, take, drop}
use Rattle.streams.specs.declared.heard.Heard.{Heard}
use Rattle.streams.specs.State.{is_talking, awaits_handler}
use Rattle.dispatch.specs.Dispatch.{Negotiates, makes_once}
use Rattle.routing.specs.declared.delivered.Delivered.{Delivered}
use Rattle.routing.specs.Routing.{Delivers}
use Rattle.routing.proofs.Delivering.{not_both, agreed_here, failed}
use Rattle.routing.proofs.delivery.heard.Goals as goal

pub returns-then-not-talks-clause-delivers : goal.returns-then-not-talks-clause-delivers
returns-then-not-talks-clause-delivers g c = λ role past fed sent so_far at stands going awaits known e.
    let H = g.P.H.Handler in
    let P = g.P.Protocols in
    let makes = makes_once P.makes_inbound P.makes_outbound P.leads_inbound P.leads_outbound c.args.direction c.args.peer c.args.protocols.now c.args.protocols.now in
    let none_made = c.args.protocols.now ≡ c.args.protocols.now in
    let quiet : is_talking c.args.stream.now.stage ≡ false = sym c.if-not-talks.ensures in
    subst
    (λ (d : Delivered _). Delivers H.steps H.fails H.is_closed H.is_finished role past fed sent c.args.number makes none_made so_far c.args.bytes.now c.args.stream.now c.args.session.now d c.taken.new.session c.taken.new.stream)
    (sym c.by_none.ensures)
    (λ talks. absurd (not_both talks quiet), λ _. (refl, refl, c.in_ok-outcome.ensures.takes role past fed sent so_far at stands going quiet awaits e))

pub returns-in_ok-deliver_credit-in-Ok-Going-clause-delivers :
    goal.returns-in_ok-deliver_credit-in-Ok-Going-clause-delivers
returns-in_ok-deliver_credit-in-Ok-Going-clause-delivers g c = λ role past fed sent so_far at stands going awaits known e.
    let H = g.P.H.Handler in
    let P = g.P.Protocols in
    let makes = makes_once P.makes_inbound P.makes_outbound P.leads_inbound P.leads_outbound c.args.direction c.args.peer c.args.protocols.now c.negotiate.new.protocols in
    let none_made = c.negotiate.new.protocols ≡ c.args.protocols.now in
    let bytes = c.args.bytes.now in
    let talks : is_talking c.args.stream.now.stage ≡ true = sym c.if-not-talks.ensures in
    let middle = c.negotiate.new.stream in
    let came = subst (λ (heard : Heard). Negotiates H.steps makes none_made so_far bytes (Ok heard) middle) c.in-Ok-Going.field-0-is
    (c.in-Ok-Going.ensures.negotiates so_far stands talks known (λ e. cc e)) in
    let now = record so_far { got = so_far.got ++ bytes } in
    subst
    (λ (d : Delivered _). Delivers H.steps H.fails H.is_closed H.is_finished role past fed sent c.args.number makes none_made so_far bytes c.args.stream.now c.args.session.now d c.deliver_credit.new.session c.deliver_credit.new.stream)
    (sym c.by_none-in-Ok-Going.ensures) (
      λ _. inl (middle, came.0, came.1, came.2, c.in_ok-deliver_credit-in-Ok-Going.ensures.came role past fed sent now at came.0 e),
      λ quiet. absurd (not_both talks quiet),
    )

pub returns-in_ok-outcome-in-Ok-Agreed-clause-delivers :
    goal.returns-in_ok-outcome-in-Ok-Agreed-clause-delivers
returns-in_ok-outcome-in-Ok-Agreed-clause-delivers g c = λ role past fed sent so_far at stands going awaits known e.
    let H = g.P.H.Handler in
    let P = g.P.Protocols in
    let makes = makes_once P.makes_inbound P.makes_outbound P.leads_inbound P.leads_outbound c.args.direction c.args.peer c.args.protocols.now c.negotiate.new.protocols in
    let none_made = c.negotiate.new.protocols ≡ c.args.protocols.now in
    let bytes = c.args.bytes.now in
    let talks : is_talking c.args.stream.now.stage ≡ true = sym c.if-not-talks.ensures in
    let middle = c.negotiate.new.stream in
    let index = c.in-Ok-Agreed.index in
    let used = c.in-Ok-Agreed.used in
    let came = subst (λ (heard : Heard). Negotiates H.steps makes none_made so_far bytes (Ok heard) middle) c.in-Ok-Agreed.field-0-is
    (c.in-Ok-Agreed.ensures.negotiates so_far stands talks known (λ e. cc e)) in
    let now = record so_far { got = so_far.got ++ take used bytes; made = Some came.1.0 } in
    let has = agreed_here H.steps makes none_made so_far bytes index used middle came in (
      λ _. (
        take used bytes,
        drop used bytes,
        middle,
        (has, rw (sym c.behind.ensures) (c.in_ok-outcome-in-Ok-Agreed.ensures.takes role past fed sent now at came.1.2 going (ap is_talking came.2.1) (ap awaits_handler came.2.1) e)),
      ),
      λ quiet. absurd (not_both talks quiet),
    )

-- ---- where memory is wanting

pub returns-in_err-outcome-clause-memory : goal.returns-in_err-outcome-clause-memory
returns-in_err-outcome-clause-memory g c = λ role past fed sent so_far at stands going known e.
    let why = c.in_err-outcome.ensures.runs_out role past fed sent so_far at stands going e in
    failed c.from_residual.result (inl (c.in_err-outcome.ensures.memory role past fed sent at, (λ talks. absurd (not_both talks why.0), λ quiet. (refl, why.1))))

pub returns-in_err-deliver_credit-in-Ok-Going-clause-memory : goal.returns-in_err-deliver_credit-in-Ok-Going-clause-memory
returns-in_err-deliver_credit-in-Ok-Going-clause-memory g c = λ role past fed sent so_far at stands going known e.
    let H = g.P.H.Handler in
    let P = g.P.Protocols in
    let makes = makes_once P.makes_inbound P.makes_outbound P.leads_inbound P.leads_outbound c.args.direction c.args.peer c.args.protocols.now c.negotiate.new.protocols in
    let none_made = c.negotiate.new.protocols ≡ c.args.protocols.now in
    let bytes = c.args.bytes.now in
    let talks : is_talking c.args.stream.now.stage ≡ true = sym c.if-not-talks.ensures in
    let middle = c.negotiate.new.stream in
    let came = subst (λ (heard : Heard). Negotiates H.steps makes none_made so_far bytes (Ok heard) middle) c.in-Ok-Going.field-0-is
    (c.in-Ok-Going.ensures.negotiates so_far stands talks known (λ e. cc e)) in
    let now = record so_far { got = so_far.got ++ bytes } in
    let why = c.in_err-deliver_credit-in-Ok-Going.ensures in
    failed c.from_residual-in_err-deliver_credit-in-Ok-Going.result
    (inl (
      why.memory role past fed sent at,
      (
        λ _. inl (middle, came.0, came.1, came.2, why.runs_out role past fed sent now at came.0 e),
        λ quiet. absurd (not_both talks quiet),
      ),
    ))

pub returns-in_err-outcome-in-Ok-Agreed-clause-memory : goal.returns-in_err-outcome-in-Ok-Agreed-clause-memory
returns-in_err-outcome-in-Ok-Agreed-clause-memory g c = λ role past fed sent so_far at stands going known e.
    let H = g.P.H.Handler in
    let P = g.P.Protocols in
    let makes = makes_once P.makes_inbound P.makes_outbound P.leads_inbound P.leads_outbound c.args.direction c.args.peer c.args.protocols.now c.negotiate.new.protocols in
    let none_made = c.negotiate.new.protocols ≡ c.args.protocols.now in
    let bytes = c.args.bytes.now in
    let talks : is_talking c.args.stream.now.stage ≡ true = sym c.if-not-talks.ensures in
    let middle = c.negotiate.new.stream in
    let index = c.in-Ok-Agreed.index in
    let used = c.in-Ok-Agreed.used in
    let came = subst (λ (heard : Heard). Negotiates H.steps makes none_made so_far bytes (Ok heard) middle) c.in-Ok-Agreed.field-0-is
    (c.in-Ok-Agreed.ensures.negotiates so_far stands talks known (λ e. cc e)) in
    let now = record so_far { got = so_far.got ++ take used bytes; made = Some came.1.0 } in
    let has = agreed_here H.steps makes none_made so_far bytes index used middle came in
    let why = c.in_err-outcome-in-Ok-Agreed.ensures in
    failed c.from_residual-in_err-outcome-in-Ok-Agreed.result
    (inl (
      why.memory role past fed sent at,
      (
        λ _. inr (index, take used bytes, drop used bytes, middle, (has, rw (sym c.behind.ensures) (why.runs_out role past fed sent now at came.1.2 going e).1)),
        λ quiet. absurd (not_both talks quiet),
      ),
    ))
