use Rattle.std.proofs.Common.{◌≡◌, ◌++◌, Ok, refl, subst, inr, take, drop}
use Rattle.streams.specs.declared.heard.Heard.{Heard}
use Rattle.streams.specs.declared.heard.Heard.TheVariants.{Agreed}
use Rattle.dispatch.specs.Dispatch.{Negotiates, makes_once}
use Rattle.dispatch.proofs.Making.{Hearing, Serves, is_within, begun, agrees_by, none_made_before, none_agreed, as_they_are}
use Rattle.dispatch.proofs.agreement.negotiate.Goals as goal
use Rattle.dispatch.proofs.agreement.negotiate.Goals.{in-Agreed+in_ok-serve, in_default}

pub returns-in_err-serve-clause-memory : goal.returns-in_err-serve-clause-memory
returns-in_err-serve-clause-memory g c = λ so_far stands talks known e.
    let step = g.P.H.Handler.steps in
    let P = g.P.Protocols in
    let makes = makes_once P.makes_inbound P.makes_outbound P.leads_inbound P.leads_outbound c.args.direction c.args.peer c.args.protocols.now c.serve.new.protocols in
    let none_made = c.serve.new.protocols ≡ c.args.protocols.now in
    let bytes = c.args.bytes.now in
    let index = c.in-Agreed.index in
    let used = c.in-Agreed.used in
    let old = c.args.stream.now in
    let mid = c.hear.new.self in
    let h = subst (λ (heard : Heard). Hearing step makes none_made so_far bytes old mid heard) c.in-Agreed.is (record {
      has_heard = c.in_ok-heard.ensures.hears so_far stands talks (λ e. cc e);
      moves = c.in_ok-heard.ensures.stage talks;
      stands = c.in_ok-heard.ensures.stands so_far stands;
    }) in
    let within = is_within (g.P.Protocols.listed c.args.protocols.now) c.args.direction so_far.side (so_far.got ++ take used bytes) index h.has_heard.output known h.has_heard.hears.1 in
    inr (
      none_made_before step makes none_made so_far index used bytes old mid h (c.in_err-serve.ensures.refused within).1,
      (index, take used bytes, drop used bytes, agrees_by step makes none_made so_far index used bytes old mid h),
    )

pub returns-clause-negotiates : goal.returns-clause-negotiates
returns-clause-negotiates g c = λ so_far stands talks known ne.
    let step = g.P.H.Handler.steps in
    let P = g.P.Protocols in
    let bytes = c.args.bytes.now in
    let old = c.args.stream.now in
    let mid = c.hear.new.self in
    let first = c.args.protocols.now in
    let heard = c.in_ok-heard.heard in
    elim c.match-heard.branch [
      | in-Agreed+in_ok-serve w ↦
          let now = w.serve.new.protocols in
          let makes = makes_once P.makes_inbound P.makes_outbound P.leads_inbound P.leads_outbound c.args.direction c.args.peer first now in
          let none_made = now ≡ first in
          let index = w.in-Agreed.index in
          let used = w.in-Agreed.used in
          let h = subst (λ (it : Heard). Hearing step makes none_made so_far bytes old mid it) w.in-Agreed.is (record {
            has_heard = c.in_ok-heard.ensures.hears so_far stands talks (λ e. cc e);
            moves = c.in_ok-heard.ensures.stage talks;
            stands = c.in_ok-heard.ensures.stands so_far stands;
          }) in
          let s : Serves step makes none_made index (Ok tt) mid w.serve.new.stream = record {
            served = w.in_ok-serve.ensures.served;
            not_awaited = λ e. let kept = w.in_ok-serve.ensures.not_awaited e in (refl, kept.1, kept.2);
          } in
          let b = begun step makes none_made so_far index used bytes old mid w.serve.new.stream h s in
          as_they_are
          (λ p stream it. Negotiates step (makes_once P.makes_inbound P.makes_outbound P.leads_inbound P.leads_outbound c.args.direction c.args.peer first p) (p ≡ first) so_far bytes (Ok it) stream)
          c.match-heard.protocols now c.match-heard.stream w.serve.new.stream c.match-heard.heard (Agreed index used) w.protocols-is w.stream-is w.heard-is
          (agrees_by step makes none_made so_far index used bytes old mid h, (b.made, b.is_made, b.stands), (b.handler, b.stage_is))
      | in_default w ↦
          let makes = makes_once P.makes_inbound P.makes_outbound P.leads_inbound P.leads_outbound c.args.direction c.args.peer first first in
          let h : Hearing step makes (first ≡ first) so_far bytes old mid heard = record {
            has_heard = c.in_ok-heard.ensures.hears so_far stands talks (λ e. cc e);
            moves = c.in_ok-heard.ensures.stage talks;
            stands = c.in_ok-heard.ensures.stands so_far stands;
          } in
          as_they_are
          (λ p stream it. Negotiates step (makes_once P.makes_inbound P.makes_outbound P.leads_inbound P.leads_outbound c.args.direction c.args.peer first p) (p ≡ first) so_far bytes (Ok it) stream)
          c.match-heard.protocols first c.match-heard.stream mid c.match-heard.heard heard w.protocols-is w.stream-is w.heard-is
          (none_agreed step makes (first ≡ first) so_far bytes old mid heard h w.in_default.not-Agreed refl)
    ]
