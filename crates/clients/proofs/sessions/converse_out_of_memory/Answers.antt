use Rattle.std.proofs.Common.{List, ℕ, ◌∙◌, take, sym, ap, subst}
use Rattle.yamux_session.specs.Arrives.{tellings}
use Rattle.yamux_session.specs.State.{State}
use Rattle.clients.specs.Sessions.{Hears}
use Rattle.clients.proofs.Stopping.{converse_out_of_memory}
use Rattle.clients.proofs.sessions.converse_out_of_memory.Goals as goal

pub returns : goal.returns
returns c =
    let pending = λ (s : State). s.pending in
    let heard : List _ = tellings c.in_ok-heard.heard.items in
    let last : Hears c.take_output-output.new.self c.take_output-sent.result.items heard c.hear-2.new.session =
    subst (λ (bytes : List ℕ). Hears c.take_output-output.new.self bytes heard c.hear-2.new.session) c.deref-2.ensures.value c.in_ok-heard.ensures in
    let all =
    converse_out_of_memory c.sessions_stay_joined.ensures.act c.no_fault.ensures c.received_data.ensures.data c.in_ok-stream.stream
    (take c.in_ok-stream.asked c.args.question.now) (take c.in_ok-answered.answered c.args.answer.now)
    c.take_output-output.result.items c.split_at.result.0.now c.split_at.result.1.now c.take_output-sent.result.items
    c.ask.new.client c.take_output-output.new.self c.hear-2.new.session c.new-server.result c.hear.new.session c.write.new.self c.hear_or_stop-rest.new.session
    (tellings c.in_ok-first.first.items) heard
    (c.in_ok-stream.ensures c.new-client.ensures.stands) c.take_output-output.ensures.stands (ap pending c.take_output-output.ensures.rest)
    (sym c.split_at.ensures.by_index.0 ∙ c.deref.ensures.value) c.new-server.ensures.stands c.in_ok-first.ensures c.in_ok-answered.ensures.ok
    c.hear_or_stop-rest.ensures c.take_output-sent.ensures.output last in
    record { client = all.0; asked = all.1; answered = all.2 }
