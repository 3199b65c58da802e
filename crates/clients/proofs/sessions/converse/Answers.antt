use Rattle.std.proofs.Common.{List, ℕ, ◌∙◌, take, sym, ap, subst}
use Rattle.yamux_session.specs.Arrives.{tellings}
use Rattle.yamux_session.specs.State.{State}
use Rattle.clients.specs.Sessions.{Hears}
use Rattle.clients.proofs.Conversing.{both_hear}
use Rattle.clients.proofs.sessions.converse.Goals as goal

pub returns : goal.returns
returns c =
    let pending = λ (s : State). s.pending in
    let early : Hears c.take_output-output.new.self c.take_output-between.result.items (tellings c.in_ok-early.early.items) c.hear-3.new.session =
    subst (λ (bytes : List ℕ). Hears c.take_output-output.new.self bytes (tellings c.in_ok-early.early.items) c.hear-3.new.session) c.deref-2.ensures.value c.in_ok-early.ensures in
    let late : Hears c.hear-3.new.session c.take_output-last.result.items (tellings c.in_ok-late.late.items) c.hear-4.new.session =
    subst (λ (bytes : List ℕ). Hears c.hear-3.new.session bytes (tellings c.in_ok-late.late.items) c.hear-4.new.session) c.deref-3.ensures.value c.in_ok-late.ensures in
    let all =
    both_hear c.sessions_stay_joined.ensures.act c.no_fault.ensures c.nothing_is_lost.ensures.live c.received_data.ensures.data c.in_ok-stream.stream
    (take c.in_ok-stream.asked c.args.question.now) (take c.in_ok-answered.answered c.args.answer.now) c.take_output-output.result.items
    c.split_at.result.0.now c.split_at.result.1.now c.take_output-between.result.items c.take_output-last.result.items
    c.ask.new.client c.take_output-output.new.self c.hear-3.new.session c.hear-4.new.session
    c.new-server.result c.hear.new.session c.take_output-between.new.self c.hear-2.new.session c.write.new.self c.take_output-last.new.self
    (tellings c.in_ok-first.first.items) (tellings c.in_ok-rest.rest.items) (tellings c.in_ok-early.early.items) (tellings c.in_ok-late.late.items)
    (c.in_ok-stream.ensures c.new-client.ensures.stands) c.take_output-output.ensures.stands (ap pending c.take_output-output.ensures.rest)
    (sym c.split_at.ensures.by_index.0 ∙ c.deref.ensures.value) c.new-server.ensures.stands c.in_ok-first.ensures
    c.take_output-between.ensures.stands (ap pending c.take_output-between.ensures.rest) c.in_ok-rest.ensures
    c.in_ok-answered.ensures.ok c.take_output-last.ensures.stands (ap pending c.take_output-last.ensures.rest) early late in
    record { client = all.0; server = all.1; asked = all.2; answered = all.3 }
