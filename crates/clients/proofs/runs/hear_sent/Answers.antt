use Rattle.std.proofs.Common.{List, ℕ, ◌<◌, ◌≡◌, sym, ◌∙◌, subst, arith}
use Rattle.std.specs.List.{AllByRecursion}
use Rattle.std.proofs.lemmas.Result.{IfOk-weaker}
use Rattle.yamux_session.specs.declared.calls.Ran.{Ran}
use Rattle.clients.specs.Runs.{HearsSent}
use Rattle.clients.proofs.Conversing.{are_bytes}
use Rattle.clients.proofs.Running.{hears_sent}
use Rattle.clients.proofs.runs.hear_sent.Goals as goal

pub returns : goal.returns
returns c =
    let same : c.in_ok-bytes.bytes.items ≡ c.args.sent.now = c.in_ok-bytes.ensures.items_if_clones_equal (λ x y e. e) in
    let are : AllByRecursion (λ b. b < 256) c.in_ok-bytes.bytes.items =
    subst (λ (t : List ℕ). AllByRecursion (λ b. b < 256) t) (sym same) (are_bytes c.args.sent.now (λ i. omega (arith, c.type_inv.sent i))) in
    IfOk-weaker c.run.result _ _
    (λ (server : Ran) ran past joined is.
    subst (λ (t : List ℕ). HearsSent past t server.answers.items) same
    (hears_sent c.joined_are_answered.ensures c.no_fault.ensures c.nothing_is_lost.ensures.live c.nothing_is_lost.ensures.ended c.one_reading.ensures c.received_data.ensures.data c.they_go_on.ensures.both_go_on
    past c.in_ok-bytes.bytes server.answers.items server.output.items are joined (same ∙ is) ran))
    c.run.ensures.ran
