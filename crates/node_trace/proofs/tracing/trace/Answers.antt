use Rattle.std.proofs.Common.{ap, ◌∙◌, codes}
use Rattle.std.proofs.lemmas.Result.{on_ok_weaker}
use Rattle.peer_ids.specs.Key.{Key}
use Rattle.node_protocols.specs.Own.{own_message}
use Rattle.node_trace.specs.Traces.{IsNode}
use Rattle.node_trace.proofs.tracing.trace.Given as given
use Rattle.node_trace.proofs.tracing.trace.Goals as goal

is_node : (g : given.Over) (c : goal.After-trace_new g) → IsNode c.args.key c.args.payload c.in-Ok-new.protocols
is_node g c = (
  c.in-Ok-new.ensures.own ∙ ap (λ (key : Key). own_message key (codes "node/0.1.0")) c.in-Ok.ensures,
  ap (λ f. f.payload) c.in-Ok-new.ensures.payloads,
)

pub returns-in-Ok-new-clause-played : goal.returns-in-Ok-new-clause-played
returns-in-Ok-new-clause-played g c = λ script held.
    on_ok_weaker c.trace_new.result (λ it. (it.0, it.1, it.2, c.in-Ok-new.protocols, it.3, it.4, is_node g c, it.5, it.6)) (c.trace_new.ensures.played script held)

pub returns-in-Ok-new-clause-refused : goal.returns-in-Ok-new-clause-refused
returns-in-Ok-new-clause-refused g c = λ script held number is.
    let it = c.trace_new.ensures.refused script held number is in
    (it.0, it.1, it.2, c.in-Ok-new.protocols, it.3, it.4, it.5, is_node g c, it.6, it.7, it.8)
