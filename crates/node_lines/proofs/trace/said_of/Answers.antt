use Rattle.std.proofs.Common.{◌≡◌, None}
use Rattle.node_lines.specs.Trace.{trace_name, TraceRest, SaysTrace}
use Rattle.node_lines.proofs.Memory.{holds_bytes}
use Rattle.node_lines.proofs.Names.{whole_trace}
use Rattle.pool_texts.proofs.Tails.{with_rest, alone, said_alone, read_with}
use Rattle.node_lines.proofs.trace.said_of.Goals as goal

pub returns-in-Some-clause-said : goal.returns-in-Some-clause-said
unfolding SaysTrace
returns-in-Some-clause-said c =
    read_with trace_name TraceRest whole_trace c.args.text.now c.in-Some.name.now c.in-Some.rest.now c.in-Some.ensures.parted.0 c.said_with.result c.said_with.ensures.said

pub returns-in-Some-clause-unsaid : goal.returns-in-Some-clause-unsaid
unfolding SaysTrace
returns-in-Some-clause-unsaid c = λ none it says.
    let said = with_rest trace_name TraceRest whole_trace c.args.text.now c.in-Some.name.now c.in-Some.rest.now c.in-Some.ensures.parted.0
    (λ first second pair spaceless. (c.in-Some.ensures.only first second pair spaceless).0) it says in
    c.said_with.ensures.unsaid none it said.0 said.1

pub returns-in-Some-clause-memory : goal.returns-in-Some-clause-memory
returns-in-Some-clause-memory c =
    holds_bytes c.args.text.now c.in-Some.name.now c.in-Some.rest.now c.in-Some.ensures.parted.0 c.said_with.result c.said_with.ensures.memory

pub returns-in-None-clause-said : goal.returns-in-None-clause-said
unfolding SaysTrace
returns-in-None-clause-said c = said_alone trace_name TraceRest whole_trace c.args.text.now c.said_alone.result c.said_alone.ensures.said

pub returns-in-None-clause-unsaid : goal.returns-in-None-clause-unsaid
unfolding SaysTrace
returns-in-None-clause-unsaid c = λ none it says.
    let said = alone trace_name TraceRest whole_trace c.args.text.now
    (λ first second pair spaceless. cc (c.in-None.ensures.only first second pair spaceless).1) it says in
    let nothing : c.said_alone.result ≡ None = cc in
    c.said_alone.ensures.unsaid nothing it said.0 said.1
