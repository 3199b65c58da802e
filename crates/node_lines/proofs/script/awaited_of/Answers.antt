use Rattle.node_lines.specs.Script.{await_name, AwaitsRest, Awaits}
use Rattle.node_lines.proofs.Names.{whole_await}
use Rattle.pool_texts.proofs.Tails.{with_rest, alone, said_with, said_alone}
use Rattle.node_lines.proofs.script.awaited_of.Goals as goal

pub returns-in-Some-clause-said : goal.returns-in-Some-clause-said
unfolding Awaits
returns-in-Some-clause-said c =
    said_with await_name AwaitsRest whole_await c.args.words.now c.in-Some.name.now c.in-Some.rest.now c.in-Some.ensures.parted.0 c.awaited_with.result c.awaited_with.ensures.said

pub returns-in-Some-clause-only : goal.returns-in-Some-clause-only
unfolding Awaits
returns-in-Some-clause-only c = λ it says.
    let said = with_rest await_name AwaitsRest whole_await c.args.words.now c.in-Some.name.now c.in-Some.rest.now c.in-Some.ensures.parted.0
    (λ first second pair spaceless. (c.in-Some.ensures.only first second pair spaceless).0) it says in
    c.awaited_with.ensures.only it said.0 said.1

pub returns-in-None-clause-said : goal.returns-in-None-clause-said
unfolding Awaits
returns-in-None-clause-said c = said_alone await_name AwaitsRest whole_await c.args.words.now c.awaited_alone.result c.awaited_alone.ensures.said

pub returns-in-None-clause-only : goal.returns-in-None-clause-only
unfolding Awaits
returns-in-None-clause-only c = λ it says.
    let said = alone await_name AwaitsRest whole_await c.args.words.now
    (λ first second pair spaceless. cc (c.in-None.ensures.only first second pair spaceless).1) it says in
    c.awaited_alone.ensures.only it said.0 said.1
