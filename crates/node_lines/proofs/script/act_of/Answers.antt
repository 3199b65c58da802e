use Rattle.node_lines.specs.Script.{act_name, ActsRest, Acts}
use Rattle.node_lines.proofs.Names.{whole_act}
use Rattle.pool_texts.proofs.Tails.{with_rest, alone, said_with, said_alone}
use Rattle.node_lines.proofs.script.act_of.Goals as goal

pub returns-in-Some-clause-said : goal.returns-in-Some-clause-said
unfolding Acts
returns-in-Some-clause-said c =
    said_with act_name ActsRest whole_act c.args.words.now c.in-Some.name.now c.in-Some.rest.now c.in-Some.ensures.parted.0 c.act_with.result c.act_with.ensures.said

pub returns-in-Some-clause-only : goal.returns-in-Some-clause-only
unfolding Acts
returns-in-Some-clause-only c = λ it says.
    let said = with_rest act_name ActsRest whole_act c.args.words.now c.in-Some.name.now c.in-Some.rest.now c.in-Some.ensures.parted.0
    (λ first second pair spaceless. (c.in-Some.ensures.only first second pair spaceless).0) it says in
    c.act_with.ensures.only it said.0 said.1

pub returns-in-None-clause-said : goal.returns-in-None-clause-said
unfolding Acts
returns-in-None-clause-said c = said_alone act_name ActsRest whole_act c.args.words.now c.act_alone.result c.act_alone.ensures.said

pub returns-in-None-clause-only : goal.returns-in-None-clause-only
unfolding Acts
returns-in-None-clause-only c = λ it says.
    let said = alone act_name ActsRest whole_act c.args.words.now
    (λ first second pair spaceless. cc (c.in-None.ensures.only first second pair spaceless).1) it says in
    c.act_alone.ensures.only it said.0 said.1
