use Rattle.std.proofs.Common.{rules, arith}
use Rattle.std.proofs.lemmas.Result.{err_from_is_err_and}
use Rattle.varint_proto.specs.Message.{last_body}
use Rattle.identify_h.specs.Messages.{IsKeySpelt}
use Rattle.identify_h.proofs.Messages.{text_refused, is_spelt}
use Rattle.identify_h.proofs.identify.Identify.read_in.Goals as goal

pub returns-in_err-version-clause-fault : goal.returns-in_err-version-clause-fault
returns-in_err-version-clause-fault c =
    let p = err_from_is_err_and c.from_residual-in_err-version.result c.from_residual-in_err-version.ensures.1 in
    let found = c.in_ok-parts.ensures.found in
    let spelt : IsKeySpelt (last_body 1 found.0) = search (rules, is_spelt) in
    rw (p.1, p.2) (text_refused c.args.peer c.args.bytes.now found.0 5 _ (omega arith) (omega arith) found.1 spelt found.2.version c.in_err-version.ensures.memory)

pub returns-in_err-agent-clause-fault : goal.returns-in_err-agent-clause-fault
returns-in_err-agent-clause-fault c =
    let p = err_from_is_err_and c.from_residual-in_err-agent.result c.from_residual-in_err-agent.ensures.1 in
    let found = c.in_ok-parts.ensures.found in
    let spelt : IsKeySpelt (last_body 1 found.0) = search (rules, is_spelt) in
    rw (p.1, p.2) (text_refused c.args.peer c.args.bytes.now found.0 6 _ (omega arith) (omega arith) found.1 spelt found.2.agent c.in_err-agent.ensures.memory)
