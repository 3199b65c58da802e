use Rattle.std.proofs.Common.{◌≤◌, length, rules, arith}
use Rattle.pool_state.proofs.AgentLemmas.{is_padded}
use Rattle.pool_state.proofs.row.Agent.from_bytes.Goals as goal

pub invariant_of-result : goal.invariant_of-result
invariant_of-result c =
    let some : 1 ≤ length c.args.bytes.now = search rules in
    rw c.padded.ensures (is_padded c.args.bytes.now record { some = some; few = omega arith; printable = search rules })
