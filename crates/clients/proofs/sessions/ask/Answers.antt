use Rattle.std.proofs.Common.{take}
use Rattle.clients.proofs.Conversing.{asks}
use Rattle.clients.proofs.sessions.ask.Goals as goal

pub returns : goal.returns
returns c =
    asks c.sessions_stay_joined.ensures.act c.in_ok-stream.stream (take c.in_ok-count.count c.args.question.now) c.args.client.now c.open_stream.new.self c.write.new.self
    c.in_ok-stream.ensures.ok c.in_ok-count.ensures.ok
