use Rattle.std.proofs.lemmas.List.Elements.{recursion_from_All}
use Rattle.clients.specs.Runs.{IsOwn}
use Rattle.clients.proofs.Running.{hears_run}
use Rattle.clients.proofs.runs.hear_run.Goals as goal

pub returns : goal.returns
returns c =
    hears_run c.args.acts.now c.in_ok-client.client c.in_ok-server.server c.deref.result.now (recursion_from_All IsOwn c.args.acts.now c.requires.own)
    c.in_ok-client.ensures.ran c.deref.ensures.value c.in_ok-server.ensures
