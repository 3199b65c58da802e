use Rattle.std.proofs.Common.{List, [], ◌++◌, subst, append_assoc}
use Rattle.conn_log.specs.declared.event.ConnEvent.{ConnEvent}
use Rattle.conn_core.proofs.Growing.{grown_on}
use Rattle.conn_future.specs.Follows.{Follows}
use Rattle.conn_future.proofs.laws.carries_in_turn.Goals as goal

pub returns : goal.returns
returns g c first mid last events more before behind start role own link log gave follows =
    let one = before start role own link log gave follows in
    let two = behind start role own link one.0 (gave ++ events) one.2 in (
      two.0,
      grown_on [] [] log one.0 two.0 one.1 two.1,
      subst (λ (all : List (ConnEvent _)). Follows g.L.Link g.P.Protocols g.P.H.Handler start role own link two.0 all last) (append_assoc gave events more) two.2,
    )
