use Rattle.std.proofs.Common.{IfErr, length, refl, false, ◌++◌, sym, subst}
use Rattle.conn_log.specs.declared.event.ConnRefused.TheVariants as refusals
use Rattle.conn_core.specs.declared.connection.Phase.{Phase}
use Rattle.conn_core.specs.declared.connection.ConnCore.{ConnCore}
use Rattle.conn_log.specs.declared.event.ConnRefused.{ConnRefused}
use Rattle.conn_core.specs.Connects.{Connects, Stands, OwesOf, IsRefused}
use Rattle.conn_core.proofs.Asking.{refused_none, ok_on, refused_as, refused_on, up_refused, over_refused}
use Rattle.conn_core.proofs.connection.ConnCore.ask.Goals as goal
use Rattle.conn_core.proofs.connection.ConnCore.ask.Goals.{in-Upgrading, in-Up, in-Over, in-Over-2}

pub returns-else-eq-clause-asked : goal.returns-else-eq-clause-asked
returns-else-eq-clause-asked g c = λ role own start input taken log told stands.
    let H = g.P.H.Handler in
    let makes = g.P.Protocols in
    let core = c.args.self.now in
    elim c.match-self.branch [
      | in-Upgrading w ↦ refused_none _ c.match-self.asked refusals.NotUp w.asked-is
      | in-Up w ↦
          let it = subst (λ (x : Phase _ _). Connects H.steps H.fails H.is_closed H.is_finished makes.makes_inbound makes.makes_outbound makes.listed makes.is_eager makes.leads_inbound makes.leads_outbound start role own
          input false log told taken x core.owed.items core.output.items) w.in-Up.is stands.1 in
          ok_on _ _ c.match-self.asked w.open-asked.result w.asked-is
          (λ number up. (
            up.0,
            up.1,
            subst (λ (x : ConnCore _ _). Stands H.steps H.fails H.is_closed H.is_finished makes.makes_inbound makes.makes_outbound makes.listed makes.is_eager makes.leads_inbound makes.leads_outbound start role own
                input false up.0 told taken x) (sym w.self-is) (stands.0, (it.0, up.2)),
          ))
          (w.open-asked.ensures.opens role own start input taken log told it.1)
      | in-Over w ↦ refused_none _ c.match-self.asked refusals.Failed w.asked-is
      | in-Over-2 w ↦ refused_none _ c.match-self.asked refusals.Failed w.asked-is
    ]

pub returns-else-eq-clause-owes : goal.returns-else-eq-clause-owes
returns-else-eq-clause-owes g c = λ role own start input taken log told stands.
    let H = g.P.H.Handler in
    let makes = g.P.Protocols in
    let core = c.args.self.now in
    elim c.match-self.branch [
      | in-Upgrading w ↦ refused_none _ c.match-self.asked refusals.NotUp w.asked-is
      | in-Up w ↦
          let it = subst (λ (x : Phase _ _). Connects H.steps H.fails H.is_closed H.is_finished makes.makes_inbound makes.makes_outbound makes.listed makes.is_eager makes.leads_inbound makes.leads_outbound start role own
          input false log told taken x core.owed.items core.output.items) w.in-Up.is stands.1 in
          ok_on _ _ c.match-self.asked w.open-asked.result w.asked-is
          (λ number owes. subst (λ (x : ConnCore _ _). OwesOf number core.owed.items x.owed.items) (sym w.self-is) owes)
          (w.open-asked.ensures.owes role own start input (taken ++ core.output.items) log (told ++ core.owed.items) it.1)
      | in-Over w ↦ refused_none _ c.match-self.asked refusals.Failed w.asked-is
      | in-Over-2 w ↦ refused_none _ c.match-self.asked refusals.Failed w.asked-is
    ]

pub returns-then-eq-clause-refused : goal.returns-then-eq-clause-refused
returns-then-eq-clause-refused g c =
    let core = c.args.self.now in
    let is_refused : Phase _ _ → ConnRefused → Type 0 = λ phase refused. IsRefused g.P.Protocols.listed phase c.args.index refused in
    elim c.match-self.branch [
      | in-Upgrading w ↦ refused_as (is_refused core.phase) c.match-self.asked refusals.NotUp w.asked-is
          (subst (λ (x : Phase _ _). is_refused x refusals.NotUp) (sym w.in-Upgrading.is) refl)
      | in-Up w ↦ refused_on (is_refused core.phase) c.match-self.asked w.open-asked.result w.asked-is
          (subst (λ (x : Phase _ _). IfErr w.open-asked.result (is_refused x)) (sym w.in-Up.is)
          (up_refused (length (g.P.Protocols.listed w.in-Up.mux.board.protocols)) c.args.index w.open-asked.result _
          w.open-asked.ensures.bad_index w.open-asked.ensures.refused))
      | in-Over w ↦ refused_as (is_refused core.phase) c.match-self.asked refusals.Failed w.asked-is
          (over_refused g.P.Protocols.listed core.phase c.args.index w.in-Over.is)
      | in-Over-2 w ↦ refused_as (is_refused core.phase) c.match-self.asked refusals.Failed w.asked-is
          (over_refused g.P.Protocols.listed core.phase c.args.index w.in-Over.is)
    ]
