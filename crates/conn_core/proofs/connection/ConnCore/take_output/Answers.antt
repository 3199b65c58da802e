use Rattle.std.proofs.Common.{ℕ, Vec, ap, ◌∙◌}
use Rattle.conn_core.proofs.Taking.{output_taken}
use Rattle.conn_core.proofs.connection.ConnCore.take_output.Goals as goal

pub returns-clause-stands : goal.returns-clause-stands
returns-clause-stands g c = λ role own start input taken ended log told stands.
    let H = g.P.H.Handler in
    let makes = g.P.Protocols in
    let core = c.args.self.now in (
      stands.0,
      output_taken H.steps H.fails H.is_closed H.is_finished makes.makes_inbound makes.makes_outbound makes.listed makes.is_eager makes.leads_inbound makes.leads_outbound start role own
          input ended log told taken core.phase core.owed.items core.output.items c.replace.result.items c.replace.new.dest.items
          (ap (λ (v : Vec ℕ _). v.items) c.replace.ensures.value) (ap (λ (v : Vec ℕ _). v.items) c.replace.ensures.after ∙ c.new.ensures.items) stands.1,
    )
