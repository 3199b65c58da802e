use Rattle.std.proofs.Common.{sym, ◌∙◌}
use Rattle.yamux_session.specs.Table.{table_of}
use Rattle.yamux_session.proofs.Refusals.{live_by}
use Rattle.yamux_session.proofs.streams.Streams.is_live.Goals as goal

pub returns : goal.returns
returns c = λ role past keeps. c.is_some.ensures ∙ live_by role past (table_of c.args.self.now) c.args.number c.row.result keeps (sym c.row.ensures)
