use Rattle.std.proofs.Common.{true, ◌||◌, sym, ap}
use Rattle.yamux_frames.specs.declared.header.FrameKind.{FrameKind}
use Rattle.yamux_session.specs.History.{is_data, is_update, is_go_away}
use Rattle.yamux_session.specs.Table.{table_of}
use Rattle.yamux_session.proofs.HeadLemmas.{session_head}
use Rattle.yamux_session.proofs.streams.Streams.head.Goals as goal

pub returns-in-Ping-clause-done : goal.returns-in-Ping-clause-done
returns-in-Ping-clause-done c = λ role past answered between keeps.
    session_head role past c.args.header (table_of c.args.self.now) c.args.self.now.remote_go_away between keeps
    (ap (λ (k : FrameKind). is_data k || is_update k) c.in-Ping.is) (sym (ap (λ (k : FrameKind). is_go_away k || c.args.self.now.remote_go_away) c.in-Ping.is))

pub returns-in-GoAway-clause-done : goal.returns-in-GoAway-clause-done
returns-in-GoAway-clause-done c = λ role past answered between keeps.
    session_head role past c.args.header (table_of c.args.self.now) true between keeps
    (ap (λ (k : FrameKind). is_data k || is_update k) c.in-GoAway.is) (sym (ap (λ (k : FrameKind). is_go_away k || c.args.self.now.remote_go_away) c.in-GoAway.is))
