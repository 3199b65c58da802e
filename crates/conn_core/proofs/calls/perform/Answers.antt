use Rattle.std.proofs.Common.{◌≡◌, ◌∙◌, ℕ, true, false, List, [], ◌++◌, IfOk, OnErr, refl, sym, ap, subst}
use Rattle.conn_log.specs.Entries.{Entry}
use Rattle.conn_core.specs.declared.calls.ConnAct.TheVariants as act
use Rattle.conn_core.specs.Connects.{Stands, IsGrown, waiting_in}
use Rattle.conn_core.specs.Wanting.{Wrote}
use Rattle.conn_core.specs.Runs.{Explains, events_or, stream_or}
use Rattle.conn_core.specs.Runs.Point.{At}
use Rattle.conn_core.proofs.Asking.{ok_on}
use Rattle.conn_core.proofs.Steps.{leads_as, and_then, on_err, grows_behind, feed_keeps, tells, over_owes, asks}
use Rattle.conn_core.proofs.calls.perform.Goals as goal

pub returns-in-Feed : goal.returns-in-Feed
returns-in-Feed g c = λ start role own taken point at.
    let H = g.P.H.Handler in
    let makes = g.P.Protocols in
    let call = act.Feed c.in-Feed.bytes in
    leads_as H.steps H.fails H.is_closed H.is_finished makes.makes_inbound makes.makes_outbound makes.listed makes.is_eager makes.leads_inbound makes.leads_outbound start role own taken point c.args.act.now call c.told.result (events_or c.feed.result) c.feed.new.self c.in-Feed.is c.told.ensures
    (tells H.steps H.fails H.is_closed H.is_finished makes.makes_inbound makes.makes_outbound makes.listed makes.is_eager makes.leads_inbound makes.leads_outbound start role own taken point call (λ input. input ++ c.in-Feed.bytes.items) false (λ log now. IsGrown [] log now) c.args.core.now c.feed.new.self c.feed.result
    (λ input ended log told owed more now next going grown next_is first. (going, (now, grown, next_is), first))
    (λ input ended log told owed why next away. away)
    (λ input log told stands going. and_then _ _ c.feed.result c.feed.ensures.none_owed
    (subst (λ (bytes : List ℕ). IfOk c.feed.result (λ events. (now : List (Entry _)) × IsGrown [] log now × Stands H.steps H.fails H.is_closed H.is_finished makes.makes_inbound makes.makes_outbound makes.listed makes.is_eager makes.leads_inbound makes.leads_outbound start role own (input ++ bytes) false now (told ++ events.items) taken c.feed.new.self)) c.deref.ensures.value
    (c.feed.ensures.fed role own start input taken log told stands going)))
    (λ input log told stands going. c.feed.ensures.owed_first role own start input taken log told stands going)
    c.feed.ensures.refused
    (λ input log told owed there stands going. feed_keeps H.steps H.fails H.is_closed H.is_finished makes.makes_inbound makes.makes_outbound makes.listed makes.is_eager makes.leads_inbound makes.leads_outbound start role own
    input c.in-Feed.bytes.items log told owed _ _ c.feed.result there (grows_behind c.feed.result taken _ _ c.feed.ensures.waits)
    (subst (λ (bytes : List ℕ). OnErr c.feed.result (Wrote H.steps H.fails H.is_closed H.is_finished makes.makes_inbound makes.makes_outbound makes.listed makes.is_eager makes.leads_inbound makes.leads_outbound start role own
    input bytes log told (taken ++ waiting_in c.feed.new.self.phase c.feed.new.self.output.items))) c.deref.ensures.value (c.feed.ensures.wrote role own start input taken log told stands going)))
    c.feed.ensures.failed at)

pub returns-in-Ended : goal.returns-in-Ended
returns-in-Ended g c = λ start role own taken point at.
    let H = g.P.H.Handler in
    let makes = g.P.Protocols in
    let new = c.ended.new.self in
    leads_as H.steps H.fails H.is_closed H.is_finished makes.makes_inbound makes.makes_outbound makes.listed makes.is_eager makes.leads_inbound makes.leads_outbound start role own taken point c.args.act.now act.Ended c.told-in-Ended.result (events_or c.ended.result) new c.in-Ended.is c.told-in-Ended.ensures
    (tells H.steps H.fails H.is_closed H.is_finished makes.makes_inbound makes.makes_outbound makes.listed makes.is_eager makes.leads_inbound makes.leads_outbound start role own taken point act.Ended (λ input. input) true (λ log now. now ≡ log) c.args.core.now new c.ended.result
    (λ input ended log told owed more now next going stays next_is first. (going, next_is ∙ ap (λ (l : List (Entry _)). At input true l (told ++ more.items) []) stays, first))
    (λ input ended log told owed why next away. away)
    (λ input log told stands going. ok_on _ _ c.ended.result c.ended.result refl
    (λ events there. ((log, refl, there), over_owes H.steps H.fails H.is_closed H.is_finished makes.makes_inbound makes.makes_outbound makes.listed makes.is_eager makes.leads_inbound makes.leads_outbound start role own input true log (told ++ events.items) taken new.phase new.owed.items new.output.items c.ended.ensures.over there.1))
    (c.ended.ensures.ends role own start input taken log told stands going))
    (λ input log told stands going. c.ended.ensures.owed_first)
    c.ended.ensures.refused
    (λ input log told owed there stands going. on_err _ c.ended.result
    (subst (λ (w : List ℕ). Explains H.steps H.fails H.is_closed H.is_finished makes.makes_inbound makes.makes_outbound makes.listed makes.is_eager makes.leads_inbound makes.leads_outbound start role own input false log told owed w)
    (ap (λ (t : List ℕ). taken ++ t) (sym c.ended.ensures.waits)) there))
    c.ended.ensures.failed at)

pub returns-in-Ask : goal.returns-in-Ask
returns-in-Ask g c = λ start role own taken point at.
    let H = g.P.H.Handler in
    let makes = g.P.Protocols in
    let index = c.in-Ask.index in
    leads_as H.steps H.fails H.is_closed H.is_finished makes.makes_inbound makes.makes_outbound makes.listed makes.is_eager makes.leads_inbound makes.leads_outbound start role own taken point c.args.act.now (act.Ask index) c.opened.result (stream_or c.ask.result) c.ask.new.self c.in-Ask.is c.opened.ensures
    (asks H.steps H.fails H.is_closed H.is_finished makes.makes_inbound makes.makes_outbound makes.listed makes.is_eager makes.leads_inbound makes.leads_outbound start role own taken point index c.args.core.now c.ask.new.self c.ask.result
    (λ input log told stands. c.ask.ensures.asked role own start input taken log told stands)
    (λ input log told stands. c.ask.ensures.owes role own start input taken log told stands)
    c.ask.ensures.opened c.ask.ensures.refused c.ask.ensures.kept c.ask.ensures.memory c.ask.ensures.waits at)
