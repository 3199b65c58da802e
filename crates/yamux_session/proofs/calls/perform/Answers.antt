use Rattle.std.proofs.Common.{◌≡◌, ◌<◌, List, ℕ, [], length, min, refl, sym, ap, subst}
use Rattle.yamux_session.specs.declared.event.Role.{Role}
use Rattle.yamux_session.specs.declared.event.ActRefused.TheVariants as refused
use Rattle.yamux_session.specs.declared.calls.Act.TheVariants as act
use Rattle.yamux_session.specs.declared.calls.ActAnswer.TheVariants.{Events, Count, Refused}
use Rattle.yamux_session.specs.Windows.{credit}
use Rattle.yamux_session.specs.State.{State, Feeds, RunsOut}
use Rattle.yamux_session.specs.Runs.{Point, Stands}
use Rattle.yamux_session.specs.Runs.Point.{At, Over}
use Rattle.yamux_session.proofs.CallLemmas.{Leads, leads_as, takes, closes, resets, leaves, starts, start_refused, writes_at, write_refused, fed_at, cut_off_at}
use Rattle.yamux_session.proofs.calls.perform.Goals as goal

pub returns-in-Taken : goal.returns-in-Taken
returns-in-Taken c = λ role point at.
    leads_as role point _ _ _ _ c.taken.new.self c.in-Taken.is c.done.ensures
    (takes role point c.in-Taken.stream c.in-Taken.count c.args.session.now c.taken.new.self c.taken.result c.taken.ensures.ok c.taken.ensures.refused c.taken.ensures.memory c.taken.ensures.err c.taken.ensures.failed at)

pub returns-in-Close : goal.returns-in-Close
returns-in-Close c = λ role point at.
    leads_as role point _ _ _ _ c.close.new.self c.in-Close.is c.done-in-Close.ensures
    (closes role point c.in-Close.stream c.args.session.now c.close.new.self c.close.result c.close.ensures.ok c.close.ensures.refused c.close.ensures.err c.close.ensures.failed at)

pub returns-in-Reset : goal.returns-in-Reset
returns-in-Reset c = λ role point at.
    leads_as role point _ _ _ _ c.reset.new.self c.in-Reset.is c.done-in-Reset.ensures
    (resets role point c.in-Reset.stream c.args.session.now c.reset.new.self c.reset.result c.reset.ensures.ok c.reset.ensures.refused c.reset.ensures.err c.reset.ensures.failed at)

pub returns-in-GoAway : goal.returns-in-GoAway
returns-in-GoAway c = λ role point at.
    leads_as role point _ _ _ _ c.go_away.new.self c.in-GoAway.is c.done-in-GoAway.ensures
    (leaves role point c.in-GoAway.code c.args.session.now c.go_away.new.self c.go_away.result c.go_away.ensures.ok c.go_away.ensures.refused c.go_away.ensures.err c.go_away.ensures.failed at)

pub returns-in-Ok-open_stream : goal.returns-in-Ok-open_stream
returns-in-Ok-open_stream c = λ role point at.
    leads_as role point _ _ _ _ c.open_stream.new.self c.in-Start.is refl
    (starts role point c.args.session.now c.open_stream.new.self c.in-Ok-open_stream.stream c.in-Ok-open_stream.ensures.ok
    (λ failed. absurd (let e = (c.open_stream.ensures.failed failed).0 in let is = c.in-Ok-open_stream.is in cc)) at)

pub returns-in-Err-open_stream : goal.returns-in-Err-open_stream
returns-in-Err-open_stream c = λ role point at.
    leads_as role point _ _ _ _ c.open_stream.new.self c.in-Start.is refl
    (start_refused role point c.args.session.now c.open_stream.new.self c.in-Err-open_stream.refused c.in-Err-open_stream.ensures.refused c.in-Err-open_stream.ensures.err
    (λ failed. (let e = (c.open_stream.ensures.failed failed).0 in let is = c.in-Err-open_stream.is in cc)) at)

pub returns-in-Ok-write : goal.returns-in-Ok-write
returns-in-Ok-write c = λ role point at. go role point at
  where
    go : (role : Role) (point : Point) → Stands role point c.args.session.now → Leads role point c.args.act.now (Count c.in-Ok-write.count) c.write.new.self
    go role (At past fed) at =
        leads_as role (At past fed) _ (act.Write c.in-Write.stream c.in-Write.bytes) _ _ c.write.new.self c.in-Write.is refl
        (writes_at role past fed c.in-Write.stream c.in-Write.bytes.items _ c.in-Ok-write.count c.args.session.now c.write.new.self c.deref-in-Write.ensures.value c.in-Ok-write.ensures.ok c.in-Ok-write.ensures.count at)
    go role (Over out) at = absurd (let e = (c.write.ensures.failed at.0).0 in let is = c.in-Ok-write.is in cc)

pub returns-in-Err-write : goal.returns-in-Err-write
returns-in-Err-write c = λ role point at.
    leads_as role point _ (act.Write c.in-Write.stream c.in-Write.bytes) _ _ c.write.new.self c.in-Write.is refl
    (write_refused role point (act.Write c.in-Write.stream c.in-Write.bytes) c.in-Write.stream _ c.args.session.now c.write.new.self c.in-Err-write.refused
    (λ past fed next why none e. (why, λ wanting. subst (λ (t : List ℕ). 0 < min (length t) (credit role past c.in-Write.stream)) c.deref-in-Write.ensures.value (none wanting), e))
    c.in-Err-write.ensures.refused c.in-Err-write.ensures.memory c.in-Err-write.ensures.err (λ failed. (let e = (c.write.ensures.failed failed).0 in let is = c.in-Err-write.is in cc)) at)

pub returns-in-Ok : goal.returns-in-Ok
returns-in-Ok c = λ role point at. go role point at
  where
    go : (role : Role) (point : Point) → Stands role point c.args.session.now → Leads role point c.args.act.now (Events c.in-Ok.told) c.feed.new.self
    go role (At past fed) at =
        leads_as role (At past fed) _ (act.Feed c.in-Feed.bytes) _ _ c.feed.new.self c.in-Feed.is refl
        (fed_at role past fed c.in-Feed.bytes.items c.in-Ok.told.items c.args.session.now c.feed.new.self c.feed.new.self.failed refl at
        (subst (λ (xs : List ℕ). Feeds c.args.session.now xs c.in-Ok.told.items c.feed.new.self) c.deref.ensures.value c.in-Ok.ensures.fed) (c.in-Ok.ensures.filled role past fed [] at))
    go role (Over out) at = absurd (let e = (c.feed.ensures.failed at.0).0 in let is = c.in-Ok.is in cc)

pub returns-in-Err : goal.returns-in-Err
returns-in-Err c = λ role point at. go role point at
  where
    go : (role : Role) (point : Point) → Stands role point c.args.session.now → Leads role point c.args.act.now (Refused c.in-Err.refused) c.feed.new.self
    go role (At past fed) at =
        let out = c.in-Err.ensures.refused at.going in
        let cut = cut_off_at role past fed c.in-Feed.bytes.items c.args.session.now c.feed.new.self out.1 at (subst (λ (xs : List ℕ). RunsOut c.args.session.now xs c.feed.new.self) c.deref.ensures.value out.2) in
        leads_as role (At past fed) _ (act.Feed c.in-Feed.bytes) _ _ c.feed.new.self c.in-Feed.is refl (cut.0, (out.0, subst (λ (xs : List ℕ). 0 < length xs) c.deref.ensures.value (c.in-Err.ensures.memory at.going), cut.1), cut.2)
    go role (Over out) at =
        let fails = c.feed.ensures.failed at.0 in
        let why : c.in-Err.refused ≡ refused.Failed = (let e = fails.0 in let is = c.in-Err.is in cc) in
        (Over out, (ap Refused why, refl), subst (λ (s : State). Stands role (Over out) s) (sym fails.1) at)
