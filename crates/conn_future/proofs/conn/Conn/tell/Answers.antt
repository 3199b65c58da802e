use Rattle.std.proofs.Common.{◌≡◌, ◌∙◌, ◌++◌, [], false, ap, sym, refl, inl, inr}
use Rattle.conn_core.specs.Connects.{is_over, waiting_in}
use Rattle.conn_future.specs.Stages.{is_live}
use Rattle.conn_future.proofs.Lists.{not_true, some_given}
use Rattle.conn_core.proofs.Growing.{stays}
use Rattle.conn_future.proofs.Standing.{told_stays, parts_of, goes_collected, going_stays, stays_none, tells_some}
use Rattle.conn_future.proofs.Cases.{both_not, again_not, of_give, never_going, gives_no_wait, some_of, empty_of}
use Rattle.conn_future.specs.declared.turns.Turn.TheVariants.{Give}
use Rattle.conn_future.proofs.conn.Conn.tell.Goals as goal

pub returns-then-is_over-clause-follows : goal.returns-then-is_over-clause-follows
returns-then-is_over-clause-follows g c start role own first log gave ended joins ends unended =
    let over = sym c.is_over.ensures ∙ c.if-is_over.true in
    let standing =
    told_stays g.L.Link g.P.Protocols g.P.H.Handler start role own first log gave ended c.args.self.now.link c.stop.new.self.link c.args.self.now.core c.stop.new.self.core
    c.args.self.now.unsent.items c.stop.new.self.unsent.items c.args.events.items c.stop.new.self.held.items c.stop.new.self.stage c.stop.ensures.stage c.stop.ensures.link c.stop.ensures.core
    (ap (λ h. h.items) c.stop.ensures.held ∙ c.from.ensures.0) over joins in record {
      now = log;
      grown = stays log;
      follows = c.give.ensures.follows start role own first log gave standing;
      not_link = λ is. c.give.ensures.not_link start role own first log gave standing (of_give is);
      not_none = λ is.
          some_given c.stop.new.self.held.items c.give.result (λ x rest held. (c.give.ensures.held x rest held).0)
          (λ none. tells_some g.L.Link g.P.Protocols g.P.H.Handler start role own first log gave ended c.args.self.now.link c.args.self.now.core c.args.self.now.unsent.items c.args.events.items joins unended
          over (sym (ap (λ h. h.items) c.stop.ensures.held ∙ c.from.ensures.0) ∙ none)) (of_give is);
    }

pub returns-in_default-clause-follows : goal.returns-in_default-clause-follows
returns-in_default-clause-follows g c start role own first log gave ended joins ends unended =
    c.starve.ensures.follows start role own first log gave
    (parts_of g.L.Link g.P.Protocols g.P.H.Handler start role own first log [] gave ended c.args.self.now.link c.collect.new.self.link c.args.self.now.core c.collect.new.self.core
    c.args.self.now.unsent.items (waiting_in c.args.self.now.core.phase c.args.self.now.core.output.items) c.args.events.items
    c.collect.new.self.held.items c.collect.ensures.link (ap (λ h. h.items) c.collect.ensures.held ∙ c.from.ensures.0) (sym c.is_over.ensures ∙ c.if-is_over.false)
    joins (λ _. c.in_default.ensures.lost start role own joins.given joins.took ended log (gave ++ c.args.events.items) joins.stands))

pub returns-then-is_empty-clause-follows : goal.returns-then-is_empty-clause-follows
returns-then-is_empty-clause-follows g c start role own first log gave ended joins ends unended =
    let goes_on : is_over c.args.self.now.core.phase ≡ false = sym c.is_over.ensures ∙ c.if-is_over.false in
    let going : ended ≡ false = not_true ended (λ is. both_not (ends is) goes_on) in
    let standing =
    going_stays g.L.Link g.P.Protocols g.P.H.Handler start role own first log gave c.collect.new.self.link c.collect.new.self.core c.collect.new.self.unsent.items c.collect.new.self.held.items
    c.collect.new.self.stage (c.collect.ensures.stage ∙ c.requires)
    (goes_collected g.L.Link g.P.Protocols g.P.H.Handler start role own first log gave ended c.args.self.now.link c.collect.new.self.link c.args.self.now.core c.collect.new.self.core
    c.args.self.now.unsent.items c.collect.new.self.unsent.items c.args.events.items c.collect.new.self.held.items
    (λ input taken end told stood. c.in-Ok.ensures.stands start role own input taken end log told stood)
    c.collect.ensures.link (ap (λ h. h.items) c.collect.ensures.held ∙ c.from.ensures.0) going
    (c.collect.ensures.over ∙ goes_on) c.collect.ensures.none_waits joins) in record {
      now = log;
      grown = stays log;
      follows = stays_none g.L.Link g.P.Protocols g.P.H.Handler start role own first log gave c.collect.new.self.link c.collect.new.self.core c.collect.new.self.unsent.items c.collect.new.self.held.items
          c.collect.new.self.held.items c.collect.new.self.stage refl standing;
      not_link = again_not;
      not_none = again_not;
    }

pub returns-clause-follows : goal.returns-clause-follows
returns-clause-follows g c start role own first log gave ended joins ends unended =
    let goes_on : is_over c.args.self.now.core.phase ≡ false = sym c.is_over.ensures ∙ c.if-is_over.false in
    let going : ended ≡ false = not_true ended (λ is. both_not (ends is) goes_on) in
    let standing =
    going_stays g.L.Link g.P.Protocols g.P.H.Handler start role own first log gave c.collect.new.self.link c.collect.new.self.core c.collect.new.self.unsent.items c.collect.new.self.held.items
    c.collect.new.self.stage (c.collect.ensures.stage ∙ c.requires)
    (goes_collected g.L.Link g.P.Protocols g.P.H.Handler start role own first log gave ended c.args.self.now.link c.collect.new.self.link c.args.self.now.core c.collect.new.self.core
    c.args.self.now.unsent.items c.collect.new.self.unsent.items c.args.events.items c.collect.new.self.held.items
    (λ input taken end told stood. c.in-Ok.ensures.stands start role own input taken end log told stood)
    c.collect.ensures.link (ap (λ h. h.items) c.collect.ensures.held ∙ c.from.ensures.0) going
    (c.collect.ensures.over ∙ goes_on) c.collect.ensures.none_waits joins) in record {
      now = log;
      grown = stays log;
      follows = c.give-2.ensures.follows start role own first log gave standing;
      not_link = λ is. c.give-2.ensures.not_link start role own first log gave standing (of_give is);
      not_none = λ is.
          some_given c.collect.new.self.held.items c.give-2.result (λ x rest held. (c.give-2.ensures.held x rest held).0)
          (some_of _ _ _ c.collect.new.self.held.ok.0 c.is_empty.ensures c.if-is_empty.false) (of_give is);
    }

pub returns-then-is_over-clause-stage : goal.returns-then-is_over-clause-stage
returns-then-is_over-clause-stage g c is =
    let over : is_live c.give.new.self.stage ≡ false = c.give.ensures.live ∙ ap is_live c.stop.ensures.stage in absurd (both_not is over)

pub returns-clause-stage : goal.returns-clause-stage
returns-clause-stage g c is =
    let going = c.collect.ensures.stage ∙ c.requires in c.give-2.ensures.kept (ap is_live going) ∙ going

pub returns-then-is_over-clause-fails : goal.returns-then-is_over-clause-fails
returns-then-is_over-clause-fails g c = refl

pub returns-then-is_over-clause-why : goal.returns-then-is_over-clause-why
returns-then-is_over-clause-why g c over = inl (ap (λ core. is_over core.phase) (c.give.ensures.core ∙ c.stop.ensures.core) ∙ sym c.is_over.ensures ∙ c.if-is_over.true)

pub returns-then-is_over-clause-link : goal.returns-then-is_over-clause-link
returns-then-is_over-clause-link g c = c.give.ensures.link ∙ c.stop.ensures.link

pub returns-in_default-clause-goes_on : goal.returns-in_default-clause-goes_on
returns-in_default-clause-goes_on g c = never_going _ c.starve.result c.starve.ensures.gives

pub returns-in_default-clause-no_wait : goal.returns-in_default-clause-no_wait
returns-in_default-clause-no_wait g c = gives_no_wait c.starve.result c.starve.ensures.gives

pub returns-in_default-clause-fails : goal.returns-in_default-clause-fails
returns-in_default-clause-fails g c = c.starve.ensures.fails

pub returns-in_default-clause-stage : goal.returns-in_default-clause-stage
returns-in_default-clause-stage g c live = absurd (both_not live c.starve.ensures.stage)

pub returns-in_default-clause-why : goal.returns-in_default-clause-why
returns-in_default-clause-why g c = c.starve.ensures.why

pub returns-in_default-clause-link : goal.returns-in_default-clause-link
returns-in_default-clause-link g c = c.starve.ensures.link ∙ c.collect.ensures.link

pub returns-then-is_empty-clause-goes_on : goal.returns-then-is_empty-clause-goes_on
returns-then-is_empty-clause-goes_on g c = (c.collect.ensures.stage ∙ c.requires, empty_of _ _ _ c.collect.new.self.held.ok.0 c.is_empty.ensures c.if-is_empty.true)

pub returns-then-is_empty-clause-fails : goal.returns-then-is_empty-clause-fails
returns-then-is_empty-clause-fails g c = refl

pub returns-then-is_empty-clause-stage : goal.returns-then-is_empty-clause-stage
returns-then-is_empty-clause-stage g c live = c.collect.ensures.stage ∙ c.requires

pub returns-then-is_empty-clause-why : goal.returns-then-is_empty-clause-why
returns-then-is_empty-clause-why g c over = absurd (both_not (ap is_live (c.collect.ensures.stage ∙ c.requires)) (ap is_live over))

pub returns-then-is_empty-clause-link : goal.returns-then-is_empty-clause-link
returns-then-is_empty-clause-link g c = c.collect.ensures.link

pub returns-clause-fails : goal.returns-clause-fails
returns-clause-fails g c = refl

pub returns-clause-why : goal.returns-clause-why
returns-clause-why g c over = inr (inr (ap Give (c.give-2.ensures.over over (λ was. both_not (ap is_live (c.collect.ensures.stage ∙ c.requires)) (ap is_live was)))))

pub returns-clause-link : goal.returns-clause-link
returns-clause-link g c = c.give-2.ensures.link ∙ c.collect.ensures.link
