use Rattle.std.proofs.Common.{◌≡◌, ◌∙◌, ◌⊎◌, Option, Some, inl, inr, ℕ, List, [], ◌++◌, ◌+◌, length, arith, refl, ap, sym, subst}
use Rattle.std.proofs.lemmas.List.{append-nil}
use Rattle.conn_log.specs.declared.event.ConnEvent.{ConnEvent}
use Rattle.futures.specs.Poll.{OnPending}
use Rattle.futures.specs.declared.task.Poll.{Poll}
use Rattle.futures.specs.declared.task.Poll.TheVariants.{Ready, Pending}
use Rattle.conn_log.specs.declared.event.ConnEvent.TheVariants as event
use Rattle.conn_log.specs.declared.event.ConnFault.TheVariants as fault
use Rattle.conn_future.specs.declared.turns.Turn.TheVariants.{Give, Failed}
use Rattle.conn_future.specs.declared.stage.Stage.{Stage}
use Rattle.conn_future.specs.declared.stage.Stage.TheVariants.{Shutting, Over}
use Rattle.conn_future.specs.Stages.{is_live, Drains}
use Rattle.conn_future.specs.Polling.{Polls}
use Rattle.conn_future.specs.Follows.{Follows, given_by}
use Rattle.conn_future.proofs.Cases.{both_not, false_not, starved_not, some_not, given_not, of_give, pending_not, of_ready, ready_none_not, none_rose, rose_not, one_more, just_all, some_of, empty_of}
use Rattle.conn_core.proofs.Growing.{stays, grown_on}
use Rattle.conn_future.proofs.Leading.{gives_carries}
use Rattle.conn_future.proofs.Making.{none_made, polls_none, polls_to, polls_all}
use Rattle.conn_future.proofs.Moved.{drains_none, drains_on, came_on}
use Rattle.conn_future.proofs.Stopped.{over_of}
use Rattle.conn_future.proofs.calls.ConnStream.poll_next.Goals as goal
use Rattle.conn_future.proofs.calls.ConnStream.poll_next.Goals.{then-not-is_empty-via-then-not-is_empty, then-not-is_empty-via-else-not-is_empty+then-not-is_live}

-- a turn that gives ends as the poll does that gives it
gives_why : {H : Type 0} (Ends : Type 0) (given : Option (ConnEvent H)) → Ends ⊎ ((Give given ≡ Failed) ⊎ (Give given ≡ Give (Some (event.Fault fault.OutOfMemory))))
    → Ends ⊎ ((Ready given ≡ Ready (Some (event.Fault fault.Link))) ⊎ (Ready given ≡ Ready (Some (event.Fault fault.OutOfMemory))))
gives_why Ends given (inl over) = inl over
gives_why Ends given (inr (inl failed)) = absurd (given_not failed)
gives_why Ends given (inr (inr memory)) = inr (inr (ap Ready (of_give memory)))

gives_closes : {H : Type 0} (stage : Stage) (given : Option (ConnEvent H)) → (stage ≡ Shutting) ⊎ ((stage ≡ Over) × ((Give given ≡ Failed) ⊎ (Give given ≡ Give (Some event.Shut))))
    → (stage ≡ Shutting) ⊎ ((stage ≡ Over) × ((Ready given ≡ Ready (Some (event.Fault fault.Link))) ⊎ (Ready given ≡ Ready (Some event.Shut))))
gives_closes stage given (inl still) = inl still
gives_closes stage given (inr (over, inl failed)) = absurd (given_not failed)
gives_closes stage given (inr (over, inr shut)) = inr (over, inr (ap Ready (of_give shut)))

always_pending : {A : Type 0} (P : Type 0) (polled : Poll A) → P → OnPending polled P
always_pending P (Ready given) is = tt
always_pending P Pending is = is

pub returns-then-not-is_empty-clause-fault : goal.returns-then-not-is_empty-clause-fault
returns-then-not-is_empty-clause-fault g c start role own first log gave stays is = absurd (c.give.ensures.not_link start role own first log gave stays (of_ready is))

pub loop-call-init : goal.loop-call-init
loop-call-init g c =
    record {
      live = sym c.is_live.ensures ∙ c.if-not-is_live.false;
      stage = refl;
      none_held = empty_of _ _ _ c.args.self.now.held.ok.0 c.is_empty.ensures c.if-not-is_empty.false;
      failures = refl;
      follows = λ start role own first log gave standing. (log, stays log, standing);
      unshut = λ other shut. shut;
      shutting = λ is. drains_none g.L.Link g.met.L.Link.moves_nothing c.args.self.now.link c.args.self.now.unsent.items;
      moved = λ is. ([], [], g.met.L.Link.moves_nothing c.args.self.now.link);
      made = record {
        log = [];
        called = none_made g.L.Link.calls g.met.L.Link.calls_none c.args.self.now.link;
        count = refl;
        asked = λ woken. inl woken;
        reading = λ is. tt;
        writing = λ is. tt;
        unshut = tt;
        writes = tt;
        is_left = λ is. omega arith;
        untaken = λ is. absurd (false_not is);
      };
      waits = record { reading = λ is. absurd (false_not is); writing = λ is. absurd (false_not is) };
      kept = λ fact holds. holds;
    }

pub loop-call-preserved : goal.loop-call-preserved
loop-call-preserved g c = record {
  live = ap is_live c.in-Again.ensures.goes_on.0 ∙ c.loop-call.invariant.live;
  stage = c.in-Again.ensures.goes_on.0 ∙ c.loop-call.invariant.stage;
  none_held = c.in-Again.ensures.goes_on.1;
  failures = none_rose c.in-Again.ensures.failures c.loop-call.invariant.failures;
  follows = λ start role own first log gave standing.
      let before = c.loop-call.invariant.follows start role own first log gave standing in
      let by = c.in-Again.ensures.follows start role own first before.0 gave before.2 in (
        by.now,
        grown_on [] [] log before.0 by.now before.1 by.grown,
        subst (λ (l : List (ConnEvent _)). Follows g.L.Link g.P.Protocols g.P.H.Handler start role own first by.now l c.turn.new.self) (append-nil gave) by.follows,
      );
  unshut = λ other shut. c.loop-call.invariant.unshut other (c.turn.ensures.unshut (λ is. other (sym c.loop-call.invariant.stage ∙ is)) shut);
  shutting = λ is.
      let by = c.in-Again.ensures.shutting (c.loop-call.invariant.stage ∙ is) in
      drains_on g.L.Link g.met.L.Link.moves_on c.args.self.now.link c.loop-call.self.link c.turn.new.self.link c.args.self.now.unsent.items c.loop-call.self.unsent.items c.turn.new.self.unsent.items
      (c.loop-call.invariant.shutting is) (subst (λ (rest : List ℕ). Drains g.L.Link c.loop-call.self.link c.loop-call.self.unsent.items c.turn.new.self.link rest) by.2 by.1);
  moved = λ is.
      let before = c.loop-call.invariant.moved is in
      let by = c.turn.ensures.moved (c.loop-call.invariant.stage ∙ is) in (
        before.0 ++ by.0,
        before.1 ++ by.1,
        g.met.L.Link.moves_on c.args.self.now.link c.loop-call.self.link c.turn.new.self.link before.0 before.1 by.0 by.1 before.2 by.2,
      );
  made = c.in-Again.ensures.called (length c.args.self.now.unsent.items) c.args.self.now.link c.args.cx.now c.loop-call._call c.loop-call.invariant.made;
  waits = c.in-Again.ensures.waits c.loop-call.invariant.waits;
  kept = λ fact holds. c.turn.ensures.kept fact (c.loop-call.invariant.kept fact holds);
}

pub returns-in-Give-clause-follows : goal.returns-in-Give-clause-follows
returns-in-Give-clause-follows g c start role own first log gave standing =
    let before = c.loop-call.invariant.follows start role own first log gave standing in
    let by = c.in-Give.ensures.follows start role own first before.0 gave before.2 in
    (by.now, grown_on [] [] log before.0 by.now before.1 by.grown, by.follows)

pub returns-in-Failed-clause-follows : goal.returns-in-Failed-clause-follows
returns-in-Failed-clause-follows g c start role own first log gave standing =
    let before = c.loop-call.invariant.follows start role own first log gave standing in
    let by = c.in-Failed.ensures.follows start role own first before.0 gave before.2 in
    (by.now, grown_on [] [] log before.0 by.now before.1 by.grown, by.follows)

pub returns-in-Wait-clause-follows : goal.returns-in-Wait-clause-follows
returns-in-Wait-clause-follows g c start role own first log gave standing =
    let before = c.loop-call.invariant.follows start role own first log gave standing in
    let by = c.in-Wait.ensures.follows start role own first before.0 gave before.2 in
    (by.now, grown_on [] [] log before.0 by.now before.1 by.grown, by.follows)

pub returns-in-Give-clause-shutting : goal.returns-in-Give-clause-shutting
returns-in-Give-clause-shutting g c is =
    let by = c.turn.ensures.shutting (c.loop-call.invariant.stage ∙ is) in (
      by.0,
      drains_on g.L.Link g.met.L.Link.moves_on c.args.self.now.link c.loop-call.self.link c.turn.new.self.link c.args.self.now.unsent.items c.loop-call.self.unsent.items by.0 (c.loop-call.invariant.shutting is) by.1,
    )

pub returns-in-Failed-clause-shutting : goal.returns-in-Failed-clause-shutting
returns-in-Failed-clause-shutting g c is =
    let by = c.turn.ensures.shutting (c.loop-call.invariant.stage ∙ is) in (
      by.0,
      drains_on g.L.Link g.met.L.Link.moves_on c.args.self.now.link c.loop-call.self.link c.turn.new.self.link c.args.self.now.unsent.items c.loop-call.self.unsent.items by.0 (c.loop-call.invariant.shutting is) by.1,
    )

pub returns-in-Wait-clause-shutting : goal.returns-in-Wait-clause-shutting
returns-in-Wait-clause-shutting g c is =
    let by = c.turn.ensures.shutting (c.loop-call.invariant.stage ∙ is) in (
      by.0,
      drains_on g.L.Link g.met.L.Link.moves_on c.args.self.now.link c.loop-call.self.link c.turn.new.self.link c.args.self.now.unsent.items c.loop-call.self.unsent.items by.0 (c.loop-call.invariant.shutting is) by.1,
    )

pub returns-in-Give-clause-fault : goal.returns-in-Give-clause-fault
returns-in-Give-clause-fault g c start role own first log gave standing is =
    let before = c.loop-call.invariant.follows start role own first log gave standing in
    absurd ((c.in-Give.ensures.follows start role own first before.0 gave before.2).not_link (ap Give (of_ready is)))

pub returns-in-Wait-clause-registered : goal.returns-in-Wait-clause-registered
returns-in-Wait-clause-registered g c = c.in-Wait.ensures.covers c.loop-call.invariant.waits

pub returns-clause-follows : goal.returns-clause-follows
returns-clause-follows g c start role own first log gave standing =
    let before = c.loop-call.invariant.follows start role own first log gave standing in (
      before.0,
      before.1,
      subst (λ (l : List (ConnEvent _)). Follows g.L.Link g.P.Protocols g.P.H.Handler start role own first before.0 l c.loop-call.self)
          (sym (ap (λ p. gave ++ given_by p) c.yield_now.ensures.pending ∙ append-nil gave)) before.2,
    )

pub returns-in-Give-clause-ends : goal.returns-in-Give-clause-ends
returns-in-Give-clause-ends g c start role own first log gave standing is =
    let before = c.loop-call.invariant.follows start role own first log gave standing in
    absurd ((c.in-Give.ensures.follows start role own first before.0 gave before.2).not_none (ap Give (of_ready is)))

pub returns-then-not-is_empty-clause-stage : goal.returns-then-not-is_empty-clause-stage
returns-then-not-is_empty-clause-stage g c is = c.give.ensures.kept (sym c.give.ensures.live ∙ is)

pub returns-then-not-is_empty-clause-ends : goal.returns-then-not-is_empty-clause-ends
returns-then-not-is_empty-clause-ends g c start role own first log gave stays is =
    let empty = c.give.ensures.empty (of_ready is) in (
      empty.0,
      elim c.then-not-is_empty.branch [
        | then-not-is_empty-via-then-not-is_empty w ↦ absurd (some_of _ _ _ c.args.self.now.held.ok.0 c.is_empty.ensures w.if-not-is_empty.true empty.0)
        | then-not-is_empty-via-else-not-is_empty+then-not-is_live w ↦ over_of c.args.self.now.stage (sym w.is_live.ensures ∙ w.if-not-is_live.true) empty.1
      ],
    )

pub returns-then-not-is_empty-clause-shutting : goal.returns-then-not-is_empty-clause-shutting
returns-then-not-is_empty-clause-shutting g c is = (
  c.args.self.now.unsent.items,
  subst (λ l. Drains g.L.Link c.args.self.now.link c.args.self.now.unsent.items l c.args.self.now.unsent.items) (sym c.give.ensures.link)
      (drains_none g.L.Link g.met.L.Link.moves_nothing c.args.self.now.link c.args.self.now.unsent.items),
)

pub returns-then-not-is_empty-clause-unshut : goal.returns-then-not-is_empty-clause-unshut
returns-then-not-is_empty-clause-unshut g c other shut = subst g.L.Link.is_shut c.give.ensures.link shut

pub returns-clause-shutting : goal.returns-clause-shutting
returns-clause-shutting g c is = (c.loop-call.self.unsent.items, c.loop-call.invariant.shutting is)

pub returns-in-Give-clause-came : goal.returns-in-Give-clause-came
returns-in-Give-clause-came g c empty going over =
    let before = c.loop-call.invariant.moved going in
    elim (c.in-Give.ensures.came (c.loop-call.invariant.stage ∙ going) over) [
      | inl failed ↦ absurd (given_not failed)
      | inr came ↦ inr (came_on g.L.Link g.met.L.Link.moves_on c.args.self.now.link c.loop-call.self.link c.turn.new.self.link before.0 before.1 before.2 came)
    ]

pub returns-in-Give-clause-polls : goal.returns-in-Give-clause-polls
returns-in-Give-clause-polls g c =
    polls_to g.L.Link.calls (length c.args.self.now.unsent.items) _ c.args.self.now.link c.turn.new.self.link c.args.cx.now c.turn.new.cx (c.loop-call._call + 1) (one_more c.loop-call._call 32 c.loop-call-test.true)
    (c.turn.ensures.calls (length c.args.self.now.unsent.items) c.args.self.now.link c.args.cx.now c.loop-call._call c.loop-call.invariant.made)

pub returns-in-Failed-clause-polls : goal.returns-in-Failed-clause-polls
returns-in-Failed-clause-polls g c =
    polls_to g.L.Link.calls (length c.args.self.now.unsent.items) _ c.args.self.now.link c.turn.new.self.link c.args.cx.now c.turn.new.cx (c.loop-call._call + 1) (one_more c.loop-call._call 32 c.loop-call-test.true)
    (c.turn.ensures.calls (length c.args.self.now.unsent.items) c.args.self.now.link c.args.cx.now c.loop-call._call c.loop-call.invariant.made)

pub returns-in-Wait-clause-polls : goal.returns-in-Wait-clause-polls
returns-in-Wait-clause-polls g c =
    polls_to g.L.Link.calls (length c.args.self.now.unsent.items) _ c.args.self.now.link c.turn.new.self.link c.args.cx.now c.turn.new.cx (c.loop-call._call + 1) (one_more c.loop-call._call 32 c.loop-call-test.true)
    (c.turn.ensures.calls (length c.args.self.now.unsent.items) c.args.self.now.link c.args.cx.now c.loop-call._call c.loop-call.invariant.made)

pub returns-clause-polls : goal.returns-clause-polls
returns-clause-polls g c =
    polls_all g.L.Link.calls c.loop-call.waits (length c.args.self.now.unsent.items) (length c.loop-call.self.unsent.items) _ c.args.self.now.link c.loop-call.self.link c.args.cx.now c.loop-call.cx c.yield_now.new.self c.loop-call._call (just_all c.loop-call._call 32 c.loop-call-test.false c.loop-call.auto._call-end)
    c.loop-call.invariant.made

pub returns-then-not-is_empty-clause-polls : goal.returns-then-not-is_empty-clause-polls
returns-then-not-is_empty-clause-polls g c =
    subst (λ l. Polls g.L.Link.calls (length c.args.self.now.unsent.items) (is_live c.give.new.self.stage) c.args.self.now.link c.args.cx.now l c.args.cx.now) (sym c.give.ensures.link)
    (polls_none g.L.Link.calls g.met.L.Link.calls_none (length c.args.self.now.unsent.items) _ c.args.self.now.link c.args.cx.now)

pub returns-then-not-is_empty-clause-follows : goal.returns-then-not-is_empty-clause-follows
returns-then-not-is_empty-clause-follows g c = gives_carries g.L.Link g.P.Protocols g.P.H.Handler c.args.self.now (given_by (Ready c.give.result)) c.give.new.self c.give.ensures.follows

pub returns-then-not-is_empty-clause-rose : goal.returns-then-not-is_empty-clause-rose
returns-then-not-is_empty-clause-rose g c rose = absurd (rose_not (ap g.L.Link.failed c.give.ensures.link) rose)

pub returns-then-not-is_empty-clause-held : goal.returns-then-not-is_empty-clause-held
returns-then-not-is_empty-clause-held g c event rest is = let held = c.give.ensures.held event rest is in (ap Ready held.0, held.1, held.2, c.give.ensures.link)

pub returns-then-not-is_empty-clause-starved : goal.returns-then-not-is_empty-clause-starved
returns-then-not-is_empty-clause-starved g c none is = let starved = c.give.ensures.starved none is in (ap Ready starved.0, starved.1, starved.2)

pub returns-then-not-is_empty-clause-over : goal.returns-then-not-is_empty-clause-over
returns-then-not-is_empty-clause-over g c none is = let over = c.give.ensures.none none (λ starved. starved_not is starved) in (ap Ready over.0, over.1, over.2 ∙ is)

pub returns-then-not-is_empty-clause-why : goal.returns-then-not-is_empty-clause-why
returns-then-not-is_empty-clause-why g c going over = inr (inr (ap Ready (c.give.ensures.over over (λ was. both_not (ap is_live going) (ap is_live was)))))

pub returns-then-not-is_empty-clause-came : goal.returns-then-not-is_empty-clause-came
returns-then-not-is_empty-clause-came g c none going dead = absurd (both_not (c.give.ensures.live ∙ ap is_live going) dead)

pub returns-then-not-is_empty-clause-closes : goal.returns-then-not-is_empty-clause-closes
returns-then-not-is_empty-clause-closes g c none shutting = inl (c.give.ensures.kept (ap is_live shutting) ∙ shutting)

pub returns-then-not-is_empty-clause-no_call : goal.returns-then-not-is_empty-clause-no_call
returns-then-not-is_empty-clause-no_call g c dead = c.give.ensures.link

pub returns-then-not-is_empty-clause-kept : goal.returns-then-not-is_empty-clause-kept
returns-then-not-is_empty-clause-kept g c fact holds = holds

pub turn-requires-clause-live : goal.turn-requires-clause-live
turn-requires-clause-live g c = c.loop-call.invariant.live

pub turn-requires-clause-none_held : goal.turn-requires-clause-none_held
turn-requires-clause-none_held g c = c.loop-call.invariant.none_held

pub returns-in-Give-clause-held : goal.returns-in-Give-clause-held
returns-in-Give-clause-held g c event rest is = absurd (some_not (empty_of _ _ _ c.args.self.now.held.ok.0 c.is_empty.ensures c.if-not-is_empty.false) is)

pub returns-in-Give-clause-starved : goal.returns-in-Give-clause-starved
returns-in-Give-clause-starved g c none is = absurd (both_not c.loop-call.invariant.live (ap is_live (c.loop-call.invariant.stage ∙ is)))

pub returns-in-Give-clause-over : goal.returns-in-Give-clause-over
returns-in-Give-clause-over g c none is = absurd (both_not c.loop-call.invariant.live (ap is_live (c.loop-call.invariant.stage ∙ is)))

pub returns-in-Give-clause-no_call : goal.returns-in-Give-clause-no_call
returns-in-Give-clause-no_call g c dead = absurd (both_not c.loop-call.invariant.live (ap is_live c.loop-call.invariant.stage ∙ dead))

pub returns-in-Give-clause-stage : goal.returns-in-Give-clause-stage
returns-in-Give-clause-stage g c live = c.turn.ensures.stage live ∙ c.loop-call.invariant.stage

pub returns-in-Give-clause-unshut : goal.returns-in-Give-clause-unshut
returns-in-Give-clause-unshut g c other shut = c.loop-call.invariant.unshut other (c.turn.ensures.unshut (λ is. other (sym c.loop-call.invariant.stage ∙ is)) shut)

pub returns-in-Give-clause-kept : goal.returns-in-Give-clause-kept
returns-in-Give-clause-kept g c fact holds = c.turn.ensures.kept fact (c.loop-call.invariant.kept fact holds)

pub returns-in-Give-clause-rose : goal.returns-in-Give-clause-rose
returns-in-Give-clause-rose g c rose = absurd (rose_not (none_rose c.in-Give.ensures.failures c.loop-call.invariant.failures) rose)

pub returns-in-Give-clause-why : goal.returns-in-Give-clause-why
returns-in-Give-clause-why g c going over = gives_why _ _ (c.in-Give.ensures.why (c.loop-call.invariant.stage ∙ going) over)

pub returns-in-Give-clause-closes : goal.returns-in-Give-clause-closes
returns-in-Give-clause-closes g c none shutting = gives_closes _ _ (c.in-Give.ensures.closes (c.loop-call.invariant.stage ∙ shutting))

pub returns-in-Failed-clause-held : goal.returns-in-Failed-clause-held
returns-in-Failed-clause-held g c event rest is = absurd (some_not (empty_of _ _ _ c.args.self.now.held.ok.0 c.is_empty.ensures c.if-not-is_empty.false) is)

pub returns-in-Failed-clause-starved : goal.returns-in-Failed-clause-starved
returns-in-Failed-clause-starved g c none is = absurd (both_not c.loop-call.invariant.live (ap is_live (c.loop-call.invariant.stage ∙ is)))

pub returns-in-Failed-clause-over : goal.returns-in-Failed-clause-over
returns-in-Failed-clause-over g c none is = absurd (both_not c.loop-call.invariant.live (ap is_live (c.loop-call.invariant.stage ∙ is)))

pub returns-in-Failed-clause-no_call : goal.returns-in-Failed-clause-no_call
returns-in-Failed-clause-no_call g c dead = absurd (both_not c.loop-call.invariant.live (ap is_live c.loop-call.invariant.stage ∙ dead))

pub returns-in-Failed-clause-stage : goal.returns-in-Failed-clause-stage
returns-in-Failed-clause-stage g c live = c.turn.ensures.stage live ∙ c.loop-call.invariant.stage

pub returns-in-Failed-clause-unshut : goal.returns-in-Failed-clause-unshut
returns-in-Failed-clause-unshut g c other shut = c.loop-call.invariant.unshut other (c.turn.ensures.unshut (λ is. other (sym c.loop-call.invariant.stage ∙ is)) shut)

pub returns-in-Failed-clause-kept : goal.returns-in-Failed-clause-kept
returns-in-Failed-clause-kept g c fact holds = c.turn.ensures.kept fact (c.loop-call.invariant.kept fact holds)

pub returns-in-Failed-clause-rose : goal.returns-in-Failed-clause-rose
returns-in-Failed-clause-rose g c rose = refl

pub returns-in-Failed-clause-fault : goal.returns-in-Failed-clause-fault
returns-in-Failed-clause-fault g c start role own first log gave stays is = c.in-Failed.ensures.failures ∙ ap (λ n. n + 1) c.loop-call.invariant.failures

pub returns-in-Failed-clause-ends : goal.returns-in-Failed-clause-ends
returns-in-Failed-clause-ends g c start role own first log gave stays is = absurd (ready_none_not is)

pub returns-in-Failed-clause-why : goal.returns-in-Failed-clause-why
returns-in-Failed-clause-why g c going over = inr (inl refl)

pub returns-in-Failed-clause-came : goal.returns-in-Failed-clause-came
returns-in-Failed-clause-came g c none going dead = inl refl

pub returns-in-Failed-clause-closes : goal.returns-in-Failed-clause-closes
returns-in-Failed-clause-closes g c none shutting = elim (c.in-Failed.ensures.closes (c.loop-call.invariant.stage ∙ shutting)) [
  | inl still ↦ inl still
  | inr over ↦ inr (over.0, inl refl)
]

pub returns-in-Wait-clause-held : goal.returns-in-Wait-clause-held
returns-in-Wait-clause-held g c event rest is = absurd (some_not (empty_of _ _ _ c.args.self.now.held.ok.0 c.is_empty.ensures c.if-not-is_empty.false) is)

pub returns-in-Wait-clause-starved : goal.returns-in-Wait-clause-starved
returns-in-Wait-clause-starved g c none is = absurd (both_not c.loop-call.invariant.live (ap is_live (c.loop-call.invariant.stage ∙ is)))

pub returns-in-Wait-clause-over : goal.returns-in-Wait-clause-over
returns-in-Wait-clause-over g c none is = absurd (both_not c.loop-call.invariant.live (ap is_live (c.loop-call.invariant.stage ∙ is)))

pub returns-in-Wait-clause-no_call : goal.returns-in-Wait-clause-no_call
returns-in-Wait-clause-no_call g c dead = absurd (both_not c.loop-call.invariant.live (ap is_live c.loop-call.invariant.stage ∙ dead))

pub returns-in-Wait-clause-stage : goal.returns-in-Wait-clause-stage
returns-in-Wait-clause-stage g c live = c.turn.ensures.stage live ∙ c.loop-call.invariant.stage

pub returns-in-Wait-clause-unshut : goal.returns-in-Wait-clause-unshut
returns-in-Wait-clause-unshut g c other shut = c.loop-call.invariant.unshut other (c.turn.ensures.unshut (λ is. other (sym c.loop-call.invariant.stage ∙ is)) shut)

pub returns-in-Wait-clause-kept : goal.returns-in-Wait-clause-kept
returns-in-Wait-clause-kept g c fact holds = c.turn.ensures.kept fact (c.loop-call.invariant.kept fact holds)

pub returns-in-Wait-clause-rose : goal.returns-in-Wait-clause-rose
returns-in-Wait-clause-rose g c rose = absurd (rose_not (none_rose c.in-Wait.ensures.failures c.loop-call.invariant.failures) rose)

pub returns-in-Wait-clause-fault : goal.returns-in-Wait-clause-fault
returns-in-Wait-clause-fault g c start role own first log gave stays is = absurd (pending_not refl is)

pub returns-in-Wait-clause-ends : goal.returns-in-Wait-clause-ends
returns-in-Wait-clause-ends g c start role own first log gave stays is = absurd (pending_not refl is)

pub returns-in-Wait-clause-why : goal.returns-in-Wait-clause-why
returns-in-Wait-clause-why g c going over = absurd (both_not (ap is_live (c.in-Wait.ensures.goes_on.0 ∙ c.loop-call.invariant.stage ∙ going)) (ap is_live over))

pub returns-in-Wait-clause-came : goal.returns-in-Wait-clause-came
returns-in-Wait-clause-came g c none going dead = absurd (both_not (ap is_live c.in-Wait.ensures.goes_on.0 ∙ c.loop-call.invariant.live) dead)

pub returns-in-Wait-clause-closes : goal.returns-in-Wait-clause-closes
returns-in-Wait-clause-closes g c none shutting = inl (c.in-Wait.ensures.goes_on.0 ∙ c.loop-call.invariant.stage ∙ shutting)

pub returns-in-Wait-clause-none_held : goal.returns-in-Wait-clause-none_held
returns-in-Wait-clause-none_held g c = (c.in-Wait.ensures.goes_on.1, c.in-Wait.ensures.goes_on.0 ∙ c.loop-call.invariant.stage)

pub returns-clause-held : goal.returns-clause-held
returns-clause-held g c event rest is = absurd (some_not (empty_of _ _ _ c.args.self.now.held.ok.0 c.is_empty.ensures c.if-not-is_empty.false) is)

pub returns-clause-starved : goal.returns-clause-starved
returns-clause-starved g c none is = absurd (both_not c.loop-call.invariant.live (ap is_live (c.loop-call.invariant.stage ∙ is)))

pub returns-clause-over : goal.returns-clause-over
returns-clause-over g c none is = absurd (both_not c.loop-call.invariant.live (ap is_live (c.loop-call.invariant.stage ∙ is)))

pub returns-clause-no_call : goal.returns-clause-no_call
returns-clause-no_call g c dead = absurd (both_not c.loop-call.invariant.live (ap is_live c.loop-call.invariant.stage ∙ dead))

pub returns-clause-rose : goal.returns-clause-rose
returns-clause-rose g c rose = absurd (rose_not c.loop-call.invariant.failures rose)

pub returns-clause-fault : goal.returns-clause-fault
returns-clause-fault g c start role own first log gave stays is = absurd (pending_not c.yield_now.ensures.pending is)

pub returns-clause-ends : goal.returns-clause-ends
returns-clause-ends g c start role own first log gave stays is = absurd (pending_not c.yield_now.ensures.pending is)

pub returns-clause-stage : goal.returns-clause-stage
returns-clause-stage g c live = c.loop-call.invariant.stage

pub returns-clause-why : goal.returns-clause-why
returns-clause-why g c going over = absurd (both_not (ap is_live (c.loop-call.invariant.stage ∙ going)) (ap is_live over))

pub returns-clause-came : goal.returns-clause-came
returns-clause-came g c none going dead = absurd (both_not c.loop-call.invariant.live dead)

pub returns-clause-closes : goal.returns-clause-closes
returns-clause-closes g c none shutting = inl (c.loop-call.invariant.stage ∙ shutting)

pub returns-clause-unshut : goal.returns-clause-unshut
returns-clause-unshut g c = c.loop-call.invariant.unshut

pub returns-clause-none_held : goal.returns-clause-none_held
returns-clause-none_held g c = always_pending _ c.yield_now.result (c.loop-call.invariant.none_held, c.loop-call.invariant.stage)

pub returns-clause-registered : goal.returns-clause-registered
returns-clause-registered g c = always_pending _ c.yield_now.result (c.yield_now.ensures.armed, λ source needs. c.yield_now.ensures.heard source)

pub returns-clause-kept : goal.returns-clause-kept
returns-clause-kept g c fact holds = c.yield_now.ensures.kept fact (c.loop-call.invariant.kept fact holds)
