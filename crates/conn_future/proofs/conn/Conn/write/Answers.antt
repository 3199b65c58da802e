use Rattle.std.proofs.Common.{◌≡◌, ◌-◌, ◌∙◌, subst, refl, ap, inr, true, ℕ, List, [], length, length-drop, Result, Ok, Err, inl}
use Rattle.futures.specs.declared.task.Poll.{Poll}
use Rattle.futures.specs.declared.task.Poll.TheVariants.{Ready}
use Rattle.conn_link.specs.declared.link.LinkFault.{LinkFault}
use Rattle.conn_link.specs.Calling.{call_of, is_pending}
use Rattle.conn_link.specs.Calling.Kind.{Writes}
use Rattle.conn_future.specs.Polling.{left_by}
use Rattle.conn_future.specs.Turning.{left_of}
use Rattle.conn_future.proofs.Lists.{some_left}
use Rattle.conn_future.proofs.Making.{made_on, answered_on}
use Rattle.conn_future.proofs.Moved.{of_count, of_fault, of_pending, drains_some, drains_still}
use Rattle.conn_core.proofs.Growing.{stays}
use Rattle.conn_future.proofs.Standing.{stays_wrote_to, stays_failed, stays_pending}
use Rattle.conn_future.proofs.Cases.{false_not, both_not, again_not, failed_not, counted_ok, counted_fault, counted_pending, writes_shut_not, writes_read_not, none_below, rest_below}
use Rattle.conn_future.proofs.Waiting.{waits_write}
use Rattle.conn_future.specs.Stages.{is_live}
use Rattle.conn_future.proofs.conn.Conn.write.Goals as goal

pub returns-in-Ready-Ok-clause-follows : goal.returns-in-Ready-Ok-clause-follows
returns-in-Ready-Ok-clause-follows g c start role own first log gave standing = record {
  now = log;
  grown = stays log;
  follows = stays_wrote_to g.L.Link g.P.Protocols g.P.H.Handler start role own g.met.L.Link.moves_on g.met.L.Link.stays_ended first log gave c.args.self.now.link c.poll_write.new.self c.args.self.now.core c.args.self.now.unsent.items c.advance.new.self.items
      _ c.args.self.now.held.items c.in-Ready-Ok.count c.args.self.now.stage c.requires.live c.advance.ensures.items
      (of_count c.poll_write.result c.as_slice.result.now c.args.self.now.unsent.items c.in-Ready-Ok.count (c.in-Ready-Ok.is ∙ ap Ready c.in-Ready-Ok.field-0-is) c.as_slice.ensures) standing c.poll_write.ensures.moved c.poll_write.ensures.not_found;
  not_link = again_not;
  not_none = again_not;
}

pub returns-in-Ready-Err-clause-follows : goal.returns-in-Ready-Err-clause-follows
returns-in-Ready-Err-clause-follows g c start role own first log gave standing = record {
  now = log;
  grown = stays log;
  follows = stays_failed g.L.Link g.P.Protocols g.P.H.Handler start role own g.met.L.Link.moves_on g.met.L.Link.stays_ended first log gave c.args.self.now.link c.poll_write.new.self c.args.self.now.core c.args.self.now.unsent.items []
      c.args.self.now.held.items c.args.self.now.stage c.requires.live c.requires.none_held standing
      (subst (λ (l : List ℕ). g.L.Link.moves c.args.self.now.link [] l c.poll_write.new.self)
      (of_fault c.poll_write.result c.as_slice.result.now c.in-Ready-Err._fault (c.in-Ready-Err.is ∙ ap Ready c.in-Ready-Err.field-0-is)) c.poll_write.ensures.moved) c.poll_write.ensures.not_found;
  not_link = failed_not;
  not_none = failed_not;
}

pub returns-in-Pending-clause-follows : goal.returns-in-Pending-clause-follows
returns-in-Pending-clause-follows g c start role own first log gave standing = record {
  now = log;
  grown = stays log;
  follows = stays_pending g.L.Link g.P.Protocols g.P.H.Handler start role own g.met.L.Link.moves_on g.met.L.Link.stays_ended first log gave c.args.self.now.link c.poll_write.new.self c.args.self.now.core c.args.self.now.unsent.items
      c.args.self.now.held.items c.args.self.now.stage c.requires.live standing
      (subst (λ (l : List ℕ). g.L.Link.moves c.args.self.now.link [] l c.poll_write.new.self)
      (of_pending c.poll_write.result c.as_slice.result.now c.in-Pending.is) c.poll_write.ensures.moved) c.poll_write.ensures.not_found;
  not_link = again_not;
  not_none = again_not;
}

pub returns-in-Ready-Ok-clause-shutting : goal.returns-in-Ready-Ok-clause-shutting
returns-in-Ready-Ok-clause-shutting g c is = (
  c.advance.new.self.items,
  drains_some g.L.Link c.args.self.now.link c.poll_write.new.self c.args.self.now.unsent.items c.advance.new.self.items c.in-Ready-Ok.count c.advance.ensures.items
      (subst (λ (l : List ℕ). g.L.Link.moves c.args.self.now.link [] l c.poll_write.new.self)
      (of_count c.poll_write.result c.as_slice.result.now c.args.self.now.unsent.items c.in-Ready-Ok.count (c.in-Ready-Ok.is ∙ ap Ready c.in-Ready-Ok.field-0-is) c.as_slice.ensures) c.poll_write.ensures.moved) c.poll_write.ensures.not_shut,
  refl,
)

pub returns-in-Ready-Err-clause-shutting : goal.returns-in-Ready-Err-clause-shutting
returns-in-Ready-Err-clause-shutting g c is = (
  c.args.self.now.unsent.items,
  drains_still g.L.Link c.args.self.now.link c.poll_write.new.self c.args.self.now.unsent.items
      (subst (λ (l : List ℕ). g.L.Link.moves c.args.self.now.link [] l c.poll_write.new.self)
      (of_fault c.poll_write.result c.as_slice.result.now c.in-Ready-Err._fault (c.in-Ready-Err.is ∙ ap Ready c.in-Ready-Err.field-0-is)) c.poll_write.ensures.moved) c.poll_write.ensures.not_shut,
  tt,
)

pub returns-in-Pending-clause-shutting : goal.returns-in-Pending-clause-shutting
returns-in-Pending-clause-shutting g c is = (
  c.args.self.now.unsent.items,
  drains_still g.L.Link c.args.self.now.link c.poll_write.new.self c.args.self.now.unsent.items
      (subst (λ (l : List ℕ). g.L.Link.moves c.args.self.now.link [] l c.poll_write.new.self)
      (of_pending c.poll_write.result c.as_slice.result.now c.in-Pending.is) c.poll_write.ensures.moved) c.poll_write.ensures.not_shut,
  refl,
)

pub returns-in-Ready-Ok-clause-moved : goal.returns-in-Ready-Ok-clause-moved
returns-in-Ready-Ok-clause-moved g c = ([], _, c.poll_write.ensures.moved)

pub returns-in-Ready-Err-clause-moved : goal.returns-in-Ready-Err-clause-moved
returns-in-Ready-Err-clause-moved g c = ([], _, c.poll_write.ensures.moved)

pub returns-in-Pending-clause-moved : goal.returns-in-Pending-clause-moved
returns-in-Pending-clause-moved g c = ([], _, c.poll_write.ensures.moved)

-- what a write leaves of what waited before the poll
left_where : (answer : Poll (Result ℕ LinkFault)) (count left : ℕ) → answer ≡ Ready (Ok count) → left_by Writes answer left ≡ left - count
left_where answer count left is = ap (λ a. left_by Writes a left) is

none_where : (answer : Poll (Result ℕ LinkFault)) (fault : LinkFault) (left : ℕ) → answer ≡ Ready (Err fault) → left_by Writes answer left ≡ 0
none_where answer fault left is = ap (λ a. left_by Writes a left) is

pub returns-in-Ready-Ok-clause-called : goal.returns-in-Ready-Ok-clause-called
returns-in-Ready-Ok-clause-called g c waited first before count it =
    let left = left_where c.poll_write.result c.in-Ready-Ok.count (left_of waited it.log) (c.in-Ready-Ok.is ∙ ap Ready c.in-Ready-Ok.field-0-is) in
    let still = it.is_left c.requires.can_wait in
    let rest = ap length c.advance.ensures.items ∙ length-drop c.in-Ready-Ok.count c.args.self.now.unsent.items in
    answered_on g.L.Link.calls g.met.L.Link.calls_on c.args.waits.now waited (length c.args.self.now.unsent.items) (length c.advance.new.self.items) first c.args.self.now.link c.poll_write.new.self before c.args.cx.now c.poll_write.new.cx count
    (call_of Writes (length c.as_slice.result.now) c.poll_write.result c.args.cx.now c.poll_write.new.cx) it (it.writing c.requires.can_wait) (inr (some_left c.args.self.now.unsent.items c.as_slice.result.now c.as_slice.ensures c.requires.some))
    (ap is_pending c.in-Ready-Ok.is) writes_shut_not refl c.poll_write.ensures.called
    (λ kind. absurd (writes_read_not kind)) (λ is. rest_below _ _ _ left still rest) (λ is. absurd (both_not is c.requires.can_wait))

pub returns-in-Ready-Err-clause-called : goal.returns-in-Ready-Err-clause-called
returns-in-Ready-Err-clause-called g c waited first before count it =
    let left = none_where c.poll_write.result c.in-Ready-Err._fault (left_of waited it.log) (c.in-Ready-Err.is ∙ ap Ready c.in-Ready-Err.field-0-is) in
    answered_on g.L.Link.calls g.met.L.Link.calls_on c.args.waits.now waited (length c.args.self.now.unsent.items) (length c.new.result.items) first c.args.self.now.link c.poll_write.new.self before c.args.cx.now c.poll_write.new.cx count
    (call_of Writes (length c.as_slice.result.now) c.poll_write.result c.args.cx.now c.poll_write.new.cx) it (it.writing c.requires.can_wait) (inr (some_left c.args.self.now.unsent.items c.as_slice.result.now c.as_slice.ensures c.requires.some))
    (ap is_pending c.in-Ready-Err.is) writes_shut_not refl c.poll_write.ensures.called
    (λ kind. absurd (writes_read_not kind)) (λ is. none_below _ left) (λ is. left)

pub returns-in-Pending-clause-called : goal.returns-in-Pending-clause-called
returns-in-Pending-clause-called g c waited first before count it =
    made_on g.L.Link.calls g.met.L.Link.calls_on c.args.waits.now (record c.args.waits.now { writing = true }) waited (length c.args.self.now.unsent.items) (length c.args.self.now.unsent.items) first c.args.self.now.link c.poll_write.new.self before c.args.cx.now c.poll_write.new.cx count
    (call_of Writes (length c.as_slice.result.now) c.poll_write.result c.args.cx.now c.poll_write.new.cx) it (it.writing c.requires.can_wait) (inr (some_left c.args.self.now.unsent.items c.as_slice.result.now c.as_slice.ensures c.requires.some)) refl c.poll_write.ensures.called
    (λ kind. absurd (writes_read_not kind)) (λ is. absurd (both_not refl is)) (λ is. ap (λ a. left_by Writes a (left_of waited it.log)) c.in-Pending.is)
    (λ is. (is, λ kind. absurd (writes_read_not kind))) (λ is. absurd (both_not refl is)) writes_shut_not

pub returns-in-Ready-Ok-clause-goes_on : goal.returns-in-Ready-Ok-clause-goes_on
returns-in-Ready-Ok-clause-goes_on g c = (refl, c.requires.none_held)

pub returns-in-Ready-Ok-clause-failures : goal.returns-in-Ready-Ok-clause-failures
returns-in-Ready-Ok-clause-failures g c = counted_ok _ c.poll_write.ensures.failures (c.in-Ready-Ok.is ∙ ap Ready c.in-Ready-Ok.field-0-is)

pub returns-in-Ready-Ok-clause-unshut : goal.returns-in-Ready-Ok-clause-unshut
returns-in-Ready-Ok-clause-unshut g c = c.poll_write.ensures.not_shut

pub returns-in-Ready-Ok-clause-waits : goal.returns-in-Ready-Ok-clause-waits
returns-in-Ready-Ok-clause-waits g c waited =
    waits_write c.args.waits.now c.args.waits.now c.args.cx.now c.poll_write.new.cx (g.L.Link.reads_at c.args.self.now.link) (g.L.Link.reads_at c.poll_write.new.self)
    (g.L.Link.writes_at c.args.self.now.link) (g.L.Link.writes_at c.poll_write.new.self) refl (λ is. absurd (both_not is c.requires.can_wait)) c.poll_write.ensures.kept c.poll_write.ensures.elsewhere waited

pub returns-in-Ready-Ok-clause-stage : goal.returns-in-Ready-Ok-clause-stage
returns-in-Ready-Ok-clause-stage g c live = refl

pub returns-in-Ready-Ok-clause-closes : goal.returns-in-Ready-Ok-clause-closes
returns-in-Ready-Ok-clause-closes g c is = inl is

pub returns-in-Ready-Ok-clause-why : goal.returns-in-Ready-Ok-clause-why
returns-in-Ready-Ok-clause-why g c going over = absurd (both_not (ap is_live going) (ap is_live over))

pub returns-in-Ready-Ok-clause-came : goal.returns-in-Ready-Ok-clause-came
returns-in-Ready-Ok-clause-came g c dead = absurd (both_not c.requires.live dead)

pub returns-in-Ready-Ok-clause-kept : goal.returns-in-Ready-Ok-clause-kept
returns-in-Ready-Ok-clause-kept g c = c.poll_write.ensures.kept

pub returns-in-Ready-Err-clause-failures : goal.returns-in-Ready-Err-clause-failures
returns-in-Ready-Err-clause-failures g c = counted_fault c.poll_write.ensures.failures (c.in-Ready-Err.is ∙ ap Ready c.in-Ready-Err.field-0-is) (c.args.self.now.can_fail c.requires.live)

pub returns-in-Ready-Err-clause-unshut : goal.returns-in-Ready-Err-clause-unshut
returns-in-Ready-Err-clause-unshut g c = c.poll_write.ensures.not_shut

pub returns-in-Ready-Err-clause-stage : goal.returns-in-Ready-Err-clause-stage
returns-in-Ready-Err-clause-stage g c live = absurd (false_not live)

pub returns-in-Ready-Err-clause-closes : goal.returns-in-Ready-Err-clause-closes
returns-in-Ready-Err-clause-closes g c is = inr (refl, inl refl)

pub returns-in-Ready-Err-clause-why : goal.returns-in-Ready-Err-clause-why
returns-in-Ready-Err-clause-why g c going over = inr (inl refl)

pub returns-in-Ready-Err-clause-came : goal.returns-in-Ready-Err-clause-came
returns-in-Ready-Err-clause-came g c dead = refl

pub returns-in-Ready-Err-clause-kept : goal.returns-in-Ready-Err-clause-kept
returns-in-Ready-Err-clause-kept g c = c.poll_write.ensures.kept

pub returns-in-Pending-clause-goes_on : goal.returns-in-Pending-clause-goes_on
returns-in-Pending-clause-goes_on g c = (refl, c.requires.none_held)

pub returns-in-Pending-clause-failures : goal.returns-in-Pending-clause-failures
returns-in-Pending-clause-failures g c = counted_pending _ c.poll_write.ensures.failures c.in-Pending.is

pub returns-in-Pending-clause-unshut : goal.returns-in-Pending-clause-unshut
returns-in-Pending-clause-unshut g c = c.poll_write.ensures.not_shut

pub returns-in-Pending-clause-waits : goal.returns-in-Pending-clause-waits
returns-in-Pending-clause-waits g c waited =
    waits_write c.args.waits.now (record c.args.waits.now { writing = true }) c.args.cx.now c.poll_write.new.cx (g.L.Link.reads_at c.args.self.now.link) (g.L.Link.reads_at c.poll_write.new.self)
    (g.L.Link.writes_at c.args.self.now.link) (g.L.Link.writes_at c.poll_write.new.self) refl (λ is. c.in-Pending.ensures.registered) c.poll_write.ensures.kept c.poll_write.ensures.elsewhere waited

pub returns-in-Pending-clause-stage : goal.returns-in-Pending-clause-stage
returns-in-Pending-clause-stage g c live = refl

pub returns-in-Pending-clause-closes : goal.returns-in-Pending-clause-closes
returns-in-Pending-clause-closes g c is = inl is

pub returns-in-Pending-clause-why : goal.returns-in-Pending-clause-why
returns-in-Pending-clause-why g c going over = absurd (both_not (ap is_live going) (ap is_live over))

pub returns-in-Pending-clause-came : goal.returns-in-Pending-clause-came
returns-in-Pending-clause-came g c dead = absurd (both_not c.requires.live dead)

pub returns-in-Pending-clause-kept : goal.returns-in-Pending-clause-kept
returns-in-Pending-clause-kept g c = c.poll_write.ensures.kept
