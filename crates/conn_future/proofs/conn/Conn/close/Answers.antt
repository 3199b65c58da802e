use Rattle.std.proofs.Common.{[], length, inl, refl, ap, ◌∙◌, inr}
use Rattle.conn_link.specs.Calling.{call_of, shut_answer, is_pending}
use Rattle.conn_link.specs.Calling.Kind.{Shuts}
use Rattle.conn_future.proofs.Making.{none_waited, made_to}
use Rattle.conn_future.specs.Stages.{is_live}
use Rattle.conn_future.proofs.Moved.{drains_shut}
use Rattle.conn_core.proofs.Growing.{stays}
use Rattle.conn_future.proofs.Standing.{goes_shut, closes_of, stays_failed, stays_pending}
use Rattle.conn_future.proofs.Cases.{false_not, both_not, shut_not, none_not, failed_not, wait_not, counted_ok, counted_fault, counted_pending, of_success, shuts_read_not}
use Rattle.conn_future.proofs.Waiting.{closing_covers}
use Rattle.futures.specs.declared.task.Poll.TheVariants.{Ready}
use Rattle.conn_future.proofs.conn.Conn.close.Goals as goal

pub returns-in-Ready-Ok-clause-follows : goal.returns-in-Ready-Ok-clause-follows
returns-in-Ready-Ok-clause-follows g c start role own first log gave standing = record {
  now = log;
  grown = stays log;
  follows = let shut : g.L.Link.is_shut c.poll_shut.new.self = of_success _ (c.in-Ready-Ok.is ∙ ap Ready c.in-Ready-Ok.field-0-is) c.poll_shut.ensures.shut in
      goes_shut g.L.Link g.P.Protocols g.P.H.Handler start role own g.met.L.Link.moves_on g.met.L.Link.stays_ended first log gave c.args.self.now.link c.poll_shut.new.self c.args.self.now.core c.args.self.now.unsent.items []
      c.args.self.now.held.items c.requires.none_held c.requires.none_left
      (closes_of g.L.Link g.P.Protocols g.P.H.Handler start role own first log gave c.args.self.now.link c.args.self.now.core c.args.self.now.unsent.items c.args.self.now.held.items c.args.self.now.stage c.requires.shutting standing)
      c.poll_shut.ensures.moved c.poll_shut.ensures.not_found shut;
  not_link = shut_not;
  not_none = none_not;
}

pub returns-in-Ready-Err-clause-follows : goal.returns-in-Ready-Err-clause-follows
returns-in-Ready-Err-clause-follows g c start role own first log gave standing = record {
  now = log;
  grown = stays log;
  follows = stays_failed g.L.Link g.P.Protocols g.P.H.Handler start role own g.met.L.Link.moves_on g.met.L.Link.stays_ended first log gave c.args.self.now.link c.poll_shut.new.self c.args.self.now.core c.args.self.now.unsent.items []
      c.args.self.now.held.items c.args.self.now.stage (ap is_live c.requires.shutting) c.requires.none_held standing c.poll_shut.ensures.moved c.poll_shut.ensures.not_found;
  not_link = failed_not;
  not_none = failed_not;
}

pub returns-in-Pending-clause-follows : goal.returns-in-Pending-clause-follows
returns-in-Pending-clause-follows g c start role own first log gave standing = record {
  now = log;
  grown = stays log;
  follows = stays_pending g.L.Link g.P.Protocols g.P.H.Handler start role own g.met.L.Link.moves_on g.met.L.Link.stays_ended first log gave c.args.self.now.link c.poll_shut.new.self c.args.self.now.core c.args.self.now.unsent.items
      c.args.self.now.held.items c.args.self.now.stage (ap is_live c.requires.shutting) standing c.poll_shut.ensures.moved c.poll_shut.ensures.not_found;
  not_link = wait_not;
  not_none = wait_not;
}

pub returns-in-Ready-Ok-clause-shutting : goal.returns-in-Ready-Ok-clause-shutting
returns-in-Ready-Ok-clause-shutting g c is =
    ([], drains_shut g.L.Link c.args.self.now.link c.poll_shut.new.self c.args.self.now.unsent.items c.requires.none_left c.poll_shut.ensures.moved, tt)

pub returns-in-Ready-Err-clause-shutting : goal.returns-in-Ready-Err-clause-shutting
returns-in-Ready-Err-clause-shutting g c is =
    ([], drains_shut g.L.Link c.args.self.now.link c.poll_shut.new.self c.args.self.now.unsent.items c.requires.none_left c.poll_shut.ensures.moved, tt)

pub returns-in-Pending-clause-shutting : goal.returns-in-Pending-clause-shutting
returns-in-Pending-clause-shutting g c is =
    ([], drains_shut g.L.Link c.args.self.now.link c.poll_shut.new.self c.args.self.now.unsent.items c.requires.none_left c.poll_shut.ensures.moved, tt)

pub returns-in-Ready-Ok-clause-called : goal.returns-in-Ready-Ok-clause-called
returns-in-Ready-Ok-clause-called g c waited first before count waits it =
    made_to g.L.Link.calls g.met.L.Link.calls_on waits waited (length c.args.self.now.unsent.items) _ first c.args.self.now.link c.poll_shut.new.self before c.args.cx.now c.poll_shut.new.cx count
    (call_of Shuts 0 (shut_answer c.poll_shut.result) c.args.cx.now c.poll_shut.new.cx) it (none_waited Shuts it.log it.unshut) (inl refl) refl c.poll_shut.ensures.called (λ kind. absurd (shuts_read_not kind)) (λ kind answered. refl)

pub returns-in-Ready-Err-clause-called : goal.returns-in-Ready-Err-clause-called
returns-in-Ready-Err-clause-called g c waited first before count waits it =
    made_to g.L.Link.calls g.met.L.Link.calls_on waits waited (length c.args.self.now.unsent.items) _ first c.args.self.now.link c.poll_shut.new.self before c.args.cx.now c.poll_shut.new.cx count
    (call_of Shuts 0 (shut_answer c.poll_shut.result) c.args.cx.now c.poll_shut.new.cx) it (none_waited Shuts it.log it.unshut) (inl refl) refl c.poll_shut.ensures.called (λ kind. absurd (shuts_read_not kind)) (λ kind answered. refl)

pub returns-in-Pending-clause-called : goal.returns-in-Pending-clause-called
returns-in-Pending-clause-called g c waited first before count waits it =
    made_to g.L.Link.calls g.met.L.Link.calls_on waits waited (length c.args.self.now.unsent.items) _ first c.args.self.now.link c.poll_shut.new.self before c.args.cx.now c.poll_shut.new.cx count
    (call_of Shuts 0 (shut_answer c.poll_shut.result) c.args.cx.now c.poll_shut.new.cx) it (none_waited Shuts it.log it.unshut) (inl refl) refl c.poll_shut.ensures.called (λ kind. absurd (shuts_read_not kind)) (λ kind answered. absurd (both_not (ap (λ answer. is_pending (shut_answer answer)) c.in-Pending.is) answered))

pub returns-in-Ready-Ok-clause-failures : goal.returns-in-Ready-Ok-clause-failures
returns-in-Ready-Ok-clause-failures g c = counted_ok _ c.poll_shut.ensures.failures (c.in-Ready-Ok.is ∙ ap Ready c.in-Ready-Ok.field-0-is)

pub returns-in-Ready-Ok-clause-stage : goal.returns-in-Ready-Ok-clause-stage
returns-in-Ready-Ok-clause-stage g c live = absurd (false_not live)

pub returns-in-Ready-Ok-clause-closes : goal.returns-in-Ready-Ok-clause-closes
returns-in-Ready-Ok-clause-closes g c is = inr (refl, inr refl)

pub returns-in-Ready-Ok-clause-kept : goal.returns-in-Ready-Ok-clause-kept
returns-in-Ready-Ok-clause-kept g c = c.poll_shut.ensures.kept

pub returns-in-Ready-Err-clause-failures : goal.returns-in-Ready-Err-clause-failures
returns-in-Ready-Err-clause-failures g c = counted_fault c.poll_shut.ensures.failures (c.in-Ready-Err.is ∙ ap Ready c.in-Ready-Err.field-0-is) (c.args.self.now.can_fail (ap is_live c.requires.shutting))

pub returns-in-Ready-Err-clause-stage : goal.returns-in-Ready-Err-clause-stage
returns-in-Ready-Err-clause-stage g c live = absurd (false_not live)

pub returns-in-Ready-Err-clause-closes : goal.returns-in-Ready-Err-clause-closes
returns-in-Ready-Err-clause-closes g c is = inr (refl, inl refl)

pub returns-in-Ready-Err-clause-kept : goal.returns-in-Ready-Err-clause-kept
returns-in-Ready-Err-clause-kept g c = c.poll_shut.ensures.kept

pub returns-in-Pending-clause-goes_on : goal.returns-in-Pending-clause-goes_on
returns-in-Pending-clause-goes_on g c = (refl, c.requires.none_held)

pub returns-in-Pending-clause-failures : goal.returns-in-Pending-clause-failures
returns-in-Pending-clause-failures g c = counted_pending _ c.poll_shut.ensures.failures c.in-Pending.is

pub returns-in-Pending-clause-covers : goal.returns-in-Pending-clause-covers
returns-in-Pending-clause-covers g c =
    closing_covers c.poll_shut.new.cx (g.L.Link.reads_at c.poll_shut.new.self) (g.L.Link.writes_at c.poll_shut.new.self) (g.L.Link.shuts_at c.poll_shut.new.self) c.args.self.now.stage c.args.self.now.unsent.items
    c.requires.shutting c.requires.none_left c.in-Pending.ensures.registered

pub returns-in-Pending-clause-stage : goal.returns-in-Pending-clause-stage
returns-in-Pending-clause-stage g c live = refl

pub returns-in-Pending-clause-closes : goal.returns-in-Pending-clause-closes
returns-in-Pending-clause-closes g c is = inl is

pub returns-in-Pending-clause-kept : goal.returns-in-Pending-clause-kept
returns-in-Pending-clause-kept g c = c.poll_shut.ensures.kept
