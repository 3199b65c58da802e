use Rattle.std.proofs.Common.{◌∙◌, ◌+◌, true, ◌<◌, inl, inr, take, Ok, Err, List, ℕ, [], length, refl, ap, sym, subst, ◌≡◌}
use Rattle.futures.specs.declared.task.Poll.TheVariants.{Ready, Pending}
use Rattle.conn_link.specs.Moving.{bytes_moved}
use Rattle.conn_link.specs.Calling.{call_of, is_pending}
use Rattle.conn_link.specs.Calling.Kind.{Reads}
use Rattle.conn_future.specs.Turning.{Makes, HasWaited, OnGoing}
use Rattle.conn_future.proofs.Making.{none_left, made_on, answered_on}
use Rattle.conn_future.specs.Stages.{is_live}
use Rattle.conn_future.proofs.Moved.{of_count, of_fault, of_pending, found_none, fault_ends_not, pending_ends_not, some_end_not, none_ends, some_moved, some_room}
use Rattle.conn_future.proofs.Lists.{written_back}
use Rattle.conn_core.proofs.Growing.{stays}
use Rattle.conn_future.proofs.Standing.{goes_none, stays_failed, stays_pending}
use Rattle.conn_future.proofs.Cases.{false_not, both_not, again_not, failed_not, always_again, counted_ok, counted_fault, counted_pending, counted_heard, reads_shut_not, reads_write_not, none_below}
use Rattle.conn_future.proofs.Waiting.{waits_read}
use Rattle.conn_future.specs.declared.stage.Stage.{Stage}
use Rattle.conn_future.proofs.conn.Conn.read.Goals as goal

pub returns-in-Ready-Ok-eq0-clause-follows : goal.returns-in-Ready-Ok-eq0-clause-follows
returns-in-Ready-Ok-eq0-clause-follows g c start role own first log gave standing =
    c.end.ensures.follows start role own first log gave
    c.args.self.now.link
    (goes_none g.L.Link g.P.Protocols g.P.H.Handler start role own first log gave c.args.self.now.link c.args.self.now.core c.args.self.now.unsent.items c.args.self.now.held.items c.args.self.now.stage
    c.requires.going c.requires.none_held standing)
    (subst (λ (l : List ℕ). g.L.Link.moves c.args.self.now.link l [] c.poll_read.new.self)
    (of_count c.poll_read.result _ _ 0 (c.in-Ready-Ok-eq0.is ∙ ap Ready (c.in-Ready-Ok-eq0.field-0-is ∙ ap Ok c.in-Ready-Ok-eq0.field-0-0-test)) refl) c.poll_read.ensures.moved)
    (c.poll_read.ensures.end (none_ends (length c.as_mut_slice.result.now) c.poll_read.result (c.in-Ready-Ok-eq0.is ∙ ap Ready (c.in-Ready-Ok-eq0.field-0-is ∙ ap Ok c.in-Ready-Ok-eq0.field-0-0-test)) (some_room c.as_mut_slice.result.now c.args.self.now.buffer.items c.as_mut_slice.ensures.value c.args.self.now.has_room)))

pub returns-in-Ready-Err-clause-follows : goal.returns-in-Ready-Err-clause-follows
returns-in-Ready-Err-clause-follows g c start role own first log gave standing = record {
  now = log;
  grown = stays log;
  follows = stays_failed g.L.Link g.P.Protocols g.P.H.Handler start role own g.met.L.Link.moves_on g.met.L.Link.stays_ended first log gave c.args.self.now.link c.poll_read.new.self c.args.self.now.core c.args.self.now.unsent.items []
      c.args.self.now.held.items c.args.self.now.stage (ap is_live c.requires.going) c.requires.none_held standing
      (subst (λ (l : List ℕ). g.L.Link.moves c.args.self.now.link l [] c.poll_read.new.self)
      (of_fault c.poll_read.result _ c.in-Ready-Err._fault (c.in-Ready-Err.is ∙ ap Ready c.in-Ready-Err.field-0-is)) c.poll_read.ensures.moved)
      (λ there. found_none _ (length c.as_mut_slice.result.now) c.poll_read.result (Ready (Err c.in-Ready-Err._fault)) (c.in-Ready-Err.is ∙ ap Ready c.in-Ready-Err.field-0-is) (fault_ends_not (length c.as_mut_slice.result.now) c.in-Ready-Err._fault) (c.poll_read.ensures.found there));
  not_link = failed_not;
  not_none = failed_not;
}

pub returns-in-Pending-clause-follows : goal.returns-in-Pending-clause-follows
returns-in-Pending-clause-follows g c start role own first log gave standing = record {
  now = log;
  grown = stays log;
  follows = stays_pending g.L.Link g.P.Protocols g.P.H.Handler start role own g.met.L.Link.moves_on g.met.L.Link.stays_ended first log gave c.args.self.now.link c.poll_read.new.self c.args.self.now.core c.args.self.now.unsent.items
      c.args.self.now.held.items c.args.self.now.stage (ap is_live c.requires.going) standing
      (subst (λ (l : List ℕ). g.L.Link.moves c.args.self.now.link l [] c.poll_read.new.self)
      (of_pending c.poll_read.result _ c.in-Pending.is) c.poll_read.ensures.moved)
      (λ there. found_none _ (length c.as_mut_slice.result.now) c.poll_read.result Pending c.in-Pending.is (pending_ends_not (length c.as_mut_slice.result.now)) (c.poll_read.ensures.found there));
  not_link = again_not;
  not_none = again_not;
}

pub returns-in-Ready-Ok-clause-follows : goal.returns-in-Ready-Ok-clause-follows
returns-in-Ready-Ok-clause-follows g c start role own first log gave standing =
    c.hear.ensures.follows start role own first log gave c.args.self.now.link
    (goes_none g.L.Link g.P.Protocols g.P.H.Handler start role own first log gave c.args.self.now.link c.args.self.now.core c.args.self.now.unsent.items c.args.self.now.held.items c.args.self.now.stage
    c.requires.going c.requires.none_held standing)
    (subst (λ (l : List ℕ). g.L.Link.moves c.args.self.now.link l [] c.poll_read.new.self)
    (of_count c.poll_read.result c.poll_read.new.buffer _ c.in-Ready-Ok.count (c.in-Ready-Ok.is ∙ ap Ready c.in-Ready-Ok.field-0-is)
    (sym (written_back c.args.self.now.buffer.len c.poll_read.new.buffer c.args.self.now.buffer.items (c.poll_read.auto.buffer ∙ c.as_mut_slice.ensures.len)))) c.poll_read.ensures.moved)
    (λ there. found_none _ (length c.as_mut_slice.result.now) c.poll_read.result (Ready (Ok c.in-Ready-Ok.count)) (c.in-Ready-Ok.is ∙ ap Ready c.in-Ready-Ok.field-0-is) (some_end_not (length c.as_mut_slice.result.now) c.in-Ready-Ok.count c.in-Ready-Ok.count-test.1) (c.poll_read.ensures.found there))

pub returns-in-Ready-Ok-eq0-clause-moved : goal.returns-in-Ready-Ok-eq0-clause-moved
returns-in-Ready-Ok-eq0-clause-moved g c =
    (bytes_moved c.poll_read.result c.poll_read.new.buffer, [], subst (λ l. g.L.Link.moves c.args.self.now.link (bytes_moved c.poll_read.result c.poll_read.new.buffer) [] l) (sym c.end.ensures.link) c.poll_read.ensures.moved)

pub returns-in-Ready-Ok-clause-moved : goal.returns-in-Ready-Ok-clause-moved
returns-in-Ready-Ok-clause-moved g c =
    (bytes_moved c.poll_read.result c.poll_read.new.buffer, [], subst (λ l. g.L.Link.moves c.args.self.now.link (bytes_moved c.poll_read.result c.poll_read.new.buffer) [] l) (sym c.hear.ensures.link) c.poll_read.ensures.moved)

pub returns-in-Ready-Err-clause-moved : goal.returns-in-Ready-Err-clause-moved
returns-in-Ready-Err-clause-moved g c = (_, [], c.poll_read.ensures.moved)

pub returns-in-Pending-clause-moved : goal.returns-in-Pending-clause-moved
returns-in-Pending-clause-moved g c = (_, [], c.poll_read.ensures.moved)

pub returns-in-Ready-Ok-eq0-clause-came : goal.returns-in-Ready-Ok-eq0-clause-came
returns-in-Ready-Ok-eq0-clause-came g c over = inr record {
  given = bytes_moved c.poll_read.result c.poll_read.new.buffer;
  took = [];
  moved = subst (λ l. g.L.Link.moves c.args.self.now.link (bytes_moved c.poll_read.result c.poll_read.new.buffer) [] l) (sym c.end.ensures.link) c.poll_read.ensures.moved;
  some = inr (subst g.L.Link.has_ended (sym c.end.ensures.link)
      (c.poll_read.ensures.end (none_ends (length c.as_mut_slice.result.now) c.poll_read.result (c.in-Ready-Ok-eq0.is ∙ ap Ready (c.in-Ready-Ok-eq0.field-0-is ∙ ap Ok c.in-Ready-Ok-eq0.field-0-0-test)) (some_room c.as_mut_slice.result.now c.args.self.now.buffer.items c.as_mut_slice.ensures.value c.args.self.now.has_room))));
}

pub returns-in-Ready-Ok-clause-came : goal.returns-in-Ready-Ok-clause-came
returns-in-Ready-Ok-clause-came g c over = inr record {
  given = take c.in-Ready-Ok.count c.poll_read.new.buffer;
  took = [];
  moved = subst (λ l. g.L.Link.moves c.args.self.now.link (take c.in-Ready-Ok.count c.poll_read.new.buffer) [] l) (sym c.hear.ensures.link)
      (subst (λ (l : List ℕ). g.L.Link.moves c.args.self.now.link l [] c.poll_read.new.self)
      (of_count c.poll_read.result c.poll_read.new.buffer _ c.in-Ready-Ok.count (c.in-Ready-Ok.is ∙ ap Ready c.in-Ready-Ok.field-0-is) refl) c.poll_read.ensures.moved);
  some = inl (some_moved c.in-Ready-Ok.count c.poll_read.new.buffer c.in-Ready-Ok.count-test.1
      (subst (λ (n : ℕ). 0 < n) (sym c.poll_read.auto.buffer) (some_room c.as_mut_slice.result.now c.args.self.now.buffer.items c.as_mut_slice.ensures.value c.args.self.now.has_room)));
}

pub returns-in-Ready-Ok-eq0-clause-called : goal.returns-in-Ready-Ok-eq0-clause-called
returns-in-Ready-Ok-eq0-clause-called g c waited first before count it =
    let none = none_left g.L.Link.calls c.args.waits.now waited (length c.args.self.now.unsent.items) first before c.args.self.now.link c.args.cx.now count it (λ is. ap length (c.requires.written is)) in
    subst (λ l. Makes g.L.Link.calls c.args.waits.now waited (length c.end.new.self.unsent.items) first before l c.poll_read.new.cx (count + 1)) (sym c.end.ensures.link)
    (answered_on g.L.Link.calls g.met.L.Link.calls_on c.args.waits.now waited (length c.args.self.now.unsent.items) (length c.end.new.self.unsent.items) first c.args.self.now.link c.poll_read.new.self before c.args.cx.now c.poll_read.new.cx count
    (call_of Reads (length c.as_mut_slice.result.now) c.poll_read.result c.args.cx.now c.poll_read.new.cx) it (it.reading c.requires.can_wait) (inr (some_room c.as_mut_slice.result.now c.args.self.now.buffer.items c.as_mut_slice.ensures.value c.args.self.now.has_room))
    (ap is_pending c.in-Ready-Ok-eq0.is) reads_shut_not refl c.poll_read.ensures.called (λ kind. none) (λ is. none_below _ none) (λ is. none))

pub returns-in-Ready-Ok-clause-called : goal.returns-in-Ready-Ok-clause-called
returns-in-Ready-Ok-clause-called g c waited first before count it =
    let none = none_left g.L.Link.calls c.args.waits.now waited (length c.args.self.now.unsent.items) first before c.args.self.now.link c.args.cx.now count it (λ is. ap length (c.requires.written is)) in
    subst (λ l. Makes g.L.Link.calls c.args.waits.now waited (length c.hear.new.self.unsent.items) first before l c.poll_read.new.cx (count + 1)) (sym c.hear.ensures.link)
    (answered_on g.L.Link.calls g.met.L.Link.calls_on c.args.waits.now waited (length c.args.self.now.unsent.items) (length c.hear.new.self.unsent.items) first c.args.self.now.link c.poll_read.new.self before c.args.cx.now c.poll_read.new.cx count
    (call_of Reads (length c.as_mut_slice.result.now) c.poll_read.result c.args.cx.now c.poll_read.new.cx) it (it.reading c.requires.can_wait) (inr (some_room c.as_mut_slice.result.now c.args.self.now.buffer.items c.as_mut_slice.ensures.value c.args.self.now.has_room))
    (ap is_pending c.in-Ready-Ok.is) reads_shut_not refl c.poll_read.ensures.called (λ kind. none) (λ is. none_below _ none) (λ is. none))

pub returns-in-Ready-Err-clause-called : goal.returns-in-Ready-Err-clause-called
returns-in-Ready-Err-clause-called g c waited first before count it =
    let none = none_left g.L.Link.calls c.args.waits.now waited (length c.args.self.now.unsent.items) first before c.args.self.now.link c.args.cx.now count it (λ is. ap length (c.requires.written is)) in
    answered_on g.L.Link.calls g.met.L.Link.calls_on c.args.waits.now waited (length c.args.self.now.unsent.items) (length c.new.result.items) first c.args.self.now.link c.poll_read.new.self before c.args.cx.now c.poll_read.new.cx count
    (call_of Reads (length c.as_mut_slice.result.now) c.poll_read.result c.args.cx.now c.poll_read.new.cx) it (it.reading c.requires.can_wait) (inr (some_room c.as_mut_slice.result.now c.args.self.now.buffer.items c.as_mut_slice.ensures.value c.args.self.now.has_room))
    (ap is_pending c.in-Ready-Err.is) reads_shut_not refl c.poll_read.ensures.called (λ kind. none) (λ is. none_below _ none) (λ is. none)

pub returns-in-Pending-clause-called : goal.returns-in-Pending-clause-called
returns-in-Pending-clause-called g c waited first before count it =
    let none = none_left g.L.Link.calls c.args.waits.now waited (length c.args.self.now.unsent.items) first before c.args.self.now.link c.args.cx.now count it (λ is. ap length (c.requires.written is)) in
    made_on g.L.Link.calls g.met.L.Link.calls_on c.args.waits.now (record c.args.waits.now { reading = true }) waited (length c.args.self.now.unsent.items) (length c.args.self.now.unsent.items) first c.args.self.now.link c.poll_read.new.self before c.args.cx.now c.poll_read.new.cx count
    (call_of Reads (length c.as_mut_slice.result.now) c.poll_read.result c.args.cx.now c.poll_read.new.cx) it (it.reading c.requires.can_wait) (inr (some_room c.as_mut_slice.result.now c.args.self.now.buffer.items c.as_mut_slice.ensures.value c.args.self.now.has_room)) refl c.poll_read.ensures.called
    (λ kind. none) (λ is. none_below _ none) (λ is. none)
    (λ is. absurd (both_not refl is)) (λ is. (is, λ kind. absurd (reads_write_not kind))) reads_shut_not

pub returns-in-Ready-Ok-eq0-clause-goes_on : goal.returns-in-Ready-Ok-eq0-clause-goes_on
returns-in-Ready-Ok-eq0-clause-goes_on g c = subst (λ (s : Stage). OnGoing c.end.result ((c.end.new.self.stage ≡ s) × (c.end.new.self.held.items ≡ []))) (sym c.requires.going) c.end.ensures.goes_on

pub returns-in-Ready-Ok-eq0-clause-failures : goal.returns-in-Ready-Ok-eq0-clause-failures
returns-in-Ready-Ok-eq0-clause-failures g c = counted_heard _ (ap g.L.Link.failed c.end.ensures.link) (counted_ok _ c.poll_read.ensures.failures (c.in-Ready-Ok-eq0.is ∙ ap Ready c.in-Ready-Ok-eq0.field-0-is)) c.end.ensures.fails

pub returns-in-Ready-Ok-eq0-clause-unshut : goal.returns-in-Ready-Ok-eq0-clause-unshut
returns-in-Ready-Ok-eq0-clause-unshut g c shut = c.poll_read.ensures.not_shut (subst g.L.Link.is_shut c.end.ensures.link shut)

pub returns-in-Ready-Ok-eq0-clause-no_wait : goal.returns-in-Ready-Ok-eq0-clause-no_wait
returns-in-Ready-Ok-eq0-clause-no_wait g c = c.end.ensures.no_wait

pub returns-in-Ready-Ok-eq0-clause-waits : goal.returns-in-Ready-Ok-eq0-clause-waits
returns-in-Ready-Ok-eq0-clause-waits g c waited = always_again _ c.end.result
    (subst (λ l. HasWaited c.args.waits.now c.poll_read.new.cx (g.L.Link.reads_at l) (g.L.Link.writes_at l)) (sym c.end.ensures.link)
    (waits_read c.args.waits.now c.args.waits.now c.args.cx.now c.poll_read.new.cx (g.L.Link.reads_at c.args.self.now.link) (g.L.Link.reads_at c.poll_read.new.self)
    (g.L.Link.writes_at c.args.self.now.link) (g.L.Link.writes_at c.poll_read.new.self) refl (λ is. absurd (both_not is c.requires.can_wait)) c.poll_read.ensures.kept c.poll_read.ensures.elsewhere waited))

pub returns-in-Ready-Ok-eq0-clause-stage : goal.returns-in-Ready-Ok-eq0-clause-stage
returns-in-Ready-Ok-eq0-clause-stage g c live = c.end.ensures.stage live ∙ sym c.requires.going

pub returns-in-Ready-Ok-eq0-clause-why : goal.returns-in-Ready-Ok-eq0-clause-why
returns-in-Ready-Ok-eq0-clause-why g c going = c.end.ensures.why

pub returns-in-Ready-Ok-eq0-clause-kept : goal.returns-in-Ready-Ok-eq0-clause-kept
returns-in-Ready-Ok-eq0-clause-kept g c = c.poll_read.ensures.kept

pub returns-in-Ready-Ok-clause-goes_on : goal.returns-in-Ready-Ok-clause-goes_on
returns-in-Ready-Ok-clause-goes_on g c = subst (λ (s : Stage). OnGoing c.hear.result ((c.hear.new.self.stage ≡ s) × (c.hear.new.self.held.items ≡ []))) (sym c.requires.going) c.hear.ensures.goes_on

pub returns-in-Ready-Ok-clause-failures : goal.returns-in-Ready-Ok-clause-failures
returns-in-Ready-Ok-clause-failures g c = counted_heard _ (ap g.L.Link.failed c.hear.ensures.link) (counted_ok _ c.poll_read.ensures.failures (c.in-Ready-Ok.is ∙ ap Ready c.in-Ready-Ok.field-0-is)) c.hear.ensures.fails

pub returns-in-Ready-Ok-clause-unshut : goal.returns-in-Ready-Ok-clause-unshut
returns-in-Ready-Ok-clause-unshut g c shut = c.poll_read.ensures.not_shut (subst g.L.Link.is_shut c.hear.ensures.link shut)

pub returns-in-Ready-Ok-clause-no_wait : goal.returns-in-Ready-Ok-clause-no_wait
returns-in-Ready-Ok-clause-no_wait g c = c.hear.ensures.no_wait

pub returns-in-Ready-Ok-clause-waits : goal.returns-in-Ready-Ok-clause-waits
returns-in-Ready-Ok-clause-waits g c waited = always_again _ c.hear.result
    (subst (λ l. HasWaited c.args.waits.now c.poll_read.new.cx (g.L.Link.reads_at l) (g.L.Link.writes_at l)) (sym c.hear.ensures.link)
    (waits_read c.args.waits.now c.args.waits.now c.args.cx.now c.poll_read.new.cx (g.L.Link.reads_at c.args.self.now.link) (g.L.Link.reads_at c.poll_read.new.self)
    (g.L.Link.writes_at c.args.self.now.link) (g.L.Link.writes_at c.poll_read.new.self) refl (λ is. absurd (both_not is c.requires.can_wait)) c.poll_read.ensures.kept c.poll_read.ensures.elsewhere waited))

pub returns-in-Ready-Ok-clause-stage : goal.returns-in-Ready-Ok-clause-stage
returns-in-Ready-Ok-clause-stage g c live = c.hear.ensures.stage live ∙ sym c.requires.going

pub returns-in-Ready-Ok-clause-why : goal.returns-in-Ready-Ok-clause-why
returns-in-Ready-Ok-clause-why g c going = c.hear.ensures.why

pub returns-in-Ready-Ok-clause-kept : goal.returns-in-Ready-Ok-clause-kept
returns-in-Ready-Ok-clause-kept g c = c.poll_read.ensures.kept

pub returns-in-Ready-Err-clause-failures : goal.returns-in-Ready-Err-clause-failures
returns-in-Ready-Err-clause-failures g c = counted_fault c.poll_read.ensures.failures (c.in-Ready-Err.is ∙ ap Ready c.in-Ready-Err.field-0-is) (c.args.self.now.can_fail (ap is_live c.requires.going))

pub returns-in-Ready-Err-clause-unshut : goal.returns-in-Ready-Err-clause-unshut
returns-in-Ready-Err-clause-unshut g c = c.poll_read.ensures.not_shut

pub returns-in-Ready-Err-clause-stage : goal.returns-in-Ready-Err-clause-stage
returns-in-Ready-Err-clause-stage g c live = absurd (false_not live)

pub returns-in-Ready-Err-clause-why : goal.returns-in-Ready-Err-clause-why
returns-in-Ready-Err-clause-why g c going over = inr (inl refl)

pub returns-in-Ready-Err-clause-came : goal.returns-in-Ready-Err-clause-came
returns-in-Ready-Err-clause-came g c over = inl refl

pub returns-in-Ready-Err-clause-kept : goal.returns-in-Ready-Err-clause-kept
returns-in-Ready-Err-clause-kept g c = c.poll_read.ensures.kept

pub returns-in-Pending-clause-goes_on : goal.returns-in-Pending-clause-goes_on
returns-in-Pending-clause-goes_on g c = (refl, c.requires.none_held)

pub returns-in-Pending-clause-failures : goal.returns-in-Pending-clause-failures
returns-in-Pending-clause-failures g c = counted_pending _ c.poll_read.ensures.failures c.in-Pending.is

pub returns-in-Pending-clause-unshut : goal.returns-in-Pending-clause-unshut
returns-in-Pending-clause-unshut g c = c.poll_read.ensures.not_shut

pub returns-in-Pending-clause-waits : goal.returns-in-Pending-clause-waits
returns-in-Pending-clause-waits g c waited =
    waits_read c.args.waits.now (record c.args.waits.now { reading = true }) c.args.cx.now c.poll_read.new.cx (g.L.Link.reads_at c.args.self.now.link) (g.L.Link.reads_at c.poll_read.new.self)
    (g.L.Link.writes_at c.args.self.now.link) (g.L.Link.writes_at c.poll_read.new.self) refl (λ is. c.in-Pending.ensures.registered) c.poll_read.ensures.kept c.poll_read.ensures.elsewhere waited

pub returns-in-Pending-clause-stage : goal.returns-in-Pending-clause-stage
returns-in-Pending-clause-stage g c live = refl

pub returns-in-Pending-clause-why : goal.returns-in-Pending-clause-why
returns-in-Pending-clause-why g c going over = absurd (both_not (ap is_live going) (ap is_live over))

pub returns-in-Pending-clause-came : goal.returns-in-Pending-clause-came
returns-in-Pending-clause-came g c over = absurd (both_not (ap is_live c.requires.going) over)

pub returns-in-Pending-clause-kept : goal.returns-in-Pending-clause-kept
returns-in-Pending-clause-kept g c = c.poll_read.ensures.kept
