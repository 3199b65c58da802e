use Rattle.std.proofs.Common.{◌≡◌, true, sym, ap, ◌∙◌, min, length, Ok}
use Rattle.futures.specs.declared.task.Poll.TheVariants as polls
use Rattle.conn_link.specs.Moving.{found_end}
use Rattle.conn_link.proofs.Ending.{all_next, answered, none_left, still_none}
use Rattle.conn_link.proofs.pipe.PipeLink.poll_read.Goals as goal
use Rattle.conn_link.proofs.pipe.PipeLink.poll_read.Goals.{then-self, else-self}

pub invariant_of-self : goal.invariant_of-self
invariant_of-self c = (
  all_next c.self.inside.reads c.poll-polled.new.self c.poll-polled.ensures.taken c.self.invariant.0,
  c.self.invariant.1,
  λ is.
      still_none c.self.inside.unread c.fill.new.self _ c.fill.ensures.left (elim c.if-self.branch [
        | then-self w ↦ c.self.invariant.2 w.if-self.true
        | else-self w ↦ none_left c.self.inside.reads c.self.inside.unread (length c.args.buffer.now) c.in-Ready-Ok.count c.self.invariant.0
            (answered c.self.inside.reads c.min-able.result (min (length c.args.buffer.now) (length c.self.inside.unread)) c.poll-polled.result (polls.Ready (Ok c.in-Ready-Ok.count))
            (c.min-able.ensures ∙ ap (λ n. min (length c.args.buffer.now) n) c.len.ensures) c.poll-polled.ensures.answer (c.in-Ready-Ok.is ∙ ap (λ field. polls.Ready field) (rw c.in-Ready-Ok.is at c.in-Ready-Ok.field-0-is))) (sym w.finds_end-self-inside.ensures ∙ sym w.self-is ∙ is)
      ]),
)

pub invariant_of-self-in-Ready-Err : goal.invariant_of-self-in-Ready-Err
invariant_of-self-in-Ready-Err c = (all_next c.self.inside.reads c.poll-polled.new.self c.poll-polled.ensures.taken c.self.invariant.0, c.self.invariant.1, c.self.invariant.2)

pub invariant_of-self-in-Pending : goal.invariant_of-self-in-Pending
invariant_of-self-in-Pending c = (all_next c.self.inside.reads c.poll-polled.new.self c.poll-polled.ensures.taken c.self.invariant.0, c.self.invariant.1, c.self.invariant.2)

pub returns-after-self-clause-end : goal.returns-after-self-clause-end
returns-after-self-clause-end c found =
    let ended : c.if-self.self ≡ true = elim c.if-self.branch [
      | then-self w ↦ cc (w.self-is, w.if-self.true)
      | else-self w ↦ w.self-is ∙ w.finds_end-self-inside.ensures
          ∙ sym (ap (found_end (length c.args.buffer.now)) (c.in-Ready-Ok.is ∙ ap (λ field. polls.Ready field) (rw c.in-Ready-Ok.is at c.in-Ready-Ok.field-0-is))) ∙ found
    ] in (ended, (invariant_of-self c).2 ended)
