use Rattle.std.proofs.Common.{◌∙◌, ℕ, List, [], ◌∷◌, length, Ok, Err, rules, arith, take, refl, sym, ap, subst}
use Rattle.futures.specs.declared.task.Poll.TheVariants.{Ready, Pending}
use Rattle.conn_link.specs.Calling.{asks_between, call_of}
use Rattle.conn_link.specs.Calling.Kind.{Writes}
use Rattle.conn_link.specs.Piping.{failure}
use Rattle.socket_link.specs.Steps.{Answers}
use Rattle.socket_link.specs.Steps.Side.{Writing}
use Rattle.socket_link.specs.Steps.Step.{Asked, Tried}
use Rattle.socket_link.specs.Steps.Answers.{Waits, Breaks, Moves, Fails}
use Rattle.socket_link.proofs.Rounds.{Taken, taken_twice, round_on, tried_by, asked_by, no_round, wrote, blocks_of, blocks_not}
use Rattle.socket_link.proofs.Tried.{tried_on, failed_on, none_moved}
use Rattle.socket_link.specs.Sockets.{LinkMoves}
use Rattle.socket_link.proofs.link.SocketLinkLink.poll_write.Goals as goal

pub returns-in-Pending-clause-moved : goal.returns-in-Pending-clause-moved
returns-in-Pending-clause-moved g c = (
  g.met.S.Socket.moves_on c.args.self.now.socket c.loop-round.self.socket c.poll_writable.new.self [] [] [] [] c.loop-round.invariant.moved c.poll_writable.ensures.moved,
  λ ended. (refl, c.loop-round.invariant.has_ended ∙ ended),
  λ is. c.loop-round.invariant.is_shut ∙ is,
)

pub returns-in-Ready-Err-clause-moved : goal.returns-in-Ready-Err-clause-moved
returns-in-Ready-Err-clause-moved g c =
    subst (λ (bytes : List ℕ). LinkMoves g.S.Socket.moves g.S.Socket.is_shut c.args.self.now [] bytes c.fail.new.self) (sym (none_moved c.fail.result c.args.bytes.now _ c.fail.ensures.0))
    (failed_on g.S.Socket.moves g.S.Socket.is_shut c.args.self.now (record c.loop-round.self { socket = c.poll_writable.new.self }) c.fail.new.self c.loop-round.invariant.has_ended c.loop-round.invariant.is_shut
    (g.met.S.Socket.moves_on c.args.self.now.socket c.loop-round.self.socket c.poll_writable.new.self [] [] [] [] c.loop-round.invariant.moved c.poll_writable.ensures.moved) (c.fail.ensures.1 ∙ ap (λ n. record c.loop-round.self { socket = c.poll_writable.new.self; failures = n }) (sym (ap (λ l. l.failures) c.fail.ensures.1))))

pub returns-in-Ok-clause-moved : goal.returns-in-Ok-clause-moved
returns-in-Ok-clause-moved g c = (
  tried_on g.S.Socket.moves g.met.S.Socket.moves_on c.args.self.now.socket c.loop-round.self.socket c.poll_writable.new.self c.try_write.new.self [] (take c.in-Ok.count c.args.bytes.now) c.loop-round.invariant.moved c.poll_writable.ensures.moved c.in-Ok.ensures.moved,
  λ ended. (refl, c.loop-round.invariant.has_ended ∙ ended),
  λ is. c.loop-round.invariant.is_shut ∙ is,
)

pub returns-then-ne-clause-moved : goal.returns-then-ne-clause-moved
returns-then-ne-clause-moved g c =
    subst (λ (bytes : List ℕ). LinkMoves g.S.Socket.moves g.S.Socket.is_shut c.args.self.now [] bytes c.fail-then-ne.new.self) (sym (none_moved c.fail-then-ne.result c.args.bytes.now _ c.fail-then-ne.ensures.0))
    (failed_on g.S.Socket.moves g.S.Socket.is_shut c.args.self.now (record c.loop-round.self { socket = c.try_write.new.self }) c.fail-then-ne.new.self c.loop-round.invariant.has_ended c.loop-round.invariant.is_shut
    (tried_on g.S.Socket.moves g.met.S.Socket.moves_on c.args.self.now.socket c.loop-round.self.socket c.poll_writable.new.self c.try_write.new.self [] [] c.loop-round.invariant.moved c.poll_writable.ensures.moved c.in-Err.ensures.moved) (c.fail-then-ne.ensures.1 ∙ ap (λ n. record c.loop-round.self { socket = c.try_write.new.self; failures = n }) (sym (ap (λ l. l.failures) c.fail-then-ne.ensures.1))))

pub loop-round-preserved : goal.loop-round-preserved
loop-round-preserved g c = record {
  moved = tried_on g.S.Socket.moves g.met.S.Socket.moves_on c.args.self.now.socket c.loop-round.self.socket c.poll_writable.new.self c.try_write.new.self [] [] c.loop-round.invariant.moved c.poll_writable.ensures.moved c.in-Err.ensures.moved;
  not_shut = λ shut. c.loop-round.invariant.not_shut (c.poll_writable.ensures.not_shut (c.try_write.ensures.not_shut shut));
  reads_at = c.try_write.ensures.sources.0 ∙ c.poll_writable.ensures.sources.0 ∙ c.loop-round.invariant.reads_at;
  writes_at = c.try_write.ensures.sources.1 ∙ c.poll_writable.ensures.sources.1 ∙ c.loop-round.invariant.writes_at;
  has_ended = c.loop-round.invariant.has_ended;
  is_shut = c.loop-round.invariant.is_shut;
  failures = c.loop-round.invariant.failures;
  tried = round_on g.S.Socket.steps g.met.S.Socket.steps_on Writes Writing (length c.args.bytes.now) c.loop-round._round c.args.self.now.socket c.loop-round.self.socket c.poll_writable.new.self c.try_write.new.self c.args.cx.now c.loop-round.cx c.poll_writable.new.cx
      c.poll_writable.result c.in-Err.error (c.in-Ready-Ok.is ∙ ap Ready c.in-Ready-Ok.field-0-is) (blocks_of c.in-Err.error c.kind.result c.kind.ensures (search rules)) c.loop-round.invariant.tried c.poll_writable.ensures.stepped
      (subst (λ t. g.S.Socket.steps c.poll_writable.new.self (Tried Writing (length c.args.bytes.now) t ∷ []) c.try_write.new.self) c.in-Err.is c.try_write.ensures.stepped);
  kept = λ fact holds. c.poll_writable.ensures.kept fact (c.loop-round.invariant.kept fact holds);
}

pub returns-in-Pending-clause-called : goal.returns-in-Pending-clause-called
returns-in-Pending-clause-called g c =
    wrote g.S.Socket.steps c.args.self.now (record c.loop-round.self { socket = c.poll_writable.new.self }) (length c.args.bytes.now) Pending c.args.cx.now c.poll_writable.new.cx
    (asked_by g.S.Socket.steps g.met.S.Socket.steps_on Writes Writing (length c.args.bytes.now) c.loop-round._round c.args.self.now.socket c.loop-round.self.socket c.poll_writable.new.self c.args.cx.now c.loop-round.cx c.poll_writable.new.cx c.poll_writable.result Pending Pending c.in-Pending.is (Waits (asks_between c.loop-round.cx c.poll_writable.new.cx) refl refl) c.loop-round.invariant.tried (omega arith) c.poll_writable.ensures.stepped)
    c.loop-round.invariant.has_ended

pub returns-in-Ready-Err-clause-called : goal.returns-in-Ready-Err-clause-called
returns-in-Ready-Err-clause-called g c =
    wrote g.S.Socket.steps c.args.self.now c.fail.new.self (length c.args.bytes.now) c.fail.result c.args.cx.now c.poll_writable.new.cx
    (subst (λ p. Taken g.S.Socket.steps Writing (call_of Writes (length c.args.bytes.now) p c.args.cx.now c.poll_writable.new.cx) c.args.self.now.socket c.fail.new.self.socket) (sym c.fail.ensures.0)
    (subst (λ s. Taken g.S.Socket.steps Writing (call_of Writes (length c.args.bytes.now) failure c.args.cx.now c.poll_writable.new.cx) c.args.self.now.socket s) (sym (ap (λ l. l.socket) c.fail.ensures.1))
    (asked_by g.S.Socket.steps g.met.S.Socket.steps_on Writes Writing (length c.args.bytes.now) c.loop-round._round c.args.self.now.socket c.loop-round.self.socket c.poll_writable.new.self c.args.cx.now c.loop-round.cx c.poll_writable.new.cx c.poll_writable.result (Ready (Err c.in-Ready-Err._error)) failure (c.in-Ready-Err.is ∙ ap Ready c.in-Ready-Err.field-0-is) (Breaks (asks_between c.loop-round.cx c.poll_writable.new.cx) c.in-Ready-Err._error refl refl) c.loop-round.invariant.tried (omega arith) c.poll_writable.ensures.stepped)))
    (ap (λ l. l.has_ended) c.fail.ensures.1 ∙ c.loop-round.invariant.has_ended)

pub returns-then-ne-clause-called : goal.returns-then-ne-clause-called
returns-then-ne-clause-called g c =
    wrote g.S.Socket.steps c.args.self.now c.fail-then-ne.new.self (length c.args.bytes.now) c.fail-then-ne.result c.args.cx.now c.poll_writable.new.cx
    (subst (λ p. Taken g.S.Socket.steps Writing (call_of Writes (length c.args.bytes.now) p c.args.cx.now c.poll_writable.new.cx) c.args.self.now.socket c.fail-then-ne.new.self.socket) (sym c.fail-then-ne.ensures.0)
    (subst (λ s. Taken g.S.Socket.steps Writing (call_of Writes (length c.args.bytes.now) failure c.args.cx.now c.poll_writable.new.cx) c.args.self.now.socket s) (sym (ap (λ l. l.socket) c.fail-then-ne.ensures.1))
    (tried_by g.S.Socket.steps g.met.S.Socket.steps_on Writes Writing (length c.args.bytes.now) c.loop-round._round c.args.self.now.socket c.loop-round.self.socket c.poll_writable.new.self c.try_write.new.self c.args.cx.now c.loop-round.cx c.poll_writable.new.cx c.poll_writable.result c.try_write.result failure (c.in-Ready-Ok.is ∙ ap Ready c.in-Ready-Ok.field-0-is)
    (subst (λ t. Answers Writing (length c.args.bytes.now) (Asked Writing (Ready (Ok tt)) (asks_between c.loop-round.cx c.poll_writable.new.cx) ∷ Tried Writing (length c.args.bytes.now) t ∷ []) failure) (sym c.in-Err.is) (Fails (asks_between c.loop-round.cx c.poll_writable.new.cx) c.in-Err.error (blocks_not c.in-Err.error c.kind.result c.kind.ensures (search rules)) refl refl)) c.loop-round.invariant.tried (omega arith) c.poll_writable.ensures.stepped c.try_write.ensures.stepped)))
    (ap (λ l. l.has_ended) c.fail-then-ne.ensures.1 ∙ c.loop-round.invariant.has_ended)

pub returns-in-Ok-clause-called : goal.returns-in-Ok-clause-called
returns-in-Ok-clause-called g c =
    wrote g.S.Socket.steps c.args.self.now (record c.loop-round.self { socket = c.try_write.new.self }) (length c.args.bytes.now) (Ready (Ok c.in-Ok.count)) c.args.cx.now c.poll_writable.new.cx
    (tried_by g.S.Socket.steps g.met.S.Socket.steps_on Writes Writing (length c.args.bytes.now) c.loop-round._round c.args.self.now.socket c.loop-round.self.socket c.poll_writable.new.self c.try_write.new.self c.args.cx.now c.loop-round.cx c.poll_writable.new.cx c.poll_writable.result c.try_write.result (Ready (Ok c.in-Ok.count)) (c.in-Ready-Ok.is ∙ ap Ready c.in-Ready-Ok.field-0-is)
    (subst (λ t. Answers Writing (length c.args.bytes.now) (Asked Writing (Ready (Ok tt)) (asks_between c.loop-round.cx c.poll_writable.new.cx) ∷ Tried Writing (length c.args.bytes.now) t ∷ []) (Ready (Ok c.in-Ok.count))) (sym c.in-Ok.is) (Moves (asks_between c.loop-round.cx c.poll_writable.new.cx) c.in-Ok.count refl refl)) c.loop-round.invariant.tried (omega arith) c.poll_writable.ensures.stepped c.try_write.ensures.stepped)
    c.loop-round.invariant.has_ended

pub returns-clause-called : goal.returns-clause-called
returns-clause-called g c =
    wrote g.S.Socket.steps c.args.self.now c.loop-round.self (length c.args.bytes.now) c.yield_now.result c.args.cx.now c.yield_now.new.self
    (subst (λ p. Taken g.S.Socket.steps Writing (call_of Writes (length c.args.bytes.now) p c.args.cx.now c.yield_now.new.self) c.args.self.now.socket c.loop-round.self.socket) (sym c.yield_now.ensures.pending)
    (taken_twice g.S.Socket.steps g.met.S.Socket.steps_on Writes Writing (length c.args.bytes.now) c.loop-round._round c.args.self.now.socket c.loop-round.self.socket c.args.cx.now c.loop-round.cx c.yield_now.new.self (omega arith) c.loop-round.invariant.tried))
    c.loop-round.invariant.has_ended

pub loop-round-init : goal.loop-round-init
loop-round-init g c = record {
  moved = g.met.S.Socket.moves_nothing c.args.self.now.socket;
  not_shut = λ shut. shut;
  reads_at = refl;
  writes_at = refl;
  has_ended = refl;
  is_shut = refl;
  failures = refl;
  tried = no_round g.S.Socket.steps g.met.S.Socket.steps_none Writing (length c.args.bytes.now) c.args.self.now.socket c.args.cx.now;
  kept = λ fact holds. holds;
}
