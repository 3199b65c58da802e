use Rattle.std.proofs.Common.{true, Ok, [], ◌∷◌, refl, ap, sym, subst, ◌∙◌}
use Rattle.futures.specs.declared.task.Poll.TheVariants.{Ready, Pending}
use Rattle.conn_link.specs.Calling.{shut_answer, asks_between}
use Rattle.socket_link.specs.Steps.{told}
use Rattle.socket_link.specs.Steps.Step.{Shut}
use Rattle.socket_link.proofs.Rounds.{shut}
use Rattle.socket_link.proofs.link.SocketLinkLink.poll_shut.Goals as goal

pub returns-in-Ready-Ok-clause-called : goal.returns-in-Ready-Ok-clause-called
returns-in-Ready-Ok-clause-called g c =
    shut g.S.Socket.steps c.args.self.now (record c.args.self.now { socket = c.poll_shut.new.self; is_shut = true }) c.poll_shut.result (Ready (Ok 0)) c.args.cx.now c.poll_shut.new.cx
    c.poll_shut.ensures.stepped (sym (ap told (c.in-Ready-Ok.is ∙ ap Ready c.in-Ready-Ok.field-0-is))) refl

pub returns-in-Ready-Err-clause-called : goal.returns-in-Ready-Err-clause-called
returns-in-Ready-Err-clause-called g c =
    shut g.S.Socket.steps c.args.self.now c.fail.new.self c.poll_shut.result (shut_answer c.fail.result) c.args.cx.now c.poll_shut.new.cx
    (subst (λ s. g.S.Socket.steps c.args.self.now.socket (Shut c.poll_shut.result (asks_between c.args.cx.now c.poll_shut.new.cx) ∷ []) s) (sym (ap (λ l. l.socket) c.fail.ensures.1)) c.poll_shut.ensures.stepped)
    (ap shut_answer c.fail.ensures.0 ∙ sym (ap told (c.in-Ready-Err.is ∙ ap Ready c.in-Ready-Err.field-0-is))) (ap (λ l. l.has_ended) c.fail.ensures.1)

pub returns-in-Pending-clause-called : goal.returns-in-Pending-clause-called
returns-in-Pending-clause-called g c =
    shut g.S.Socket.steps c.args.self.now (record c.args.self.now { socket = c.poll_shut.new.self }) c.poll_shut.result Pending c.args.cx.now c.poll_shut.new.cx
    c.poll_shut.ensures.stepped (sym (ap told c.in-Pending.is)) refl
