use Rattle.std.proofs.Common.{◌∙◌, ◌<◌, ℕ, List, length, sym, ap, subst, arith}
use Rattle.identify_h.specs.Messages.{Spells, written}
use Rattle.clients.proofs.identify.read_back.Goals as goal

pub returns-in-Ok : goal.returns-in-Ok
returns-in-Ok c =
    let fits : length (written c.args.message.now) < 18446744073709551616 = omega (arith, c.in-Ok.body.small, ap length c.in-Ok.ensures.written) in
    c.read.ensures.only_message c.args.message.now
    (subst (λ (bytes : List ℕ). Spells c.args.peer bytes c.args.message.now) (sym (c.deref.ensures.value ∙ c.in-Ok.ensures.written))
    (c.written_is_read.ensures c.args.peer c.args.message.now c.requires.key fits))
