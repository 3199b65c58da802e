use Rattle.std.proofs.Common.{◌≡◌, ◌+◌, ℕ, length, refl, sym, ap, ◌∙◌}
use Rattle.varint_proto.specs.Message.{shortest_field, entry, Bytes}
use Rattle.identify_h.specs.Messages.{written}
use Rattle.node_protocols.specs.Own.{own_message}
use Rattle.node_protocols.proofs.OwnLength.{own_length, topped}
use Rattle.node_protocols.proofs.own.own_len.Goals as goal

pub returns : goal.returns
returns c =
    let last = c.field_len.ensures.length c.args.agent.now refl in
    let sum : length (written (own_message c.args.key.now c.args.agent.now)) ≡ c.key_len.result + 67 + c.field_len.result
    = own_length c.args.key.now c.args.agent.now ∙ ap (λ (n : ℕ). n + 67 + length (shortest_field (entry 6 (Bytes c.args.agent.now)))) (sym c.key_len.ensures)
    ∙ ap (λ (n : ℕ). c.key_len.result + 67 + n) (sym last) in
    topped c.key_len.result c.field_len.result 18446744073709551615 c.saturating_add.result c.saturating_add-2.result
    (length (written (own_message c.args.key.now c.args.agent.now))) c.saturating_add.ensures c.saturating_add-2.ensures sum
