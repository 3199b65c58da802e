use Rattle.varint_proto.specs.Message.{entry_of}
use Rattle.identify_h.proofs.Reading.{one_more, option_copied-or}
use Rattle.identify_h.proofs.parts.last_parts.Goals as goal

pub fields-preserved : goal.fields-preserved
fields-preserved c =
    let read = one_more _ _ _ _ _ _ _ (entry_of c.in-Some.field) c.fields.invariant (rw c.in-Some.is at c.in_ok-field.ensures.found) in
    rw (
      c.or-key.ensures,
      option_copied-or,
      c.body.ensures,
      c.or-observed.ensures,
      option_copied-or,
      c.body-in-Some.ensures,
      c.or-version.ensures,
      option_copied-or,
      c.body-in-Some-2.ensures,
      c.or-agent.ensures,
      option_copied-or,
      c.body-in-Some-3.ensures,
    ) read
