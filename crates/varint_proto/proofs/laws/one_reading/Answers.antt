use Rattle.varint_proto.proofs.OneReading.{one_message, one_fault, message_or_fault}
use Rattle.varint_proto.proofs.laws.one_reading.Goals as goal

pub returns : goal.returns
returns c = record { message = one_message; fault = one_fault; either = message_or_fault }
