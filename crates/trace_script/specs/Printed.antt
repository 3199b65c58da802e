-- What is printed of what an end of a connection answers, and of what it has written.
-- Source: this project's profile, the output of `node trace`.
use Rattle.std.specs.Prelude.{ℕ, List, [], ◌∷◌, ◌++◌, codes, decimal, flat_map}
use Rattle.hex.specs.Hex.{encode_lower}
use Rattle.peer_ids.specs.Base32.{id_text}
use Rattle.peer_ids.specs.PeerId.{id_of}
use Rattle.conn_log.specs.declared.event.ConnEvent.{ConnEvent}
use Rattle.conn_log.specs.declared.event.ConnEvent.TheVariants as event
use Rattle.conn_log.specs.declared.event.ConnFault.{ConnFault}
use Rattle.conn_log.specs.declared.event.ConnFault.TheVariants as fault
use Rattle.conn_log.specs.declared.event.ConnRefused.{ConnRefused}
use Rattle.conn_log.specs.declared.event.ConnRefused.TheVariants as refusal
use Rattle.conn_core.specs.declared.calls.ConnAnswer.{ConnAnswer}
use Rattle.conn_core.specs.declared.calls.ConnAnswer.TheVariants as answer

-- The number of a fault and its name, with a space between them.
abbrev pub fault_text : ConnFault → List ℕ
fault_text fault.Select = codes "1 Select"
fault_text fault.NoneLeft = codes "2 NoneLeft"
fault_text fault.Exchange = codes "3 Exchange"
fault_text fault.Mux = codes "4 Mux"
fault_text fault.Link = codes "5 Link"
fault_text fault.EarlyEnd = codes "6 EarlyEnd"
fault_text fault.OutOfMemory = codes "7 OutOfMemory"

-- And of a refusal.
abbrev pub refusal_text : ConnRefused → List ℕ
refusal_text refusal.Failed = codes "1 Failed"
refusal_text refusal.NotUp = codes "2 NotUp"
refusal_text refusal.BadIndex = codes "3 BadIndex"
refusal_text refusal.GoneAway = codes "4 GoneAway"
refusal_text refusal.StreamsExhausted = codes "5 StreamsExhausted"
refusal_text refusal.StreamsFull = codes "6 StreamsFull"
refusal_text refusal.OutOfMemory = codes "7 OutOfMemory"

-- An event: the peer that has proven its key, or a stream by its number.
abbrev pub event_text : {H : Type 0} → ConnEvent H → List ℕ
event_text (event.Upgraded key) = codes "upgraded " ++ id_text (id_of key)
event_text (event.Agreed stream index) = codes "agreed " ++ (decimal stream ++ 32 ∷ decimal index)
event_text (event.Refused stream) = codes "refused-stream " ++ decimal stream
event_text (event.Done stream handler) = codes "done " ++ decimal stream
event_text (event.Broken stream cause) = codes "broken " ++ decimal stream
event_text (event.Fault why) = codes "fault " ++ fault_text why
event_text event.Shut = codes "shut"

-- An answer, in lines: each event in one, the number of a stream, or a refusal.
abbrev pub answer_text : {H : Type 0} → ConnAnswer H → List ℕ
answer_text (answer.Events events) = flat_map (λ event. event_text event ++ 10 ∷ []) events.items
answer_text (answer.Stream stream) = codes "stream " ++ (decimal stream ++ 10 ∷ [])
answer_text (answer.Refused why) = codes "refused " ++ (refusal_text why ++ 10 ∷ [])

-- Bytes that were written, in hexadecimal, and a dash for none.
abbrev pub output_text : List ℕ → List ℕ
output_text [] = codes "out -\n"
output_text (byte ∷ bytes) = codes "out " ++ (encode_lower (byte ∷ bytes) ++ 10 ∷ [])
