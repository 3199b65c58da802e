-- A message that is sent behind its length is read, and a fault stays.
use Rattle.std.proofs.Common.{◌≡◌, ℕ, ◌-◌, ◌≤◌, List, [], ◌∷◌, ◌++◌, length, refl, sym, subst, ◌∙◌, arith}
use Rattle.std.proofs.lemmas.List.{append-nil, length-append}
use Rattle.varint_proto.specs.Varint.{shortest}
use Rattle.varint_proto.specs.declared.fault.IncomingRefused.TheVariants as incoming
use Rattle.varint_proto.specs.Incoming.{Frames}
use Rattle.varint_proto.proofs.Framed.{framed_is_read, fault_more}
use Rattle.identify_h.specs.declared.fault.IdentifyFault.{IdentifyFault}
use Rattle.identify_h.specs.declared.fault.IdentifyFault.TheVariants.{Failed, TooLong, TooMany, Wire, OtherKey, Cut, OutOfMemory}
use Rattle.identify_h.specs.Sending.{most_bytes, framed}
use Rattle.identify_h.specs.Messages.{Spells, written}
use Rattle.identify_h.specs.Streams.{NextFault, left_behind, Begins, FaultsStay, SentIsRead}
use Rattle.identify_h.proofs.Streaming.{begins_on}
use Rattle.identify_h.proofs.Written.{read_back}

one_frame : (body : List ℕ) → length body ≤ most_bytes → Frames most_bytes (framed body) body []
one_frame body small =
    subst (λ (t : List ℕ). Frames most_bytes (shortest (length body) ++ t) body []) (append-nil body)
    (framed_is_read most_bytes body [] small (omega arith))

one_body : (body : List ℕ) → length body ≤ most_bytes → Begins (framed body) (body ∷ []) []
one_body body small = record { few = omega arith; lead = ([], one_frame body small, refl) }

pub sent_back : SentIsRead
sent_back peer m has small = (
  written m ∷ [],
  one_body (written m) small,
  omega arith,
  subst (λ (t : List ℕ). Spells peer t m) (sym (append-nil (written m))) (read_back peer m has (omega arith)),
)

next_fault_on : (bodies : List (List ℕ)) (rest more : List ℕ) (fault : IdentifyFault) → NextFault bodies rest fault → NextFault bodies (rest ++ more) fault
next_fault_on bodies rest more TooLong h = (h.0, fault_more (left_behind bodies) rest more incoming.TooLong h.1)
next_fault_on bodies rest more Wire h = (h.0, fault_more (left_behind bodies) rest more incoming.BadLength h.1)
next_fault_on bodies rest more TooMany h = (h.0, let sum = length-append rest more in let some = h.1 in omega arith)
next_fault_on bodies rest more Failed h = h
next_fault_on bodies rest more OtherKey h = h
next_fault_on bodies rest more Cut h = h
next_fault_on bodies rest more OutOfMemory h = h

pub faults_stay : FaultsStay
faults_stay input more fault h = (h.0, h.1 ++ more, begins_on input more h.0 h.1 h.2, next_fault_on h.0 h.1 more fault h.3)
