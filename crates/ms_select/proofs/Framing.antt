-- What a message behind its length comes to as a message of this protocol.
use Rattle.std.proofs.Common.{◌≡◌, ℕ, ◌+◌, ◌-◌, ◌/◌, ◌%◌, ◌≤◌, take, drop, List, [], ◌∷◌, ◌++◌, length, None, Ok, Err, refl, ap, sym, subst, ◌∙◌, inl, inr, arith}
use Rattle.std.proofs.Math.Seq.{take-append_seam, drop-append_seam}
use Rattle.std.proofs.lemmas.List.{append-nil, length-append, get_or_append_left}
use Rattle.varint_proto.specs.declared.fault.IncomingRefused.{IncomingRefused}
use Rattle.varint_proto.specs.declared.fault.IncomingRefused.TheVariants as framing
use Rattle.varint_proto.specs.Varint.{SpellsShortest, shortest}
use Rattle.varint_proto.specs.Incoming.{Frames, ReadsFramed}
use Rattle.varint_proto.proofs.Least.{none_shorter}
use Rattle.ms_select.specs.declared.fault.SelectFault.{SelectFault}
use Rattle.ms_select.specs.declared.fault.SelectFault.TheVariants.{Failed, BadLength, NoNewline, BadHeader, NotProposed, OutOfMemory}
use Rattle.ms_select.specs.Messages.{longest, message, IsShort, IsNoText, ReadsMessage, of_refused}
use Rattle.ms_select.proofs.Reading.{IsBytes}
use Rattle.ms_select.proofs.OneSpelling.{number_leads}

-- a body that ends with a newline
pub text_is : (rest body text : List ℕ) → IsBytes rest → Frames longest rest body [] → body ≡ text ++ 10 ∷ [] → (rest ≡ message text) × IsShort text
unfolding message
text_is rest body text bytes framed e =
    let spelling = framed.begins.0 in
    let parts : rest ≡ spelling ++ (body ++ []) = framed.begins.2 in
    let front : take (length spelling) rest ≡ spelling = ap (λ (b : List ℕ). take (length spelling) b) parts ∙ take-append_seam spelling (body ++ []) in
    let spells : SpellsShortest (take (length spelling) rest) (length body) = subst (λ (b : List ℕ). SpellsShortest b (length body)) (sym front) framed.begins.1 in
    let behind : drop (length spelling) rest ≡ body ++ [] = ap (λ (b : List ℕ). drop (length spelling) b) parts ∙ drop-append_seam spelling (body ++ []) in
    let leads : rest ≡ shortest (length body) ++ drop (length spelling) rest = number_leads rest (length body) (length spelling) bytes spells in
    let size : length body ≡ length text + 1 = omega (arith, ap length e, length-append text (10 ∷ [])) in
    let whole : rest ≡ shortest (length text + 1) ++ (text ++ 10 ∷ []) =
    leads ∙ ap (λ (b : List ℕ). shortest (length body) ++ b) (behind ∙ append-nil body ∙ e) ∙ ap (λ (n : ℕ). shortest n ++ (text ++ 10 ∷ [])) size in
    (whole, omega (arith, size, framed.allowed))

-- a body without a text
pub no_text : (rest body : List ℕ) (fault : SelectFault) → Frames longest rest body [] → IsNoText body fault → ReadsMessage rest (Err fault)
no_text rest body BadLength framed e = inr (length body, body ++ [], framed.begins, inl (ap length e))
no_text rest body NoNewline framed h = (
  length body,
  body ++ [],
  framed.begins,
  (h.0, framed.allowed),
  omega (arith, length-append body []),
  λ e. h.1 (sym (get_or_append_left body [] 0 (length body - 1) (omega (arith, h.0))) ∙ e),
)
no_text rest body Failed framed h = absurd h
no_text rest body BadHeader framed h = absurd h
no_text rest body NotProposed framed h = absurd h
no_text rest body OutOfMemory framed h = absurd h

pub not_memory : (body : List ℕ) (fault : SelectFault) → IsNoText body fault → fault ≡ OutOfMemory → ⊥
not_memory body BadLength h e = absurd cc
not_memory body NoNewline h e = absurd cc
not_memory body Failed h e = absurd h
not_memory body BadHeader h e = absurd h
not_memory body NotProposed h e = absurd h
not_memory body OutOfMemory h e = absurd h

pub partial_message : (rest : List ℕ) → ReadsFramed longest rest (Ok None) → ReadsMessage rest (Ok None)
partial_message rest (inl h) = inl h
partial_message rest (inr h) = inr (h.0, h.1, h.2.begins, (omega (arith, h.3), h.2.allowed), h.3)

pub refused_length : (rest : List ℕ) (refused : IncomingRefused) → ReadsFramed longest rest (Err refused) → ReadsMessage rest (Err (of_refused refused))
refused_length rest framing.BadLength h = inl h
refused_length rest framing.TooLong h = inr (h.0, h.1, h.2, inr h.3)
refused_length rest framing.Failed h = absurd h
refused_length rest framing.OutOfMemory h = absurd h

pub memory_alone : (refused : IncomingRefused) → of_refused refused ≡ OutOfMemory → refused ≡ framing.OutOfMemory
memory_alone framing.BadLength e = absurd cc
memory_alone framing.TooLong e = absurd cc
memory_alone framing.Failed e = absurd cc
memory_alone framing.OutOfMemory e = refl

-- ---- lengths

short_number : (n : ℕ) → n ≤ 1024 → length (shortest n) ≤ 2
short_number n le =
    none_shorter ((n % 128 + 128) ∷ n / 128 ∷ []) n (record { ends = (omega arith, omega arith); within = omega arith; fits = omega arith; value = omega arith })

pub message_length : (text : List ℕ) → IsShort text → length (message text) ≤ length text + 3
unfolding message
message_length text short =
    omega (arith, length-append (shortest (length text + 1)) (text ++ 10 ∷ []), length-append text (10 ∷ []), short_number (length text + 1) (omega arith))
