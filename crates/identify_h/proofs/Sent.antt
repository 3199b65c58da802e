-- A sender sends its message.
use Rattle.std.proofs.Common.{◌≡◌, ◌↔◌, ℕ, true, ◌==◌, List, [], ◌∷◌, ◌++◌, ◌<◌, length, take, drop, refl, sym, ◌∙◌, ap, append_assoc, arith, length-append}
use Rattle.std.proofs.lemmas.List.{length-take, append-nil, take-append-drop, nil_from_length}
use Rattle.std.proofs.lemmas.Bool.Decides.{nat_tests}
use mathlib.Core.List.{IsPrefix}
use Rattle.handlers.specs.Calls.{HandlerCall, Take, Give, End, Arises, given}
use Rattle.handlers.proofs.Handing.{split}
use Rattle.identify_h.specs.Sending.{Sending, SendStep, sending}

sent_after : (message sent : List ℕ) (r s : Sending) (calls : List HandlerCall) → sent ++ r.unsent ≡ message → Arises SendStep r calls s
    → (sent ++ given calls) ++ s.unsent ≡ message
sent_after message sent r s [] at_r came = rw (append-nil, ← came) at_r
sent_after message sent r s (Take bytes ∷ calls) at_r came =
    sent_after message sent came.0 s calls (ap (λ (t : Sending). sent ++ t.unsent) came.1.1 ∙ at_r) came.2
sent_after message sent r s (Give room bytes ∷ calls) at_r came =
    let next : (sent ++ bytes) ++ came.0.unsent ≡ message =
    ap (λ (t : Sending). (sent ++ bytes) ++ t.unsent) came.1.2 ∙ append_assoc sent bytes (drop room r.unsent)
    ∙ ap (λ (t : List ℕ). sent ++ (t ++ drop room r.unsent)) came.1.1 ∙ ap (λ (t : List ℕ). sent ++ t) (take-append-drop room r.unsent) ∙ at_r in
    rw (← append_assoc) (sent_after message (sent ++ bytes) came.0 s calls next came.2)
sent_after message sent r s (End ∷ calls) at_r came =
    sent_after message sent came.0 s calls (ap (λ (t : Sending). sent ++ t.unsent) came.1.1 ∙ at_r) came.2

sent_is : (message : List ℕ) (calls : List HandlerCall) (s : Sending) → Arises SendStep (sending message) calls s → given calls ++ s.unsent ≡ message
sent_is message calls s came = sent_after message [] (sending message) s calls refl came

pub sends : (message : List ℕ) (calls : List HandlerCall) (s : Sending) → Arises SendStep (sending message) calls s → IsPrefix (given calls) message
sends message calls s came = (s.unsent, sent_is message calls s came)

take_all : (xs : List ℕ) (room : ℕ) → length (take room xs) < room → take room xs ≡ xs
take_all xs room less = let size = length-take room xs in Rattle.std.proofs.lemmas.List.take_all room xs (omega (arith, size, less))

pub sends_all : (message : List ℕ) (calls : List HandlerCall) (room : ℕ) (bytes : List ℕ) (s : Sending)
    → Arises SendStep (sending message) (calls ++ Give room bytes ∷ []) s → length bytes < room → given calls ++ bytes ≡ message
sends_all message calls room bytes s came less =
    let parts = split SendStep (sending message) s calls (Give room bytes ∷ []) came in
    let is : bytes ≡ take room parts.0.unsent = parts.2.1.1 in
    let whole : bytes ≡ parts.0.unsent = is ∙ take_all parts.0.unsent room (rw (← is) less) in
    ap (λ xs. given calls ++ xs) whole ∙ sent_is message calls parts.0 parts.1

pub closes : (message : List ℕ) (calls : List HandlerCall) (s : Sending) → Arises SendStep (sending message) calls s
    → ((length s.unsent == 0) ≡ true) ↔ (given calls ≡ message)
closes message calls s came =
    let all = sent_is message calls s came in (
      λ h. let size : length s.unsent ≡ 0 = grind (arith, nat_tests, h) in
          let none : s.unsent ≡ [] = nil_from_length s.unsent size in
          sym (append-nil (given calls)) ∙ rw none at all,
      λ h. let size : length s.unsent ≡ 0 = omega (arith, ap length all, length-append (given calls) s.unsent, ap length h) in
          rw size refl,
    )
