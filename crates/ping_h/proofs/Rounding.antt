-- A round sends its ping and awaits it.
use Rattle.std.proofs.Common.{◌≡◌, ◌↔◌, ℕ, Bool, true, ◌&&◌, ◌==◌, List, [], ◌∷◌, ◌++◌, ◌<◌, length, take, drop, refl, sym, ◌∙◌, ap, append_assoc, arith, length-append}
use Rattle.std.proofs.lemmas.List.{length-take, append-nil, take-append-drop, nil_from_length}
use Rattle.std.proofs.lemmas.Bool.Decides.{nat_tests}
use mathlib.Core.List.{IsPrefix}
use Rattle.handlers.specs.Calls.{HandlerCall, Take, Give, End, Arises, EndsAs, taken, given}
use Rattle.handlers.proofs.Handing.{split, noted_as}
use Rattle.ping_h.specs.Rounds.{Round, RoundStep, round}
use Rattle.ping_h.proofs.Echoing.{and_parts}

-- what a round holds that sent the one list and got the other back
pub record Stands (ping sent back : List ℕ) (r : Round) : Type 0 where
  pub unsent : sent ++ r.unsent ≡ ping
  pub awaited : back ++ r.awaited ≡ ping

drop_front : (xs ys rest : List ℕ) → xs ++ rest ≡ ys → drop (length xs) ys ≡ rest
drop_front [] ys rest e = sym e
drop_front (x ∷ xs) [] rest e = absurd (cc e)
drop_front (x ∷ xs) (y ∷ ys) rest e = drop_front xs ys rest (cc e)

stands_after : (ping sent back : List ℕ) (r s : Round) (calls : List HandlerCall) → Stands ping sent back r → Arises RoundStep r calls s
    → Stands ping (sent ++ given calls) (back ++ taken calls) s
stands_after ping sent back r s [] at_r came = rw (append-nil, ← came) (rw append-nil at_r)
stands_after ping sent back r s (Take bytes ∷ calls) at_r came =
    let rest : drop (length bytes) r.awaited ≡ came.1.1.0 = drop_front bytes r.awaited came.1.1.0 came.1.1.1 in
    let next : Stands ping sent (back ++ bytes) came.0 = rw came.1.2 (record {
      unsent = at_r.unsent;
      awaited = ap (λ xs. (back ++ bytes) ++ xs) rest ∙ append_assoc back bytes came.1.1.0 ∙ ap (λ xs. back ++ xs) came.1.1.1 ∙ at_r.awaited;
    }) in
    rw (← append_assoc) (stands_after ping sent (back ++ bytes) came.0 s calls next came.2)
stands_after ping sent back r s (Give room bytes ∷ calls) at_r came =
    let next : Stands ping (sent ++ bytes) back came.0 = rw came.1.2 (rw came.1.1 (record {
      unsent = append_assoc sent _ _ ∙ ap (λ xs. sent ++ xs) (take-append-drop room r.unsent) ∙ at_r.unsent;
      awaited = at_r.awaited;
    })) in
    rw (← append_assoc) (stands_after ping (sent ++ bytes) back came.0 s calls next came.2)
stands_after ping sent back r s (End ∷ calls) at_r came =
    stands_after ping sent back came.0 s calls (rw came.1.2 (record { unsent = at_r.unsent; awaited = at_r.awaited })) came.2

pub stands : (ping : List ℕ) (calls : List HandlerCall) (s : Round) → Arises RoundStep (round ping) calls s → Stands ping (given calls) (taken calls) s
stands ping calls s came = stands_after ping [] [] (round ping) s calls (record { unsent = refl; awaited = refl }) came

pub sends : (ping : List ℕ) (calls : List HandlerCall) (s : Round) → Arises RoundStep (round ping) calls s → IsPrefix (given calls) ping
sends ping calls s came = (s.unsent, (stands ping calls s came).unsent)

take_all : (xs : List ℕ) (room : ℕ) → length (take room xs) < room → take room xs ≡ xs
take_all xs room less = let size = length-take room xs in Rattle.std.proofs.lemmas.List.take_all room xs (omega (arith, size, less))

pub sends_all : (ping : List ℕ) (calls : List HandlerCall) (room : ℕ) (bytes : List ℕ) (s : Round)
    → Arises RoundStep (round ping) (calls ++ Give room bytes ∷ []) s → length bytes < room → given calls ++ bytes ≡ ping
sends_all ping calls room bytes s came less =
    let parts = split RoundStep (round ping) s calls (Give room bytes ∷ []) came in
    let is : bytes ≡ take room parts.0.unsent = parts.2.1.1 in
    let whole : bytes ≡ parts.0.unsent = is ∙ take_all parts.0.unsent room (rw (← is) less) in
    ap (λ xs. given calls ++ xs) whole ∙ (stands ping calls parts.0 parts.1).unsent

pub closes : (ping : List ℕ) (calls : List HandlerCall) (s : Round) → Arises RoundStep (round ping) calls s
    → ((length s.awaited == 0) ≡ true) ↔ (taken calls ≡ ping)
closes ping calls s came =
    let at_s = stands ping calls s came in (
      λ h. let size : length s.awaited ≡ 0 = grind (arith, nat_tests, h) in
          let none : s.awaited ≡ [] = nil_from_length s.awaited size in
          sym (append-nil (taken calls)) ∙ rw none at at_s.awaited,
      λ h. let size : length s.awaited ≡ 0 = omega (arith, ap length at_s.awaited, length-append (taken calls) s.awaited, ap length h) in
          rw size refl,
    )

-- ---- the end

pub ended_as : (ping : List ℕ) (calls : List HandlerCall) (ended : Bool) (s : Round) → EndsAs calls ended → Arises RoundStep (round ping) calls s
    → s.ended ≡ ended
ended_as ping calls ended s ends came =
    noted_as RoundStep (λ (r : Round). r.ended) (λ r t bytes step. ap (λ (u : Round). u.ended) step.2)
    (λ r t room bytes step. ap (λ (u : Round). u.ended) step.2) (λ r t step. ap (λ (u : Round). u.ended) step.2) (round ping) s calls ended refl ends
    came

both : (a b : Bool) → a ≡ true → b ≡ true → (a && b) ≡ true
both a b e f = rw (e, f) refl

pub finishes : (ping : List ℕ) (calls : List HandlerCall) (ended : Bool) (s : Round) → EndsAs calls ended → Arises RoundStep (round ping) calls s
    → (((length s.awaited == 0) && s.ended) ≡ true) ↔ ((taken calls ≡ ping) × (ended ≡ true))
finishes ping calls ended s ends came =
    let flag : s.ended ≡ ended = ended_as ping calls ended s ends came in
    let closed = closes ping calls s came in (
      λ h. let parts : ((length s.awaited == 0) ≡ true) × (s.ended ≡ true) = and_parts _ _ h in (closed.0 parts.0, sym flag ∙ parts.1),
      λ h. both (length s.awaited == 0) s.ended (closed.1 h.0) (flag ∙ h.1),
    )
