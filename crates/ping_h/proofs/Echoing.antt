-- An echo gives whole rounds back.
use Rattle.std.proofs.Common.{◌≡◌, ◌↔◌, ℕ, Bool, true, false, ◌&&◌, ◌==◌, List, [], ◌∷◌, ◌++◌, ◌+◌, ◌*◌, ◌/◌, ◌%◌, ◌<◌, ◌≤◌, min, length, take, refl, sym, ◌∙◌, ap, append_assoc, arith, length-append, length-drop}
use Rattle.std.proofs.lemmas.List.{length-take, append-nil, take-append-drop, nil_from_length}
use Rattle.std.proofs.Math.Seq.{take-append-add}
use Rattle.std.proofs.lemmas.Bool.Decides.{nat_tests}
use mathlib.Core.List.{IsPrefix}
use Rattle.handlers.specs.Calls.{HandlerCall, Take, Give, End, Arises, EndsAs, taken, given}
use Rattle.handlers.proofs.Handing.{split, noted_as}
use Rattle.ping_h.specs.Echoes.{Echo, EchoStep, fresh, whole, whole_rounds}

-- what an echo holds that was handed the one list and gave the other
pub record Stands (handed back : List ℕ) (e : Echo) : Type 0 where
  pub parts : back ++ e.owed ≡ handed
  pub begun : e.begun ≡ length handed % 32
  pub within : e.begun ≤ length e.owed

stands_take : (handed back : List ℕ) (e f : Echo) (bytes : List ℕ) → Stands handed back e → EchoStep e (Take bytes) f
    → Stands (handed ++ bytes) back f
stands_take handed back e f bytes s step = rw step.1 (record {
  parts = sym (append_assoc back e.owed bytes) ∙ ap (λ xs. xs ++ bytes) s.parts;
  begun = omega (arith, length-append handed bytes, s.begun);
  within = omega (arith, length-append e.owed bytes, s.within);
})

stands_give : (handed back : List ℕ) (e f : Echo) (room : ℕ) (bytes : List ℕ) → Stands handed back e → EchoStep e (Give room bytes) f
    → Stands handed (back ++ bytes) f
stands_give handed back e f room bytes s step = rw step.2 (rw step.1 (record {
  parts = append_assoc back _ _ ∙ ap (λ xs. back ++ xs) (take-append-drop _ e.owed) ∙ s.parts;
  begun = s.begun;
  within = omega (arith, length-drop (min room (whole e)) e.owed, s.within);
}))

stands_end : (handed back : List ℕ) (e f : Echo) → Stands handed back e → EchoStep e End f → Stands handed back f
stands_end handed back e f s step = rw step.2 (record { parts = s.parts; begun = s.begun; within = s.within })

stands_after : (handed back : List ℕ) (e f : Echo) (calls : List HandlerCall) → Stands handed back e → Arises EchoStep e calls f
    → Stands (handed ++ taken calls) (back ++ given calls) f
stands_after handed back e f [] s came = rw (append-nil, ← came) (rw append-nil s)
stands_after handed back e f (Take bytes ∷ calls) s came =
    rw (← append_assoc) (stands_after (handed ++ bytes) back came.0 f calls (stands_take handed back e came.0 bytes s came.1) came.2)
stands_after handed back e f (Give room bytes ∷ calls) s came =
    rw (← append_assoc) (stands_after handed (back ++ bytes) came.0 f calls (stands_give handed back e came.0 room bytes s came.1) came.2)
stands_after handed back e f (End ∷ calls) s came =
    stands_after handed back came.0 f calls (stands_end handed back e came.0 s came.1) came.2

pub stands : (calls : List HandlerCall) (f : Echo) → Arises EchoStep fresh calls f → Stands (taken calls) (given calls) f
stands calls f came = stands_after [] [] fresh f calls (record { parts = refl; begun = refl; within = omega arith }) came

-- what was given, and then what may be given, are the whole rounds
back_whole : (handed back : List ℕ) (e : Echo) → Stands handed back e → back ++ take (whole e) e.owed ≡ whole_rounds handed
back_whole handed back e s =
    let count : length handed / 32 * 32 ≡ length back + whole e =
    omega (arith, s.begun, s.within, ap length s.parts, length-append back e.owed) in
    rw (count, ← s.parts) (sym (take-append-add back e.owed (whole e)))

pub gives_back : (calls : List HandlerCall) (f : Echo) → Arises EchoStep fresh calls f → IsPrefix (given calls) (whole_rounds (taken calls))
gives_back calls f came = (take (whole f) f.owed, back_whole (taken calls) (given calls) f (stands calls f came))

-- an echo that gave less than it had room for gave all that it might
all_given : (e f : Echo) (room : ℕ) (bytes : List ℕ) → e.begun ≤ length e.owed → EchoStep e (Give room bytes) f → length bytes < room
    → bytes ≡ take (whole e) e.owed
all_given e f room bytes within step less =
    let size = rw length-take at (ap length step.1) in
    let all : min room (whole e) ≡ whole e = omega (arith, size, within) in
    step.1 ∙ ap (λ n. take n e.owed) all

pub gives_all : (calls : List HandlerCall) (room : ℕ) (bytes : List ℕ) (f : Echo) → Arises EchoStep fresh (calls ++ Give room bytes ∷ []) f
    → length bytes < room → given calls ++ bytes ≡ whole_rounds (taken calls)
gives_all calls room bytes f came less =
    let parts = split EchoStep fresh f calls (Give room bytes ∷ []) came in
    let s = stands calls parts.0 parts.1 in
    ap (λ xs. given calls ++ xs) (all_given parts.0 parts.2.0 room bytes s.within parts.2.1 less) ∙ back_whole (taken calls) (given calls) parts.0 s

-- ---- the end

pub ended_as : (calls : List HandlerCall) (ended : Bool) (f : Echo) → EndsAs calls ended → Arises EchoStep fresh calls f → f.ended ≡ ended
ended_as calls ended f ends came =
    noted_as EchoStep (λ (e : Echo). e.ended) (λ e g bytes step. ap (λ (h : Echo). h.ended) step.1)
    (λ e g room bytes step. ap (λ (h : Echo). h.ended) step.2) (λ e g step. ap (λ (h : Echo). h.ended) step.2) fresh f calls ended refl ends came

pub and_parts : (a b : Bool) → (a && b) ≡ true → (a ≡ true) × (b ≡ true)
and_parts true b h = (refl, h)
and_parts false b h = cc h

pub finishes : (calls : List HandlerCall) (ended : Bool) (f : Echo) → EndsAs calls ended → Arises EchoStep fresh calls f
    → ((f.ended && (length f.owed == 0)) ≡ true) ↔ ((ended ≡ true) × (given calls ≡ taken calls))
finishes calls ended f ends came =
    let flag : f.ended ≡ ended = ended_as calls ended f ends came in
    let s : Stands (taken calls) (given calls) f = stands calls f came in (
      λ h. let parts : (f.ended ≡ true) × ((length f.owed == 0) ≡ true) = and_parts _ _ h in
          let size : length f.owed ≡ 0 = grind (arith, nat_tests, parts.1) in
          let none : f.owed ≡ [] = nil_from_length f.owed size in
          (sym flag ∙ parts.0, sym (append-nil (given calls)) ∙ rw none at s.parts),
      λ h. let size : length f.owed ≡ 0 = omega (arith, ap length s.parts, length-append (given calls) f.owed, ap length h.1) in
          rw (flag, h.0, size) refl,
    )
