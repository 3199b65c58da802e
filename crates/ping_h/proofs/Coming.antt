-- What an echo and a round come to, and that each call leads one way.
use Rattle.std.proofs.Common.{◌≡◌, ◌≢◌, ◌↔◌, ℕ, Bool, true, false, ◌&&◌, ◌==◌, List, [], ◌∷◌, ◌++◌, ◌%◌, ◌<◌, ◌≤◌, min, length, refl, sym, ◌∙◌, ap, append_assoc, arith, length-append, length-drop}
use Rattle.std.specs.Prelude.{if◌then◌else◌}
use Rattle.std.proofs.lemmas.List.{append-nil, append_cancel_left}
use mathlib.Core.List.{IsPrefix}
use Rattle.handlers.specs.Calls.{HandlerCall, Take, Give, End, ToTake, ToEnd, Arises, EndsAs, taken, given}
use Rattle.ping_h.specs.declared.fault.PingFault.{PingFault}
use Rattle.ping_h.specs.declared.fault.PingFault.TheVariants.{Failed, WrongEcho, Cut}
use Rattle.ping_h.specs.Faults.{number_of}
use Rattle.ping_h.specs.Echoes.{Echo, EchoStep, EchoFails, fresh, is_over, whole}
use Rattle.ping_h.specs.Rounds.{Round, RoundStep, RoundFails, round}
use Rattle.ping_h.specs.Rounds as rounds
use Rattle.ping_h.proofs.Echoing as echoing
use Rattle.ping_h.proofs.Rounding as rounding
use Rattle.ping_h.proofs.Stopping.{neither, round_takes}

-- what goes on is refused by that fault alone
going_refuses : {P : Type 0} (over : Bool) (fault : PingFault) (n : ℕ) → over ≡ false → P
    → ((n ≡ number_of (if over then Failed else fault)) × (over ≡ false → P)) ↔ (n ≡ number_of fault)
going_refuses over fault n going p = (
  λ fails. fails.0 ∙ ap (λ (b : Bool). number_of (if b then Failed else fault)) going,
  λ is. (is ∙ ap (λ (b : Bool). number_of (if b then Failed else fault)) (sym going), λ _. p),
)

-- ---- the end that answers

echo_goes : (e f : Echo) (calls : List HandlerCall) → Arises EchoStep e calls f → f.failed ≡ e.failed
echo_goes e f [] came = ap (λ (g : Echo). g.failed) (sym came)
echo_goes e f (Take bytes ∷ calls) came = echo_goes came.0 f calls came.2 ∙ ap (λ (g : Echo). g.failed) came.1.1
echo_goes e f (Give room bytes ∷ calls) came = echo_goes came.0 f calls came.2 ∙ ap (λ (g : Echo). g.failed) came.1.2
echo_goes e f (End ∷ calls) came = echo_goes came.0 f calls came.2 ∙ ap (λ (g : Echo). g.failed) came.1.2

echo_is_going : (calls : List HandlerCall) (e : Echo) → EndsAs calls false → Arises EchoStep fresh calls e → is_over e ≡ false
echo_is_going calls e ends came = neither e.failed e.ended (echo_goes fresh e calls came) (echoing.ended_as calls false e ends came)

-- an echo of whole rounds that is asked with room for them is finished behind the end
all_back : (e last : Echo) (room : ℕ) (bytes : List ℕ) → e.ended ≡ true → e.begun ≡ 0 → length e.owed ≤ room → EchoStep e (Give room bytes) last
    → (last.ended && (length last.owed == 0)) ≡ true
all_back e last room bytes ended between enough step =
    let left = length-drop (min room (whole e)) e.owed in
    let owed = ap (λ (g : Echo). length g.owed) step.2 in
    let none : length last.owed ≡ 0 = omega (arith, left, owed, between, enough) in
    let flag : last.ended ≡ true = ap (λ (g : Echo). g.ended) step.2 ∙ ended in
    rw (flag, none) refl

pub echo_whole : (calls : List HandlerCall) (e : Echo) → EndsAs calls false → Arises EchoStep fresh calls e → length (taken calls) % 32 ≡ 0
    → (next : Echo) × EchoStep e End next
    × ((room : ℕ) (bytes : List ℕ) (last : Echo) → length (taken calls) ≤ room → EchoStep next (Give room bytes) last
    → (last.ended && (length last.owed == 0)) ≡ true)
echo_whole calls e ends came between =
    let s : echoing.Stands (taken calls) (given calls) e = echoing.stands calls e came in
    let begun : e.begun ≡ 0 = s.begun ∙ between in
    let size = ap length s.parts in
    let sum = length-append (given calls) e.owed in (
      record e { ended = true },
      (echo_is_going calls e ends came, begun, refl),
      λ room bytes last enough step. all_back (record e { ended = true }) last room bytes refl begun (omega (arith, size, sum, enough)) step,
    )

pub echo_cut : (calls : List HandlerCall) (e : Echo) → EndsAs calls false → Arises EchoStep fresh calls e → 0 < length (taken calls) % 32
    → ((n : ℕ) → EchoFails e ToEnd n ↔ (n ≡ number_of Cut)) × ((next : Echo) → ¬ EchoStep e End next)
echo_cut calls e ends came within =
    let s : echoing.Stands (taken calls) (given calls) e = echoing.stands calls e came in
    let begun : e.begun ≡ length (taken calls) % 32 = s.begun in
    let some : 0 < e.begun = omega (arith, begun, within) in (
      λ n. going_refuses (is_over e) Cut n (echo_is_going calls e ends came) some,
      λ next step. let none : e.begun ≡ 0 = step.1 in omega (arith, none, some),
    )

pub echo_next : (old : Echo) (call : HandlerCall) (new other : Echo) → EchoStep old call new → EchoStep old call other → new ≡ other
echo_next old (Take bytes) new other p q = p.1 ∙ sym q.1
echo_next old (Give room bytes) new other p q = p.2 ∙ sym q.2
echo_next old End new other p q = p.2 ∙ sym q.2

pub echo_given : (old : Echo) (room : ℕ) (bytes more : List ℕ) (new other : Echo) → EchoStep old (Give room bytes) new
    → EchoStep old (Give room more) other → (bytes ≡ more) × (new ≡ other)
echo_given old room bytes more new other p q = (p.1 ∙ sym q.1, p.2 ∙ sym q.2)

-- ---- the end that asks

round_goes : (r s : Round) (calls : List HandlerCall) → Arises RoundStep r calls s → s.failed ≡ r.failed
round_goes r s [] came = ap (λ (t : Round). t.failed) (sym came)
round_goes r s (Take bytes ∷ calls) came = round_goes came.0 s calls came.2 ∙ ap (λ (t : Round). t.failed) came.1.2
round_goes r s (Give room bytes ∷ calls) came = round_goes came.0 s calls came.2 ∙ ap (λ (t : Round). t.failed) came.1.2
round_goes r s (End ∷ calls) came = round_goes came.0 s calls came.2 ∙ ap (λ (t : Round). t.failed) came.1.2

-- bytes are awaited next exactly where they go on with the ping
awaited_next : (back awaited ping bytes : List ℕ) → back ++ awaited ≡ ping → IsPrefix bytes awaited ↔ IsPrefix (back ++ bytes) ping
awaited_next back awaited ping bytes is = (
  λ begins. (begins.0, append_assoc back bytes begins.0 ∙ ap (λ xs. back ++ xs) begins.1 ∙ is),
  λ begins. (begins.0, append_cancel_left back (bytes ++ begins.0) awaited (sym (append_assoc back bytes begins.0) ∙ begins.1 ∙ sym is)),
)

-- what has not come back whole is awaited
some_awaited : (back awaited ping : List ℕ) → back ++ awaited ≡ ping → back ≢ ping → 0 < length awaited
some_awaited back [] ping is part = absurd (part (sym (append-nil back) ∙ is))
some_awaited back (x ∷ awaited) ping is part = omega arith

module _ (ping : List ℕ) (calls : List HandlerCall) (r : Round) (ends : EndsAs calls false) (came : Arises RoundStep (round ping) calls r) where
  goes : r.failed ≡ false
  goes = round_goes (round ping) r calls came

  early : r.ended ≡ false
  early = rounding.ended_as ping calls false r ends came

  pub round_part : (bytes : List ℕ) → IsPrefix (taken calls ++ bytes) ping → (next : Round) × RoundStep r (Take bytes) next
  round_part bytes begins =
      round_takes r bytes goes early ((awaited_next (taken calls) r.awaited ping bytes (rounding.stands ping calls r came).awaited).1 begins)

  pub round_whole : taken calls ≡ ping → (next : Round) × RoundStep r End next × (((length next.awaited == 0) && next.ended) ≡ true)
  round_whole whole =
      let is = (rounding.stands ping calls r came).awaited in
      let sum = length-append (taken calls) r.awaited in
      let none : length r.awaited ≡ 0 = omega (arith, sum, ap length is, ap length whole) in
      (record r { ended = true }, (neither r.failed r.ended goes early, none, refl), rw none refl)

  pub round_wrong : (bytes : List ℕ) → ¬ IsPrefix (taken calls ++ bytes) ping
      → ((n : ℕ) → RoundFails r (ToTake bytes) n ↔ (n ≡ number_of WrongEcho)) × ((next : Round) → ¬ RoundStep r (Take bytes) next)
  round_wrong bytes other =
      let next = awaited_next (taken calls) r.awaited ping bytes (rounding.stands ping calls r came).awaited in (
        λ n. going_refuses (rounds.is_over r) WrongEcho n (neither r.failed r.ended goes early) (λ begins. other (next.0 begins)),
        λ s step. other (next.0 step.1),
      )

  pub round_cut : taken calls ≢ ping
      → ((n : ℕ) → RoundFails r ToEnd n ↔ (n ≡ number_of Cut)) × ((next : Round) → ¬ RoundStep r End next)
  round_cut part =
      let some = some_awaited (taken calls) r.awaited ping (rounding.stands ping calls r came).awaited part in (
        λ n. going_refuses (rounds.is_over r) Cut n (neither r.failed r.ended goes early) some,
        λ s step. let none : length r.awaited ≡ 0 = step.1 in omega (arith, none, some),
      )

pub round_next : (old : Round) (call : HandlerCall) (new other : Round) → RoundStep old call new → RoundStep old call other → new ≡ other
round_next old (Take bytes) new other p q = p.2 ∙ sym q.2
round_next old (Give room bytes) new other p q = p.2 ∙ sym q.2
round_next old End new other p q = p.2 ∙ sym q.2

pub round_given : (old : Round) (room : ℕ) (bytes more : List ℕ) (new other : Round) → RoundStep old (Give room bytes) new
    → RoundStep old (Give room more) other → (bytes ≡ more) × (new ≡ other)
round_given old room bytes more new other p q = (p.1 ∙ sym q.1, p.2 ∙ sym q.2)
