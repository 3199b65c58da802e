-- What the answers of a session say of its list.
use Rattle.std.proofs.Common.{◌≡◌, ◌≢◌, ◌⊎◌, inl, inr, ℕ, zero, suc, ◌<◌, ◌≤◌, Bool, true, false, ◌&&◌, not, cond, min, nat_lt, List, Option, Some, None, refl, sym, ◌∙◌, arith}
use Rattle.std.proofs.lemmas.Bool.Decides.{nat_tests}
use Rattle.yamux_session.specs.declared.event.Role.{Role}
use Rattle.yamux_session.specs.declared.event.ActRefused.{ActRefused}
use Rattle.yamux_session.specs.declared.event.ActRefused.TheVariants.{Failed, NoStream, Ended, GoneAway, StreamsExhausted, StreamsFull, OutOfMemory}
use Rattle.yamux_session.specs.History.{Item}
use Rattle.yamux_session.specs.History.Item.{Did}
use Rattle.yamux_session.specs.History.Act.{Taken}
use Rattle.yamux_session.specs.Openings.{is_live, closed}
use Rattle.yamux_session.specs.Windows.{credit, untaken, given_back}
use Rattle.yamux_session.specs.Acts.{open_credit, stream_refusal, direction_refusal, IsRefusedFor}
use Rattle.serving.specs.Served.{MayGrow}

-- the stream is live, and may be written to
pub record IsOpen (role : Role) (past : List Item) (n amount : ℕ) : Type 0 where
  pub is_live : is_live role past n ≡ true
  pub unclosed : closed role past n ≡ false
  pub credit_is : credit role past n ≡ amount

open_by : (live closed : Bool) (amount n : ℕ) → cond (live && not closed) (Some amount) None ≡ Some n → (live ≡ true) × (closed ≡ false) × (amount ≡ n)
open_by true false amount n e = (refl, refl, cc e)
open_by true true amount n e = absurd (cc e)
open_by false closed amount n e = absurd (cc e)

pub open_with : (role : Role) (past : List Item) (n amount : ℕ) → open_credit role past n ≡ Some amount → IsOpen role past n amount
open_with role past n amount e =
    let it = open_by (is_live role past n) (closed role past n) (credit role past n) amount e in
    record { is_live = it.0; unclosed = it.1; credit_is = it.2 }

none_by : (live closed : Bool) (amount : ℕ) → cond (live && not closed) (Some amount) None ≡ None → live ≡ true → closed ≡ true
none_by true false amount e on = absurd (cc e)
none_by true true amount e on = refl
none_by false closed amount e on = absurd (cc on)

pub not_open : (role : Role) (past : List Item) (n : ℕ) → open_credit role past n ≡ None → is_live role past n ≡ true → closed role past n ≡ true
not_open role past n e on = none_by (is_live role past n) (closed role past n) (credit role past n) e on

some_by : (live closed : Bool) (amount : ℕ) → cond (live && not closed) (Some amount) None ≢ Some 0 → live ≡ true → (0 < amount) ⊎ (closed ≡ true)
some_by true true amount e on = inr refl
some_by true false zero e on = absurd (e refl)
some_by true false (suc amount) e on = inl (omega arith)
some_by false closed amount e on = absurd (cc on)

-- credit is left, or this direction is closed
pub some_left : (role : Role) (past : List Item) (n : ℕ) → open_credit role past n ≢ Some 0 → is_live role past n ≡ true
    → (0 < credit role past n) ⊎ (closed role past n ≡ true)
some_left role past n e on = some_by (is_live role past n) (closed role past n) (credit role past n) e on

pub nothing_left : (role : Role) (past : List Item) (n : ℕ) → open_credit role past n ≡ Some 0
    → (0 < credit role past n) ⊎ (closed role past n ≡ true) → ⊥
nothing_left role past n e (inl some) = let it = (open_with role past n 0 e).credit_is in omega (arith, it)
nothing_left role past n e (inr over) = let it = (open_with role past n 0 e).unclosed in absurd (let f : true ≡ false = sym over ∙ it in cc f)

-- where a direction is closed it has no credit that could be used up
pub not_used_up : (role : Role) (past : List Item) (n : ℕ) → (is_live role past n ≡ true → closed role past n ≡ true) → open_credit role past n ≢ Some 0
not_used_up role past n shut e =
    let it = open_with role past n 0 e in
    absurd (let both : true ≡ false = sym (shut it.is_live) ∙ it.unclosed in cc both)

dead_by : (live : Bool) → cond live None (Some NoStream) ≡ Some NoStream → live ≡ false
dead_by true e = absurd (cc e)
dead_by false e = refl

pub not_live : (role : Role) (past : List Item) (n : ℕ) → stream_refusal role past n ≡ Some NoStream → is_live role past n ≡ false
not_live role past n e = dead_by (is_live role past n) e

live_by : (live : Bool) → cond live None (Some NoStream) ≡ None → live ≡ true
live_by true e = refl
live_by false e = absurd (cc e)

memory_by : (live : Bool) (refused : ActRefused) → IsRefusedFor (cond live None (Some NoStream)) refused → refused ≢ NoStream
    → (refused ≡ OutOfMemory) × (live ≡ true)
memory_by live OutOfMemory e other = (refl, live_by live e)
memory_by live NoStream e other = absurd (other refl)
memory_by true Failed e other = absurd (cc e)
memory_by false Failed e other = absurd (cc e)
memory_by true Ended e other = absurd (cc e)
memory_by false Ended e other = absurd (cc e)
memory_by true GoneAway e other = absurd (cc e)
memory_by false GoneAway e other = absurd (cc e)
memory_by true StreamsExhausted e other = absurd (cc e)
memory_by false StreamsExhausted e other = absurd (cc e)
memory_by true StreamsFull e other = absurd (cc e)
memory_by false StreamsFull e other = absurd (cc e)

-- a take that is refused, and not since the stream isn't live, is refused for want of memory
pub for_memory : (role : Role) (past : List Item) (n : ℕ) (refused : ActRefused) → IsRefusedFor (stream_refusal role past n) refused → refused ≢ NoStream
    → (refused ≡ OutOfMemory) × (is_live role past n ≡ true)
for_memory role past n refused e other = memory_by (is_live role past n) refused e other

memory_alone : (live shut : Bool) (amount n : ℕ) (refused : ActRefused) → IsRefusedFor (cond live (cond shut (Some Ended) None) (Some NoStream)) refused
    → cond (live && not shut) (Some amount) None ≡ Some n → refused ≡ OutOfMemory
memory_alone true false amount n OutOfMemory why e = refl
memory_alone true false amount n NoStream why e = absurd (cc why)
memory_alone true false amount n Failed why e = absurd (cc why)
memory_alone true false amount n Ended why e = absurd (cc why)
memory_alone true false amount n GoneAway why e = absurd (cc why)
memory_alone true false amount n StreamsExhausted why e = absurd (cc why)
memory_alone true false amount n StreamsFull why e = absurd (cc why)
memory_alone true true amount n refused why e = absurd (cc e)
memory_alone false shut amount n refused why e = absurd (cc e)

-- so is a write, or a close, where this direction is open
pub open_for_memory : (role : Role) (past : List Item) (n amount : ℕ) (refused : ActRefused) → IsRefusedFor (direction_refusal role past n) refused
    → open_credit role past n ≡ Some amount → refused ≡ OutOfMemory
open_for_memory role past n amount refused why e = memory_alone (is_live role past n) (closed role past n) (credit role past n) amount refused why e

pub all_of : {k : ℕ} → k ≤ 262144 → min 18446744073709551615 k ≡ k
all_of h = omega arith

-- what was taken was taken of a live stream
pub is_live_by : (role : Role) (past : List Item) (n : ℕ) → stream_refusal role past n ≡ None → is_live role past n ≡ true
is_live_by role past n e = live_by (is_live role past n) e

grows_by : (live shut : Bool) (amount : ℕ) (More : Type 0) → (cond (live && not shut) (Some amount) None ≡ None → (live ≡ true) × ((shut ≡ false) ⊎ More))
    → (live ≡ true) × ((shut ≡ false) ⊎ More)
grows_by true false amount More unless = (refl, inl refl)
grows_by true true amount More unless = unless refl
grows_by false shut amount More unless = unless refl

-- where this direction is open something may be sent
pub grows_unless : (role : Role) (past : List Item) (n : ℕ) → (open_credit role past n ≡ None → MayGrow role past n) → MayGrow role past n
grows_unless role past n unless =
    grows_by (is_live role past n) (closed role past n) (credit role past n) (0 < given_back role n past (Did (Taken n (untaken role past n)))) unless

pub no_more : (amount : ℕ) → Some amount ≡ Some 0 → nat_lt 0 amount ≡ true → ⊥
no_more zero e some = absurd (cc some)
no_more (suc amount) e some = absurd (cc e)

pub used_up : (amount : ℕ) → nat_lt 0 amount ≡ false → amount ≡ 0
used_up amount e = grind (arith, e, nat_tests)

pub not_both_credits : {amount : ℕ} {credit : Option ℕ} → Some amount ≡ credit → credit ≡ None → ⊥
not_both_credits some none = let e = some ∙ none in absurd (cc e)
