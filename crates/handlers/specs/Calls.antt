-- The calls of a handler, and what it was handed by them (this project's profile; libp2p connections, "Opening new
-- streams over a connection": what a protocol's handler is given is its stream).
use Rattle.std.specs.Prelude.{◌≡◌, ◌↔◌, ℕ, Bool, true, false, List, [], ◌∷◌, ◌++◌}

-- a call that was answered Ok: bytes were handed over; with so much room these bytes were given; the end was said
pub data HandlerCall : Type 0 where
  Take : List ℕ → HandlerCall
  Give : ℕ → List ℕ → HandlerCall
  End : HandlerCall

-- what a handler may be asked for
pub data Asked : Type 0 where
  ToTake : List ℕ → Asked
  ToGive : ℕ → Asked
  ToEnd : Asked

-- the bytes that were handed over, joined
abbrev pub taken : List HandlerCall → List ℕ
taken [] = []
taken (Take bytes ∷ calls) = bytes ++ taken calls
taken (Give room bytes ∷ calls) = taken calls
taken (End ∷ calls) = taken calls

-- the bytes that were given, joined
abbrev pub given : List HandlerCall → List ℕ
given [] = []
given (Take bytes ∷ calls) = given calls
given (Give room bytes ∷ calls) = bytes ++ given calls
given (End ∷ calls) = given calls

-- only bytes are asked for
abbrev pub GivesOnly : List HandlerCall → Type 0
GivesOnly [] = Unit {0}
GivesOnly (Take bytes ∷ calls) = ⊥
GivesOnly (Give room bytes ∷ calls) = GivesOnly calls
GivesOnly (End ∷ calls) = ⊥

-- the end was said exactly where `ended` holds: once, and behind all that was handed over
abbrev pub EndsAs : List HandlerCall → Bool → Type 0
EndsAs [] ended = ended ≡ false
EndsAs (Take bytes ∷ calls) ended = EndsAs calls ended
EndsAs (Give room bytes ∷ calls) ended = EndsAs calls ended
EndsAs (End ∷ calls) ended = (ended ≡ true) × GivesOnly calls

-- by these calls, in order, the one value becomes the other
abbrev pub Arises : {H : Type 0} → (H → HandlerCall → H → Type 0) → H → List HandlerCall → H → Type 0
Arises step made [] value = made ≡ value
Arises step made (call ∷ calls) value = (mid : _) × step made call mid × Arises step mid calls value

-- the value was handed these bytes, and the end where it is said: it arises so from the one that was made
pub record WasHanded {H : Type 0} (step : H → HandlerCall → H → Type 0)
    (made : H) (bytes : List ℕ) (ended : Bool) (value : H) : Type 0 where
  pub calls : List HandlerCall
  pub arises : Arises step made calls value
  pub joined : taken calls ≡ bytes
  pub ends : EndsAs calls ended

-- nothing is answered any more, and each call is refused by this number
pub record HasFailed {H : Type 0} (step : H → HandlerCall → H → Type 0) (fails : H → Asked → ℕ → Type 0)
    (number : ℕ) (value : H) : Type 0 where
  pub answers : (call : HandlerCall) (next : H) → ¬ step value call next
  pub refuses : (asked : Asked) (n : ℕ) → fails value asked n ↔ (n ≡ number)

-- nothing more may be handed over: neither bytes nor the end
pub record HasEnded {H : Type 0} (step : H → HandlerCall → H → Type 0) (fails : H → Asked → ℕ → Type 0)
    (number : ℕ) (value : H) : Type 0 where
  pub takes : (bytes : List ℕ) (next : H) → ¬ step value (Take bytes) next
  pub ends : (next : H) → ¬ step value End next
  pub refuses : (bytes : List ℕ) (n : ℕ) → fails value (ToTake bytes) n ↔ (n ≡ number)
  pub refuses_an_end : (n : ℕ) → fails value ToEnd n ↔ (n ≡ number)
