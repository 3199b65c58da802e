-- What a handler was handed and gave, by its calls.
-- Source: libp2p connections, "Opening new streams over a connection": what a protocol's handler is given is its
-- stream; that it is asked for bytes with a room is this project's profile.
use Rattle.std.specs.Prelude.{◌≡◌, ℕ, ◌+◌, Bool, List, [], ◌∷◌, ◌++◌, length, Option, IfSome}
use Rattle.handlers.specs.Calls.{HandlerCall, Give, WasHanded, given}

-- the last of these calls asked for bytes, and what it gave left so much of its room
pub record AskedLast (calls : List HandlerCall) (left : ℕ) : Type 0 where
  pub before : List HandlerCall
  pub room : ℕ
  pub bytes : List ℕ
  pub calls_are : calls ≡ before ++ Give room bytes ∷ []
  pub left_is : length bytes + left ≡ room

-- The value arises from the one that was made by these calls: it was handed these bytes, and the end where it is said,
-- and it gave these. Where `left` is said it was asked for bytes last, and left so much room.
pub record Handled {H : Type 0} (step : H → HandlerCall → H → Type 0) (made : H) (calls : List HandlerCall)
    (handed : List ℕ) (ended : Bool) (gave : List ℕ) (left : Option ℕ) (value : H) : Type 0 where
  pub was_handed : WasHanded step made handed ended value
  pub calls_are : was_handed.calls ≡ calls
  pub gave_is : given was_handed.calls ≡ gave
  pub asked : IfSome left (AskedLast was_handed.calls)
