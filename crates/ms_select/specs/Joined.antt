-- The two ends of one talk.
-- Source: multistream-select 1.0, "Protocol Negotiation", over pipes that deliver what was written.
use Rattle.std.specs.Prelude.{◌≡◌, ◌⊎◌, ℕ, List, [], ◌++◌, length, slice_get, Some, Result, Ok}
use Rattle.ms_select.specs.declared.answer.Answer.{Answer}
use Rattle.ms_select.specs.declared.answer.Answer.TheVariants.{Agreed}
use Rattle.ms_select.specs.declared.fault.SelectFault.{SelectFault}
use Rattle.ms_select.specs.Listening.{Listens}
use Rattle.ms_select.specs.Dialing.{Dials}

-- A listener's end that has agreed may write more than its side of the talk.
abbrev pub ServesMore : Result Answer SelectFault → Type 0
ServesMore standing = (index : ℕ) × (standing ≡ Ok (Agreed index))

-- What a listener's end has written that stands here: its side of the talk, and what it may write behind it.
pub record Serves (names : List (List ℕ)) (input : List ℕ) (standing : Result Answer SelectFault) (written : List ℕ)
    : Type 0 where
  pub used : ℕ
  pub talk : List ℕ
  pub more : List ℕ
  pub listens : Listens names input standing used talk
  pub written_is : written ≡ talk ++ more
  pub silent : ¬ ServesMore standing → more ≡ []

-- So may a dialer's end that has agreed. With one name it may have gone on with any bytes before the answer.
abbrev pub CallsMore : List (List ℕ) → Result Answer SelectFault → Type 0
CallsMore names standing = (length names ≡ 1) ⊎ ((index : ℕ) × (standing ≡ Ok (Agreed index)))

-- What a dialer's end has written that stands here: its side of the talk, and what it may write behind it.
pub record Calls (names : List (List ℕ)) (input : List ℕ) (standing : Result Answer SelectFault) (written : List ℕ)
    : Type 0 where
  pub used : ℕ
  pub talk : List ℕ
  pub more : List ℕ
  pub dials : Dials names input standing used talk
  pub written_is : written ≡ talk ++ more
  pub silent : ¬ CallsMore names standing → more ≡ []

-- At one place of two joined ends the input of each is a front of what the other has written.
pub record Joined (dialed served : List (List ℕ)) (to_dialer to_listener : List ℕ)
    (dialer listener : Result Answer SelectFault) : Type 0 where
  pub from_dialer : List ℕ
  pub from_listener : List ℕ
  pub calls : Calls dialed to_dialer dialer from_dialer
  pub serves : Serves served to_listener listener from_listener
  pub on_the_way : List ℕ
  pub delivered : from_listener ≡ to_dialer ++ on_the_way
  pub on_the_way_back : List ℕ
  pub delivered_back : from_dialer ≡ to_listener ++ on_the_way_back

-- Two ends that both agree in one talk name the same protocol.
abbrev pub OneName : Type 0
OneName =
    (dialed served : List (List ℕ)) (to_dialer to_listener : List ℕ) (i j : ℕ)
    → Joined dialed served to_dialer to_listener (Ok (Agreed i)) (Ok (Agreed j))
    → (name : List ℕ) × (slice_get dialed i ≡ Some name) × (slice_get served j ≡ Some name)
