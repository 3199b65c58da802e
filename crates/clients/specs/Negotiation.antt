-- Two ends of a negotiation, each told what the other has written.
-- Source: multistream-select 1.0, "Protocol Negotiation", as a caller of both sides.
use Rattle.std.specs.Prelude.{◌≡◌, ℕ, List, slice_get, Some, Ok}
use Rattle.ms_select.specs.declared.answer.Answer.TheVariants.{Agreed}
use Rattle.ms_select.specs.Sides.{Negotiating, Stands}
use Rattle.ms_select.specs.Joined.{Joined}
use Rattle.clients.specs.declared.negotiation.Ends.{Ends}

-- ---- two ends

-- Each end has heard all that was taken of the other's output.
pub record AreJoined (dialing listening : Negotiating) : Type 0 where
  pub to_dialer : List ℕ
  pub to_listener : List ℕ
  pub used : ℕ
  pub also : ℕ
  pub dialer : Stands dialing to_dialer used to_listener
  pub listener : Stands listening to_listener also to_dialer

-- The ends stand here at one place of one talk.
abbrev pub Came : List (List ℕ) → List (List ℕ) → Ends → Type 0
Came dialed served ends =
    (to_dialer : List ℕ) × (to_listener : List ℕ)
    × Joined dialed served to_dialer to_listener (Ok ends.dialer) (Ok ends.listener)

-- Where both have negotiate, both name this.
abbrev pub NameOne : List (List ℕ) → List (List ℕ) → Ends → Type 0
NameOne dialed served ends =
    (i j : ℕ) → ends.dialer ≡ Agreed i → ends.listener ≡ Agreed j
    → (name : List ℕ) × (slice_get dialed i ≡ Some name) × (slice_get served j ≡ Some name)

-- Two joined ends have told each other what they had written.
pub record GoesOn (dialer listener dialing listening : Negotiating) (ends : Ends) : Type 0 where
  pub dialed : dialing.names ≡ dialer.names
  pub served : listening.names ≡ listener.names
  pub joined : AreJoined dialing listening
  pub came : Came dialer.names listener.names ends
