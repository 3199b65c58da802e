-- A talk by which an end of a stream settles a protocol, of either end.
-- Source: multistream-select 1.0, "Protocol Negotiation"; that an end asks for one protocol in a talk is this project's
-- profile.
use Rattle.std.specs.Prelude.{◌≡◌, ℕ, List, [], ◌∷◌, ◌++◌, length, Result, Ok, Err}
use Rattle.ms_select.specs.declared.answer.Answer.{Answer}
use Rattle.ms_select.specs.declared.answer.Answer.TheVariants.{Going, Agreed, NoneLeft}
use Rattle.ms_select.specs.declared.fault.SelectFault.{SelectFault}
use Rattle.ms_select.specs.declared.verdict.Role.{Role}
use Rattle.ms_select.specs.declared.verdict.Role.TheVariants.{Dialer, Listener}
use Rattle.ms_select.specs.Listening.{Listens}
use Rattle.ms_select.specs.Dialing.{Dials}
use Rattle.ms_select.specs.Sides.{RunsOut as NegotiationRunsOut}

-- What an end does in a talk: it asks for the protocol of this name, which has this index in the list of its
-- connection, or answers with all names of the list.
pub data Side : Type 0 where
  Asks : List ℕ → ℕ → Side
  Answers : List (List ℕ) → Side

-- its side of a negotiation, and the names that it has there
abbrev pub role_of : Side → Role
role_of (Asks name index) = Dialer
role_of (Answers names) = Listener

abbrev pub names_of : Side → List (List ℕ)
names_of (Asks name index) = name ∷ []
names_of (Answers names) = names

-- An end that has heard exactly this input stands here, and has written this. What follows a decision is no part of a
-- talk: where it is decided, it is so by the last byte of the input.
abbrev pub Talks : Side → List ℕ → Result Answer SelectFault → List ℕ → Type 0
-- the one name is echoed, and it has this index in the list of the connection
Talks (Asks name index) input (Ok (Agreed i)) output =
    (i ≡ index) × Dials (name ∷ []) input (Ok (Agreed 0)) (length input) output
Talks (Asks name index) input standing output = Dials (name ∷ []) input standing (length input) output
Talks (Answers names) input standing output = Listens names input standing (length input) output

-- ---- the outcomes by their names

-- nothing is decided so far
abbrev pub IsOpen : Side → List ℕ → List ℕ → Type 0
IsOpen side input output = Talks side input (Ok Going) output

-- both ends agree on the protocol of this index, by exactly these bytes
abbrev pub Agrees : Side → List ℕ → ℕ → List ℕ → Type 0
Agrees side first index output = Talks side first (Ok (Agreed index)) output

-- the other end doesn't know the name that was asked for, as exactly these bytes say
abbrev pub IsTurnedDown : Side → List ℕ → List ℕ → Type 0
IsTurnedDown side first output = Talks side first (Ok NoneLeft) output

-- some front of this input is refused so
abbrev pub Faults : Side → List ℕ → SelectFault → List ℕ → Type 0
Faults side input fault output = Talks side input (Err fault) output

-- ---- a whole input

-- it is settled, or can't be
abbrev pub IsDecided : Result Answer SelectFault → Type 0
IsDecided (Ok Going) = ⊥
IsDecided (Ok (Agreed index)) = Unit {0}
IsDecided (Ok NoneLeft) = Unit {0}
IsDecided (Err fault) = ⊥

-- What a talk comes to by this whole input: this front of it is the talk's, all of it where nothing is decided and
-- behind a fault. What follows a decision belongs to the protocol.
pub record ComesTo (side : Side) (input first : List ℕ) (standing : Result Answer SelectFault) (output : List ℕ)
    : Type 0 where
  pub rest : List ℕ
  pub input_is : input ≡ first ++ rest
  pub talks : Talks side first standing output
  pub all : ¬ IsDecided standing → rest ≡ []

-- Behind this input memory is refused, at the last byte of a length, which decides nothing: so want of memory hides
-- no fault and no decision.
abbrev pub RunsOut : Side → List ℕ → List ℕ → List ℕ → Type 0
RunsOut side output input piece = NegotiationRunsOut (role_of side) (names_of side) output input piece
