-- How a connection comes up: a talk on plaintext, an exchange of keys, and a talk on yamux. What follows is the
-- session's.
-- Source: multistream-select 1.0, "Protocol Negotiation"; plaintext 2.0.0, "Exchange"; that the dialer asks, and that
-- an end sends its message as soon as the first talk agrees, is this project's profile.
use Rattle.std.specs.Prelude.{◌≡◌, ◌≢◌, ◌⊎◌, ℕ, List, [], ◌∷◌, ◌++◌, length, codes}
use Rattle.std.specs.Prelude.{Option, Some, None, Result, Ok, Err}
use Rattle.peer_ids.specs.Key.{Key}
use Rattle.ms_select.specs.declared.answer.Answer.{Answer}
use Rattle.ms_select.specs.declared.answer.Answer.TheVariants as answers
use Rattle.ms_select.specs.declared.fault.SelectFault.{SelectFault}
use Rattle.plaintext_x.specs.declared.fault.ExchangeFault.{ExchangeFault}
use Rattle.plaintext_x.specs.declared.fault.ExchangeFault.TheVariants as exchange_faults
use Rattle.plaintext_x.specs.Exchange.{Exchanges, message_of, RunsOut as ExchangeRunsOut}
use Rattle.talks.specs.Talks.{Side, Asks, Answers, Talks, RunsOut as TalkRunsOut}
use Rattle.upgrade.specs.declared.role.ConnRole.{ConnRole}
use Rattle.upgrade.specs.declared.role.ConnRole.TheVariants.{Dialer, Listener}
use Rattle.upgrade.specs.declared.fault.UpgradeFault.{UpgradeFault}
use Rattle.upgrade.specs.declared.fault.UpgradeFault.TheVariants.{Failed, Select, NoneLeft, Exchange, OutOfMemory}

-- the protocols of both talks, by name
abbrev pub plaintext : List ℕ
plaintext = codes "/plaintext/2.0.0"

abbrev pub yamux : List ℕ
yamux = codes "/yamux/1.0.0"

-- the side of an end in the talk on this protocol
abbrev pub side_of : ConnRole → List ℕ → Side
side_of Dialer name = Asks name 0
side_of Listener name = Answers (name ∷ [])

-- ---- the three parts, each said of exactly the bytes that it used

-- The end has heard exactly this input, and is in its first talk, which stands here and has written this.
abbrev pub InFirstTalk : ConnRole → List ℕ → Result Answer SelectFault → List ℕ → Type 0
InFirstTalk role input standing written = Talks (side_of role plaintext) input standing written

-- The first talk has agreed, and the end has sent its message; by the rest of this input the exchange comes to this.
pub record InExchange (role : ConnRole) (own : Key) (input : List ℕ) (outcome : Result (Option Key) ExchangeFault)
    (written : List ℕ) : Type 0 where
  pub first : List ℕ
  pub exchange : List ℕ
  pub index : ℕ
  pub talk : List ℕ
  pub input_is : input ≡ first ++ exchange
  pub agrees : InFirstTalk role first (Ok (answers.Agreed index)) talk
  pub exchanges : Exchanges exchange outcome (length exchange)
  pub written_is : written ≡ talk ++ message_of own

-- The other end has proven this key, and by the rest of this input the second talk stands here.
pub record InSecondTalk (role : ConnRole) (own key : Key) (input : List ℕ) (standing : Result Answer SelectFault)
    (written : List ℕ) : Type 0 where
  pub before : List ℕ
  pub second : List ℕ
  pub written_before : List ℕ
  pub talk : List ℕ
  pub input_is : input ≡ before ++ second
  pub proven : InExchange role own before (Ok (Some key)) written_before
  pub talks : Talks (side_of role yamux) second standing talk
  pub written_is : written ≡ written_before ++ talk

-- one of both talks stands here
abbrev pub InTalk : ConnRole → Key → List ℕ → Result Answer SelectFault → List ℕ → Type 0
InTalk role own input standing written =
    InFirstTalk role input standing written ⊎ ((key : Key) × InSecondTalk role own key input standing written)

-- ---- the whole

-- An end with the key `own` that has heard exactly this input has come to this, and has written this.
abbrev pub Upgrades : ConnRole → Key → List ℕ → Result (Option Key) UpgradeFault → List ℕ → Type 0
-- more bytes are needed
Upgrades role own input (Ok None) written =
    InTalk role own input (Ok answers.Going) written ⊎ InExchange role own input (Ok None) written
-- the connection is up, with the end that has proven this key
Upgrades role own input (Ok (Some key)) written =
    (index : ℕ) × InSecondTalk role own key input (Ok (answers.Agreed index)) written
Upgrades role own input (Err (Select fault)) written = InTalk role own input (Err fault) written
-- a front of the input says that the other end doesn't know the protocol
Upgrades role own input (Err NoneLeft) written =
    (front : List ℕ) × (rest : List ℕ) × (input ≡ front ++ rest) × InTalk role own front (Ok answers.NoneLeft) written
Upgrades role own input (Err (Exchange fault)) written =
    (fault ≢ exchange_faults.OutOfMemory) × InExchange role own input (Err fault) written
Upgrades role own input (Err Failed) written = ⊥
Upgrades role own input (Err OutOfMemory) written = ⊥

abbrev pub IsUp : Result (Option Key) UpgradeFault → Type 0
IsUp (Ok None) = ⊥
IsUp (Ok (Some key)) = Unit {0}
IsUp (Err fault) = ⊥

-- What an end comes to by this whole input: this front of it is the upgrade's, all of it where the connection isn't up.
-- What follows belongs to the session.
pub record ComesTo (role : ConnRole) (own : Key) (input first : List ℕ) (outcome : Result (Option Key) UpgradeFault)
    (written : List ℕ) : Type 0 where
  pub rest : List ℕ
  pub input_is : input ≡ first ++ rest
  pub upgrades : Upgrades role own first outcome written
  pub all : ¬ IsUp outcome → rest ≡ []

-- ---- want of memory

-- what was written by then stands at the front of what is written now
abbrev pub Grows : List ℕ → List ℕ → Type 0
Grows old new = (more : List ℕ) × (new ≡ old ++ more)

-- Something waits, and there is no room behind it for these bytes, which belong behind what is kept of the output, and
-- which the end writes by a front of this piece.
pub record HasNoRoom (role : ConnRole) (own : Key) (input piece waiting kept : List ℕ) : Type 0 where
  pub front : List ℕ
  pub rest : List ℕ
  pub outcome : Result (Option Key) UpgradeFault
  pub lost : List ℕ
  pub waits : waiting ≢ []
  pub piece_is : piece ≡ front ++ rest
  pub upgrades : Upgrades role own (input ++ front) outcome (kept ++ lost)
  pub some : lost ≢ []

-- Memory is refused to the part that begins behind a front of this piece: to the exchange, where the first talk agrees
-- by it, or to the second talk, where a key is proven by it. All that was written before it is kept.
pub record BeginsNoPart (role : ConnRole) (own : Key) (input piece kept : List ℕ) : Type 0 where
  pub front : List ℕ
  pub rest : List ℕ
  pub piece_is : piece ≡ front ++ rest
  pub before : ((index : ℕ) × InFirstTalk role (input ++ front) (Ok (answers.Agreed index)) kept)
      ⊎ ((key : Key) × InExchange role own (input ++ front) (Ok (Some key)) kept)

-- A part of the upgrade runs out of memory, which has taken the rest of this piece.
pub record FirstTalkRunsOut (role : ConnRole) (input piece written : List ℕ) : Type 0 where
  pub front : List ℕ
  pub rest : List ℕ
  pub piece_is : piece ≡ front ++ rest
  pub runs_out : TalkRunsOut (side_of role plaintext) written (input ++ front) rest

pub record ExchangeRunsOutIn (role : ConnRole) (own : Key) (input piece written : List ℕ) : Type 0 where
  pub front : List ℕ
  pub rest : List ℕ
  pub piece_is : piece ≡ front ++ rest
  pub before : InExchange role own (input ++ front) (Ok None) written
  pub runs_out : ExchangeRunsOut before.exchange rest

pub record SecondTalkRunsOut (role : ConnRole) (own : Key) (input piece written : List ℕ) : Type 0 where
  pub front : List ℕ
  pub rest : List ℕ
  pub piece_is : piece ≡ front ++ rest
  pub key : Key
  pub written_before : List ℕ
  pub before : InSecondTalk role own key (input ++ front) (Ok answers.Going) written_before
  pub talk : List ℕ
  pub runs_out : TalkRunsOut (side_of role yamux) talk before.second rest
  pub written_is : written ≡ before.written_before ++ talk

-- Why memory is refused on the way through this piece behind this input, where this waits, and this is kept of the
-- output.
abbrev pub RunsOut : ConnRole → Key → List ℕ → List ℕ → List ℕ → List ℕ → Type 0
RunsOut role own input piece waiting kept =
    HasNoRoom role own input piece waiting kept
    ⊎ (BeginsNoPart role own input piece kept
    ⊎ (FirstTalkRunsOut role input piece kept
    ⊎ (ExchangeRunsOutIn role own input piece kept ⊎ SecondTalkRunsOut role own input piece kept)))
