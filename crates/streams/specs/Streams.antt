-- A stream of a connection: a talk that settles its protocol, and then the handler of that protocol.
-- Source: multistream-select 1.0, "Protocol Negotiation"; libp2p connections, "Opening new streams over a connection";
-- that the end that opens a stream may send before the other has answered is this project's profile.
use Rattle.std.specs.Prelude.{◌≡◌, ℕ, Bool, true, false, List, [], ◌∷◌, ◌++◌, Option, Some, None}
use Rattle.ms_select.specs.declared.answer.Answer.TheVariants.{Going}
use Rattle.handlers.specs.Calls.{HandlerCall}
use Rattle.talks.specs.Talks.{Side, Asks, Answers, Agrees}
use Rattle.talks.specs.State.{Talking, Stands as TalkStands}
use Rattle.streams.specs.Handled.{Handled}

-- What came to a stream since it began, and what was done with it.
pub record Past (H : Type 0) : Type 0 where
  -- its side in the talk
  pub side : Side
  -- the data that came
  pub got : List ℕ
  -- the end of the data came
  pub ended : Bool
  -- what was given out to be sent
  pub sent : List ℕ
  -- its handler as it was made
  pub made : Option H
  -- the calls that it answered, in order
  pub calls : List HandlerCall
  -- where the handler was asked for bytes last: how much room it left
  pub left : Option ℕ

-- nothing has come to it yet
abbrev pub fresh : {H : Type 0} → Side → Option H → Past H
fresh side made = record { side = side; got = []; ended = false; sent = []; made = made; calls = []; left = None }

-- one call more, where there was one
abbrev pub and_call : List HandlerCall → Option HandlerCall → List HandlerCall
and_call calls None = calls
and_call calls (Some call) = calls ++ call ∷ []

abbrev pub with_call : {H : Type 0} → Past H → Option HandlerCall → Past H
with_call past call = record past { calls = and_call past.calls call }

-- ---- the talk

-- Nothing is decided: a talk of this side has heard exactly this input and written this, none of which waits in it.
pub record IsGoing (side : Side) (talk : Talking) (input output : List ℕ) : Type 0 where
  pub side_is : talk.side ≡ side
  pub going : talk.answer ≡ Some Going
  pub none_waits : talk.pending ≡ []
  pub stands : TalkStands talk input output

-- it is the end that opened the stream
abbrev pub IsAsking : Side → Type 0
IsAsking (Asks name index) = Unit {0}
IsAsking (Answers names) = ⊥

-- Both ends agree on the protocol of this index, by the data before this rest. All that the talk wrote, and behind it
-- what the handler gave, was sent or waits.
pub record HasAgreed {H : Type 0} (past : Past H) (index : ℕ) (rest gave waiting : List ℕ) : Type 0 where
  pub first : List ℕ
  pub output : List ℕ
  pub got_is : past.got ≡ first ++ rest
  pub agrees : Agrees past.side first index output
  pub sent_is : past.sent ++ waiting ≡ output ++ gave

-- Both ends agree by all that came, and no handler was made yet.
pub record AwaitsHandler {H : Type 0} (past : Past H) (index : ℕ) (waiting : List ℕ) : Type 0 where
  pub agreed : HasAgreed past index [] [] waiting
  pub none_made : past.made ≡ None
  pub none_asked : past.left ≡ None
  pub none_called : past.calls ≡ []
  pub not_ended : past.ended ≡ false

-- ---- the handler

module _ {H : Type 0} (step : H → HandlerCall → H → Type 0) where
  -- Before the talk agrees there is no handler, or that of an eager protocol, at the end that opened the stream: it was
  -- handed nothing, and gave this.
  abbrev pub IsEarly : Past H → Option H → List ℕ → Type 0
  IsEarly past None gave = (past.made ≡ None) × (past.left ≡ None) × (gave ≡ []) × (past.calls ≡ [])
  IsEarly past (Some handler) gave =
      IsAsking past.side
      × ((made : H) × (past.made ≡ Some made) × Handled step made past.calls [] false gave past.left handler)

  -- Nothing is decided. All that the talk wrote, and behind it what an eager handler gave, was sent or waits.
  pub record IsTalking (past : Past H) (talk : Talking) (handler : Option H) (waiting : List ℕ) : Type 0 where
    pub output : List ℕ
    pub gave : List ℕ
    pub going : IsGoing past.side talk past.got output
    pub early : IsEarly past handler gave
    pub sent_is : past.sent ++ waiting ≡ output ++ gave
    pub not_ended : past.ended ≡ false

  -- The handler was handed all data behind the talk, and the end where it came.
  pub record IsServed (past : Past H) (handler : H) (waiting : List ℕ) : Type 0 where
    pub index : ℕ
    pub rest : List ℕ
    pub gave : List ℕ
    pub made : H
    pub agreed : HasAgreed past index rest gave waiting
    pub made_is : past.made ≡ Some made
    pub handled : Handled step made past.calls rest past.ended gave past.left handler

  -- The handler was handed out: it had been handed a front of the data behind the talk, and all of it where the end was
  -- said.
  pub record IsDone (past : Past H) (waiting : List ℕ) : Type 0 where
    pub index : ℕ
    pub front : List ℕ
    pub rest : List ℕ
    pub gave : List ℕ
    pub made : H
    pub handler : H
    pub said : Bool
    pub agreed : HasAgreed past index (front ++ rest) gave waiting
    pub made_is : past.made ≡ Some made
    pub handled : Handled step made past.calls front said gave None handler
    pub end_came : said ≡ true → (past.ended ≡ true) × (rest ≡ [])
