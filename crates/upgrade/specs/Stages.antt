-- The parts of an upgrade as they are held, and what they make of a piece.
-- Inside: public clauses cite them by the words of `State` alone.
use Rattle.std.specs.Prelude.{◌≡◌, ◌≢◌, ◌⊎◌, ℕ, ◌≤◌, List, [], ◌++◌, length, take, Option, Some, None, Result, Ok, Err}
use Rattle.peer_ids.specs.Key.{Key}
use Rattle.ms_select.specs.declared.answer.Answer.{Answer}
use Rattle.ms_select.specs.declared.answer.Answer.TheVariants as answers
use Rattle.ms_select.specs.declared.fault.SelectFault.{SelectFault}
use Rattle.ms_select.specs.declared.fault.SelectFault.TheVariants as select_faults
use Rattle.plaintext_x.specs.declared.fault.ExchangeFault.{ExchangeFault}
use Rattle.plaintext_x.specs.declared.fault.ExchangeFault.TheVariants as exchange_faults
use Rattle.plaintext_x.specs.Exchange.{message_of, Stands as ExchangeStands}
use Rattle.talks.specs.Talks.{Side, Talks, Faults, RunsOut as TalkRunsOut}
use Rattle.talks.specs.State.{Talking, Stands as TalkStands}
use Rattle.upgrade.specs.declared.role.ConnRole.{ConnRole}
use Rattle.upgrade.specs.declared.fault.UpgradeFault.{UpgradeFault}
use Rattle.upgrade.specs.declared.fault.UpgradeFault.TheVariants as faults
use Rattle.upgrade.specs.declared.stages.Stage.{Stage}
use Rattle.upgrade.specs.declared.stages.Stage.TheVariants.{Greeting, Proving, Muxing, Over}
use Rattle.upgrade.specs.declared.stages.Next.{Next}
use Rattle.upgrade.specs.declared.stages.Next.TheVariants.{Waits, Up}
use Rattle.upgrade.specs.Upgrades.{InExchange, InSecondTalk, Upgrades, RunsOut, side_of, plaintext, yamux}

-- ---- faults

-- want of memory in a talk is that of the upgrade
abbrev pub of_select : SelectFault → UpgradeFault
of_select select_faults.Failed = faults.Select select_faults.Failed
of_select select_faults.BadLength = faults.Select select_faults.BadLength
of_select select_faults.NoNewline = faults.Select select_faults.NoNewline
of_select select_faults.BadHeader = faults.Select select_faults.BadHeader
of_select select_faults.NotProposed = faults.Select select_faults.NotProposed
of_select select_faults.OutOfMemory = faults.OutOfMemory

-- and so is that of the exchange
abbrev pub of_exchange : ExchangeFault → UpgradeFault
of_exchange exchange_faults.Failed = faults.Exchange exchange_faults.Failed
of_exchange exchange_faults.TooLong = faults.Exchange exchange_faults.TooLong
of_exchange exchange_faults.Wire = faults.Exchange exchange_faults.Wire
of_exchange exchange_faults.NoId = faults.Exchange exchange_faults.NoId
of_exchange exchange_faults.NoKey = faults.Exchange exchange_faults.NoKey
of_exchange exchange_faults.BadKey = faults.Exchange exchange_faults.BadKey
of_exchange exchange_faults.Differs = faults.Exchange exchange_faults.Differs
of_exchange exchange_faults.OutOfMemory = faults.OutOfMemory

-- ---- the parts

-- A talk of this side goes on, has heard exactly this input and written this, and none of that waits in it.
pub record IsWaiting (side : Side) (talk : Talking) (input written : List ℕ) : Type 0 where
  pub side_is : talk.side ≡ side
  pub going : talk.answer ≡ Some answers.Going
  pub none_waits : talk.pending ≡ []
  pub stands : TalkStands talk input written

-- The upgrade is in this part, and has heard exactly this input and written this.
abbrev pub StandsIn : Stage → ConnRole → Key → List ℕ → List ℕ → Type 0
StandsIn (Greeting talk) role own input written = IsWaiting (side_of role plaintext) talk input written
StandsIn (Proving x) role own input written =
    (here : InExchange role own input (Ok None) written) × (x.answer ≡ Some None)
    × ExchangeStands own x here.exchange (length here.exchange) (message_of own)
StandsIn (Muxing talk key) role own input written =
    (here : InSecondTalk role own key input (Ok answers.Going) written)
    × IsWaiting (side_of role yamux) talk here.second here.talk
StandsIn Over role own input written = ⊥

-- ---- what a part makes of a piece

-- What comes of a part that stood at this input, by this piece, where this waits and this is what was written by then.
abbrev pub Leads : ConnRole → Key → List ℕ → List ℕ → Result Next UpgradeFault → List ℕ → List ℕ → Type 0
Leads role own input piece (Ok (Waits stage)) waiting written = StandsIn stage role own (input ++ piece) written
Leads role own input piece (Ok (Up left key)) waiting written =
    (first : List ℕ) × (rest : List ℕ) × (piece ≡ first ++ rest) × (left ≡ length rest)
    × Upgrades role own (input ++ first) (Ok (Some key)) written
Leads role own input piece (Err faults.OutOfMemory) waiting written = RunsOut role own input piece waiting written
Leads role own input piece (Err fault) waiting written = Upgrades role own (input ++ piece) (Err fault) written

-- Something waits, and there is no room behind it for what a talk wrote.
pub record LosesOutput (side : Side) (input piece waiting written : List ℕ) : Type 0 where
  pub waits : waiting ≢ []
  pub front : List ℕ
  pub rest : List ℕ
  pub standing : Result Answer SelectFault
  pub lost : List ℕ
  pub piece_is : piece ≡ front ++ rest
  pub talks : Talks side (input ++ front) standing (written ++ lost)
  pub some : lost ≢ []

-- What comes of a talk that stood at this input and had written this, by this piece: so many bytes of it are the talk's
-- where it agrees. What waits is this, and what it wrote by then.
abbrev pub Hears : Side → Talking → List ℕ → List ℕ → Result (Option ℕ) UpgradeFault → List ℕ → List ℕ → Type 0
Hears side talk input piece (Ok None) waiting written = IsWaiting side talk (input ++ piece) written
Hears side talk input piece (Ok (Some used)) waiting written =
    (used ≤ length piece) × ((index : ℕ) × Talks side (input ++ take used piece) (Ok (answers.Agreed index)) written)
Hears side talk input piece (Err faults.NoneLeft) waiting written =
    (first : List ℕ) × (rest : List ℕ) × (piece ≡ first ++ rest)
    × Talks side (input ++ first) (Ok answers.NoneLeft) written
Hears side talk input piece (Err (faults.Select fault)) waiting written = Faults side (input ++ piece) fault written
Hears side talk input piece (Err faults.OutOfMemory) waiting written =
    TalkRunsOut side written input piece ⊎ LosesOutput side input piece waiting written
Hears side talk input piece (Err (faults.Exchange fault)) waiting written = ⊥
Hears side talk input piece (Err faults.Failed) waiting written = ⊥
