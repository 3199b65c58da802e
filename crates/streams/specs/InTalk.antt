-- What the talk of a stream makes of a piece. Inside: no public clause cites it.
use Rattle.std.specs.Prelude.{◌≡◌, ◌≢◌, ◌⊎◌, ℕ, List, [], ◌++◌, Option, Result, Ok, Err}
use Rattle.ms_select.specs.declared.answer.Answer.{Answer}
use Rattle.ms_select.specs.declared.answer.Answer.TheVariants as answers
use Rattle.talks.specs.Talks.{Side, RunsOut as TalkRunsOut}
use Rattle.talks.specs.State.{Talking}
use Rattle.streams.specs.declared.heard.Heard.{Heard}
use Rattle.streams.specs.declared.heard.Heard.TheVariants.{Going, Agreed, Refused}
use Rattle.streams.specs.declared.stop.Stop.{Stop}
use Rattle.streams.specs.declared.stop.Stop.TheVariants.{OutOfMemory}
use Rattle.streams.specs.declared.stage.Stage.{Stage}
use Rattle.streams.specs.declared.stage.Stage.TheVariants as stages
use Rattle.streams.specs.Streams.{IsGoing}
use Rattle.streams.specs.Hearing.{Hears, HasNoRoom, served}

-- what a stream tells where its talk answers this, by so many bytes of the piece
abbrev pub heard_by : Answer → ℕ → Heard
heard_by answers.Going used = Going
heard_by (answers.Agreed index) used = Agreed index used
heard_by answers.NoneLeft used = Refused

-- A talk that stood at this data, and had written this, has taken the piece; what waits was the one and is the other.
pub record TalkHears (side : Side) (talk : Talking) (got output waiting piece : List ℕ) (result : Result Heard Stop)
    (now : List ℕ) : Type 0 where
  pub more : List ℕ
  pub now_is : now ≡ waiting ++ more
  pub hears : result ≢ Err OutOfMemory → Hears side got piece result (output ++ more)
  pub goes_on : result ≡ Ok Going → IsGoing side talk (got ++ piece) (output ++ more)
  pub runs_out : result ≡ Err OutOfMemory
      → TalkRunsOut side (output ++ more) got piece ⊎ (HasNoRoom side got piece waiting × (more ≡ []))

-- where the stream is then
abbrev pub stage_by : {H : Type 0} → Heard → Talking → Option H → Stage H
stage_by Going talk handler = stages.Talking talk handler
stage_by (Agreed index used) talk handler = served index handler
stage_by Refused talk handler = stages.Over
