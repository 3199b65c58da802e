-- What the kind of a stage says of it.
use Rattle.std.proofs.Common.{◌≡◌, Bool, true, false, refl, sym, ap, ◌∙◌}
use Rattle.streams.specs.declared.stage.Stage.{Stage}
use Rattle.streams.specs.declared.stage.Stage.TheVariants as stages
use Rattle.streams.specs.State.{Kind, InTalk, Awaiting, Served, HandedOut, Ended, kind_of, is_talking, awaits_handler, was_handed_out}

talks : Kind → Bool
talks InTalk = true
talks Awaiting = false
talks Served = false
talks HandedOut = false
talks Ended = false

awaits : Kind → Bool
awaits InTalk = false
awaits Awaiting = true
awaits Served = false
awaits HandedOut = false
awaits Ended = false

handed : Kind → Bool
handed InTalk = false
handed Awaiting = false
handed Served = false
handed HandedOut = true
handed Ended = false

module _ {H : Type 0} where
  talks_of : (stage : Stage H) → is_talking stage ≡ talks (kind_of stage)
  unfolding talks
  talks_of (stages.Talking talk handler) = refl
  talks_of (stages.Agreed index) = refl
  talks_of (stages.Serving handler) = refl
  talks_of stages.Done = refl
  talks_of stages.Over = refl

  awaits_of : (stage : Stage H) → awaits_handler stage ≡ awaits (kind_of stage)
  unfolding awaits
  awaits_of (stages.Talking talk handler) = refl
  awaits_of (stages.Agreed index) = refl
  awaits_of (stages.Serving handler) = refl
  awaits_of stages.Done = refl
  awaits_of stages.Over = refl

  handed_of : (stage : Stage H) → was_handed_out stage ≡ handed (kind_of stage)
  unfolding handed
  handed_of (stages.Talking talk handler) = refl
  handed_of (stages.Agreed index) = refl
  handed_of (stages.Serving handler) = refl
  handed_of stages.Done = refl
  handed_of stages.Over = refl

  pub same_talking : (a b : Stage H) → kind_of a ≡ kind_of b → is_talking a ≡ is_talking b
  same_talking a b e = talks_of a ∙ ap talks e ∙ sym (talks_of b)

  pub same_awaiting : (a b : Stage H) → kind_of a ≡ kind_of b → awaits_handler a ≡ awaits_handler b
  same_awaiting a b e = awaits_of a ∙ ap awaits e ∙ sym (awaits_of b)

  pub same_handed : (a b : Stage H) → kind_of a ≡ kind_of b → was_handed_out a ≡ was_handed_out b
  same_handed a b e = handed_of a ∙ ap handed e ∙ sym (handed_of b)

  -- a stream that its handler serves
  pub served_talking : (a : Stage H) → kind_of a ≡ Served → is_talking a ≡ false
  unfolding talks
  served_talking a e = talks_of a ∙ ap talks e

  pub served_handed : (a : Stage H) → kind_of a ≡ Served → was_handed_out a ≡ false
  unfolding handed
  served_handed a e = handed_of a ∙ ap handed e

  pub talking_kind : (a : Stage H) → is_talking a ≡ true → was_handed_out a ≡ false
  talking_kind (stages.Talking talk handler) e = refl
  talking_kind (stages.Agreed index) e = refl
  talking_kind (stages.Serving handler) e = refl
  talking_kind stages.Done e = absurd (cc e)
  talking_kind stages.Over e = refl

  pub talking_awaits : (a : Stage H) → is_talking a ≡ true → awaits_handler a ≡ false
  talking_awaits (stages.Talking talk handler) e = refl
  talking_awaits (stages.Agreed index) e = absurd (cc e)
  talking_awaits (stages.Serving handler) e = refl
  talking_awaits stages.Done e = refl
  talking_awaits stages.Over e = refl

  pub served_awaits : (a : Stage H) → kind_of a ≡ Served → awaits_handler a ≡ false
  unfolding awaits
  served_awaits a e = awaits_of a ∙ ap awaits e
