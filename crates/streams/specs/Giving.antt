-- What the handler of a stream gives. Inside: no public clause cites it.
use Rattle.std.specs.Prelude.{◌≡◌, ◌⊎◌, ℕ, ◌≤◌, Bool, true, false, List, [], length, Some, None}
use Rattle.handlers.specs.Calls.{HandlerCall, Give}
use Rattle.streams.specs.declared.stage.Stage.{Stage}
use Rattle.streams.specs.declared.stage.Stage.TheVariants.{Talking, Agreed, Serving, Done, Over}

module _ {H : Type 0} (step : H → HandlerCall → H → Type 0) (closed : H → Bool) where
  -- one that isn't closed is asked, and one that is closed gives nothing
  abbrev pub Gives : H → ℕ → H → List ℕ → Type 0
  Gives old room new bytes = (length bytes ≤ room)
      × (((closed old ≡ true) × (new ≡ old) × (bytes ≡ [])) ⊎ ((closed old ≡ false) × step old (Give room bytes) new))

  -- the one that a stream holds
  abbrev pub StageGives : Stage H → ℕ → Stage H → List ℕ → Type 0
  StageGives (Talking talk None) room new bytes = (new ≡ Talking talk None) × (bytes ≡ [])
  StageGives (Talking talk (Some handler)) room new bytes =
      (after : H) × (new ≡ Talking talk (Some after)) × Gives handler room after bytes
  StageGives (Agreed index) room new bytes = (new ≡ Agreed index) × (bytes ≡ [])
  StageGives (Serving handler) room new bytes = (after : H) × (new ≡ Serving after) × Gives handler room after bytes
  StageGives Done room new bytes = (new ≡ Done) × (bytes ≡ [])
  StageGives Over room new bytes = (new ≡ Over) × (bytes ≡ [])
