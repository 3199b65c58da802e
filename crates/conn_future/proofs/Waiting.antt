-- At which sources a poll has registered.
use Rattle.std.proofs.Common.{◌≡◌, inl, inr, ℕ, true, List, [], sym, subst}
use Rattle.futures.specs.declared.task.context.Context.{Context}
use Rattle.futures.specs.Task.{Covers, Hears, Keeps, Lasting}
use Rattle.conn_link.specs.Moving.{Within}
use Rattle.conn_future.specs.declared.turns.Waits.{Waits}
use Rattle.conn_future.specs.declared.stage.Stage.{Stage}
use Rattle.conn_future.specs.declared.stage.Stage.TheVariants.{Shutting}
use Rattle.conn_future.specs.Stages.{WaitsAt}
use Rattle.conn_future.specs.Turning.{HasWaited}

-- what was registered stays so, where no source has come up
pub covers_on : (old new : Context) (before after : ℕ → Type 0) → Keeps old new → Within after before → Covers old before → Covers new after
covers_on old new before after kept within covers =
    (kept Lasting.armed covers.0, λ source needs. kept (Lasting.hears source) (covers.1 source (within source needs)))

-- a call that reads leaves the writes alone
pub waits_read : (waits next : Waits) (old new : Context) (reads reads_next writes writes_next : ℕ → Type 0)
    → next.writing ≡ waits.writing → (next.reading ≡ true → Covers new reads_next) → Keeps old new → Within writes_next writes
    → HasWaited waits old reads writes → HasWaited next new reads_next writes_next
waits_read waits next old new reads reads_next writes writes_next same registered kept within waited = record {
  reading = registered;
  writing = λ is. covers_on old new writes writes_next kept within (waited.writing (cc (is, same)));
}

-- and the other way round
pub waits_write : (waits next : Waits) (old new : Context) (reads reads_next writes writes_next : ℕ → Type 0)
    → next.reading ≡ waits.reading → (next.writing ≡ true → Covers new writes_next) → Keeps old new → Within reads_next reads
    → HasWaited waits old reads writes → HasWaited next new reads_next writes_next
waits_write waits next old new reads reads_next writes writes_next same registered kept within waited = record {
  reading = λ is. covers_on old new reads reads_next kept within (waited.reading (cc (is, same)));
  writing = registered;
}

-- ---- it waits at each source that the stage names

shutting_hears : (cx : Context) (reads writes shuts : ℕ → Type 0) (unsent : List ℕ) → unsent ≡ [] → Covers cx shuts
    → (source : ℕ) → WaitsAt reads writes shuts Shutting unsent source → Hears cx source
shutting_hears cx reads writes shuts unsent none shut source (inl writing) = absurd (writing.0 none)
shutting_hears cx reads writes shuts unsent none shut source (inr shutting) = shut.1 source shutting.1

-- and with none
pub shutting_covers : (cx : Context) (reads writes shuts : ℕ → Type 0) (unsent : List ℕ) → unsent ≡ [] → Covers cx shuts
    → Covers cx (WaitsAt reads writes shuts Shutting unsent)
shutting_covers cx reads writes shuts unsent none shut = (shut.0, shutting_hears cx reads writes shuts unsent none shut)

-- at its stage, where nothing else is left to do
pub closing_covers : (cx : Context) (reads writes shuts : ℕ → Type 0) (stage : Stage) (unsent : List ℕ) → stage ≡ Shutting → unsent ≡ [] → Covers cx shuts
    → Covers cx (WaitsAt reads writes shuts stage unsent)
closing_covers cx reads writes shuts stage unsent is none shut =
    subst (λ (s : Stage). Covers cx (WaitsAt reads writes shuts s unsent)) (sym is) (shutting_covers cx reads writes shuts unsent none shut)
