-- The laws of a link, of a pipe: this project's profile.
use Rattle.std.specs.Prelude.{◌≡◌, refl, ℕ, List, [], ◌∷◌, ◌++◌}
use Rattle.std.proofs.Common.{◌∙◌, ap, sym, subst, append_assoc}
use Rattle.std.proofs.lemmas.List.{append-nil}
use Rattle.conn_link.specs.Moving.{MovesNothing, MovesOn, StaysEnded, StaysShut}
use Rattle.conn_link.specs.declared.step.PipeStep.{PipeStep}
use Rattle.conn_link.specs.Calling.{Call, CallsNone, CallsOn}
use Rattle.conn_link.specs.Piping.{PipeMoves, PipeCalls, GoesBy, HasEnded, IsShut, reads_left, writes_left}

pub none_moved : MovesNothing PipeMoves
none_moved pipe = (refl, sym (append-nil pipe.written), λ is. is, λ is. is)

pub moved_on : MovesOn PipeMoves
moved_on first mid last given taken given_next taken_next before behind = (
  before.0 ∙ ap (λ rest. given ++ rest) behind.0 ∙ sym (append_assoc given given_next last.unread),
  behind.1 ∙ ap (λ all. all ++ taken_next) before.1 ∙ append_assoc first.written taken taken_next,
  λ is. behind.2 (before.2 is),
  λ is. behind.3 (before.3 is),
)

pub none_called : CallsNone PipeCalls
none_called pipe = (refl, refl)

goes_on : (reads writes reads_mid writes_mid reads_last writes_last : List PipeStep) (log next : List Call)
    → GoesBy reads writes log reads_mid writes_mid → GoesBy reads_mid writes_mid next reads_last writes_last
    → GoesBy reads writes (log ++ next) reads_last writes_last
goes_on reads writes reads_mid writes_mid reads_last writes_last [] next by behind =
    subst (λ (l : List PipeStep). GoesBy l writes next reads_last writes_last) (sym by.0)
    (subst (λ (l : List PipeStep). GoesBy reads_mid l next reads_last writes_last) (sym by.1) behind)
goes_on reads writes reads_mid writes_mid reads_last writes_last (call ∷ log) next by behind = (
  by.0,
  by.1,
  goes_on (reads_left call.kind reads) (writes_left call.kind writes) reads_mid writes_mid reads_last writes_last log
      next by.2 behind,
)

pub called_on : CallsOn PipeCalls
called_on first mid last log next before behind =
    goes_on first.reads first.writes mid.reads mid.writes last.reads last.writes log next before behind

abbrev HasNone : List ℕ → Type 0
HasNone [] = Unit {0}
HasNone (byte ∷ bytes) = ⊥

-- where nothing is left, nothing was in front of it
both_none : (given rest : List ℕ) → [] ≡ given ++ rest → (given ≡ []) × (rest ≡ [])
both_none [] rest none = (refl, sym none)
both_none (byte ∷ given) rest none = absurd (subst HasNone none tt)

pub ended_stays : StaysEnded PipeMoves HasEnded
ended_stays first last given taken moved ended =
    let none = both_none given last.unread (sym ended.1 ∙ moved.0) in (none.0, (moved.2 ended.0, none.1))

pub shut_stays : StaysShut PipeMoves IsShut
shut_stays first last given taken moved is = moved.3 is
