use Rattle.std.proofs.Common.{◌≡◌, ◌≢◌, inl, inr, ℕ, ◌<◌, ◌∷◌, Some, refl, subst}
use Rattle.std.proofs.lemmas.Result.{IfErr-weaker}
use Rattle.yamux_session.specs.declared.event.ActRefused.{ActRefused}
use Rattle.yamux_session.specs.History.Item.{Did}
use Rattle.yamux_session.specs.History.Act.{Taken}
use Rattle.yamux_session.specs.Windows.{given_back}
use Rattle.yamux_session.specs.Acts.{open_credit, stream_refusal, IsRefusedFor}
use Rattle.yamux_session.specs.State.{Stands as SessionStands}
use Rattle.streams.specs.declared.stop.Stop.{Stop}
use Rattle.serving.proofs.Refusals.{all_of, is_live_by, not_live, for_memory}
use Rattle.serving.proofs.Sending.{on_ok, on_err}
use Rattle.serving.proofs.serving.count_taken.Goals as goal
use Rattle.serving.proofs.serving.count_taken.Goals.{else-not-is_left-via-then-not-is_left+else-not-may_take, else-not-is_left-via-else-not-is_left}

pub returns-then-not-may_take-clause-counts : goal.returns-then-not-may_take-clause-counts
returns-then-not-may_take-clause-counts c = λ role past fed sent at left. inl (refl, inl (c.if-not-may_take.ensures.not_due role past fed sent at refl))

pub returns-in-Ok-clause-counts : goal.returns-in-Ok-clause-counts
returns-in-Ok-clause-counts c = λ role past fed sent at left.
    let all = all_of (c.untaken_limit.ensures role past c.args.number at.answered at.no_fault at.frames.reads.frames_are) in
    let stands = subst (λ (k : ℕ). SessionStands role (Did (Taken c.args.number k) ∷ past) fed sent c.taken.new.self) all (c.in-Ok.ensures.ok role past fed sent at) in
    let due : open_credit role past c.args.number ≢ Some 0 = elim c.else-not-is_left.branch [
      | else-not-is_left-via-then-not-is_left+else-not-may_take w ↦ w.if-not-may_take.ensures.due role past fed sent at refl
      | else-not-is_left-via-else-not-is_left w ↦ left w.if-not-is_left.false
    ] in
    inr (due, is_live_by role past c.args.number stands.answered.0.0, stands)

pub returns-in-Err-clause-counts : goal.returns-in-Err-clause-counts
returns-in-Err-clause-counts c = λ role past fed sent at left.
    on_ok c.unless_gone.result
    (λ gone. inl (
      c.in-Err.ensures.err,
      inr (not_live role past c.args.number
          (subst (λ (r : ActRefused). IsRefusedFor (stream_refusal role past c.args.number) r) gone (c.in-Err.ensures.refused role past fed sent at))),
    ))
    c.unless_gone.ensures.gone

pub returns-in-Err-clause-memory : goal.returns-in-Err-clause-memory
returns-in-Err-clause-memory c =
    IfErr-weaker c.unless_gone.result
    (λ stop. (stop ≡ Stop.OutOfMemory) × (c.in-Err.refused ≢ ActRefused.NoStream))
    _
    (λ stop why. (
      why.0,
      λ role past fed sent at.
          let all = all_of (c.untaken_limit.ensures role past c.args.number at.answered at.no_fault at.frames.reads.frames_are) in
          let m = for_memory role past c.args.number c.in-Err.refused (c.in-Err.ensures.refused role past fed sent at) why.1 in
          (m.1, inr (subst (λ (k : ℕ). 0 < given_back role c.args.number past (Did (Taken c.args.number k))) all (c.in-Err.ensures.memory m.0 role past fed sent at))),
    ))
    c.unless_gone.ensures.why

pub returns-in-Err-clause-runs_out : goal.returns-in-Err-clause-runs_out
returns-in-Err-clause-runs_out c =
    on_err c.unless_gone.result c.unless_gone.ensures.why (λ stop why role past fed sent at left.
    let all = all_of (c.untaken_limit.ensures role past c.args.number at.answered at.no_fault at.frames.reads.frames_are) in
    let m = for_memory role past c.args.number c.in-Err.refused (c.in-Err.ensures.refused role past fed sent at) why.1 in
    let due : open_credit role past c.args.number ≢ Some 0 = elim c.else-not-is_left.branch [
      | else-not-is_left-via-then-not-is_left+else-not-may_take w ↦ w.if-not-may_take.ensures.due role past fed sent at refl
      | else-not-is_left-via-else-not-is_left w ↦ left w.if-not-is_left.false
    ] in (
      c.in-Err.ensures.err,
      due,
      m.1,
      subst (λ (k : ℕ). 0 < given_back role c.args.number past (Did (Taken c.args.number k))) all (c.in-Err.ensures.memory m.0 role past fed sent at),
      c.in-Err.ensures.room m.0,
    ))
