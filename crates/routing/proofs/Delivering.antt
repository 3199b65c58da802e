-- What a stream came to, by the answers of the calls below.
use Rattle.std.proofs.Common.{◌≡◌, ◌⊎◌, inl, inr, ◌||◌, ℕ, Bool, true, false, List, Some, Result, Ok, Err, refl, sym, ap, ◌∙◌, subst, take, drop}
use Rattle.std.specs.Prelude.{IfOk, OnErr}
use Rattle.handlers.specs.Calls.{HandlerCall, Asked}
use Rattle.handlers.specs.declared.handler.HandlerFault.{HandlerFault}
use Rattle.streams.specs.declared.stop.Cause.{Cause}
use Rattle.streams.specs.declared.stop.Cause.TheVariants as causes
use Rattle.streams.specs.declared.stop.Stop.{Stop}
use Rattle.streams.specs.declared.stop.Stop.TheVariants as stops
use Rattle.streams.specs.declared.stage.Stage.{Stage}
use Rattle.streams.specs.declared.stage.Stage.TheVariants as stages
use Rattle.streams.specs.Streams.{Past}
use Rattle.streams.specs.State.{Streaming, Stands, StandsAt, is_talking, is_over, handler_of, awaits_handler, kind_of}
use Rattle.streams.specs.Stops.{FailsBy}
use Rattle.yamux_session.specs.declared.event.Role.{Role}
use Rattle.yamux_session.specs.History.{Item}
use Rattle.yamux_session.specs.State.{State, Stands as SessionStands}
use Rattle.serving.specs.Served.{AnswersCall}
use Rattle.streams.specs.declared.heard.Heard.TheVariants.{Agreed}
use Rattle.dispatch.specs.Dispatch.{Negotiates}
use Rattle.routing.specs.Routing.{HasAgreed}
use Rattle.routing.specs.declared.delivered.Outcome.{Outcome}
use Rattle.routing.specs.declared.delivered.Outcome.TheVariants as outcomes

-- ---- an answer

pub answered : {A E : Type 0} (P Q : A → Type 0) (r : Result A E) → ((d : A) → P d → Q d) → IfOk r P → IfOk r Q
answered P Q (Ok d) f p = f d p
answered P Q (Err e) f p = tt

-- a stream that stops is given up
pub broken : {H E : Type 0} (stop : Stop) (Q : Outcome H → Type 0) (r : Result (Outcome H) E)
    → IfOk r (λ outcome. (cause : Cause) × (stop ≡ stops.Broken cause) × (outcome ≡ outcomes.Broken cause)) → ((why : Cause) → stop ≡ stops.Broken why → Q (outcomes.Broken why))
    → IfOk r Q
broken stop Q (Ok outcome) p f = subst Q (sym p.2) (f p.0 p.1)
broken stop Q (Err e) p f = tt

-- where the stop is want of memory, and only there, memory is wanting
pub ran_out : {A E P : Type 0} (stop : Stop) (r : Result A E) → OnErr r (stop ≡ stops.OutOfMemory) → (stop ≡ stops.OutOfMemory → P) → OnErr r P
ran_out stop (Ok a) is f = tt
ran_out stop (Err e) is f = f is

-- a stop that says a cause isn't want of memory
pub no_memory : {stop : Stop} {cause : Cause} → stop ≡ stops.Broken cause → stop ≡ stops.OutOfMemory → ⊥
no_memory is e = absurd (let b = sym is ∙ e in cc b)

pub same_cause : {a b : Cause} → stops.Broken a ≡ stops.Broken b → a ≡ b
same_cause e = cc e

-- ---- where a stream is that takes data for its handler

module _ {H : Type 0} (step : H → HandlerCall → H → Type 0) where
  quiet_at : (stage : Stage H) (so_far : Past H) (waiting : List ℕ) → StandsAt step stage so_far waiting → is_talking stage ≡ false → awaits_handler stage ≡ false
      → ((handler : H) × (stage ≡ stages.Serving handler)) ⊎ (stage ≡ stages.Done)
  quiet_at (stages.Talking talk handler) so_far waiting s quiet settled = absurd (cc quiet)
  quiet_at (stages.Agreed index) so_far waiting s quiet settled = absurd (cc settled)
  quiet_at (stages.Serving handler) so_far waiting s quiet settled = inl (handler, refl)
  quiet_at stages.Done so_far waiting s quiet settled = inr refl
  quiet_at stages.Over so_far waiting s quiet settled = absurd s

  -- its handler serves it, or was handed out
  pub quiet : (x : Streaming H) (so_far : Past H) → Stands step x so_far → is_talking x.stage ≡ false → awaits_handler x.stage ≡ false
      → ((handler : H) × (x.stage ≡ stages.Serving handler)) ⊎ (x.stage ≡ stages.Done)
  quiet x so_far s talks awaits = quiet_at x.stage so_far x.waiting s talks awaits

  serves_by : (stage : Stage H) → is_talking stage ≡ false → (handler : H) → handler_of stage ≡ Some handler → stage ≡ stages.Serving handler
  serves_by (stages.Talking talk it) quiet handler held = absurd (cc quiet)
  serves_by (stages.Agreed index) quiet handler held = absurd (cc held)
  serves_by (stages.Serving it) quiet handler held = cc held
  serves_by stages.Done quiet handler held = absurd (cc held)
  serves_by stages.Over quiet handler held = absurd (cc held)

  -- and answers the call
  pub answers_by : (call : HandlerCall) (old new : Stage H) → is_talking old ≡ false
      → ((handler : H) → old ≡ stages.Serving handler → (after : H) × (new ≡ stages.Serving after) × step handler call after) → AnswersCall step old call
  answers_by call old new talks steps handler held = let it = steps handler (serves_by old talks handler held) in (it.0, it.2)

  -- and is held on
  pub goes_by : (call : HandlerCall) (old new : Stage H) → is_talking old ≡ false
      → ((handler : H) → old ≡ stages.Serving handler → (after : H) × (new ≡ stages.Serving after) × step handler call after)
      → (handler : H) → handler_of old ≡ Some handler → (after : H) × (handler_of new ≡ Some after) × step handler call after
  goes_by call old new talks steps handler held = let it = steps handler (serves_by old talks handler held) in (it.0, ap handler_of it.1, it.2)

abbrev broken_by : {H : Type 0} → Cause → Outcome H
broken_by why = outcomes.Broken why

-- the handler failed at what it was asked
pub handler_failed : {H : Type 0} (fails : H → Asked → ℕ → Type 0) (asked : Asked) (old : Streaming H) (stop : Stop) (why : Cause) → stop ≡ stops.Broken why
    → ((handler : H) → old.stage ≡ stages.Serving handler → FailsBy fails handler asked stop) → (old.stage ≡ stages.Done → ⊥)
    → ((handler : H) × (old.stage ≡ stages.Serving handler)) ⊎ (old.stage ≡ stages.Done)
    → (handler : H) × (fault : HandlerFault) × (old.stage ≡ stages.Serving handler) × fails handler asked fault.number × (broken_by {H = H} why ≡ outcomes.Broken (causes.Handler fault))
handler_failed fails asked old stop why is by_handler not_done (inl serves) =
    let f = by_handler serves.0 serves.1 in
    (serves.0, f.0, serves.1, f.2, ap outcomes.Broken (same_cause (sym is ∙ f.1)))
handler_failed fails asked old stop why is by_handler not_done (inr done) = absurd (not_done done)

-- a stream whose handler served it, or was handed out, is over where its handler failed
pub over_by : {H : Type 0} (old new : Stage H) → ((handler : H) → old ≡ stages.Serving handler → new ≡ stages.Over) → (old ≡ stages.Done → ⊥)
    → ((handler : H) × (old ≡ stages.Serving handler)) ⊎ (old ≡ stages.Done) → new ≡ stages.Over
over_by old new by_handler not_done (inl serves) = by_handler serves.0 serves.1
over_by old new by_handler not_done (inr done) = absurd (not_done done)

-- an answer that names a cause
abbrev stopping : {A : Type 0} → Stop → Result A Stop
stopping stop = Err stop

pub stop_is : {A : Type 0} {stop : Stop} {why : Cause} → stopping {A = A} stop ≡ stopping (stops.Broken why) → stop ≡ stops.Broken why
stop_is e = cc e

pub same_stop : {A : Type 0} {stop : Stop} {why : Cause} → stopping {A = A} stop ≡ stopping (stops.Broken why) → (cause : Cause) × (stop ≡ stops.Broken cause)
same_stop {why = why} e = (why, cc e)

-- No handler that is told something, and no talk that it comes to, stops for want of memory.
pub keeps_memory : {H : Type 0} (fails : H → Asked → ℕ → Type 0) (asked : Asked) (stage : Stage H) (stop : Stop)
    → ((handler : H) → stage ≡ stages.Serving handler → FailsBy fails handler asked stop) → (stage ≡ stages.Done → ⊥)
    → (is_talking stage ≡ true → (why : Cause) × (stop ≡ stops.Broken why)) → ((awaits_handler stage ≡ true) ⊎ (stage ≡ stages.Over) → (why : Cause) × (stop ≡ stops.Broken why))
    → stop ≡ stops.OutOfMemory → ⊥
keeps_memory fails asked (stages.Talking talk handler) stop serving done talking else = no_memory (talking refl).1
keeps_memory fails asked (stages.Agreed index) stop serving done talking else = no_memory (else (inl refl)).1
keeps_memory fails asked (stages.Serving handler) stop serving done talking else = let f = serving handler refl in no_memory f.1
keeps_memory fails asked stages.Done stop serving done talking else = absurd (done refl)
keeps_memory fails asked stages.Over stop serving done talking else = no_memory (else (inr refl)).1

pub not_both : {b : Bool} → b ≡ true → b ≡ false → ⊥
not_both on off = absurd (let e : true ≡ false = sym on ∙ off in cc e)

-- ---- where memory is wanting

-- it doesn't talk where that is refused
pub quiet_by : {H : Type 0} (stage : Stage H) → (is_talking stage ≡ true → ⊥) → is_talking stage ≡ false
quiet_by (stages.Talking talk handler) not = absurd (not refl)
quiet_by (stages.Agreed index) not = refl
quiet_by (stages.Serving handler) not = refl
quiet_by stages.Done not = refl
quiet_by stages.Over not = refl

pub failed : {A E P : Type 0} (r : Result A E) → P → OnErr r P
failed (Ok a) p = tt
failed (Err e) p = p

pub on_err : {A E P Q : Type 0} (r : Result A E) → (P → Q) → OnErr r P → OnErr r Q
on_err (Ok a) f p = tt
on_err (Err e) f p = f p

-- ---- where nothing is done

none_of : {H : Type 0} (step : H → HandlerCall → H → Type 0) (stage : Stage H) (so_far : Past H) (waiting : List ℕ) (failed : Bool) → failed ≡ false
    → StandsAt step stage so_far waiting → awaits_handler stage ≡ false → failed || (is_over stage || awaits_handler stage) ≡ true → ⊥
none_of step (stages.Talking talk handler) so_far waiting false going s awaits e = absurd (cc e)
none_of step (stages.Agreed index) so_far waiting false going s awaits e = absurd (cc awaits)
none_of step (stages.Serving handler) so_far waiting false going s awaits e = absurd (cc e)
none_of step stages.Done so_far waiting false going s awaits e = absurd (cc e)
none_of step stages.Over so_far waiting false going s awaits e = absurd s
none_of step stage so_far waiting true going s awaits e = absurd (cc going)

-- a session that stands hasn't failed, and a stream that stands isn't over
pub never_idle : {H : Type 0} (step : H → HandlerCall → H → Type 0) (role : Role) (past : List Item) (fed sent : List ℕ) (session : State) (x : Streaming H) (so_far : Past H)
    → SessionStands role past fed sent session → Stands step x so_far → awaits_handler x.stage ≡ false
    → session.failed || (is_over x.stage || awaits_handler x.stage) ≡ true → ⊥
never_idle step role past fed sent session x so_far at stands awaits e = none_of step x.stage so_far x.waiting session.failed at.going stands awaits e

-- ---- an agreement

-- both ends agree, and the handler is there
abbrev pub agreed_here : {H : Type 0} (step : H → HandlerCall → H → Type 0) (makes : ℕ → H → Type 0) (none_made : Type 0) (so_far : Past H) (bytes : List ℕ) (index used : ℕ) (middle : Streaming H)
    → Negotiates step makes none_made so_far bytes (Ok (Agreed index used)) middle → HasAgreed step makes none_made so_far bytes index (take used bytes) (drop used bytes) middle
agreed_here step makes none_made so_far bytes index used middle came = record {
  agrees = came.0;
  made = came.1.0;
  is_made = came.1.1;
  stands = came.1.2;
  serving = ap kind_of came.2.1;
}
