-- One call of a session, from where the session is to where it is then.
use Rattle.std.proofs.Common.{◌≡◌, ℕ, ◌<◌, ◌⊎◌, inl, inr, Bool, true, false, min, List, [], ◌∷◌, ◌++◌, length, take, Result, Ok, Err, IfErr, OnOk, OnErr, refl, sym, ap, ◌∙◌, subst}
use Rattle.std.specs.List.{AllByRecursion, concat}
use Rattle.yamux_session.specs.declared.event.Role.{Role}
use Rattle.yamux_session.specs.declared.event.Event.{Event}
use Rattle.yamux_session.specs.declared.event.ActRefused.{ActRefused}
use Rattle.yamux_session.specs.declared.event.ActRefused.TheVariants as refused
use Rattle.yamux_session.specs.declared.calls.Act.{Act}
use Rattle.yamux_session.specs.declared.calls.Act.TheVariants as act
use Rattle.yamux_session.specs.declared.calls.ActAnswer.{ActAnswer}
use Rattle.yamux_session.specs.declared.calls.ActAnswer.TheVariants.{Stream, Done, Refused}
use Rattle.yamux_session.specs.History as history
use Rattle.yamux_session.specs.History.{Item}
use Rattle.yamux_session.specs.History.Item.{Did}
use Rattle.yamux_session.specs.History.Act.{Start, Write, Taken, Close, Reset}
use Rattle.yamux_session.specs.Windows.{credit, given_back, untaken}
use Rattle.yamux_session.specs.Output.{output}
use Rattle.yamux_session.specs.Acts.{start_refusal, stream_refusal, direction_refusal, IsRefusedFor}
use Rattle.yamux_session.specs.Arrives.{HasData}
use Rattle.yamux_session.specs.State.{State, Stands, Feeds, RunsOut}
use Rattle.yamux_session.specs.Runs as runs
use Rattle.yamux_session.specs.Runs.{Point, Answers, AnswersAll, FedOn, GoesOn, Ends, IsCutOff, WritesOn, done_or}
use Rattle.yamux_session.specs.Runs.Point.{At, Over}

-- what a call leads to
abbrev pub Leads : Role → Point → Act → ActAnswer → State → Type 0
Leads role point call answer new = (next : Point) × Answers role point call answer next × runs.Stands role next new

pub leads_as : (role : Role) (point : Point) (call told : Act) (answer given : ActAnswer) (new : State) → call ≡ told → answer ≡ given → Leads role point told given new → Leads role point call answer new
leads_as role point call told answer given new call_is answer_is leads =
    subst (λ (a : Act). Leads role point a answer new) (sym call_is) (subst (λ (x : ActAnswer). Leads role point told x new) (sym answer_is) leads)

-- a call of a session that has failed
abbrev pub FailsOn : {A : Type 0} → Result A ActRefused → State → State → Type 0
FailsOn r old new = old.failed ≡ true → (r ≡ Err refused.Failed) × (new ≡ old)

over_same : (role : Role) (out : List ℕ) (old new : State) → new ≡ old → runs.Stands role (Over out) old → runs.Stands role (Over out) new
over_same role out old new same at = subst (runs.Stands role (Over out)) (sym same) at

-- ---- feed

pub fed_at : (role : Role) (past : List Item) (fed bytes : List ℕ) (told : List Event) (old new : State) (failed : Bool) → new.failed ≡ failed → Stands role past fed [] old → Feeds old bytes told new → AllByRecursion HasData told
    → (next : Point) × ((now : List Item) × FedOn role past fed bytes told now × (GoesOn role fed bytes now next ⊎ Ends role fed bytes now next)) × runs.Stands role next new
fed_at role past fed bytes told old new false going stands feeds filled =
    let led = feeds role past fed [] stands in
    let now_stands = led.1.goes_on going in (
      At led.0 (fed ++ bytes),
      (
        led.0,
        record { came = led.1.came; told_is = led.1.told_is; filled = filled },
        inl (record { no_fault = now_stands.no_fault; read = (new.place.part, now_stands.frames.reads); next_is = refl }),
      ),
      now_stands,
    )
fed_at role past fed bytes told old new true failed stands feeds filled =
    let led = feeds role past fed [] stands in
    let end = led.1.fails failed in (
      Over (output role led.0),
      (
        led.0,
        record { came = led.1.came; told_is = led.1.told_is; filled = filled },
        inr (record { faulty = end.0; read = end.2; next_is = refl }),
      ),
      (failed, end.1),
    )

pub cut_off_at : (role : Role) (past : List Item) (fed bytes : List ℕ) (old new : State) → new.failed ≡ true → Stands role past fed [] old → RunsOut old bytes new
    → (next : Point) × IsCutOff role past fed bytes next × runs.Stands role next new
cut_off_at role past fed bytes old new failed stands runs_out =
    let out = runs_out role past fed [] stands in (
      Over (output role out.2),
      record { used = out.0; within = out.1; now = out.2; came = out.3.came; no_fault = out.3.no_fault; read = out.3.read; next_is = refl },
      (failed, out.3.output),
    )

-- ---- acts whose answer has no value

-- an act that is allowed where `why` is none, and adds `did` to the history
abbrev pub AddsAct : State → State → (Role → List Item → Item) → Type 0
AddsAct old new did = (role : Role) (past : List Item) (fed sent : List ℕ) → Stands role past fed sent old → Stands role (did role past ∷ past) fed sent new

-- at whatever history it stands, the refusal is one of these
abbrev pub IsRefusedBy : State → (Role → List Item → ActRefused → Type 0) → ActRefused → Type 0
IsRefusedBy old P why = (role : Role) (past : List Item) (fed sent : List ℕ) → Stands role past fed sent old → P role past why

-- and want of memory comes only where this holds
abbrev IsWantedBy : State → (Role → List Item → Type 0) → ActRefused → Type 0
IsWantedBy old Q why = why ≡ refused.OutOfMemory → (role : Role) (past : List Item) (fed sent : List ℕ) → Stands role past fed sent old → Q role past

abbrev pub WithMemory : (Role → List Item → ActRefused → Type 0) → (Role → List Item → Type 0) → Role → List Item → ActRefused → Type 0
WithMemory P Q role past why = P role past why × (why ≡ refused.OutOfMemory → Q role past)

with_memory : (old : State) (P : Role → List Item → ActRefused → Type 0) (Q : Role → List Item → Type 0) (why : ActRefused) → IsRefusedBy old P why → IsWantedBy old Q why → IsRefusedBy old (WithMemory P Q) why
with_memory old P Q why refusal wanting = λ role past fed sent stands. (refusal role past fed sent stands, λ none. wanting none role past fed sent stands)

both : {A : Type 0} (old : State) (P : Role → List Item → ActRefused → Type 0) (Q : Role → List Item → Type 0) (r : Result A ActRefused) → IfErr r (IsRefusedBy old P) → IfErr r (IsWantedBy old Q) → IfErr r (IsRefusedBy old (WithMemory P Q))
both old P Q (Ok x) refusal wanting = tt
both old P Q (Err why) refusal wanting = with_memory old P Q why refusal wanting

acts : (role : Role) (point : Point) (call : Act) (old new : State) (r : Result (Unit {0}) ActRefused) (P : Role → List Item → ActRefused → Type 0) (did : Role → List Item → Item)
    → ((past : List Item) (fed : List ℕ) (next : Point) → Stands role (did role past ∷ past) fed [] new → next ≡ At (did role past ∷ past) fed → Answers role (At past fed) call Done next)
    → ((past : List Item) (fed : List ℕ) (refusal : ActRefused) (next : Point) → P role past refusal → next ≡ At past fed → Answers role (At past fed) call (Refused refusal) next)
    → OnOk r (AddsAct old new did)
    → IfErr r (IsRefusedBy old P)
    → OnErr r (new ≡ old) → FailsOn r old new → runs.Stands role point old → Leads role point call (done_or r) new
acts role (At past fed) call old new (Ok x) P did done denied ok err same fails at =
    let now = ok role past fed [] at in (At (did role past ∷ past) fed, done past fed (At (did role past ∷ past) fed) now refl, now)
acts role (At past fed) call old new (Err refusal) P did done denied ok err same fails at =
    (At past fed, denied past fed refusal (At past fed) (err role past fed [] at) refl, subst (λ (s : State). Stands role past fed [] s) (sym same) at)
acts role (Over out) call old new (Ok x) P did done denied ok err same fails at = absurd (let e = (fails at.0).0 in cc)
acts role (Over out) call old new (Err refusal) P did done denied ok err same fails at =
    (Over out, ((let e = (fails at.0).0 in let same_why : refusal ≡ refused.Failed = cc in ap Refused same_why), refl), over_same role out old new same at)

pub takes : (role : Role) (point : Point) (n count : ℕ) (old new : State) (r : Result (Unit {0}) ActRefused)
    → OnOk r (AddsAct old new (λ role past. Did (Taken n (min count (untaken role past n)))))
    → IfErr r (IsRefusedBy old (λ role past. IsRefusedFor (stream_refusal role past n)))
    → IfErr r (IsWantedBy old (λ role past. 0 < given_back role n past (Did (Taken n (min count (untaken role past n))))))
    → OnErr r (new ≡ old) → FailsOn r old new → runs.Stands role point old → Leads role point (act.Taken n count) (done_or r) new
takes role point n count old new r ok err memory same fails at =
    let P : Role → List Item → ActRefused → Type 0 = λ role past. IsRefusedFor (stream_refusal role past n) in
    let Q : Role → List Item → Type 0 = λ role past. 0 < given_back role n past (Did (Taken n (min count (untaken role past n)))) in
    acts role point (act.Taken n count) old new r (WithMemory P Q) (λ role past. Did (Taken n (min count (untaken role past n))))
    (λ past fed next now e. (now.answered.0, e)) (λ past fed refusal next why e. (why.0, why.1, e)) ok (both old P Q r err memory) same fails at

pub closes : (role : Role) (point : Point) (n : ℕ) (old new : State) (r : Result (Unit {0}) ActRefused)
    → OnOk r (AddsAct old new (λ role past. Did (Close n)))
    → IfErr r (IsRefusedBy old (λ role past. IsRefusedFor (direction_refusal role past n)))
    → OnErr r (new ≡ old) → FailsOn r old new → runs.Stands role point old → Leads role point (act.Close n) (done_or r) new
closes role point n old new r ok err same fails at =
    acts role point (act.Close n) old new r (λ role past. IsRefusedFor (direction_refusal role past n)) (λ role past. Did (Close n))
    (λ past fed next now e. (now.answered.0, e)) (λ past fed refusal next why e. (why, e)) ok err same fails at

pub resets : (role : Role) (point : Point) (n : ℕ) (old new : State) (r : Result (Unit {0}) ActRefused)
    → OnOk r (AddsAct old new (λ role past. Did (Reset n)))
    → IfErr r (IsRefusedBy old (λ role past. IsRefusedFor (stream_refusal role past n)))
    → OnErr r (new ≡ old) → FailsOn r old new → runs.Stands role point old → Leads role point (act.Reset n) (done_or r) new
resets role point n old new r ok err same fails at =
    acts role point (act.Reset n) old new r (λ role past. IsRefusedFor (stream_refusal role past n)) (λ role past. Did (Reset n))
    (λ past fed next now e. (now.answered.0, e)) (λ past fed refusal next why e. (why, e)) ok err same fails at

pub leaves : (role : Role) (point : Point) (code : ℕ) (old new : State) (r : Result (Unit {0}) ActRefused)
    → OnOk r (AddsAct old new (λ role past. Did (history.Act.GoAway code)))
    → IfErr r (λ refusal. old.failed ≡ false → refusal ≡ refused.OutOfMemory)
    → OnErr r (new ≡ old) → FailsOn r old new → runs.Stands role point old → Leads role point (act.GoAway code) (done_or r) new
leaves role (At past fed) code old new (Ok x) ok err same fails at = let now = ok role past fed [] at in (At (Did (history.Act.GoAway code) ∷ past) fed, (now.answered.0, refl), now)
leaves role (At past fed) code old new (Err refusal) ok err same fails at =
    (At past fed, (err at.going, refl), subst (λ (s : State). Stands role past fed [] s) (sym same) at)
leaves role (Over out) code old new (Ok x) ok err same fails at = absurd (let e = (fails at.0).0 in cc)
leaves role (Over out) code old new (Err refusal) ok err same fails at = (Over out, ((let e = (fails at.0).0 in let same_why : refusal ≡ refused.Failed = cc in ap Refused same_why), refl), over_same role out old new same at)

-- ---- one call after another

pub then_one : (role : Role) (first mid last : Point) (calls : List Act) (answers : List ActAnswer) (call : Act) (answer : ActAnswer) → AnswersAll role first calls answers mid → Answers role mid call answer last
    → AnswersAll role first (calls ++ call ∷ []) (answers ++ answer ∷ []) last
then_one role first mid last [] [] call answer all one = (last, subst (λ (p : Point). Answers role p call answer last) all one, refl)
then_one role first mid last [] (x ∷ answers) call answer all one = absurd all
then_one role first mid last (a ∷ calls) [] call answer all one = absurd all
then_one role first mid last (a ∷ calls) (x ∷ answers) call answer all one = (all.0, all.1, then_one role all.0 mid last calls answers call answer all.2 one)

-- ---- open_stream and write

pub starts : (role : Role) (point : Point) (old new : State) (n : ℕ) → ((role : Role) (past : List Item) (fed sent : List ℕ) → Stands role past fed sent old → Stands role (Did (Start n) ∷ past) fed sent new)
    → (old.failed ≡ true → ⊥) → runs.Stands role point old → Leads role point act.Start (Stream n) new
starts role (At past fed) old new n ok going at = let now = ok role past fed [] at in (At (Did (Start n) ∷ past) fed, (now.answered.0, refl), now)
starts role (Over out) old new n ok going at = absurd (going at.0)

-- how much room there is doesn't matter
with_room : (role : Role) (past : List Item) (fed sent : List ℕ) (s : State) (room : ℕ) → Stands role past fed sent s → Stands role past fed sent (record s { room = room })
with_room role past fed sent s room at = record {
  going = at.going;
  no_fault = at.no_fault;
  answered = at.answered;
  frames = at.frames;
  table = at.table;
  output = at.output;
}

pub start_refused : (role : Role) (point : Point) (old new : State) (why : ActRefused) → IsRefusedBy old (λ role past. IsRefusedFor (start_refusal role past)) why → new ≡ record old { room = new.room }
    → (old.failed ≡ true → why ≡ refused.Failed) → runs.Stands role point old → Leads role point act.Start (Refused why) new
start_refused role (At past fed) old new why refusal same failed at =
    (At past fed, (refusal role past fed [] at, refl), subst (λ (s : State). Stands role past fed [] s) (sym same) (with_room role past fed [] old new.room at))
start_refused role (Over out) old new why refusal same failed at =
    (Over out, (ap Refused (failed at.0), refl), over_same role out (record old { room = new.room }) new same at)

pub writes_at : (role : Role) (past : List Item) (fed : List ℕ) (n : ℕ) (bytes given : List ℕ) (count : ℕ) (old new : State) → given ≡ bytes
    → ((role : Role) (past : List Item) (fed sent : List ℕ) → Stands role past fed sent old → (pieces : List (List ℕ)) × (concat pieces ≡ take count given) × Stands role (Did (Write n pieces) ∷ past) fed sent new)
    → ((role : Role) (past : List Item) (fed sent : List ℕ) → Stands role past fed sent old → count ≡ min (length given) (credit role past n))
    → Stands role past fed [] old → (next : Point) × WritesOn role past fed n bytes count next × runs.Stands role next new
writes_at role past fed n bytes given count old new same ok counted stands =
    let w = ok role past fed [] stands in (
      At (Did (Write n w.0) ∷ past) fed,
      record {
        pieces = w.0;
        added = (w.2.answered.0, refl);
        count_is = counted role past fed [] stands ∙ ap (λ (t : List ℕ). min (length t) (credit role past n)) same;
        whole = w.1 ∙ ap (λ (t : List ℕ). take count t) same;
      },
      w.2,
    )

pub write_refused : (role : Role) (point : Point) (call : Act) (n : ℕ) (given : List ℕ) (old new : State) (why : ActRefused)
    → ((past : List Item) (fed : List ℕ) (next : Point) → IsRefusedFor (direction_refusal role past n) why → (why ≡ refused.OutOfMemory → 0 < min (length given) (credit role past n)) → next ≡ At past fed → Answers role (At past fed) call (Refused why) next)
    → IsRefusedBy old (λ role past. IsRefusedFor (direction_refusal role past n)) why
    → IsWantedBy old (λ role past. 0 < min (length given) (credit role past n)) why → new ≡ old
    → (old.failed ≡ true → why ≡ refused.Failed) → runs.Stands role point old → Leads role point call (Refused why) new
write_refused role (At past fed) call n given old new why shape refusal wanting same failed at = (
  At past fed,
  shape past fed (At past fed) (refusal role past fed [] at) (λ none. wanting none role past fed [] at) refl,
  subst (λ (s : State). Stands role past fed [] s) (sym same) at,
)
write_refused role (Over out) call n given old new why shape refusal wanting same failed at = (Over out, (ap Refused (failed at.0), refl), over_same role out old new same at)
