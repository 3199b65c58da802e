-- One call of a connection, from where the end is to where it is then.
use Rattle.std.proofs.Common.{◌≡◌, ◌≢◌, ℕ, ◌⊎◌, inl, inr, Bool, true, false, List, [], ◌∷◌, ◌++◌, Result, Ok, Err, IfOk, IfErr, OnOk, OnErr, refl, sym, ap, ◌∙◌, subst}
use Rattle.std.proofs.lemmas.List.{append-nil, append_assoc}
use Rattle.std.specs.Global.{Vec}
use Rattle.handlers.specs.Calls.{HandlerCall, Asked}
use Rattle.peer_ids.specs.Key.{Key}
use Rattle.upgrade.specs.declared.role.ConnRole.{ConnRole}
use Rattle.conn_log.specs.declared.event.ConnEvent.{ConnEvent}
use Rattle.conn_log.specs.declared.event.ConnRefused.{ConnRefused}
use Rattle.conn_log.specs.declared.event.ConnRefused.TheVariants as refusals
use Rattle.conn_log.specs.Entries.{Entry}
use Rattle.conn_core.specs.declared.connection.Phase.{Phase}
use Rattle.conn_core.specs.declared.connection.Phase.TheVariants as phases
use Rattle.conn_core.specs.declared.connection.ConnCore.{ConnCore}
use Rattle.conn_core.specs.declared.calls.ConnAct.{ConnAct}
use Rattle.conn_core.specs.declared.calls.ConnAct.TheVariants.{Ask}
use Rattle.conn_core.specs.declared.calls.ConnAnswer.{ConnAnswer}
use Rattle.conn_core.specs.declared.calls.ConnAnswer.TheVariants.{Events, Refused}
use Rattle.conn_core.specs.Connects.{Connects, Stands, IsOpened, MayOpen, IsRefused, OwesOf, is_over, is_spent, waiting_in, held_in, IsOrderedIn, TellsFirst}
use Rattle.upgrade.specs.Upgrades.{Grows}
use Rattle.conn_core.specs.Wanting.{Wrote}
use Rattle.conn_core.specs.Runs.{Point, Explains, IsExplained, MayBeAsked, IsNotOpened, IsTurnedAway, IsKept, AnswersAt, Holds, Leaves, HasWritten, Answers, AnswersAll, IsAt, has_ended, events_or, stream_or}
use Rattle.conn_core.specs.Runs.Point.{At, Spent}
use Rattle.conn_core.proofs.Points.{told_over, unended, why_there, may_ask, not_asked, holds, spent_holds}

is_memory : (why : ConnRefused) → (why ≡ refusals.OutOfMemory) ⊎ (why ≢ refusals.OutOfMemory)
is_memory refusals.OutOfMemory = inl refl
is_memory refusals.Failed = inr (λ e. cc e)
is_memory refusals.NotUp = inr (λ e. cc e)
is_memory refusals.BadIndex = inr (λ e. cc e)
is_memory refusals.GoneAway = inr (λ e. cc e)
is_memory refusals.StreamsExhausted = inr (λ e. cc e)
is_memory refusals.StreamsFull = inr (λ e. cc e)

open_goes_on : {P H : Type 0} (listed : P → List (List ℕ)) (phase : Phase P H) (index : ℕ) → MayOpen listed phase index → is_over phase ≡ false
open_goes_on listed (phases.Upgrading x protocols) index may = absurd may
open_goes_on listed (phases.Up mux) index may = refl
open_goes_on listed phases.Over index may = absurd may
open_goes_on listed phases.Spent index may = absurd may

over_refuses : {P H : Type 0} (listed : P → List (List ℕ)) (phase : Phase P H) (index : ℕ) (why : ConnRefused) → is_over phase ≡ true → IsRefused listed phase index why → why ≡ refusals.Failed
over_refuses listed (phases.Upgrading x protocols) index why over refused = absurd (cc over)
over_refuses listed (phases.Up mux) index why over refused = absurd (cc over)
over_refuses listed phases.Over index why over refused = refused
over_refuses listed phases.Spent index why over refused = refused

-- what is spent is over
pub spent_over : {P H : Type 0} (phase : Phase P H) → is_spent phase ≡ true → is_over phase ≡ true
spent_over (phases.Upgrading x protocols) spent = spent
spent_over (phases.Up mux) spent = spent
spent_over phases.Over spent = refl
spent_over phases.Spent spent = refl

pub and_then : {A E : Type 0} (Q : A → Type 0) (X : Type 0) (r : Result A E) → OnOk r X → IfOk r Q → IfOk r (λ x. Q x × X)
and_then Q X (Ok x) then q = (q, then)
and_then Q X (Err e) then q = tt

pub on_err : {A E : Type 0} (X : Type 0) (r : Result A E) → X → OnErr r X
on_err X (Ok x) it = tt
on_err X (Err e) it = it

pub grows_behind : {A : Type 0} (r : Result A ConnRefused) (taken before after : List ℕ) → OnErr r (Grows before after) → OnErr r (Grows (taken ++ before) (taken ++ after))
grows_behind (Ok x) taken before after grows = tt
grows_behind (Err why) taken before after grows = (grows.0, ap (λ (t : List ℕ). taken ++ t) grows.1 ∙ sym (append_assoc taken before grows.0))

module _ {P H : Type 0} (step : H → HandlerCall → H → Type 0) (fails : H → Asked → ℕ → Type 0)
    (is_closed is_finished : H → Bool) (inbound_makes outbound_makes : P → ℕ → List ℕ → H → Type 0)
    (listed : P → List (List ℕ)) (is_eager : P → ℕ → Bool)
    (inbound_leads outbound_leads : P → ℕ → List ℕ → H → P → Type 0) (start : P) (role : ConnRole) (own : Key) where
  -- where memory was refused to a feed
  pub feed_keeps : {A : Type 0} (input piece : List ℕ) (log : List (Entry H)) (told owed : List (ConnEvent H)) (before after : List ℕ) (r : Result A ConnRefused)
      → Explains step fails is_closed is_finished inbound_makes outbound_makes listed is_eager inbound_leads outbound_leads start role own input false log told owed before → OnErr r (Grows before after) → OnErr r (Wrote step fails is_closed is_finished inbound_makes outbound_makes listed is_eager inbound_leads outbound_leads start role own input piece log told after)
      → OnErr r ((first : List ℕ) × Explains step fails is_closed is_finished inbound_makes outbound_makes listed is_eager inbound_leads outbound_leads start role own input false log told owed first × Grows first after × Wrote step fails is_closed is_finished inbound_makes outbound_makes listed is_eager inbound_leads outbound_leads start role own input piece log told after)
  feed_keeps input piece log told owed before after (Ok x) there waits wrote = tt
  feed_keeps input piece log told owed before after (Err why) there waits wrote = (before, there, waits, wrote)

  -- what is over owes nothing
  pub over_owes : (input : List ℕ) (ended : Bool) (log : List (Entry H)) (told : List (ConnEvent H)) (taken : List ℕ) (phase : Phase P H) (owed : List (ConnEvent H)) (waiting : List ℕ)
      → is_over phase ≡ true → Connects step fails is_closed is_finished inbound_makes outbound_makes listed is_eager inbound_leads outbound_leads start role own input ended log told taken phase owed waiting → owed ≡ []
  over_owes input ended log told taken (phases.Upgrading x protocols) owed waiting over it = absurd (cc over)
  over_owes input ended log told taken (phases.Up mux) owed waiting over it = absurd (cc over)
  over_owes input ended log told taken phases.Over owed waiting over it = it.0
  over_owes input ended log told taken phases.Spent owed waiting over it = absurd it

  -- ---- one call after another

  pub then_one : (first mid last : Point H) (calls : List ConnAct) (answers : List (ConnAnswer H)) (call : ConnAct) (answer : ConnAnswer H) → AnswersAll step fails is_closed is_finished inbound_makes outbound_makes listed is_eager inbound_leads outbound_leads start role own first calls answers mid
      → Answers step fails is_closed is_finished inbound_makes outbound_makes listed is_eager inbound_leads outbound_leads start role own mid call answer last → AnswersAll step fails is_closed is_finished inbound_makes outbound_makes listed is_eager inbound_leads outbound_leads start role own first (calls ++ call ∷ []) (answers ++ answer ∷ []) last
  then_one first mid last [] [] call answer all one = (last, subst (λ (p : Point H). Answers step fails is_closed is_finished inbound_makes outbound_makes listed is_eager inbound_leads outbound_leads start role own p call answer last) all one, refl)
  then_one first mid last [] (x ∷ answers) call answer all one = absurd all
  then_one first mid last (a ∷ calls) [] call answer all one = absurd all
  then_one first mid last (a ∷ calls) (x ∷ answers) call answer all one = (all.0, all.1, then_one all.0 mid last calls answers call answer all.2 one)

  -- ---- the last point

  pub leaves : (point : Point H) (old new : ConnCore P H) (output : List ℕ) (handlers : List (ℕ × H))
      → ((input : List ℕ) (ended : Bool) (log : List (Entry H)) (told : List (ConnEvent H)) → Stands step fails is_closed is_finished inbound_makes outbound_makes listed is_eager inbound_leads outbound_leads start role own input ended log told [] old → Stands step fails is_closed is_finished inbound_makes outbound_makes listed is_eager inbound_leads outbound_leads start role own input ended log told output new)
      → output ≡ waiting_in old.phase old.output.items → waiting_in new.phase new.output.items ≡ [] → new.owed.items ≡ old.owed.items → is_spent new.phase ≡ is_spent old.phase
      → handlers ≡ held_in new.phase → IsOrderedIn new.phase → IsAt step fails is_closed is_finished inbound_makes outbound_makes listed is_eager inbound_leads outbound_leads start role own [] point old → Leaves step fails is_closed is_finished inbound_makes outbound_makes listed is_eager inbound_leads outbound_leads start role own point output handlers
  leaves (At input ended log told owed) old new output handlers stands taken none same spent held ordered at =
      let now = (stands input ended log told at.1).1 in
      let written = output ++ waiting_in new.phase new.output.items in
      let written_is : written ≡ output = ap (λ t. output ++ t) none ∙ append-nil output in
      subst (λ (w : List ℕ). (there : Explains step fails is_closed is_finished inbound_makes outbound_makes listed is_eager inbound_leads outbound_leads start role own input ended log told owed w) × Holds step fails is_closed is_finished inbound_makes outbound_makes listed is_eager inbound_leads outbound_leads start role own input ended log told owed w there handlers) written_is
      (subst (λ (o : List (ConnEvent H)). (there : Explains step fails is_closed is_finished inbound_makes outbound_makes listed is_eager inbound_leads outbound_leads start role own input ended log told o written) × Holds step fails is_closed is_finished inbound_makes outbound_makes listed is_eager inbound_leads outbound_leads start role own input ended log told o written there handlers) (same ∙ at.0)
      (subst (λ (h : List (ℕ × H)). (there : Explains step fails is_closed is_finished inbound_makes outbound_makes listed is_eager inbound_leads outbound_leads start role own input ended log told new.owed.items written) × Holds step fails is_closed is_finished inbound_makes outbound_makes listed is_eager inbound_leads outbound_leads start role own input ended log told new.owed.items written there h) (sym held)
      (why_there step fails is_closed is_finished inbound_makes outbound_makes listed is_eager inbound_leads outbound_leads start role own input ended log told output new.phase new.owed.items new.output.items now, holds step fails is_closed is_finished inbound_makes outbound_makes listed is_eager inbound_leads outbound_leads start role own input ended log told output new.phase new.owed.items new.output.items now ordered)))
  leaves (Spent w) old new output handlers stands taken none same spent held ordered at = (taken ∙ at.1, held ∙ spent_holds new.phase (spent ∙ at.0))

module _ {P H : Type 0} (step : H → HandlerCall → H → Type 0) (fails : H → Asked → ℕ → Type 0)
    (is_closed is_finished : H → Bool) (inbound_makes outbound_makes : P → ℕ → List ℕ → H → Type 0)
    (listed : P → List (List ℕ)) (is_eager : P → ℕ → Bool)
    (inbound_leads outbound_leads : P → ℕ → List ℕ → H → P → Type 0) (start : P) (role : ConnRole) (own : Key)
    (taken : List ℕ) where
  -- what a call leads to
  abbrev pub Leads : Point H → ConnAct → ConnAnswer H → ConnCore P H → Type 0
  Leads point call answer new = (next : Point H) × Answers step fails is_closed is_finished inbound_makes outbound_makes listed is_eager inbound_leads outbound_leads start role own point call answer next
      × IsAt step fails is_closed is_finished inbound_makes outbound_makes listed is_eager inbound_leads outbound_leads start role own taken next new

  pub leads_as : (point : Point H) (call given_call : ConnAct) (answer given : ConnAnswer H) (new : ConnCore P H) → call ≡ given_call → answer ≡ given → Leads point given_call given new → Leads point call answer new
  leads_as point call given_call answer given new call_is answer_is leads =
      subst (λ (a : ConnAct). Leads point a answer new) (sym call_is) (subst (λ (x : ConnAnswer H). Leads point given_call x new) (sym answer_is) leads)

  -- what was taken, and what waits there, is what was written
  written_at : (input : List ℕ) (ended : Bool) (log : List (Entry H)) (told owed : List (ConnEvent H)) (core : ConnCore P H) → IsAt step fails is_closed is_finished inbound_makes outbound_makes listed is_eager inbound_leads outbound_leads start role own taken (At input ended log told owed) core
      → Explains step fails is_closed is_finished inbound_makes outbound_makes listed is_eager inbound_leads outbound_leads start role own input ended log told owed (taken ++ waiting_in core.phase core.output.items)
  written_at input ended log told owed core at =
      subst (λ (o : List (ConnEvent H)). Explains step fails is_closed is_finished inbound_makes outbound_makes listed is_eager inbound_leads outbound_leads start role own input ended log told o (taken ++ waiting_in core.phase core.output.items)) at.0
      (why_there step fails is_closed is_finished inbound_makes outbound_makes listed is_eager inbound_leads outbound_leads start role own input ended log told taken core.phase core.owed.items core.output.items at.1.1)

  explained_at : (point : Point H) (core : ConnCore P H) → IsAt step fails is_closed is_finished inbound_makes outbound_makes listed is_eager inbound_leads outbound_leads start role own taken point core → IsExplained step fails is_closed is_finished inbound_makes outbound_makes listed is_eager inbound_leads outbound_leads start role own point
  explained_at (At input ended log told owed) core at = (taken ++ waiting_in core.phase core.output.items, written_at input ended log told owed core at)
  explained_at (Spent w) core at = tt

  -- ---- a feed, or the end of the input

  pub tells : (point : Point H) (call : ConnAct) (after : List ℕ → List ℕ) (b : Bool) (leads : List (Entry H) → List (Entry H) → Type 0) (old new : ConnCore P H) (r : Result (Vec (ConnEvent H)) ConnRefused)
      → ((input : List ℕ) (ended : Bool) (log : List (Entry H)) (told owed : List (ConnEvent H)) (more : Vec (ConnEvent H)) (now : List (Entry H)) (next : Point H) → has_ended told ≡ false → leads log now → next ≡ At (after input) b now (told ++ more.items) [] → TellsFirst owed more.items
      → AnswersAt step fails is_closed is_finished inbound_makes outbound_makes listed is_eager inbound_leads outbound_leads start role own input ended log told owed call (Events more) next)
      → ((input : List ℕ) (ended : Bool) (log : List (Entry H)) (told owed : List (ConnEvent H)) (why : ConnRefused) (next : Point H) → IsTurnedAway told why (At input ended log told owed) next
      → AnswersAt step fails is_closed is_finished inbound_makes outbound_makes listed is_eager inbound_leads outbound_leads start role own input ended log told owed call (Refused why) next)
      → ((input : List ℕ) (log : List (Entry H)) (told : List (ConnEvent H)) → Stands step fails is_closed is_finished inbound_makes outbound_makes listed is_eager inbound_leads outbound_leads start role own input false log told taken old → is_over old.phase ≡ false
      → IfOk r (λ events. ((now : List (Entry H)) × leads log now × Stands step fails is_closed is_finished inbound_makes outbound_makes listed is_eager inbound_leads outbound_leads start role own (after input) b now (told ++ events.items) taken new) × (new.owed.items ≡ [])))
      → ((input : List ℕ) (log : List (Entry H)) (told : List (ConnEvent H)) → Stands step fails is_closed is_finished inbound_makes outbound_makes listed is_eager inbound_leads outbound_leads start role own input false log told taken old → is_over old.phase ≡ false
      → IfOk r (λ events. TellsFirst old.owed.items events.items))
      → (is_over old.phase ≡ false → OnErr r ((r ≡ Err refusals.OutOfMemory) × (is_spent new.phase ≡ true)))
      → ((input : List ℕ) (log : List (Entry H)) (told owed : List (ConnEvent H)) → Explains step fails is_closed is_finished inbound_makes outbound_makes listed is_eager inbound_leads outbound_leads start role own input false log told owed (taken ++ waiting_in old.phase old.output.items)
      → Stands step fails is_closed is_finished inbound_makes outbound_makes listed is_eager inbound_leads outbound_leads start role own input false log told taken old → is_over old.phase ≡ false
      → OnErr r (IsKept step fails is_closed is_finished inbound_makes outbound_makes listed is_eager inbound_leads outbound_leads start role own input false log told owed call (taken ++ waiting_in new.phase new.output.items)))
      → (is_over old.phase ≡ true → (r ≡ Err refusals.Failed) × (new ≡ old))
      → IsAt step fails is_closed is_finished inbound_makes outbound_makes listed is_eager inbound_leads outbound_leads start role own taken point old → Leads point call (events_or r) new
  tells (At input ended log told owed) call after b leads old new (Ok events) shape away fed first refused kept failed at = by_over (is_over old.phase) refl
    where
      by_over : (c : Bool) → is_over old.phase ≡ c → Leads (At input ended log told owed) call (Events events) new
      by_over true over = absurd (let e = (failed over).0 in cc)
      by_over false going =
          let open_still = unended step fails is_closed is_finished inbound_makes outbound_makes listed is_eager inbound_leads outbound_leads start role own input ended log told taken old.phase old.owed.items old.output.items at.1.1 going in
          let stood = subst (λ (x : Bool). Stands step fails is_closed is_finished inbound_makes outbound_makes listed is_eager inbound_leads outbound_leads start role own input x log told taken old) open_still at.1 in
          let fed_now = fed input log told stood going in
          let now = fed_now.0.0 in
          let tells_first = subst (λ (o : List (ConnEvent H)). TellsFirst o events.items) at.0 (first input log told stood going) in
          let next : Point H = At (after input) b now (told ++ events.items) [] in
          let there : IsAt step fails is_closed is_finished inbound_makes outbound_makes listed is_eager inbound_leads outbound_leads start role own taken next new = (fed_now.1, fed_now.0.2) in (
            next,
            (
              shape input ended log told owed events now next (told_over step fails is_closed is_finished inbound_makes outbound_makes listed is_eager inbound_leads outbound_leads start role own input ended log told taken old.phase old.owed.items old.output.items at.1.1 ∙ going) fed_now.0.1 refl tells_first,
              explained_at next new there,
              tt,
            ),
            there,
          )
  tells (At input ended log told owed) call after b leads old new (Err why) shape away fed first refused kept failed at = by_over (is_over old.phase) refl
    where
      by_over : (c : Bool) → is_over old.phase ≡ c → Leads (At input ended log told owed) call (Refused why) new
      by_over true over =
          let same = failed over in
          let why_is : why ≡ refusals.Failed = (let e = same.0 in cc) in
          let here : Point H = At input ended log told owed in
          let there : IsAt step fails is_closed is_finished inbound_makes outbound_makes listed is_eager inbound_leads outbound_leads start role own taken here new = subst (IsAt step fails is_closed is_finished inbound_makes outbound_makes listed is_eager inbound_leads outbound_leads start role own taken here) (sym same.1) at in (
            here,
            (
              away input ended log told owed why here (inl (told_over step fails is_closed is_finished inbound_makes outbound_makes listed is_eager inbound_leads outbound_leads start role own input ended log told taken old.phase old.owed.items old.output.items at.1.1 ∙ over, why_is, refl)),
              explained_at here new there,
              tt,
            ),
            there,
          )
      by_over false going =
          let out = refused going in
          let why_is : why ≡ refusals.OutOfMemory = (let e = out.0 in cc) in
          let open_still = unended step fails is_closed is_finished inbound_makes outbound_makes listed is_eager inbound_leads outbound_leads start role own input ended log told taken old.phase old.owed.items old.output.items at.1.1 going in
          let written = taken ++ waiting_in new.phase new.output.items in (
            Spent written,
            (
              away input ended log told owed why (Spent written) (inr (told_over step fails is_closed is_finished inbound_makes outbound_makes listed is_eager inbound_leads outbound_leads start role own input ended log told taken old.phase old.owed.items old.output.items at.1.1 ∙ going, why_is, (written, refl))),
              tt,
              subst (λ (x : Bool). IsKept step fails is_closed is_finished inbound_makes outbound_makes listed is_eager inbound_leads outbound_leads start role own input x log told owed call written) (sym open_still)
                  (kept input log told owed (subst (λ (x : Bool). Explains step fails is_closed is_finished inbound_makes outbound_makes listed is_eager inbound_leads outbound_leads start role own input x log told owed (taken ++ waiting_in old.phase old.output.items)) open_still (written_at input ended log told owed old at))
                  (subst (λ (x : Bool). Stands step fails is_closed is_finished inbound_makes outbound_makes listed is_eager inbound_leads outbound_leads start role own input x log told taken old) open_still at.1) going),
            ),
            (out.1, refl),
          )
  tells (Spent w) call after b leads old new (Ok events) shape away fed first refused kept failed at = absurd (let e = (failed (spent_over old.phase at.0)).0 in cc)
  tells (Spent w) call after b leads old new (Err why) shape away fed first refused kept failed at =
      let same = failed (spent_over old.phase at.0) in
      let why_is : why ≡ refusals.Failed = (let e = same.0 in cc) in
      (Spent w, (ap Refused why_is, refl), subst (λ (c : ConnCore P H). (is_spent c.phase ≡ true) × (taken ++ waiting_in c.phase c.output.items ≡ w)) (sym same.1) at)

  -- ---- an opening

  pub asks : (point : Point H) (index : ℕ) (old new : ConnCore P H) (r : Result ℕ ConnRefused)
      → ((input : List ℕ) (log : List (Entry H)) (told : List (ConnEvent H)) → Stands step fails is_closed is_finished inbound_makes outbound_makes listed is_eager inbound_leads outbound_leads start role own input false log told taken old
      → IfOk r (λ number. (now : List (Entry H)) × IsOpened number index log now × Stands step fails is_closed is_finished inbound_makes outbound_makes listed is_eager inbound_leads outbound_leads start role own input false now told taken new))
      → ((input : List ℕ) (log : List (Entry H)) (told : List (ConnEvent H)) → Stands step fails is_closed is_finished inbound_makes outbound_makes listed is_eager inbound_leads outbound_leads start role own input false log told taken old
      → IfOk r (λ number. OwesOf number old.owed.items new.owed.items))
      → IfOk r (λ number. MayOpen listed old.phase index)
      → IfErr r (λ why. IsRefused listed old.phase index why)
      → IfErr r (λ why. why ≢ refusals.OutOfMemory → new ≡ old)
      → (r ≡ Err refusals.OutOfMemory → is_spent new.phase ≡ true)
      → OnErr r (waiting_in new.phase new.output.items ≡ waiting_in old.phase old.output.items)
      → IsAt step fails is_closed is_finished inbound_makes outbound_makes listed is_eager inbound_leads outbound_leads start role own taken point old → Leads point (Ask index) (stream_or r) new
  asks (At input ended log told owed) index old new (Ok n) stands owes may refused kept memory waits at =
      let going = open_goes_on listed old.phase index may in
      let open_still = unended step fails is_closed is_finished inbound_makes outbound_makes listed is_eager inbound_leads outbound_leads start role own input ended log told taken old.phase old.owed.items old.output.items at.1.1 going in
      let before = subst (λ (x : Bool). Stands step fails is_closed is_finished inbound_makes outbound_makes listed is_eager inbound_leads outbound_leads start role own input x log told taken old) open_still at.1 in
      let more = owes input log told before in
      let written = taken ++ waiting_in old.phase old.output.items in
      let why = may_ask step fails is_closed is_finished inbound_makes outbound_makes listed is_eager inbound_leads outbound_leads start role own input ended log told taken old.phase old.owed.items old.output.items index at.1.1 may in
      let stood = stands input log told before in
      let next : Point H = At input false stood.0 told (owed ++ more.0) in
      let there : IsAt step fails is_closed is_finished inbound_makes outbound_makes listed is_eager inbound_leads outbound_leads start role own taken next new = (more.2 ∙ ap (λ o. o ++ more.0) at.0, stood.2) in (
        next,
        (
          (
            subst (λ (o : List (ConnEvent H)). (w : List ℕ) × (e : Explains step fails is_closed is_finished inbound_makes outbound_makes listed is_eager inbound_leads outbound_leads start role own input ended log told o w) × MayBeAsked step fails is_closed is_finished inbound_makes outbound_makes listed is_eager inbound_leads outbound_leads start role own input ended log told o w e index) at.0
                (written, why.0, why.1),
            (more.0, more.1, stood.0, stood.1, refl),
          ),
          explained_at next new there,
          tt,
        ),
        there,
      )
  asks (At input ended log told owed) index old new (Err why) stands owes may refused kept memory waits at = by_memory (is_memory why)
    where
      here : Point H
      here = At input ended log told owed

      reason : (w : List ℕ) × (e : Explains step fails is_closed is_finished inbound_makes outbound_makes listed is_eager inbound_leads outbound_leads start role own input ended log told owed w) × IsNotOpened step fails is_closed is_finished inbound_makes outbound_makes listed is_eager inbound_leads outbound_leads start role own input ended log told owed w e index why
      reason =
          let it = not_asked step fails is_closed is_finished inbound_makes outbound_makes listed is_eager inbound_leads outbound_leads start role own input ended log told taken old.phase old.owed.items old.output.items index why at.1.1 refused in
          subst (λ (o : List (ConnEvent H)). (w : List ℕ) × (e : Explains step fails is_closed is_finished inbound_makes outbound_makes listed is_eager inbound_leads outbound_leads start role own input ended log told o w) × IsNotOpened step fails is_closed is_finished inbound_makes outbound_makes listed is_eager inbound_leads outbound_leads start role own input ended log told o w e index why) at.0
          (taken ++ waiting_in old.phase old.output.items, it.0, it.1)

      by_memory : (why ≡ refusals.OutOfMemory) ⊎ (why ≢ refusals.OutOfMemory) → Leads here (Ask index) (Refused why) new
      by_memory (inl is) =
          let written = taken ++ waiting_in old.phase old.output.items in
          (Spent written, ((reason, inr (is, (written, refl))), tt, written_at input ended log told owed old at), (memory (ap Err is), ap (λ (t : List ℕ). taken ++ t) waits))
      by_memory (inr other) =
          let there : IsAt step fails is_closed is_finished inbound_makes outbound_makes listed is_eager inbound_leads outbound_leads start role own taken here new = subst (IsAt step fails is_closed is_finished inbound_makes outbound_makes listed is_eager inbound_leads outbound_leads start role own taken here) (sym (kept other)) at in
          (here, ((reason, inl (other, refl)), explained_at here new there, tt), there)
  asks (Spent w) index old new (Ok n) stands owes may refused kept memory waits at = absurd (let going = open_goes_on listed old.phase index may in let both : true ≡ false = sym (spent_over old.phase at.0) ∙ going in cc both)
  asks (Spent w) index old new (Err why) stands owes may refused kept memory waits at =
      let why_is : why ≡ refusals.Failed = over_refuses listed old.phase index why (spent_over old.phase at.0) refused in
      let same : new ≡ old = kept (λ e. (let both : refusals.Failed ≡ refusals.OutOfMemory = sym why_is ∙ e in cc both)) in
      (Spent w, (ap Refused why_is, refl), subst (λ (c : ConnCore P H). (is_spent c.phase ≡ true) × (taken ++ waiting_in c.phase c.output.items ≡ w)) (sym same) at)

  -- ---- the output

  -- what is taken was written, and the end stays where it is
  pub takes : (point : Point H) (old new : ConnCore P H) (output : List ℕ)
      → ((input : List ℕ) (ended : Bool) (log : List (Entry H)) (told : List (ConnEvent H)) → Stands step fails is_closed is_finished inbound_makes outbound_makes listed is_eager inbound_leads outbound_leads start role own input ended log told taken old → Stands step fails is_closed is_finished inbound_makes outbound_makes listed is_eager inbound_leads outbound_leads start role own input ended log told (taken ++ output) new)
      → output ≡ waiting_in old.phase old.output.items → waiting_in new.phase new.output.items ≡ [] → new.owed.items ≡ old.owed.items → is_spent new.phase ≡ is_spent old.phase
      → IsAt step fails is_closed is_finished inbound_makes outbound_makes listed is_eager inbound_leads outbound_leads start role own taken point old
      → HasWritten step fails is_closed is_finished inbound_makes outbound_makes listed is_eager inbound_leads outbound_leads start role own point (taken ++ output)
      × IsAt step fails is_closed is_finished inbound_makes outbound_makes listed is_eager inbound_leads outbound_leads start role own (taken ++ output) point new
  takes (At input ended log told owed) old new output stands took none same spent at = (
    subst (λ (t : List ℕ). Explains step fails is_closed is_finished inbound_makes outbound_makes listed is_eager inbound_leads outbound_leads start role own input ended log told owed (taken ++ t)) (sym took)
        (written_at input ended log told owed old at),
    (same ∙ at.0, stands input ended log told at.1),
  )
  takes (Spent w) old new output stands took none same spent at =
      let all : taken ++ output ≡ w = ap (λ (t : List ℕ). taken ++ t) took ∙ at.1 in
      (all, (spent ∙ at.0, ap (λ (t : List ℕ). (taken ++ output) ++ t) none ∙ append-nil (taken ++ output) ∙ all))
