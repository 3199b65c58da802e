-- Where an end is at a point of its run: it comes up, is up, or is over.
use Rattle.std.proofs.Common.{◌≡◌, ℕ, ◌<◌, ◌≤◌, inl, inr, Bool, true, false, ◌||◌, List, [], ◌∷◌, ◌++◌, length, None, Ok, refl, ap, ◌∙◌, reverse, subst}
use Rattle.std.specs.Ordering.{nat_cmp}
use Rattle.std.specs.BTreeMap as tree
use Rattle.handlers.specs.Calls.{HandlerCall, Asked}
use Rattle.peer_ids.specs.Key.{Key}
use Rattle.peer_ids.specs.PeerId.{id_of}
use Rattle.upgrade.specs.declared.role.ConnRole.{ConnRole}
use Rattle.upgrade.specs.Upgrades.{Upgrades}
use Rattle.upgrade.specs.State.{Upgrading}
use Rattle.upgrade.proofs.Staying.{going_by}
use Rattle.yamux_session.specs.declared.event.Role.{Role}
use Rattle.yamux_session.specs.Output.{output}
use Rattle.conn_log.specs.declared.event.ConnEvent.{ConnEvent}
use Rattle.conn_log.specs.declared.event.ConnEvent.TheVariants as event
use Rattle.conn_log.specs.declared.event.ConnFault.TheVariants as fault
use Rattle.conn_log.specs.declared.event.ConnRefused.{ConnRefused}
use Rattle.conn_log.specs.Entries.{Entry, items, said}
use Rattle.conn_log.specs.Entries.Entry.{Of, Says, Made, Asks, Calls}
use Rattle.conn_log.specs.Due.{AllDue}
use Rattle.held_order.specs.Orders.{arranged}
use Rattle.board.specs.Handlers.{handlers_of, handlers_past}
use Rattle.conn_core.specs.declared.connection.Phase.{Phase}
use Rattle.conn_core.specs.declared.connection.Phase.TheVariants as phases
use Rattle.conn_core.specs.Connects.{IsComing, Ends, Connects, MayOpen, IsRefused, session_role, is_over, is_spent, waiting_in, held_in, IsOrderedIn}
use Rattle.conn_core.specs.Connects.Ends.{Upgrade, Session, Early, Within, Shut}
use Rattle.conn_core.specs.Runs.{Explains, MayBeAsked, IsNotOpened, Holds, is_end, has_ended}
use Rattle.conn_core.specs.Runs.Explains.{Coming, Up, Over}

-- ---- what was told last

or_true : (b : Bool) → b || true ≡ true
or_true true = refl
or_true false = refl

ends_append : {H : Type 0} (before : List (ConnEvent H)) (last : ConnEvent H) → is_end last ≡ true → has_ended (before ++ last ∷ []) ≡ true
ends_append [] last is = ap (λ b. b || false) is
ends_append (e ∷ before) last is = ap (λ b. is_end e || b) (ends_append before last is) ∙ or_true (is_end e)

if_goes : (b x y : Bool) → (x ≡ false → y ≡ false) → b || x ≡ false → b || y ≡ false
if_goes true x y then is = is
if_goes false x y then is = then is

front_goes_on : {H : Type 0} (told owed : List (ConnEvent H)) → has_ended (told ++ owed) ≡ false → has_ended told ≡ false
front_goes_on [] owed is = refl
front_goes_on (e ∷ told) owed is = if_goes (is_end e) (has_ended (told ++ owed)) (has_ended told) (front_goes_on told owed) is

append_goes_on : {H : Type 0} (told : List (ConnEvent H)) (e : ConnEvent H) → is_end e ≡ false → has_ended told ≡ false → has_ended (told ++ e ∷ []) ≡ false
append_goes_on [] e is none = ap (λ b. b || false) is
append_goes_on (x ∷ told) e is none = if_goes (is_end x) (has_ended told) (has_ended (told ++ e ∷ [])) (append_goes_on told e is) none

module _ {P H : Type 0} (step : H → HandlerCall → H → Type 0) (fails : H → Asked → ℕ → Type 0)
    (is_closed is_finished : H → Bool) (inbound_makes outbound_makes : P → ℕ → List ℕ → H → Type 0)
    (eager : ℕ → Bool) (names : List (List ℕ)) (peer : List ℕ) (role : Role) where
  -- an end that is up tells nothing that is last
  said_goes_on : (log : List (Entry H)) → AllDue step fails is_closed is_finished inbound_makes outbound_makes eager names peer role log → has_ended (said log) ≡ false
  said_goes_on [] due = refl
  said_goes_on (Of x ∷ log) due = said_goes_on log due.1
  said_goes_on (Made n handler ∷ log) due = said_goes_on log due.1
  said_goes_on (Asks n index ∷ log) due = said_goes_on log due.1
  said_goes_on (Calls n call ∷ log) due = said_goes_on log due.1
  said_goes_on (Says (event.Agreed n index) ∷ log) due = append_goes_on (said log) (event.Agreed n index) refl (said_goes_on log due.1)
  said_goes_on (Says (event.Refused n) ∷ log) due = append_goes_on (said log) (event.Refused n) refl (said_goes_on log due.1)
  said_goes_on (Says (event.Done n handler) ∷ log) due = append_goes_on (said log) (event.Done n handler) refl (said_goes_on log due.1)
  said_goes_on (Says (event.Broken n cause) ∷ log) due = append_goes_on (said log) (event.Broken n cause) refl (said_goes_on log due.1)
  said_goes_on (Says (event.Upgraded key) ∷ log) due = absurd due.0
  said_goes_on (Says (event.Fault why) ∷ log) due = absurd due.0
  said_goes_on (Says event.Shut ∷ log) due = absurd due.0

module _ {P H : Type 0} (step : H → HandlerCall → H → Type 0) (fails : H → Asked → ℕ → Type 0)
    (is_closed is_finished : H → Bool) (inbound_makes outbound_makes : P → ℕ → List ℕ → H → Type 0)
    (listed : P → List (List ℕ)) (is_eager : P → ℕ → Bool)
    (inbound_leads outbound_leads : P → ℕ → List ℕ → H → P → Type 0) (start : P) (role : ConnRole) (own : Key) where
  ends_told : (input : List ℕ) (ended : Bool) (log : List (Entry H)) (told : List (ConnEvent H)) (written : List ℕ)
      → Ends step fails is_closed is_finished inbound_makes outbound_makes listed is_eager inbound_leads outbound_leads start role own input ended log told written → has_ended told ≡ true
  ends_told input ended log told written (Upgrade why named first told_is comes unasked is) = ap has_ended is
  ends_told input ended log told written (Session faulty) = ap has_ended faulty.told_is ∙ ends_append faulty.before (event.Fault fault.Mux) refl
  ends_told input ended log told written (Early is_ended upgrades unasked is) = ap has_ended is
  ends_told input ended log told written (Within before session streams past is_ended up within is) = ap has_ended is ∙ ends_append before (event.Fault fault.EarlyEnd) refl
  ends_told input ended log told written (Shut before session streams past is_ended up between is) = ap has_ended is ∙ ends_append before event.Shut refl

  -- it is over where a Fault or Shut was told
  pub told_over : (input : List ℕ) (ended : Bool) (log : List (Entry H)) (told : List (ConnEvent H)) (taken : List ℕ) (phase : Phase P H) (owed : List (ConnEvent H)) (waiting : List ℕ)
      → Connects step fails is_closed is_finished inbound_makes outbound_makes listed is_eager inbound_leads outbound_leads start role own input ended log told taken phase owed waiting
      → has_ended told ≡ is_over phase
  told_over input ended log told taken (phases.Upgrading x protocols) owed waiting it = ap has_ended it.4.none_told
  told_over input ended log told taken (phases.Up mux) owed waiting it =
      let up = it.1.3.0 in
      front_goes_on told owed (ap has_ended up.told_is
      ∙ said_goes_on step fails is_closed is_finished inbound_makes outbound_makes (is_eager start) (listed start) (id_of up.key) (session_role role) log up.at_rest.due)
  told_over input ended log told taken phases.Over owed waiting it = ends_told input ended log told (taken ++ waiting) it.1
  told_over input ended log told taken phases.Spent owed waiting it = absurd it

  -- the input ends only where it is over
  pub unended : (input : List ℕ) (ended : Bool) (log : List (Entry H)) (told : List (ConnEvent H)) (taken : List ℕ) (phase : Phase P H) (owed : List (ConnEvent H)) (waiting : List ℕ)
      → Connects step fails is_closed is_finished inbound_makes outbound_makes listed is_eager inbound_leads outbound_leads start role own input ended log told taken phase owed waiting
      → is_over phase ≡ false → ended ≡ false
  unended input ended log told taken (phases.Upgrading x protocols) owed waiting it going = it.0
  unended input ended log told taken (phases.Up mux) owed waiting it going = it.0
  unended input ended log told taken phases.Over owed waiting it going = absurd (cc going)
  unended input ended log told taken phases.Spent owed waiting it going = absurd it

  -- ---- why it is there

  pub coming : (input taken : List ℕ) (told : List (ConnEvent H)) (x : Upgrading) (protocols : P)
      → IsComing step fails is_closed is_finished inbound_makes outbound_makes listed is_eager inbound_leads outbound_leads start role own input told taken x protocols → Upgrades role own input (Ok None) (taken ++ x.pending)
  coming input taken told x protocols it =
      let there : Upgrades x.role x.own input (Ok None) (taken ++ x.pending) = going_by x.stage x.role x.own input (taken ++ x.pending) it.stands in
      subst (λ (r : ConnRole). Upgrades r own input (Ok None) (taken ++ x.pending)) it.role_is
      (subst (λ (k : Key). Upgrades x.role k input (Ok None) (taken ++ x.pending)) it.own_is there)

  pub why_there : (input : List ℕ) (ended : Bool) (log : List (Entry H)) (told : List (ConnEvent H)) (taken : List ℕ) (phase : Phase P H) (owed : List (ConnEvent H)) (waiting : List ℕ)
      → Connects step fails is_closed is_finished inbound_makes outbound_makes listed is_eager inbound_leads outbound_leads start role own input ended log told taken phase owed waiting
      → Explains step fails is_closed is_finished inbound_makes outbound_makes listed is_eager inbound_leads outbound_leads start role own input ended log told owed (taken ++ waiting_in phase waiting)
  why_there input ended log told taken (phases.Upgrading x protocols) owed waiting it = Coming it.0 it.1 it.4.none_told it.2 (coming input taken told x protocols it.4)
  why_there input ended log told taken (phases.Up mux) owed waiting it = Up mux.session (tree.get nat_cmp mux.board.streams) mux.board.past.items it.0 it.1.3.0
  why_there input ended log told taken phases.Over owed waiting it = Over it.0 it.1
  why_there input ended log told taken phases.Spent owed waiting it = absurd it

  -- a stream may be opened
  pub may_ask : (input : List ℕ) (ended : Bool) (log : List (Entry H)) (told : List (ConnEvent H)) (taken : List ℕ) (phase : Phase P H) (owed : List (ConnEvent H)) (waiting : List ℕ) (index : ℕ)
      → Connects step fails is_closed is_finished inbound_makes outbound_makes listed is_eager inbound_leads outbound_leads start role own input ended log told taken phase owed waiting
      → MayOpen listed phase index
      → (there : Explains step fails is_closed is_finished inbound_makes outbound_makes listed is_eager inbound_leads outbound_leads start role own input ended log told owed (taken ++ waiting_in phase waiting))
      × MayBeAsked step fails is_closed is_finished inbound_makes outbound_makes listed is_eager inbound_leads outbound_leads start role own input ended log told owed (taken ++ waiting_in phase waiting) there index
  unfolding why_there
  may_ask input ended log told taken (phases.Upgrading x protocols) owed waiting index it may = absurd may
  may_ask input ended log told taken (phases.Up mux) owed waiting index it may =
      let up = it.1.3.0 in (
        why_there input ended log told taken (phases.Up mux) owed waiting it,
        (
          subst (λ (n : List (List ℕ)). index < length n) it.1.0 may.0,
          may.1 (session_role role) (items log) up.rest (output (session_role role) (items log)) up.at_rest.session_stands,
        ),
      )
  may_ask input ended log told taken phases.Over owed waiting index it may = absurd may
  may_ask input ended log told taken phases.Spent owed waiting index it may = absurd may

  -- or why none is
  pub not_asked : (input : List ℕ) (ended : Bool) (log : List (Entry H)) (told : List (ConnEvent H)) (taken : List ℕ) (phase : Phase P H) (owed : List (ConnEvent H)) (waiting : List ℕ) (index : ℕ) (why : ConnRefused)
      → Connects step fails is_closed is_finished inbound_makes outbound_makes listed is_eager inbound_leads outbound_leads start role own input ended log told taken phase owed waiting
      → IsRefused listed phase index why
      → (there : Explains step fails is_closed is_finished inbound_makes outbound_makes listed is_eager inbound_leads outbound_leads start role own input ended log told owed (taken ++ waiting_in phase waiting))
      × IsNotOpened step fails is_closed is_finished inbound_makes outbound_makes listed is_eager inbound_leads outbound_leads start role own input ended log told owed (taken ++ waiting_in phase waiting) there index why
  unfolding why_there
  not_asked input ended log told taken (phases.Upgrading x protocols) owed waiting index why it refused = (why_there input ended log told taken (phases.Upgrading x protocols) owed waiting it, refused)
  not_asked input ended log told taken (phases.Up mux) owed waiting index why it (inl beyond) = (
    why_there input ended log told taken (phases.Up mux) owed waiting it,
    inl (subst (λ (n : List (List ℕ)). length n ≤ index) it.1.0 beyond.0, beyond.1),
  )
  not_asked input ended log told taken (phases.Up mux) owed waiting index why it (inr within) =
      let up = it.1.3.0 in (
        why_there input ended log told taken (phases.Up mux) owed waiting it,
        inr (
          subst (λ (n : List (List ℕ)). index < length n) it.1.0 within.0,
          within.1 (session_role role) (items log) up.rest (output (session_role role) (items log)) up.at_rest.session_stands,
        ),
      )
  not_asked input ended log told taken phases.Over owed waiting index why it refused = (why_there input ended log told taken phases.Over owed waiting it, refused)
  not_asked input ended log told taken phases.Spent owed waiting index why it refused = absurd it

  -- the handlers that are held there
  pub holds : (input : List ℕ) (ended : Bool) (log : List (Entry H)) (told : List (ConnEvent H)) (taken : List ℕ) (phase : Phase P H) (owed : List (ConnEvent H)) (waiting : List ℕ)
      → (it : Connects step fails is_closed is_finished inbound_makes outbound_makes listed is_eager inbound_leads outbound_leads start role own input ended log told taken phase owed waiting)
      → IsOrderedIn phase
      → Holds step fails is_closed is_finished inbound_makes outbound_makes listed is_eager inbound_leads outbound_leads start role own input ended log told owed (taken ++ waiting_in phase waiting)
      (why_there input ended log told taken phase owed waiting it) (held_in phase)
  unfolding why_there
  holds input ended log told taken (phases.Upgrading x protocols) owed waiting it ordered = refl
  holds input ended log told taken (phases.Up mux) owed waiting it ordered = (
    handlers_past mux.board.past.items ++ handlers_of mux.board.streams.entries,
    record { table = mux.board.streams.entries; ascend = ordered; found = λ n. refl; handlers_are = refl },
    ap (λ (order : List ℕ). arranged (reverse order) (handlers_past mux.board.past.items ++ handlers_of mux.board.streams.entries)) it.1.3.3,
  )
  holds input ended log told taken phases.Over owed waiting it ordered = refl
  holds input ended log told taken phases.Spent owed waiting it ordered = absurd it

-- where memory was refused none is held
pub spent_holds : {P H : Type 0} (phase : Phase P H) → is_spent phase ≡ true → held_in phase ≡ []
spent_holds (phases.Upgrading x protocols) spent = absurd (cc spent)
spent_holds (phases.Up mux) spent = absurd (cc spent)
spent_holds phases.Over spent = refl
spent_holds phases.Spent spent = refl
