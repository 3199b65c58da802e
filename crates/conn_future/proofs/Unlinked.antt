-- What a core tells: nothing behind a Fault or Shut, and never that the link failed; one that was just made goes on.
use Rattle.std.proofs.Common.{◌≡◌, ℕ, Bool, true, false, List, [], ◌∷◌, ◌++◌, ◌||◌, Some, refl, sym, ap, ◌∙◌, subst}
use Rattle.std.proofs.lemmas.List.{append-nil}
use Rattle.handlers.specs.Calls.{HandlerCall, Asked}
use Rattle.conn_link.specs.declared.link.Link.{Ghosts as LinkGhosts}
use Rattle.handlers.specs.declared.handler.Handler.{Ghosts as HandlerGhosts}
use Rattle.handlers.specs.declared.protocols.Protocols.{Ghosts as ProtocolsGhosts}
use Rattle.peer_ids.specs.Key.{Key}
use Rattle.peer_ids.specs.PeerId.{id_of}
use Rattle.upgrade.specs.declared.role.ConnRole.{ConnRole}
use Rattle.upgrade.specs.declared.fault.UpgradeFault.{UpgradeFault}
use Rattle.upgrade.specs.declared.fault.UpgradeFault.TheVariants as upgrade
use Rattle.yamux_session.specs.declared.event.Role.{Role}
use Rattle.conn_log.specs.declared.event.ConnEvent.{ConnEvent}
use Rattle.conn_log.specs.declared.event.ConnEvent.TheVariants as event
use Rattle.conn_log.specs.declared.event.ConnFault.{ConnFault}
use Rattle.conn_log.specs.declared.event.ConnFault.TheVariants as fault
use Rattle.conn_log.specs.Entries.{Entry, said}
use Rattle.conn_log.specs.Entries.Entry.{Of, Says, Made, Asks, Calls}
use Rattle.conn_log.specs.Due.{AllDue}
use Rattle.conn_core.specs.declared.connection.ConnCore.{ConnCore}
use Rattle.conn_core.specs.declared.connection.Phase.{Phase}
use Rattle.conn_core.specs.declared.connection.Phase.TheVariants as phases
use Rattle.conn_core.specs.Connects.{Connects, Ends, is_over, session_role, told_of}
use Rattle.conn_core.specs.Connects.Ends.{Upgrade, Session, Early, Within, Shut}
use Rattle.conn_core.specs.Runs.{is_end, has_ended}
use Rattle.conn_core.proofs.Points.{told_over}
use Rattle.conn_future.specs.Follows.{CoreStands}

-- ---- lists of events

abbrev is_link : ConnFault → Bool
is_link fault.Select = false
is_link fault.NoneLeft = false
is_link fault.Exchange = false
is_link fault.Mux = false
is_link fault.Link = true
is_link fault.EarlyEnd = false
is_link fault.OutOfMemory = false

abbrev tells_link : {H : Type 0} → ConnEvent H → Bool
tells_link (event.Fault why) = is_link why
tells_link event.Shut = false
tells_link (event.Upgraded key) = false
tells_link (event.Agreed n index) = false
tells_link (event.Refused n) = false
tells_link (event.Done n handler) = false
tells_link (event.Broken n cause) = false

or_true : (b : Bool) → b || true ≡ true
or_true true = refl
or_true false = refl

first_false : (b x : Bool) → b || x ≡ false → b ≡ false
first_false true x is = is
first_false false x is = refl

rest_false : (b x : Bool) → b || x ≡ false → x ≡ false
rest_false true x is = absurd (cc is)
rest_false false x is = is

neither : (b x y : Bool) → (x ≡ false → y ≡ false) → b || x ≡ false → b || y ≡ false
neither true x y then is = is
neither false x y then is = then is

end_within : {H : Type 0} (gave : List (ConnEvent H)) (e : ConnEvent H) (held : List (ConnEvent H)) → is_end e ≡ true → has_ended (gave ++ e ∷ held) ≡ true
end_within [] e held is = ap (λ b. b || has_ended held) is
end_within (x ∷ gave) e held is = ap (λ b. is_end x || b) (end_within gave e held is) ∙ or_true (is_end x)

front_goes_on : {H : Type 0} (told owed : List (ConnEvent H)) → has_ended (told ++ owed) ≡ false → has_ended told ≡ false
front_goes_on [] owed is = refl
front_goes_on (e ∷ told) owed is = neither (is_end e) (has_ended (told ++ owed)) (has_ended told) (front_goes_on told owed) is

one_goes_on : {H : Type 0} (told : List (ConnEvent H)) (e : ConnEvent H) → is_end e ≡ false → has_ended told ≡ false → has_ended (told ++ e ∷ []) ≡ false
one_goes_on [] e is none = ap (λ b. b || false) is
one_goes_on (x ∷ told) e is none = neither (is_end x) (has_ended told) (has_ended (told ++ e ∷ [])) (one_goes_on told e is) none

none_behind : {H : Type 0} (gave : List (ConnEvent H)) (e : ConnEvent H) (held : List (ConnEvent H)) → [] ≡ gave ++ e ∷ held → ⊥
none_behind [] e held is = cc is
none_behind (x ∷ gave) e held is = cc is

-- an end that stands behind others that are none is the last
end_last : {H : Type 0} (gave : List (ConnEvent H)) (e : ConnEvent H) (held before : List (ConnEvent H)) (last : ConnEvent H)
    → is_end e ≡ true → has_ended before ≡ false → before ++ last ∷ [] ≡ gave ++ e ∷ held → (last ≡ e) × (held ≡ [])
end_last [] e held [] last ends none is = (cc is, cc is)
end_last [] e held (b ∷ before) last ends none is =
    let same : b ≡ e = cc is in
    let going : is_end b ≡ false = first_false (is_end b) (has_ended before) none in
    let still : is_end e ≡ false = sym (ap is_end same) ∙ going in absurd (cc (ends, still))
end_last (x ∷ gave) e held [] last ends none is =
    let rest : [] ≡ gave ++ e ∷ held = cc is in absurd (none_behind gave e held rest)
end_last (x ∷ gave) e held (b ∷ before) last ends none is =
    end_last gave e held before last ends (rest_false (is_end b) (has_ended before) none) (cc is)

-- nothing stands behind an end, and none says that the link failed
data Tells {H : Type 0} (told : List (ConnEvent H)) : Type 0 where
  NoneEnds : has_ended told ≡ false → Tells told
  LastEnds : (before : List (ConnEvent H)) (last : ConnEvent H) → has_ended before ≡ false → tells_link last ≡ false
      → told ≡ before ++ last ∷ [] → Tells told

unlinked : {H : Type 0} (gave held : List (ConnEvent H)) → Tells (gave ++ event.Fault fault.Link ∷ held) → ⊥
unlinked gave held (NoneEnds none) = let some = end_within gave (event.Fault fault.Link) held refl in cc (none, some)
unlinked gave held (LastEnds before last none other is) =
    let same : last ≡ event.Fault fault.Link = (end_last gave (event.Fault fault.Link) held before last refl none (sym is)).0 in
    let linked = ap tells_link same in cc (linked, other)

last_of : {H : Type 0} (gave : List (ConnEvent H)) (e : ConnEvent H) (held : List (ConnEvent H)) → is_end e ≡ true → Tells (gave ++ e ∷ held) → held ≡ []
last_of gave e held ends (NoneEnds none) = let some = end_within gave e held ends in absurd (cc (none, some))
last_of gave e held ends (LastEnds before last none other is) = (end_last gave e held before last ends none (sym is)).1

-- a fault of the upgrade is another
upgrade_links : (why : UpgradeFault) (named : ConnFault) → told_of why ≡ Some named → is_link named ≡ false
upgrade_links (upgrade.Select f) named is = let same : named ≡ fault.Select = cc is in ap is_link same
upgrade_links upgrade.NoneLeft named is = let same : named ≡ fault.NoneLeft = cc is in ap is_link same
upgrade_links (upgrade.Exchange f) named is = let same : named ≡ fault.Exchange = cc is in ap is_link same
upgrade_links upgrade.Failed named is = absurd (cc is)
upgrade_links upgrade.OutOfMemory named is = absurd (cc is)

module _ {P H : Type 0} (step : H → HandlerCall → H → Type 0) (fails : H → Asked → ℕ → Type 0)
    (is_closed is_finished : H → Bool) (inbound_makes outbound_makes : P → ℕ → List ℕ → H → Type 0)
    (eager : ℕ → Bool) (names : List (List ℕ)) (peer : List ℕ) (role : Role) where
  said_goes_on : (log : List (Entry H)) → AllDue step fails is_closed is_finished inbound_makes outbound_makes eager names peer role log → has_ended (said log) ≡ false
  said_goes_on [] due = refl
  said_goes_on (Of x ∷ log) due = said_goes_on log due.1
  said_goes_on (Made n handler ∷ log) due = said_goes_on log due.1
  said_goes_on (Asks n index ∷ log) due = said_goes_on log due.1
  said_goes_on (Calls n call ∷ log) due = said_goes_on log due.1
  said_goes_on (Says (event.Agreed n index) ∷ log) due = one_goes_on (said log) (event.Agreed n index) refl (said_goes_on log due.1)
  said_goes_on (Says (event.Refused n) ∷ log) due = one_goes_on (said log) (event.Refused n) refl (said_goes_on log due.1)
  said_goes_on (Says (event.Done n handler) ∷ log) due = one_goes_on (said log) (event.Done n handler) refl (said_goes_on log due.1)
  said_goes_on (Says (event.Broken n cause) ∷ log) due = one_goes_on (said log) (event.Broken n cause) refl (said_goes_on log due.1)
  said_goes_on (Says (event.Upgraded key) ∷ log) due = absurd due.0
  said_goes_on (Says (event.Fault why) ∷ log) due = absurd due.0
  said_goes_on (Says event.Shut ∷ log) due = absurd due.0

module _ {P H : Type 0} (step : H → HandlerCall → H → Type 0) (fails : H → Asked → ℕ → Type 0)
    (is_closed is_finished : H → Bool) (inbound_makes outbound_makes : P → ℕ → List ℕ → H → Type 0)
    (listed : P → List (List ℕ)) (is_eager : P → ℕ → Bool)
    (inbound_leads outbound_leads : P → ℕ → List ℕ → H → P → Type 0) (start : P) (role : ConnRole) (own : Key) where
  ends_tell : (input : List ℕ) (ended : Bool) (log : List (Entry H)) (told : List (ConnEvent H)) (written : List ℕ)
      → Ends step fails is_closed is_finished inbound_makes outbound_makes listed is_eager inbound_leads outbound_leads start role own input ended log told written → Tells told
  ends_tell input ended log told written (Upgrade why named first told_is comes unasked is) =
      LastEnds [] (event.Fault named) refl (upgrade_links why named told_is) is
  ends_tell input ended log told written (Session faulty) =
      let due = subst (λ (l : List (Entry H)). AllDue step fails is_closed is_finished inbound_makes outbound_makes (is_eager start) (listed start) (id_of faulty.key) (session_role role) l)
      (append-nil faulty.faults.newer) faulty.faults.at_rest.due in
      LastEnds faulty.before (event.Fault fault.Mux) (ap has_ended faulty.faults.told_is
      ∙ said_goes_on step fails is_closed is_finished inbound_makes outbound_makes (is_eager start) (listed start) (id_of faulty.key) (session_role role) faulty.faults.newer due) refl faulty.told_is
  ends_tell input ended log told written (Early is_ended upgrades unasked is) = LastEnds [] (event.Fault fault.EarlyEnd) refl refl is
  ends_tell input ended log told written (Within before session streams past is_ended up within is) =
      LastEnds before (event.Fault fault.EarlyEnd) (ap has_ended up.told_is
      ∙ said_goes_on step fails is_closed is_finished inbound_makes outbound_makes (is_eager start) (listed start) (id_of up.key) (session_role role) log up.at_rest.due) refl is
  ends_tell input ended log told written (Shut before session streams past is_ended up between is) =
      LastEnds before event.Shut (ap has_ended up.told_is
      ∙ said_goes_on step fails is_closed is_finished inbound_makes outbound_makes (is_eager start) (listed start) (id_of up.key) (session_role role) log up.at_rest.due) refl is

  connects_tells : (input : List ℕ) (ended : Bool) (log : List (Entry H)) (told : List (ConnEvent H)) (taken : List ℕ) (phase : Phase P H) (owed : List (ConnEvent H)) (waiting : List ℕ)
      → Connects step fails is_closed is_finished inbound_makes outbound_makes listed is_eager inbound_leads outbound_leads start role own input ended log told taken phase owed waiting
      → Tells told
  connects_tells input ended log told taken (phases.Upgrading x protocols) owed waiting it = NoneEnds (ap has_ended it.4.none_told)
  connects_tells input ended log told taken (phases.Up mux) owed waiting it =
      let up = it.1.3.0 in
      NoneEnds (front_goes_on told owed (ap has_ended up.told_is
      ∙ said_goes_on step fails is_closed is_finished inbound_makes outbound_makes (is_eager start) (listed start) (id_of up.key) (session_role role) log up.at_rest.due))
  connects_tells input ended log told taken phases.Over owed waiting it = ends_tell input ended log told (taken ++ waiting) it.1
  connects_tells input ended log told taken phases.Spent owed waiting it = absurd it

  connects_unended : (input : List ℕ) (ended : Bool) (log : List (Entry H)) (told : List (ConnEvent H)) (taken : List ℕ) (phase : Phase P H) (owed : List (ConnEvent H)) (waiting : List ℕ) → is_over phase ≡ false
      → Connects step fails is_closed is_finished inbound_makes outbound_makes listed is_eager inbound_leads outbound_leads start role own input ended log told taken phase owed waiting → ended ≡ false
  connects_unended input ended log told taken (phases.Upgrading x protocols) owed waiting goes it = it.0
  connects_unended input ended log told taken (phases.Up mux) owed waiting goes it = it.0
  connects_unended input ended log told taken phases.Over owed waiting goes it = absurd (cc goes)
  connects_unended input ended log told taken phases.Spent owed waiting goes it = absurd it

-- ---- of a connection over a link

module _ {L P H : Type 0} (link : LinkGhosts L) (protocols : ProtocolsGhosts P H) (handler : HandlerGhosts H)
    (start : P) (role : ConnRole) (own : Key) where
  core_tells : (given : List ℕ) (ended : Bool) (log : List (Entry H)) (told : List (ConnEvent H)) (taken : List ℕ) (core : ConnCore P H)
      → CoreStands link protocols handler start role own given ended log told taken core → Tells told
  core_tells given ended log told taken core stands =
      connects_tells handler.steps handler.fails handler.is_closed handler.is_finished protocols.makes_inbound
      protocols.makes_outbound protocols.listed protocols.is_eager protocols.leads_inbound protocols.leads_outbound start role own given ended log told taken core.phase core.owed.items core.output.items stands.1

  pub never_links : (given : List ℕ) (ended : Bool) (log : List (Entry H)) (gave held : List (ConnEvent H)) (taken : List ℕ) (core : ConnCore P H)
      → CoreStands link protocols handler start role own given ended log (gave ++ event.Fault fault.Link ∷ held) taken core → ⊥
  never_links given ended log gave held taken core stands =
      unlinked gave held (core_tells given ended log (gave ++ event.Fault fault.Link ∷ held) taken core stands)

  -- nothing is told behind a Fault or Shut
  pub none_behind_end : (given : List ℕ) (ended : Bool) (log : List (Entry H)) (gave : List (ConnEvent H)) (e : ConnEvent H) (held : List (ConnEvent H)) (taken : List ℕ) (core : ConnCore P H)
      → is_end e ≡ true → CoreStands link protocols handler start role own given ended log (gave ++ e ∷ held) taken core → held ≡ []
  none_behind_end given ended log gave e held taken core ends stands =
      last_of gave e held ends (core_tells given ended log (gave ++ e ∷ held) taken core stands)

  -- whether a core is over is seen from what it told
  pub over_is : (given : List ℕ) (ended : Bool) (log : List (Entry H)) (told : List (ConnEvent H)) (taken : List ℕ) (core : ConnCore P H)
      → CoreStands link protocols handler start role own given ended log told taken core → has_ended told ≡ is_over core.phase
  over_is given ended log told taken core stands =
      told_over handler.steps handler.fails handler.is_closed handler.is_finished protocols.makes_inbound
      protocols.makes_outbound protocols.listed protocols.is_eager protocols.leads_inbound protocols.leads_outbound start role own given ended log told taken core.phase core.owed.items core.output.items stands.1

  -- a core that goes on has told none
  pub none_ends : (given : List ℕ) (ended : Bool) (log : List (Entry H)) (gave : List (ConnEvent H)) (e : ConnEvent H) (held : List (ConnEvent H)) (taken : List ℕ) (core : ConnCore P H)
      → is_end e ≡ true → CoreStands link protocols handler start role own given ended log (gave ++ e ∷ held) taken core → is_over core.phase ≡ false → ⊥
  none_ends given ended log gave e held taken core ends stands goes =
      let is = over_is given ended log (gave ++ e ∷ held) taken core stands in
      let some = end_within gave e held ends in cc (is, some, goes)

  pub fresh_goes_on : (core : ConnCore P H) → CoreStands link protocols handler start role own [] false [] [] [] core → is_over core.phase ≡ false
  fresh_goes_on core stands = sym (over_is [] false [] [] [] core stands)

  pub same_over : (given more : List ℕ) (ended end : Bool) (log opened : List (Entry H)) (told : List (ConnEvent H)) (taken all : List ℕ) (core next : ConnCore P H)
      → CoreStands link protocols handler start role own given ended log told taken core → CoreStands link protocols handler start role own more end opened told all next → is_over core.phase ≡ is_over next.phase
  same_over given more ended end log opened told taken all core next stands other =
      sym (over_is given ended log told taken core stands) ∙ over_is more end opened told all next other

  -- one that goes on was told of no end
  pub told_of_no_end : (given : List ℕ) (ended : Bool) (log : List (Entry H)) (told : List (ConnEvent H)) (taken : List ℕ) (core : ConnCore P H)
      → CoreStands link protocols handler start role own given ended log told taken core → is_over core.phase ≡ false → ended ≡ false
  told_of_no_end given ended log told taken core stands goes =
      connects_unended handler.steps handler.fails handler.is_closed handler.is_finished protocols.makes_inbound
      protocols.makes_outbound protocols.listed protocols.is_eager protocols.leads_inbound protocols.leads_outbound start role own given ended log told taken core.phase core.owed.items core.output.items goes stands.1
